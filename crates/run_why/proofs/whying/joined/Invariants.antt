-- The texts so far.
use Rattle.std.proofs.Common.{◌≡◌, string_bytes, take}
use Rattle.run_why.specs.Steps.{joined_texts}
use Rattle.run_why.proofs.whying.joined.Given as goal

abbrev pub invariant-texts : goal.invariant-texts
invariant-texts l = string_bytes l.joined ≡ joined_texts (take l.text-index l.texts)
