-- none of the texts so far is longer
use Rattle.std.proofs.Common.{◌≤◌, length, take}
use Rattle.std.specs.Prelude.{All}
use Rattle.spdx_own_names.specs.declared.meanings.Meaning.{Meaning}
use Rattle.spdx_own_names.proofs.ordered.longest_len.Given as goal

abbrev pub invariant-listed : goal.invariant-listed
invariant-listed l = All (λ (meaning : Meaning). length meaning.text ≤ l.longest) (take l.meaning-index l.listed)
