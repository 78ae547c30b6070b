use Rattle.std.proofs.Common.{◌≡◌, None, take}
use Rattle.run_list_text.specs.Listed.{names_under}
use Rattle.run_list_text.proofs.listed.names_without.Given as goal

abbrev pub invariant-crates : goal.invariant-crates
invariant-crates l = l.names ≡ names_under None (take l.listed-index l.crates)
