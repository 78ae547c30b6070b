-- the names of the crates so far were gathered
use Rattle.std.proofs.Common.{◌≡◌, take}
use Rattle.run_list_text.specs.Grouped.{gathered_names}
use Rattle.run_list_text.proofs.grouped.names_by_license.Given as goal

abbrev pub invariant-crates : goal.invariant-crates
invariant-crates l = l.names.entries ≡ gathered_names (take l.listed-index l.crates)
