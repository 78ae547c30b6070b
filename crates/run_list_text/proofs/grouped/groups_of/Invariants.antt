-- the entries so far, and those of the rest, are all
use Rattle.std.proofs.Common.{◌≡◌, ◌++◌, map}
use Rattle.run_list_text.specs.Grouped.{entry_of}
use Rattle.run_list_text.proofs.grouped.groups_of.Given as goal

abbrev pub invariant-groups : goal.invariant-groups
invariant-groups l = map entry_of l.groups ++ l.license-iterator ≡ l.fn.names.entries
