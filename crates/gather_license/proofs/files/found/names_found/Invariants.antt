-- the names of the entries so far
use Rattle.std.proofs.Common.{◌≡◌, map, take}
use Rattle.tree_core.specs.Answer.{listed_entry}
use Rattle.gather_license.specs.files.Pack.{names_found}
use Rattle.gather_license.proofs.files.found.names_found.Given as goal

abbrev pub invariant-entries : goal.invariant-entries
invariant-entries l = l.names ≡ names_found (map listed_entry (take l.entry-index l.entries))
