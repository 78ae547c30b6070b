use Rattle.std.proofs.Common.{◌≡◌, map, take}
use Rattle.gather_core.specs.Entries.{clarification_entry}
use Rattle.gather_core.proofs.clarifications.entry_refs.Given as goal

abbrev pub invariant-entries : goal.invariant-entries
invariant-entries l = l.refs.items ≡ map clarification_entry (take l.entry-index l.entries)
