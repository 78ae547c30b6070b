-- With the hits that are left it comes to what all make of the beginning.
use Rattle.std.proofs.Common.{◌≡◌, drop}
use Rattle.std.specs.List.{fold}
use Rattle.check_core.specs.unused.Flags.{marked_by}
use Rattle.check_core.proofs.unused.encountered.EntryHits.mark_each.Given as goal

abbrev pub invariant-hits : goal.invariant-hits
invariant-hits l = fold marked_by l.self (drop l.hit-index l.hits) ≡ fold marked_by l.fn.self l.hits
