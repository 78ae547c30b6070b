use Rattle.std.proofs.Common.{◌≡◌, take}
use Rattle.std.specs.List.{AllByRecursion}
use Rattle.check_record.specs.Items.{IsHit}
use Rattle.check_verify.proofs.recorded.copied_hits.Given as goal

-- the hits so far, each of which fits
abbrev pub invariant-hits : goal.invariant-hits
invariant-hits l = record {
  copy : l.copy ≡ take l.hit-index l.hits;
  fit : AllByRecursion IsHit l.copy;
}
