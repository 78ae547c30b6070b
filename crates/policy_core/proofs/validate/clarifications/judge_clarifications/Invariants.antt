-- the clarifications that are kept so far, and what was reported
use Rattle.std.proofs.Common.{◌≡◌, ◌++◌}
use Rattle.policy_core.specs.validate.Order.{AddsInOrder, PutsFilesInOrder}
use Rattle.policy_core.specs.validate.Valid.{clarification_judged, kept_by, findings_by_each}
use Rattle.policy_core.proofs.validate.clarifications.judge_clarifications.Given as goal

abbrev pub invariant-clarifications : goal.invariant-clarifications
invariant-clarifications g l = record {
  kept : AddsInOrder PutsFilesInOrder (kept_by (clarification_judged (g.C.Catalog.lists l.catalog) l.file l.overlay) l.yielded) l.fn.valid l.valid;
  told : l.found ≡ l.fn.found ++ findings_by_each (clarification_judged (g.C.Catalog.lists l.catalog) l.file l.overlay) l.yielded;
}
