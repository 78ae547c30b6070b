-- The labels so far, and those that are left, are all.
use Rattle.std.proofs.Common.{◌≡◌, ◌++◌, drop}
use Rattle.check_core.specs.findings.Findings as spec
use Rattle.check_core.proofs.findings.label.push_terms.Given as goal

abbrev pub invariant-terms : goal.invariant-terms
invariant-terms l = l.labels ++ spec.term_labels l.nfo (drop l.place l.terms) (drop l.place l.hits) ≡ l.fn.labels ++ spec.term_labels l.nfo l.terms l.hits
