use Rattle.std.proofs.Common.{◌≤◌, length}
use denote.Text.{Utf8}
use denote.Shadow.{shadow}
use Rattle.diag_core.proofs.texts.SpanLemmas.{Leads}
use Rattle.diag_core.proofs.texts.span_search.license_span.Given as goal

-- what is found in the rest is found in the text
abbrev pub invariant-keys : goal.invariant-keys
invariant-keys l = shadow (Utf8 l.rest) × (length l.rest ≤ length l.text) × Leads l.text l.rest

abbrev pub decreases-keys : goal.decreases-keys
decreases-keys l = length l.rest
