-- the lines so far have no fault, and were listed
use Rattle.std.proofs.Common.{length}
use denote.Text.{Utf8}
use denote.Shadow.{shadow}
use Rattle.spdx_own_names.specs.ListsView.{lists_view}
use Rattle.spdx_own_names.proofs.ReadLemmas.{IsReadTo}
use Rattle.spdx_own_names.proofs.reading.read_lines.Given as goal

abbrev pub invariant-lines : goal.invariant-lines
invariant-lines l = shadow (Utf8 l.rest) × IsReadTo l.names l.text l.rest (lists_view l.lists) l.before

abbrev pub decreases-lines : goal.decreases-lines
decreases-lines l = length l.rest
