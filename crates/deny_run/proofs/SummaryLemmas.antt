-- A summary that was not all written.
use Rattle.std.proofs.Common.{◌≡◌, ◌∙◌, inl, inr, refl, sym, ap, ℕ, ◌≤◌, List, [], ◌∷◌, ◌++◌, Option, arith}
use Rattle.tree_core.specs.Faults.{Rose}
use Rattle.tree_core.specs.Script.{OutputSink, to_out, to_err, Script, RefusedBy, SinkTexts}
use Rattle.tree_core.specs.texts.Cause.{Cause, no_memory, told, failed_read, refused_write}
use Rattle.diag_stats.specs.Summary.{IsCutShort, count_of, piece_of, sink_counts}
use Rattle.run_found.specs.Written.{SinkSeen, sink_seen}
use Rattle.deny_run.specs.Check.{CutsSummary}

abbrev first_target : OutputSink → Script → OutputSink
first_target target [] = target
first_target target (piece ∷ more) = piece.0

-- a cut piece is one of its sink
target_is : (target other : OutputSink) (text front : List ℕ) (earlier later : Script) → piece_of target text ≡ earlier ++ (other, front) ∷ later → other ≡ target
target_is target other [] front [] later is = absurd (cc)
target_is target other [] front (piece ∷ earlier) later is = absurd (cc)
target_is target other (byte ∷ text) front [] later is = sym (ap (first_target target) is)
target_is target other (byte ∷ text) front (piece ∷ []) later is = absurd (cc)
target_is target other (byte ∷ text) front (piece ∷ (next ∷ earlier)) later is = absurd (cc)

-- with the count of its sink when the run began
pub since_begun : (target : OutputSink) (text : List ℕ) (out_before out_after begun err_before err_after before after : ℕ) (old new : SinkTexts) → begun ≤ err_before
    → IsCutShort (sink_counts out_before out_after err_before err_after) before after old new (piece_of target text)
    → IsCutShort (sink_counts out_before out_after begun err_after) (count_of target before begun) after old new (piece_of target text)
since_begun target text out_before out_after begun err_before err_after before after old new first short = record {
  begun = short.begun;
  cut = record {
    earlier = short.cut.earlier;
    target = short.cut.target;
    front = short.cut.front;
    rest = short.cut.rest;
    later = short.cut.later;
    parts = short.cut.parts;
    written = short.cut.written;
    refused =
        refused_by target short.cut.target (target_is target short.cut.target text (short.cut.front ++ short.cut.rest) short.cut.earlier short.cut.later short.cut.parts) short.cut.refused;
  };
  gains = short.gains;
}
  where
    wider : Rose before after → before ≡ err_before → Rose begun after
    wider (inl less) same = inl (omega (arith, less, same, first))
    wider (inr last) same = inr last

    refused_by : (own other : OutputSink) → other ≡ own → RefusedBy (sink_counts out_before out_after err_before err_after) other before after
        → RefusedBy (sink_counts out_before out_after begun err_after) other (count_of own before begun) after
    refused_by to_out to_out same refused = refused
    refused_by to_out to_err same refused = absurd (cc)
    refused_by to_err to_out same refused = absurd (cc)
    refused_by to_err to_err same refused = (refl, refused.1, wider refused.2 refused.0)

-- of what the sink held before, only its count bears on what was cut
pub cut_from : (target : OutputSink) (out : SinkSeen) (held mid new : Option (List ℕ)) (begun after : ℕ) (old : SinkTexts) (script : Script) (cause : Cause)
    → CutsSummary target out (sink_seen mid new begun after) old script cause → CutsSummary target out (sink_seen held new begun after) old script cause
cut_from target out held mid new begun after old script no_memory cut = cut
cut_from target out held mid new begun after old script told cut = cut
cut_from target out held mid new begun after old script (failed_read first last) cut = cut
cut_from target out held mid new begun after old script (refused_write first last) cut = cut
