-- The summary of the checks that ran, and the sink that it goes to.
use Rattle.std.specs.Prelude.{◌≡◌, ℕ, Bool, List, [], ◌∷◌}
use Rattle.tree_core.specs.Script.{OutputSink, to_out, to_err, Script, FaultCounts, SinkTexts, Gains, IsCut}
use Rattle.diag_core.specs.declared.severity.LevelFilter.{LevelFilter}
use Rattle.diag_print.specs.declared.context.Format.{Format}
use Rattle.diag_print.specs.declared.context.Format.TheVariants.{Human, Json, Sarif}
use Rattle.diag_print.specs.declared.printer.PrintError.{PrintError}
use Rattle.diag_print.specs.declared.printer.PrintError.TheVariants.{WriteFault, Memory}
use Rattle.diag_stats.specs.declared.checks.CheckStats.{CheckStats}
use Rattle.diag_stats.specs.declared.stats.AllStats.{AllStats}
use Rattle.diag_stats.specs.Checks.{checks_of}
use Rattle.diag_stats.specs.Human.{human_text}
use Rattle.diag_stats.specs.Json.{json_text}

-- the text in a format: for a person by the level, for a program at each level, with SARIF none
abbrev pub text_of : Format → LevelFilter → Bool → List CheckStats → List ℕ
text_of Human level show checks = human_text level show checks
text_of Json level show checks = json_text checks
text_of Sarif level show checks = []

abbrev pub summary_text : Format → LevelFilter → Bool → AllStats → List ℕ
summary_text format level show stats = text_of format level show (checks_of stats)

-- for a person it goes to `out`, else to `err`
abbrev pub target_of : Format → OutputSink
target_of Human = to_out
target_of Json = to_err
target_of Sarif = to_err

-- a text for a sink; of an empty text nothing is written
abbrev pub piece_of : OutputSink → List ℕ → Script
piece_of target [] = []
piece_of target (byte ∷ text) = (target, byte ∷ text) ∷ []

-- what is written of the checks that ran
abbrev pub summary_of : Format → LevelFilter → Bool → AllStats → Script
summary_of format level show stats = piece_of (target_of format) (summary_text format level show stats)

-- ---- where it was not all written

-- the counts of faults of two sinks before and after, where no tree is asked
abbrev pub sink_counts : ℕ → ℕ → ℕ → ℕ → FaultCounts
sink_counts out_before out_after err_before err_after = record {
  tree_before = 0;
  tree_after = 0;
  out_before = out_before;
  out_after = out_after;
  err_before = err_before;
  err_after = err_after;
}

-- a sink refused a write, with these counts, and a prefix of the script was written
pub record IsCutShort (counts : FaultCounts) (before after : ℕ) (old new : SinkTexts) (script : Script) : Type 0 where
  pub begun : Script
  pub cut : IsCut counts before after script begun
  pub gains : Gains old new begun

-- a refused write, or want of memory, before which nothing was written
abbrev pub IsUnwritten : FaultCounts → SinkTexts → SinkTexts → Script → PrintError → Type 0
IsUnwritten counts old new script (WriteFault before after) = IsCutShort counts before after old new script
IsUnwritten counts old new script Memory = Gains old new []

-- of two counts that of the sink
abbrev pub count_of : OutputSink → ℕ → ℕ → ℕ
count_of to_out out err = out
count_of to_err out err = err

-- a refused write is reported with the count of its sink right behind it
abbrev pub HasCountBehind : OutputSink → ℕ → ℕ → PrintError → Type 0
HasCountBehind target out err (WriteFault before after) = after ≡ count_of target out err
HasCountBehind target out err Memory = Unit {0}
