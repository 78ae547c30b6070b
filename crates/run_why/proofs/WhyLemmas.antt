-- The steps of a run for `why`, and its ends.
use Rattle.std.proofs.Common.{◌≡◌, ◌∙◌, inl, inr, refl, subst, sym, ap, ℕ, true, List, [], ◌∷◌, map, Option, Some, None, Result, Ok, Err, IfErr}
use Rattle.std.specs.List.{AllByRecursion, AllZip}
use Rattle.diag_core.specs.File.{File}
use Rattle.gather_license.specs.expression.Scanned.{Scanner}
use Rattle.gather_license.specs.files.KnownReads.{known_reads_by}
use Rattle.gather_core.specs.Calls.{CrateTurn, HasOwnReads, ReadsOfCrate, turn_by, turns_of}
use Rattle.gather_core.specs.Rules.{GatherRules}
use Rattle.gather_core.specs.Turns.{files_behind}
use Rattle.check_core.specs.declared.report.CrateReport.{CrateReport}
use Rattle.run_check.specs.Report.{TellsSource, TellsTurn}
use Rattle.run_why.proofs.TextLemmas.{IsTold, krate_of_turn}
use Rattle.tree_core.specs.texts.Cause.{ReadCounts}
use Rattle.run_found.specs.declared.error.Error.{Error}
use Rattle.run_found.specs.declared.error.Error.TheVariants.{Memory}
use Rattle.run_found.specs.declared.reads.CrateRead.{CrateRead}
use Rattle.run_found.specs.Error.{cause_of}
use Rattle.run_found.specs.Hearing.{TreeSeen}
use Rattle.run_found.specs.Written.{SinkSeen}
use Rattle.diag_print.specs.declared.context.LogContext.{LogContext}
use Rattle.graph_workspace.specs.declared.error.UnsupportedPart.{UnsupportedPart}
use Rattle.run_request.specs.declared.context.KrateContext.{KrateContext}
use Rattle.run_request.specs.declared.level.LintLevels.{LintLevels}
use Rattle.run_command.specs.Carried.{no_levels}
use Rattle.run_command.specs.Given.{CommandOptions}
use Rattle.run_command.specs.Settled.{HearsSo}
use Rattle.run_command.specs.Stops.{Stops}
use Rattle.run_command.proofs.WrittenLemmas.{write_counts}
use Rattle.run_check.proofs.ReportLemmas.{reported_stops}
use Rattle.run_why.specs.declared.whying.WhyFound.{WhyFound}
use Rattle.run_why.specs.Given.{WhyArguments, unsupported_by, unsupported_of, why_options}
use Rattle.run_why.specs.Steps.{Puts}
use Rattle.run_why.specs.Why.{IsWhy, Tells}

-- ---- what it is given

-- without a word that is not carried, the command's own part is carried
pub command_carried : (what : Option UnsupportedPart) (words : List (List ℕ)) → unsupported_by what words ≡ None → what ≡ None
command_carried (Some what) words e = absurd (cc e)
command_carried None words e = refl

abbrev options_by : Option UnsupportedPart → LintLevels → CommandOptions
options_by what levels = record { unsupported = what; levels = levels; with_flags = true; threshold = None; keeps = true }

-- the options by which its policy and its metadata are found
pub options_are : (log : LogContext) (context : KrateContext) (words : List (List ℕ)) (levels : LintLevels) → unsupported_of log context words ≡ None → levels ≡ no_levels
    → options_by None levels ≡ why_options log context words
options_are log context words levels carried none = ap (options_by None) none ∙ ap (λ (what : Option UnsupportedPart). options_by what no_levels) (sym carried)

-- ---- what is found is written

module _ (given : WhyArguments) (tree : TreeSeen) (err out : SinkSeen) (found : WhyFound) (hears : HearsSo given.command tree err (IsWhy given found)) where
  -- memory was wanting once there was a report
  found_stops : Stops given.command tree err Memory
  found_stops =
      reported_stops given.command tree err found.report
      (record { hearing = hears.hearing; heard = hears.heard; written = hears.written; is_so = hears.is_so.report })

  pub written_by : (result : Result (List CrateRead) Error) → Puts found out result → Tells given tree err out result
  written_by (Ok reads) puts = record { found = found; hears = hears; written = puts.texts; reads_are = puts.reads_are }
  written_by (Err error) (inl wants) =
      subst (λ own. Tells given tree err out (Err own)) (sym wants.0) (inl (inl found_stops, wants.1))
  written_by (Err error) (inr cut) = inr (record { found = found; hears = hears; refused = cut.refused; front = cut.front })

-- ---- what a refusal comes of

-- a write has no counts of a read
pub put_counts : (found : WhyFound) (out : SinkSeen) (result : Result (List CrateRead) Error) → Puts found out result
    → (begun before after : ℕ) → IfErr result (λ error. ReadCounts begun before after (cause_of error))
put_counts found out (Ok reads) puts begun before after = tt
put_counts found out (Err error) (inl wants) begun before after =
    subst (λ own. ReadCounts begun before after (cause_of own)) (sym wants.0) tt
put_counts found out (Err error) (inr cut) begun before after = write_counts out.before out.after error cut.refused begun before after

-- ---- what is found

-- by the reads of its own crate, and what the command identifies texts by
pub turns_known : (scanner : Scanner) (all : GatherRules) (files : List File) (crates : List ReadsOfCrate)
    → AllByRecursion (λ (own : CrateTurn). (own.turn.known_reads ≡ known_reads_by own.reads) × (own.turn.scanner ≡ scanner)) (turns_of scanner all files crates)
turns_known scanner all files [] = tt
turns_known scanner all files (one ∷ crates) = ((refl, refl), turns_known scanner all (files_behind (turn_by scanner all files one).turn) crates)

pub all_told : (scanner : Scanner) (turns : List CrateTurn) (reports : List CrateReport) → AllZip TellsTurn turns reports → AllZip TellsSource turns reports → AllByRecursion HasOwnReads turns
    → AllByRecursion (λ (own : CrateTurn). (own.turn.known_reads ≡ known_reads_by own.reads) × (own.turn.scanner ≡ scanner)) turns → AllZip (IsTold scanner) turns reports
all_told scanner [] [] told source own known = tt
all_told scanner [] (report ∷ reports) told source own known = absurd told
all_told scanner (one ∷ turns) [] told source own known = absurd told
all_told scanner (one ∷ turns) (report ∷ reports) told source own known = (
  record { turn = told.0; source = source.0; own_reads = own.0; known = known.0.0; by = known.0.1 },
  all_told scanner turns reports told.1 source.1 own.1 known.1,
)

-- each crate has its turn
pub krates_turned : (scanner : Scanner) (all : GatherRules) (files : List File) (crates : List ReadsOfCrate)
    → map krate_of_turn (turns_of scanner all files crates) ≡ map (λ (one : ReadsOfCrate). one.krate) crates
krates_turned scanner all files [] = refl
krates_turned scanner all files (one ∷ crates) = ap (λ rest. one.krate ∷ rest) (krates_turned scanner all (files_behind (turn_by scanner all files one).turn) crates)
