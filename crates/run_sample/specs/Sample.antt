-- What a sample answers and writes.
use Rattle.std.specs.Prelude.{◌≡◌, ◌≤◌, ℕ, List, [], Option, Some, All, Result, Ok, Err, ⊤}
use Rattle.tree_core.specs.Faults.{Rose, Gained, GainedPrefix}
use Rattle.tree_core.specs.declared.reads.ReadAnswer.{ReadAnswer}
use Rattle.tree_core.specs.declared.reads.ReadAnswer.TheVariants.{Got, Absent, WrongKind, NotUtf8, Failed}
use Rattle.spdx_terms.specs.catalog.Catalog.{CatalogLists}
use Rattle.spdx_terms.specs.catalog.Table.{table_lists}
use Rattle.spdx_terms.specs.declared.catalog.identifier.Match.{Match}
use Rattle.tree_core.specs.texts.Cause.{Cause, no_memory, failed_read, refused_write}
use Rattle.run_found.specs.declared.error.Error.{Error}
use Rattle.run_found.specs.Error.{cause_of}
use Rattle.run_found.specs.Hearing.{RequestHearing, TreeSeen}
use Rattle.check_core.specs.declared.report.CrateReport.{CrateReport}
use Rattle.run_check.specs.declared.report.Report.{Report}
use Rattle.run_command.specs.Complete.{IsHeardOf}
use Rattle.run_command.specs.Given.{CommandArguments}
use Rattle.run_command.specs.Stops.{Asks, PolicyAndCrates}
use Rattle.run_check.specs.Headline.{HasVerdictsIn}
use Rattle.run_check.specs.Named.{ReportsCertificates, ReportsFindings, ReportsOwnReads, ReportsPolicy, ReportsUnneeded}
use Rattle.run_check.specs.Named.{reads_in}
use Rattle.run_sample.specs.Files.{sample_content}
use Rattle.run_sample.specs.Lines.{sample_lines}
use Rattle.run_sample.specs.Request.{sample_request}

-- a tree with the sample's files and nothing else, on which no call had been made, and none has failed
pub record IsSampleTree (n : ℕ) (tree : TreeSeen) : Type 0 where
  pub told : tree.told ≡ Some (sample_content n)
  pub unasked : tree.calls_before ≡ []
  pub begun : tree.count_before ≡ 0
  pub unfailed : tree.count_after ≡ 0

-- it did not fail
abbrev pub IsHeard : ReadAnswer → Type 0
IsHeard Got = ⊤
IsHeard Absent = ⊤
IsHeard WrongKind = ⊤
IsHeard NotUtf8 = ⊤
IsHeard (Failed before after) = ⊥

-- The report is that of a check of the sample's request over the sample's files: it gives each selected crate the
-- verdict that is asked for, and says all that the report of any check says, and none of its reads failed.
pub record IsSampleReport (n : ℕ) (given : CommandArguments) (report : Report) : Type 0 where
  pub tree : TreeSeen
  pub of_sample : IsSampleTree n tree
  pub verdicts : HasVerdictsIn given (sample_content n) tree report
  pub own_reads : ReportsOwnReads given tree report
  pub heard : All (λ read. IsHeard read.answer) (reads_in report)
  pub policy : ReportsPolicy given tree report
  pub findings : ReportsFindings given tree report
  pub unneeded : ReportsUnneeded given tree report
  pub certificates : ReportsCertificates given tree report

-- the same of a sample of so many crates, by a catalogue and an identifier
abbrev pub IsSampled : ℕ → CatalogLists → (List ℕ → Match) → Report → Type 0
IsSampled n lists match_of report = IsSampleReport n (sample_request lists match_of) report

-- ---- what is written

-- a prefix of the four lines of a sample
pub record FrontsLines (n : ℕ) (lists : CatalogLists) (match_of : List ℕ → Match)
    (old new : Option (List ℕ)) : Type 0 where
  pub report : Report
  pub is : IsSampled n lists match_of report
  pub front : GainedPrefix old new (sample_lines report.crates)

-- a refused write has the sink's counts, and a prefix of the lines was written; before any other refusal nothing was
abbrev pub RefusalWritten : ℕ → CatalogLists → (List ℕ → Match) → Option (List ℕ) → Option (List ℕ) → ℕ → ℕ → Cause
    → Type 0
RefusalWritten n lists match_of old new before after (refused_write first last) =
    (first ≡ before) × (last ≡ after) × Rose before after × FrontsLines n lists match_of old new
RefusalWritten n lists match_of old new before after _ = new ≡ old

-- the four lines of the report's crates were written
abbrev pub WritesLines : ℕ → CatalogLists → (List ℕ → Match) → Option (List ℕ) → Option (List ℕ) → ℕ → ℕ
    → Result Report Error → Type 0
WritesLines n lists match_of old new before after (Ok report) = Gained old new (sample_lines report.crates)
WritesLines n lists match_of old new before after (Err error) =
    RefusalWritten n lists match_of old new before after (cause_of error)

-- what was written of the lines of these crates before a refusal: nothing for want of memory, else a prefix of them
abbrev pub LinesCut : List CrateReport → Option (List ℕ) → Option (List ℕ) → ℕ → ℕ → Cause → Type 0
LinesCut crates old new before after no_memory = new ≡ old
LinesCut crates old new before after (refused_write first last) =
    (first ≡ before) × (last ≡ after) × Rose before after × GainedPrefix old new (sample_lines crates)
LinesCut crates old new before after _ = ⊥

-- ---- what is refused

-- no refusal of the check comes of a refused write, since nothing is written at level off
abbrev pub IsUnwritten : Cause → Type 0
IsUnwritten (refused_write before after) = ⊥
IsUnwritten _ = ⊤

-- no refusal comes of a failed read
abbrev pub IsUnfailed : Cause → Type 0
IsUnfailed (failed_read before after) = ⊥
IsUnfailed _ = ⊤

-- it may end a sample of which its files ask for the check: want of memory, and a write that `out` refused
abbrev pub MayEndSample : Cause → Type 0
MayEndSample no_memory = ⊤
MayEndSample (refused_write before after) = ⊤
MayEndSample _ = ⊥

abbrev pub EndsSampled : Result Report Error → Type 0
EndsSampled (Ok report) = ⊤
EndsSampled (Err error) = MayEndSample (cause_of error)

-- where what is read of the sample's files asks for a check, there is no other refusal
abbrev pub IsSampleComplete : ℕ → CatalogLists → (List ℕ → Match) → Result Report Error → Type 0
IsSampleComplete n lists match_of answer =
    (hearing : RequestHearing) (asked : PolicyAndCrates)
    → IsHeardOf (sample_request lists match_of) (sample_content n) 0 hearing
    → Asks (sample_request lists match_of) hearing asked
    → EndsSampled answer

-- With the built-in catalogue there is no other refusal at all, however many crates the sample has.
abbrev pub IsWholeSample : ℕ → CatalogLists → Result Report Error → Type 0
IsWholeSample n lists answer = 1 ≤ n → lists ≡ table_lists → EndsSampled answer
