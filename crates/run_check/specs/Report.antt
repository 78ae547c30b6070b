-- When a report is the one that a request and the files ask for.
use Rattle.std.specs.Prelude.{◌≡◌, List, map, Option, option_map, Result, IfOk, All}
use Rattle.std.specs.List.{AllZip}
use Rattle.tree_core.specs.file_reads.Read.{records_of_reads}
use Rattle.policy_core.specs.valid.View.{policy_of}
use Rattle.policy_core.specs.declared.valid.policy.ValidConfig.{ValidConfig}
use Rattle.spdx_core.specs.declared.certificates.verdict.Verdict.{Verdict}
use Rattle.diag_core.specs.File.{File}
use Rattle.diag_stats.specs.Counts.{counts_of}
use Rattle.gather_license.specs.Priority.{ExpressionSource, LicenseAnswer}
use Rattle.gather_core.specs.Calls.{ReadsOfCrate, CrateTurn, HasOwnReads, files_behind_all}
use Rattle.gather_core.specs.Told.{notes_of, source_view}
use Rattle.gather_core.specs.Exceptions.{counted_of}
use Rattle.gather_core.specs.Turns.{IsCutOut, info_in, kept_in, notes_in, records_in}
use Rattle.gather_core.specs.declared.summary.KrateLicense.{KrateLicense}
use Rattle.check_core.specs.Check.{AreVerdicts, findings_of}
use Rattle.check_core.specs.Reports.{license_place, license_source}
use Rattle.check_core.specs.Labels.{PackLies, VerdictPoints}
use Rattle.check_core.specs.Turns.{expression_of}
use Rattle.check_core.specs.Verdicts.{IsVerdict}
use Rattle.run_overrides.specs.Levels.{packs_at}
use Rattle.run_request.specs.declared.level.LintLevels.{LintLevels}
use Rattle.run_found.specs.declared.error.Error.{Error}
use Rattle.run_found.specs.Found.{files_loaded}
use Rattle.run_found.specs.Hearing.{RequestHearing, TreeSeen}
use Rattle.run_found.specs.Licenses.{ReadsItsFiles, counted_heard, expression_in, priority_heard}
use Rattle.run_found.specs.Written.{SinkSeen}
use Rattle.run_command.specs.Found.{scanner_of_given, turns_in}
use Rattle.run_command.specs.Given.{CommandArguments}
use Rattle.run_command.specs.Settled.{AnswersSo, IsSettled}
use Rattle.check_core.specs.declared.report.CrateReport.{CrateReport}
use Rattle.run_check.specs.declared.report.Report.{Report}
use Rattle.run_check.specs.Found.{all_gathered}

-- ---- a crate

-- where the expression that has priority comes from
abbrev pub source_in : Option LicenseAnswer → Option ExpressionSource
source_in answer = option_map (λ own. own.source) answer

-- The report on a crate, by a valid policy: it lists the crate's reads; it tells the expression that has priority, by
-- what their answers say, where that comes from and what is noted of it, of which there is nothing where there is no
-- expression; and the verdict on that, by the exceptions that count by what the answers say, with what shows it. Where
-- a field is in its manifest is left out here.
pub record IsReportOf (given : CommandArguments) (policy : ValidConfig) (one : ReadsOfCrate)
    (report : CrateReport) : Type 0 where
  pub id : report.id ≡ one.krate.id
  pub reads : report.reads ≡ records_of_reads one.reads
  pub expression : report.expression ≡ expression_in (priority_heard (scanner_of_given given policy) policy one)
  pub source : option_map source_view report.source
      ≡ source_in (priority_heard (scanner_of_given given policy) policy one)
  pub notes : report.notes ≡ notes_of (priority_heard (scanner_of_given given policy) policy one)
  pub verdict : IsVerdict (policy_of policy) one.krate (counted_heard policy one) report.expression report.verdict

-- The report on a crate tells the source that its turn says: of a field with the place where its manifest writes it,
-- where that counts.
abbrev pub TellsSource : CrateTurn → CrateReport → Type 0
TellsSource own report = report.source ≡ license_source (info_in own.turn)

-- What a report has, by the crate's turn: the expression, where that is, what is noted of it, the exceptions that
-- count, the reads, and what is kept of the licence files.
pub record TellsTurn (own : CrateTurn) (report : CrateReport) : Type 0 where
  pub expression : report.expression ≡ expression_of (info_in own.turn)
  pub notes : report.notes ≡ notes_in own.turn
  pub reads : report.reads ≡ records_in own.turn
  pub place : report.place ≡ license_place (info_in own.turn)
  pub exceptions : report.exceptions ≡ counted_of own.turn.exceptions own.turn.krate own.turn.known_reads
  pub kept : report.kept ≡ kept_in own.turn

-- ---- all crates

-- The policy is file 0. Each crate has its one report by it, in the same order, and the findings are counted.
pub record GivesVerdicts (given : CommandArguments) (hearing : RequestHearing) (report : Report) : Type 0 where
  pub file : report.policy.file_id ≡ 0
  pub verdicts : AllZip (IsReportOf given report.policy) hearing.crates report.crates
  pub stats : report.stats ≡ counts_of report.findings

abbrev pub verdicts_in : Report → List Verdict
verdicts_in report = map (λ crate. crate.verdict) report.crates

-- The verdicts are those on what the check has looked at, turn after turn; what was found of each crate, in order, and
-- then of the policy, at the levels that are asked for; and the table that the turns have left, of what was loaded. The
-- labels of what is found on the way to an expression cut out what they say there; those of a verdict the expression
-- and each of its terms, or the whole string that the policy or its exceptions file wrote with escapes.
pub record TellsFindings (levels : LintLevels) (loaded : List File) (turns : List CrateTurn)
    (report : Report) : Type 0 where
  pub are : AreVerdicts (policy_of report.policy) (all_gathered turns) (verdicts_in report)
  pub findings : report.findings ≡ packs_at levels (findings_of report.policy (all_gathered turns) (verdicts_in report))
  pub files : report.files ≡ files_behind_all loaded turns
  pub cuts : All (λ own. IsCutOut report.files own.turn) turns
  pub terms : All (VerdictPoints report.files (policy_of report.policy)) (all_gathered turns)

-- ---- what is answered

-- What was read asks for a check, and the report gives its verdicts: the licences of the crates that are asked for were
-- settled by the policy that is reported, which is the one that was found, its lists in order; and each crate's own
-- files were read, once, and no other file for it.
pub record TellsVerdicts (given : CommandArguments) (hearing : RequestHearing) (report : Report) : Type 0 where
  pub licenses : List KrateLicense
  pub settled : IsSettled given hearing report.policy licenses report.files
  pub files : All (ReadsItsFiles (scanner_of_given given report.policy) report.policy) hearing.crates
  pub gives : GivesVerdicts given hearing report

-- The report is what is asked for by what was read: it gives the verdicts; the crates' reads are those that their turns
-- ask for, with the manifests that the file table lacks; and it tells the sources of the expressions, where these are,
-- which exceptions count, what is kept of licence files, and what was found.
pub record IsReport (given : CommandArguments) (hearing : RequestHearing) (report : Report) : Type 0 where
  pub verdicts : TellsVerdicts given hearing report
  pub own : All HasOwnReads (turns_in given hearing report.policy)
  pub sources : AllZip TellsSource (turns_in given hearing report.policy) report.crates
  pub turns : AllZip TellsTurn (turns_in given hearing report.policy) report.crates
  pub tells : TellsFindings given.options.levels (files_loaded given.request hearing)
      (turns_in given hearing report.policy) report

-- a report is the one that is asked for by what was read, or the check was refused before
abbrev pub Reports : CommandArguments → TreeSeen → SinkSeen → Result Report Error → Type 0
Reports given tree err result = AnswersSo given tree err (λ report hearing. IsReport given hearing report) result

-- each label of each finding lies in the text of its file, between characters
abbrev pub LabelsLie : Result Report Error → Type 0
LabelsLie answer = IfOk answer (λ report. All (PackLies report.files) report.findings)
