-- What a check of the sample answers, and what is written of it.
use Rattle.std.proofs.Common.{◌≡◌, ◌∙◌, inl, inr, refl, sym, ap, subst, ℕ, ◌≤◌, List, [], ◌∷◌, Option, Some, None, Result, Ok, Err, IfOk, IfErr, arith}
use Rattle.std.proofs.lemmas.List.Elements.{All-from_recursion}
use Rattle.std.specs.Prelude.{All}
use Rattle.std.specs.List.{AllByRecursion}
use Rattle.spdx_terms.specs.catalog.Catalog.{CatalogLists}
use Rattle.spdx_terms.specs.declared.catalog.identifier.Match.{Match}
use Rattle.diag_print.specs.declared.context.LogContext.{LogContext}
use Rattle.run_request.specs.declared.check.CheckArgs.{CheckArgs}
use Rattle.run_request.specs.declared.context.KrateContext.{KrateContext}
use Rattle.tree_core.specs.Call.{Call}
use Rattle.tree_core.specs.Content.{Content}
use Rattle.tree_core.specs.TreeState.{TreeState}
use Rattle.tree_core.specs.Faults.{Rose}
use Rattle.tree_core.specs.declared.reads.ReadAnswer.{ReadAnswer}
use Rattle.tree_core.specs.declared.reads.ReadAnswer.TheVariants.{Got, Absent, WrongKind, NotUtf8, Failed}
use Rattle.tree_core.specs.declared.reads.ReadRecord.{ReadRecord}
use Rattle.tree_core.specs.file_reads.Rising.{RiseFrom, RiseInOrder}
use Rattle.tree_core.specs.texts.Cause.{Cause, ReadCounts, no_memory, failed_read, refused_write}
use Rattle.tree_core.specs.texts.Cause as causes
use Rattle.run_found.specs.declared.error.Error.{Error}
use Rattle.run_found.specs.declared.error.Error.TheVariants.{ConfigRead}
use Rattle.run_found.specs.Error.{EndsLawful, MayEndLawful, cause_of}
use Rattle.run_found.specs.Hearing.{TreeSeen, tree_seen}
use Rattle.run_found.specs.Written.{SinkSeen, TextWritten, sink_seen}
use Rattle.tree_core.specs.declared.texts.fault.ReadFault.TheVariants as read
use Rattle.run_check.specs.declared.report.Report.{Report}
use Rattle.run_check.specs.Given.{check_arguments_of}
use Rattle.run_check.specs.Headline.{CheckHeadline}
use Rattle.run_check.specs.Named.{FailedReadsRise, ReportsCertificates, ReportsFindings, ReportsOwnReads, ReportsPolicy, ReportsUnneeded, reads_in}
use Rattle.run_check.specs.Script.{CutsFindings, WritesCheck}
use Rattle.run_command.specs.Complete.{IsHeardOf}
use Rattle.run_command.specs.Given.{CommandArguments}
use Rattle.run_command.proofs.AbsentLemmas.{stops_never}
use Rattle.run_sample.specs.Files.{sample_content}
use Rattle.run_sample.specs.Request.{sample_args, sample_context, sample_log, sample_request}
use Rattle.run_sample.specs.Sample.{EndsSampled, IsHeard, IsSampleComplete, IsSampleReport, IsSampleTree, IsSampled, IsUnfailed, IsUnwritten, LinesCut, MayEndSample, RefusalWritten}

pub never_rose : Rose 0 0 → ⊥
never_rose (inl less) = omega arith
never_rose (inr last) = omega arith

-- ---- no read failed

-- what follows a count is no lower
rises_to : (low : ℕ) (reads : List ReadRecord) (high : ℕ) → RiseInOrder low reads high → low ≤ high
rises_to low [] high rises = rises
rises_to low (read ∷ reads) high rises = from read.answer rises (λ start. rises_to start reads high)
  where
    from : (answer : ReadAnswer) → RiseFrom low answer (λ start. RiseInOrder start reads high) → ((start : ℕ) → RiseInOrder start reads high → start ≤ high) → low ≤ high
    from Got rest later = later low rest
    from Absent rest later = later low rest
    from WrongKind rest later = later low rest
    from NotUtf8 rest later = later low rest
    from (Failed before after) rest later = let first = rest.0 in let grown = rest.1.later in let last = later after rest.2 in omega arith

none_failed : (reads : List ReadRecord) → RiseInOrder 0 reads 0 → AllByRecursion (λ (read : ReadRecord). IsHeard read.answer) reads
none_failed [] rises = tt
none_failed (read ∷ reads) rises = both read.answer rises (none_failed reads)
  where
    at_zero : (before after : ℕ) → before ≡ 0 → after ≡ 0 → Rose before after → ⊥
    at_zero before after first last rose = never_rose (subst (λ n. Rose 0 n) last (subst (λ n. Rose n after) first rose))

    both : (answer : ReadAnswer) → RiseFrom 0 answer (λ start. RiseInOrder start reads 0) → (RiseInOrder 0 reads 0 → AllByRecursion (λ (one : ReadRecord). IsHeard one.answer) reads)
        → IsHeard answer × AllByRecursion (λ (one : ReadRecord). IsHeard one.answer) reads
    both Got rest later = (tt, later rest)
    both Absent rest later = (tt, later rest)
    both WrongKind rest later = (tt, later rest)
    both NotUtf8 rest later = (tt, later rest)
    both (Failed before after) rest later =
        let last = rises_to after reads 0 rest.2 in
        let grown = rest.1.later in
        absurd (at_zero before after (omega arith) (omega arith) rest.1.rose)

-- ---- the report

module _ (n : ℕ) (given : CommandArguments) (tree : TreeSeen) (err : SinkSeen) (sample : IsSampleTree n tree) where
  all_heard : (report : Report) → FailedReadsRise tree report → All (λ (read : ReadRecord). IsHeard read.answer) (reads_in report)
  all_heard report rises =
      All-from_recursion (λ (read : ReadRecord). IsHeard read.answer) (reads_in report)
      (none_failed (reads_in report)
      (subst (λ high. RiseInOrder 0 (reads_in report) high) sample.unfailed
      (subst (λ low. RiseInOrder low (reads_in report) tree.count_after) sample.begun rises)))

  pub sampled_by : (answer : Result Report Error) → CheckHeadline given (sample_content n) tree err answer → IfOk answer (ReportsOwnReads given tree)
      → IfOk answer (FailedReadsRise tree) → IfOk answer (ReportsPolicy given tree) → IfOk answer (ReportsFindings given tree) → IfOk answer (ReportsUnneeded given tree)
      → IfOk answer (ReportsCertificates given tree) → IfOk answer (IsSampleReport n given)
  sampled_by (Ok report) headline own rises policy findings unneeded certificates = record {
    tree = tree;
    of_sample = sample;
    verdicts = headline.verdicts report refl;
    own_reads = own;
    heard = all_heard report rises;
    policy = policy;
    findings = findings;
    unneeded = unneeded;
    certificates = certificates;
  }
  sampled_by (Err error) headline own rises policy findings unneeded certificates = tt

-- what is asked for by these is asked for by the sample's request
pub given_by : (lists : CatalogLists) (match_of : List ℕ → Match) (log : LogContext) (args : CheckArgs) (context : KrateContext) → log ≡ sample_log → args ≡ sample_args → context ≡ sample_context
    → check_arguments_of lists match_of log args context ≡ sample_request lists match_of
given_by lists match_of log args context logs asks looks =
    ap (λ own. check_arguments_of lists match_of own args context) logs
    ∙ ap (λ own. check_arguments_of lists match_of sample_log own context) asks
    ∙ ap (check_arguments_of lists match_of sample_log sample_args) looks

-- all of it is carried
pub carried_by : (lists : CatalogLists) (match_of : List ℕ → Match) (log : LogContext) (args : CheckArgs) (context : KrateContext) → log ≡ sample_log → args ≡ sample_args → context ≡ sample_context
    → (check_arguments_of lists match_of log args context).options.unsupported ≡ None
carried_by lists match_of log args context logs asks looks = ap (λ (own : CommandArguments). own.options.unsupported) (given_by lists match_of log args context logs asks looks)

-- a sink that keeps nothing and refuses nothing
abbrev pub nowhere : SinkSeen
nowhere = sink_seen None None 0 0

-- the tree that a sample is checked on
pub sample_seen : (n : ℕ) (state made : TreeState) (tells : Option Content) (calls : List Call) → state ≡ made → made.content ≡ sample_content n → made.calls ≡ []
    → IsSampleTree n (tree_seen (Some state.content) tells 0 0 state.calls calls)
sample_seen n state made tells calls same content unasked = record {
  told = ap (λ (one : TreeState). Some one.content) same ∙ ap Some content;
  unasked = ap (λ (one : TreeState). one.calls) same ∙ unasked;
  begun = refl;
  unfailed = refl;
}

-- ---- refusals of the check

unfailed_by : (cause : Cause) → ReadCounts 0 0 0 cause → IsUnfailed cause
unfailed_by no_memory counts = tt
unfailed_by causes.told counts = tt
unfailed_by (failed_read first last) counts = never_rose counts.2
unfailed_by (refused_write first last) counts = tt

pub unfailed_of : (answer : Result Report Error) → IfErr answer (λ error. ReadCounts 0 0 0 (cause_of error)) → IfErr answer (λ error. IsUnfailed (cause_of error))
unfailed_of (Ok report) counts = tt
unfailed_of (Err error) counts = unfailed_by (cause_of error) counts

-- the sink counts no fault
module _ (given : CommandArguments) (tree : TreeSeen) (old new : Option (List ℕ)) where
  abbrev still : SinkSeen
  still = record { old = old; new = new; before = 0; after = 0 }

  by_text : (text : List ℕ) (cause : Cause) → TextWritten text old new 0 0 cause → IsUnwritten cause
  by_text text no_memory written = tt
  by_text text causes.told written = tt
  by_text text (failed_read first last) written = tt
  by_text text (refused_write first last) written = never_rose written.2

  by_findings : (cause : Cause) → CutsFindings given tree still cause → IsUnwritten cause
  by_findings no_memory cut = tt
  by_findings causes.told cut = absurd cut
  by_findings (failed_read first last) cut = absurd cut
  by_findings (refused_write first last) cut = never_rose cut.2

  pub unwritten_of : (answer : Result Report Error) → WritesCheck given tree still answer → IfErr answer (λ error. IsUnwritten (cause_of error))
  unwritten_of (Ok report) writes = tt
  unwritten_of (Err error) (inl stops) = by_text _ (cause_of error) stops.written
  unwritten_of (Err error) (inr cut) = by_findings (cause_of error) cut

-- no check is refused since a policy is not there
pub never_absent : (given : CommandArguments) (tree : TreeSeen) (err : SinkSeen) → WritesCheck given tree err (Err (ConfigRead read.Absent)) → ⊥
never_absent given tree err (inl stops) = stops_never given tree err stops
never_absent given tree err (inr cut) = cut

lawful_sample : (cause : Cause) → MayEndLawful cause → MayEndSample cause
lawful_sample no_memory may = tt
lawful_sample causes.told may = may
lawful_sample (failed_read first last) may = may
lawful_sample (refused_write first last) may = tt

ends_by : (answer : Result Report Error) → EndsLawful answer → EndsSampled answer
ends_by (Ok report) ends = tt
ends_by (Err error) ends = lawful_sample (cause_of error) ends

pub complete_by : (n : ℕ) (lists : CatalogLists) (match_of : List ℕ → Match) (tree : TreeSeen) (old new : Option (List ℕ)) (answer : Result Report Error) → IsSampleTree n tree
    → CheckHeadline (sample_request lists match_of) (sample_content n) tree (sink_seen old new 0 0) answer → IsSampleComplete n lists match_of answer
complete_by n lists match_of tree old new answer sample headline hearing asked heard asks =
    ends_by answer
    (headline.lawful hearing asked
    (record {
      heard = subst (λ count. IsHeardOf (sample_request lists match_of) (sample_content n) count hearing) (sym sample.begun) heard;
      asks = asks;
      still = λ rose. never_rose (subst (λ count. Rose 0 count) sample.unfailed (subst (λ count. Rose count tree.count_after) sample.begun rose));
    })
    never_rose)

-- ---- what is written

module _ (n : ℕ) (lists : CatalogLists) (match_of : List ℕ → Match) where
  pub nothing_by : (held : Option (List ℕ)) (faults : ℕ) (cause : Cause) → IsUnwritten cause → RefusalWritten n lists match_of held held faults faults cause
  nothing_by held faults no_memory unwritten = refl
  nothing_by held faults causes.told unwritten = refl
  nothing_by held faults (failed_read first last) unwritten = refl
  nothing_by held faults (refused_write first last) unwritten = absurd unwritten

  pub cut_by : (report : Report) (old new : Option (List ℕ)) (before after : ℕ) (cause : Cause) → IsSampled n lists match_of report → LinesCut report.crates old new before after cause
      → RefusalWritten n lists match_of old new before after cause
  cut_by report old new before after no_memory is cut = cut
  cut_by report old new before after causes.told is cut = absurd cut
  cut_by report old new before after (failed_read first last) is cut = absurd cut
  cut_by report old new before after (refused_write first last) is cut = (cut.0, cut.1, cut.2, record { report = report; is = is; front = cut.3 })

module _ (report : Report) (old new : Option (List ℕ)) (before after : ℕ) where
  pub cut_unfailed : (cause : Cause) → LinesCut report.crates old new before after cause → IsUnfailed cause
  cut_unfailed no_memory cut = tt
  cut_unfailed causes.told cut = tt
  cut_unfailed (failed_read first last) cut = cut
  cut_unfailed (refused_write first last) cut = tt

  pub cut_ends : (cause : Cause) → LinesCut report.crates old new before after cause → MayEndSample cause
  cut_ends no_memory cut = tt
  cut_ends causes.told cut = cut
  cut_ends (failed_read first last) cut = cut
  cut_ends (refused_write first last) cut = tt
