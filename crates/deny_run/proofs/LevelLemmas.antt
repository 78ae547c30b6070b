-- The level of the log is asked nowhere on the way to a report, and a content that is read without a failure has one report.
use Rattle.std.proofs.Common.{◌≡◌, ◌∙◌, sym, ap, subst, ℕ, List, [], ◌∷◌, ◌++◌, append-nil, Option, Some, None, Result, Ok}
use Rattle.std.specs.Prelude.{if◌then◌else◌}
use Rattle.std.specs.List.{AllByRecursion}
use Rattle.std.proofs.lemmas.List.Elements.{recursion_from_All}
use Rattle.tree_core.specs.Call.{Call}
use Rattle.tree_core.specs.Content.{Content}
use Rattle.tree_core.specs.Trace.{content_answer}
use Rattle.diag_core.specs.declared.severity.LevelFilter.{LevelFilter}
use Rattle.diag_core.specs.File.{File}
use Rattle.diag_stats.specs.ExitCode.{has_errors}
use Rattle.diag_stats.specs.declared.stats.AllStats.{AllStats}
use Rattle.policy_core.specs.declared.valid.policy.ValidConfig.{ValidConfig}
use Rattle.gather_core.specs.Calls.{ReadsOfCrate}
use Rattle.gather_core.specs.declared.summary.KrateLicense.{KrateLicense}
use Rattle.gather_core.proofs.ZipLemmas.{zip_weaker}
use Rattle.run_found.specs.declared.error.Error.{Error}
use Rattle.run_found.specs.Hearing.{RequestHearing, TellsContent}
use Rattle.run_found.specs.own_names.Given.{ListsGiven}
use Rattle.run_found.specs.own_names.Heard.{given_heard, lists_calls}
use Rattle.run_command.specs.Found.{HearsAllDue, calls_of}
use Rattle.run_command.specs.Given.{CommandArguments, CommandRequest, command_by, handed_in}
use Rattle.run_command.specs.Lawful.{CommandHearing, run_calls, there_call}
use Rattle.run_command.specs.Settled.{IsSettled}
use Rattle.run_command.specs.Stops.{Asks, PolicyAndCrates}
use Rattle.run_command.proofs.AlikeLemmas.{IsAlike}
use Rattle.run_command.proofs.OwnLemmas.{lists_same}
use Rattle.check_core.specs.declared.report.CrateReport.{CrateReport}
use Rattle.run_check.specs.declared.report.Report.{Report}
use Rattle.run_check.specs.Report.{GivesVerdicts, IsReport, IsReportOf, TellsVerdicts}
use Rattle.run_check.proofs.ReportAlike.{counted_alike, each_back, each_front}
use Rattle.deny_run.specs.Laws.{IsHeardOf, IsReported, LevelChangesNoReport, LevelKeepsStatus, at_level, command_at}

module _ (given : CommandArguments) (level : LevelFilter) (found : RequestHearing) where
  abbrev other : CommandArguments
  other = command_at level given

  hears_all : HearsAllDue given found → HearsAllDue other found
  hears_all own = record {
    policy = record {
      looks = record { sought = own.policy.looks.sought; looks = own.policy.looks.looks };
      policy = own.policy.policy;
      exceptions = own.policy.exceptions;
    };
    metadata = own.metadata;
  }

  asks_as : (asked : PolicyAndCrates) → Asks given found asked → Asks other found asked
  asks_as asked own = record {
    carried = own.carried;
    policy = record {
      config = own.policy.config;
      config_found = own.policy.config_found;
      exceptions = own.policy.exceptions;
      exceptions_found = own.policy.exceptions_found;
      is = own.policy.is;
    };
    once = own.once;
    metadata = record { text = own.metadata.text; heard = own.metadata.heard; tells = own.metadata.tells };
    root = own.root;
    selected = own.selected;
  }

  settled_as : (policy : ValidConfig) (licenses : List KrateLicense) (last : List File) → IsSettled given found policy licenses last → IsSettled other found policy licenses last
  settled_as policy licenses last own = record {
    due = hears_all own.due;
    asked = own.asked;
    asks = asks_as own.asked own.asks;
    ordered = own.ordered;
    crates = own.crates;
    records = own.records;
    turns = own.turns;
  }

  module _ (report : Report) where
    report_as : (one : ReadsOfCrate) (crate : CrateReport) → IsReportOf given report.policy one crate → IsReportOf other report.policy one crate
    report_as one crate own = record {
      id = own.id;
      reads = own.reads;
      expression = own.expression;
      source = own.source;
      notes = own.notes;
      verdict = own.verdict;
    }

    gives_as : GivesVerdicts given found report → GivesVerdicts other found report
    gives_as own = record {
      file = own.file;
      verdicts = zip_weaker (IsReportOf given report.policy) (IsReportOf other report.policy) report_as found.crates report.crates own.verdicts;
      stats = own.stats;
    }

    verdicts_as : TellsVerdicts given found report → TellsVerdicts other found report
    verdicts_as own = record {
      licenses = own.licenses;
      settled = settled_as report.policy own.licenses report.files own.settled;
      files = own.files;
      gives = gives_as own.gives;
    }

    is_report_as : IsReport given found report → IsReport other found report
    is_report_as own = record { verdicts = verdicts_as own.verdicts; own = own.own; sources = own.sources; turns = own.turns; tells = own.tells }

pub level_law : LevelChangesNoReport
level_law given level tree hearing had report ran is = (
  record {
    begun = record { lists = ran.begun.lists; found = ran.begun.found };
    comes = record { named = ran.comes.named; heard = ran.comes.heard };
    made = ran.made;
  },
  record {
    comes = record { named = is.comes.named; heard = is.comes.heard };
    is = is_report_as (command_by given.command had) level hearing.found report is.is;
  },
)

-- ---- two runs over one content

-- the calls for a run's names and texts, and those of its check, say what the content has
record TellsBoth (given : CommandRequest) (content : Content) (hearing : CommandHearing) (had : ListsGiven) : Type 0 where
  lists : AllByRecursion (TellsContent content) (lists_calls (handed_in given) given.own hearing.lists)
  found : AllByRecursion (TellsContent content) (calls_of (command_by given.command had) hearing.found)

tells_both : (given : CommandRequest) (content : Content) (hearing : CommandHearing) (had : ListsGiven) (count : ℕ) → IsHeardOf given content count hearing had → TellsBoth given content hearing had
tells_both given content hearing had count heard =
    let Tells = TellsContent content in
    let lists = lists_calls (handed_in given) given.own hearing.lists in
    let own = calls_of (command_by given.command had) hearing.found in
    let behind : AllByRecursion Tells (lists ++ own) = (recursion_from_All Tells (run_calls given hearing had) heard.tells).1 in
    record { lists = each_front Tells lists own behind; found = each_back Tells lists own behind }

module _ (content : Content) where
  -- calls that both say what the content has
  abbrev BothTell : List Call → List Call → Type 0
  BothTell calls others = AllByRecursion (TellsContent content) calls × AllByRecursion (TellsContent content) others

  both_alike : IsAlike BothTell
  both_alike one other more rest both asked path lost = (
    both.0.0 ∙ ap (λ kind. content_answer content kind one.path) asked ∙ ap (content_answer content other.asked) path ∙ sym both.1.0,
    (both.0.1, both.1.1),
  )

same_lists : (heard : Option (Result ListsGiven Error)) (one other : ListsGiven) → heard ≡ Some (Ok one) → heard ≡ Some (Ok other) → one ≡ other
same_lists heard one other first second = both (sym first ∙ second)
  where
    both : ◌≡◌ {A = Option (Result ListsGiven Error)} (Some (Ok one)) (Some (Ok other)) → one ≡ other
    both e = cc

some_heard : (heard : Option (Result ListsGiven Error)) (own : ListsGiven) → heard ≡ Some (Ok own) → heard ≡ None → ⊥
some_heard heard own is none = absurd (apart (sym none ∙ is))
  where
    apart : ◌≡◌ {A = Option (Result ListsGiven Error)} None (Some (Ok own)) → ⊥
    apart e = cc

-- two checks of one content have the same names and texts
lists_alike : (given : CommandRequest) (content : Content) (one other : CommandHearing) (had own : ListsGiven) → given_heard (handed_in given) given.own one.lists ≡ Some (Ok had)
    → given_heard (handed_in given) given.own other.lists ≡ Some (Ok own) → AllByRecursion (TellsContent content) (lists_calls (handed_in given) given.own one.lists)
    → AllByRecursion (TellsContent content) (lists_calls (handed_in given) given.own other.lists) → had ≡ own
lists_alike given content one other had own first second tells told =
    let handed = handed_in given in
    let calls = lists_calls handed given.own one.lists in
    let others = lists_calls handed given.own other.lists in
    let both : BothTell content (calls ++ []) (others ++ []) =
    subst (λ those. BothTell content those (others ++ [])) (sym (append-nil calls)) (subst (λ those. BothTell content calls those) (sym (append-nil others)) (tells, told)) in
    let heard = lists_same (BothTell content) (both_alike content) handed given.own one.lists other.lists had [] [] first (some_heard (given_heard handed given.own other.lists) own second) both in
    same_lists (given_heard handed given.own other.lists) had own heard.0 second

abbrev status_of : AllStats → ℕ
status_of stats = if has_errors stats then 4 else 0

pub status_law : LevelKeepsStatus
status_law given level content count one other had own report more heard is told is_more =
    let leveled = command_at level (command_by given.command had) in
    let tells = tells_both given content one had count heard in
    let tells_more = tells_both (at_level level given) content other own count told in
    let same : had ≡ own = lists_alike given content one other had own is.comes.heard is_more.comes.heard tells.lists tells_more.lists in
    let reported : IsReport leveled one.found report = is_report_as (command_by given.command had) level one.found report is.is in
    let reported_more : IsReport leveled other.found more = subst (λ lists. IsReport (command_by (at_level level given).command lists) other.found more) (sym same) is_more.is in
    ap status_of
    (counted_alike leveled content one.found other.found (heard.begun.found ∙ sym told.begun.found) tells.found
    (subst (λ lists. AllByRecursion (TellsContent content) (calls_of (command_by (at_level level given).command lists) other.found)) (sym same) tells_more.found) report more reported reported_more)
