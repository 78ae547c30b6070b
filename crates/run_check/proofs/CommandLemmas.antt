-- What the command `check` promises, where a part of the request is not carried, and where all of it is.
use Rattle.std.proofs.Common.{◌≡◌, ◌≤◌, ◌∙◌, arith, refl, sym, ap, inl, inr, ℕ, List, Option, Some, None, Result, Ok, Err, IfOk, IfErr}
use Rattle.tree_core.specs.Call.{Call}
use Rattle.tree_core.specs.Content.{Content}
use Rattle.tree_core.proofs.MadeLemmas.{made_none, some_made, some_none}
use Rattle.tree_core.specs.texts.Cause.{Cause, ReadCounts, no_memory, failed_read, refused_write}
use Rattle.tree_core.specs.texts.Cause as causes
use Rattle.graph_workspace.specs.declared.error.UnsupportedPart.{UnsupportedPart}
use Rattle.run_found.specs.declared.error.Error.{Error}
use Rattle.run_found.specs.declared.error.Error.TheVariants.{NotCarried}
use Rattle.run_found.specs.Error.{cause_of}
use Rattle.run_found.specs.Hearing.{HasMade, TreeSeen, tree_seen}
use Rattle.run_found.specs.Written.{SinkSeen, sink_seen}
use Rattle.run_command.specs.Given.{CommandArguments}
use Rattle.run_command.proofs.StopLemmas.{stops_made}
use Rattle.run_check.specs.declared.report.Report.{Report}
use Rattle.run_check.specs.Command.{IsCheckRun}
use Rattle.run_check.specs.Named.{FailedReadsRise, ReportsCertificates, ReportsFindings, ReportsOwnReads, ReportsPolicy, ReportsUnneeded}
use Rattle.run_check.specs.Report.{LabelsLie}
use Rattle.run_check.specs.Script.{CutsFindings, WritesBehind, WritesCheck, findings_text}
use Rattle.run_check.proofs.HeadlineLemmas.{headline_read, headline_told}
use Rattle.run_check.proofs.NamedLemmas.{certificates_of, findings_of_report, own_of, policy_of_report, rises_of, unneeded_of}

-- ---- a part is not carried

no_report : (error : Error) (report : Report) → ◌≡◌ {A = Result Report Error} (Err error) (Ok report) → ⊥
no_report error report e = cc

apart : (own : Option UnsupportedPart) (what : UnsupportedPart) → own ≡ Some what → own ≡ None → ⊥
apart own what some none = let both : Some what ≡ None = sym some ∙ none in cc

abbrev refused_for : UnsupportedPart → Result Report Error
refused_for what = Err (NotCarried what)

same_refusal : (one other : UnsupportedPart) (own : Option UnsupportedPart) → own ≡ Some one → own ≡ Some other → refused_for one ≡ refused_for other
same_refusal one other own first second = ap refused_for (some_same (sym first ∙ second))
  where
    some_same : ◌≡◌ {A = Option UnsupportedPart} (Some one) (Some other) → one ≡ other
    some_same e = cc

module _ (given : CommandArguments) (told : Option Content) (count : ℕ) (calls : List Call) (held : Option (List ℕ)) (faults : ℕ) (what : UnsupportedPart) (is : given.options.unsupported ≡ Some what) where
  pub unsupported_run : IsCheckRun given (tree_seen told told count count calls calls) (sink_seen held held faults faults) (Err (NotCarried what))
  unsupported_run = record {
    unsupported = λ other is_other. (same_refusal what other given.options.unsupported is is_other, made_none told count calls, refl);
    written = λ carried. absurd (apart given.options.unsupported what is carried);
    made = some_none told count calls;
    counts = tt;
    later = omega arith;
    labels = tt;
    headline_read = record {
      verdicts = λ report e. absurd (no_report (NotCarried what) report e);
      status = λ report e none clear. absurd (no_report (NotCarried what) report e);
      lawful = λ hearing behind asked lawful quiet. absurd (apart given.options.unsupported what is lawful.asks.carried);
    };
    headline = λ content tells. record {
      verdicts = λ report e. absurd (no_report (NotCarried what) report e);
      status = λ report e none clear. absurd (no_report (NotCarried what) report e);
      lawful = λ hearing asked lawful quiet. absurd (apart given.options.unsupported what is lawful.asks.carried);
    };
    own_reads = tt;
    rises = tt;
    reported_policy = tt;
    reported_findings = tt;
    hits = tt;
    certificates = tt;
  }

-- ---- all of it is carried

module _ (given : CommandArguments) (tree : TreeSeen) (err : SinkSeen) where
  cut_made : (cause : Cause) → CutsFindings given tree err cause → HasMade tree
  cut_made no_memory cuts = some_made cuts.writes.heard.made
  cut_made causes.told cuts = absurd cuts
  cut_made (failed_read first last) cuts = absurd cuts
  cut_made (refused_write first last) cuts = some_made cuts.3.writes.heard.made

  -- calls were made, however a check ends
  pub writes_made : (answer : Result Report Error) → WritesCheck given tree err answer → HasMade tree
  writes_made (Ok report) writes = some_made writes.heard.made
  writes_made (Err error) (inl stops) = stops_made given tree err error stops
  writes_made (Err error) (inr cuts) = cut_made (cause_of error) cuts

  -- what is so of a report that is asked for is so of what is answered
  of_report : (P : Report → Type 0) → ((report : Report) → WritesBehind given tree err report (findings_text given report) → P report) → (answer : Result Report Error) → WritesCheck given tree err answer
      → IfOk answer P
  of_report P each (Ok report) writes = each report writes
  of_report P each (Err error) writes = tt

  pub carried_run : given.options.unsupported ≡ None → (answer : Result Report Error) → WritesCheck given tree err answer
      → IfErr answer (λ error. ReadCounts tree.count_before tree.count_before tree.count_after (cause_of error)) → err.before ≤ err.after → LabelsLie answer → IsCheckRun given tree err answer
  carried_run carried answer writes counts later labels = record {
    unsupported = λ what is. absurd (apart given.options.unsupported what is carried);
    written = λ none. writes;
    made = writes_made answer writes;
    counts = counts;
    later = later;
    labels = labels;
    headline_read = headline_read given tree err answer writes;
    headline = headline_told given tree err answer writes;
    own_reads = of_report (ReportsOwnReads given tree) (λ report own. own_of given tree own.hearing report own.heard own.is) answer writes;
    rises = of_report (FailedReadsRise tree) (λ report own. rises_of given tree own.hearing report own.heard own.is) answer writes;
    reported_policy = of_report (ReportsPolicy given tree) (λ report own. policy_of_report given tree own.hearing report own.heard own.is) answer writes;
    reported_findings = of_report (ReportsFindings given tree) (λ report own. findings_of_report given tree own.hearing report own.heard own.is) answer writes;
    hits = of_report (ReportsUnneeded given tree) (λ report own. unneeded_of given tree own.hearing report own.heard own.is) answer writes;
    certificates = of_report (ReportsCertificates given tree) (λ report own. certificates_of given tree own.hearing report own.heard own.is) answer writes;
  }
