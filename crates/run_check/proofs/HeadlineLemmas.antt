-- The headline, from what a check answers and writes.
use Rattle.std.proofs.Common.{◌≡◌, ◌∙◌, inl, inr, false, [], ◌∷◌, Some, All, Result, Ok, Err, sym, ap, subst}
use Rattle.std.specs.List.{sum_by}
use Rattle.std.proofs.lemmas.List.Elements.{All-from_recursion}
use Rattle.tree_core.specs.Content.{Content}
use Rattle.tree_core.specs.Faults.{Rose}
use Rattle.diag_core.specs.declared.severity.Severity.TheVariants as severity
use Rattle.policy_core.specs.valid.View.{policy_of}
use Rattle.check_core.specs.unused.Unused.{last_pack}
use Rattle.check_core.specs.Check.{all_hits, findings_of}
use Rattle.tree_core.specs.texts.Cause.{Cause, no_memory, failed_read, refused_write}
use Rattle.tree_core.specs.texts.Cause as causes
use Rattle.diag_stats.specs.Counts.{count_in}
use Rattle.diag_stats.specs.ExitCode.{has_errors}
use Rattle.run_overrides.specs.Levels.{HasNoOverrides}
use Rattle.run_overrides.proofs.LevelLemmas.{packs_kept}
use Rattle.run_found.specs.declared.error.Error.{Error}
use Rattle.run_found.specs.Error.{EndsLawful, MayEndLawful, cause_of}
use Rattle.run_found.specs.Hearing.{RequestHearing, TreeSeen}
use Rattle.run_found.specs.Written.{SinkSeen}
use Rattle.run_command.specs.Found.{turns_in}
use Rattle.run_command.specs.Given.{CommandArguments}
use Rattle.run_command.proofs.LawfulLemmas.{NoRefusal, no_refusal_read, no_refusal_told, stops_lawful}
use Rattle.run_check.specs.declared.report.Report.{Report}
use Rattle.run_check.specs.Found.{all_gathered}
use Rattle.run_check.specs.Headline.{CheckHeadline, CheckHeadlineRead, ZeroMeansNoneRejected, is_against}
use Rattle.run_check.specs.Report.{IsReport, verdicts_in}
use Rattle.run_check.specs.Script.{CutsFindings, WritesBehind, WritesCheck, findings_text}
use Rattle.run_check.proofs.CountLemmas.{none_against, none_counted}

-- ---- how a lawful check ends

-- a refused write is a fault of the sink
cut_lawful : (given : CommandArguments) (tree : TreeSeen) (err : SinkSeen) → (Rose err.before err.after → ⊥) → (cause : Cause) → CutsFindings given tree err cause → MayEndLawful cause
cut_lawful given tree err quiet no_memory cuts = tt
cut_lawful given tree err quiet causes.told cuts = cuts
cut_lawful given tree err quiet (failed_read first last) cuts = cuts
cut_lawful given tree err quiet (refused_write first last) cuts = absurd (quiet cuts.2)

-- input that nothing refuses ends, without a fault, in a report or in want of memory
pub ends_lawful : (given : CommandArguments) (tree : TreeSeen) (err : SinkSeen) (answer : Result Report Error) → WritesCheck given tree err answer → NoRefusal given tree
    → (Rose err.before err.after → ⊥) → EndsLawful answer
ends_lawful given tree err (Ok report) writes none quiet = tt
ends_lawful given tree err (Err error) (inl stops) none quiet = stops_lawful given tree err none quiet error stops
ends_lawful given tree err (Err error) (inr cuts) none quiet = cut_lawful given tree err quiet (cause_of error) cuts

-- without overrides no verdict is against a crate where no finding is an error
clear_counts : (given : CommandArguments) (hearing : RequestHearing) (report : Report) → IsReport given hearing report → HasNoOverrides given.options.levels → has_errors report.stats ≡ false
    → All (λ crate. is_against crate.verdict ≡ false) report.crates
clear_counts given hearing report asked none clear =
    let looked = all_gathered (turns_in given hearing report.policy) in
    let found = findings_of report.policy looked (verdicts_in report) in
    let last = last_pack report.policy (all_hits (policy_of report.policy) looked (verdicts_in report)) ∷ [] in
    All-from_recursion (λ crate. is_against crate.verdict ≡ false) report.crates
    (none_against (policy_of report.policy) looked report.crates last asked.tells.are
    (sym (ap (sum_by (count_in severity.Error)) (asked.tells.findings ∙ packs_kept given.options.levels none found))
    ∙ none_counted (sum_by (count_in severity.Error) report.findings) (sym (ap has_errors asked.verdicts.gives.stats) ∙ clear)))

-- ---- the headline

module _ (given : CommandArguments) (tree : TreeSeen) (err : SinkSeen) (answer : Result Report Error) (writes : WritesCheck given tree err answer) where
  reported : (report : Report) → answer ≡ Ok report → WritesBehind given tree err report (findings_text given report)
  reported report e = subst (WritesCheck given tree err) e writes

  clear : ZeroMeansNoneRejected given answer
  clear report e none counts = clear_counts given (reported report e).hearing report (reported report e).is none counts

  -- by what was read
  pub headline_read : CheckHeadlineRead given tree err answer
  headline_read = record {
    verdicts = λ report e. let own = reported report e in record { hearing = own.hearing; heard = own.heard; tells = own.is.verdicts };
    status = clear;
    lawful = λ hearing behind asked lawful quiet. ends_lawful given tree err answer writes (no_refusal_read given tree hearing behind asked lawful) quiet;
  }

  -- and so by the content, where the tree tells it
  pub headline_told : (content : Content) → tree.told ≡ Some content → CheckHeadline given content tree err answer
  headline_told content told = record {
    verdicts = λ report e.
        let own = reported report e in
        record {
          hearing = own.hearing;
          begun = own.heard.begun;
          counts = own.heard.made.counts;
          says = own.heard.made.says content told;
          tells = own.is.verdicts;
        };
    status = clear;
    lawful = λ hearing asked lawful quiet. ends_lawful given tree err answer writes (no_refusal_told given content tree hearing asked told lawful) quiet;
  }
