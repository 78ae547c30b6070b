-- A check and its summary: which calls were made, how it ends over lawful input, and what it is never refused with.
use Rattle.std.proofs.Common.{◌≡◌, ◌⊎◌, ◌≤◌, inl, inr, refl, sym, subst, ℕ, Bool, List, Option, Result, Ok, Err, arith}
use Rattle.std.specs.Prelude.{⊤}
use Rattle.tree_core.specs.Faults.{Rose}
use Rattle.tree_core.specs.Script.{OutputSink, RefusedBy, Script, SinkTexts, to_err, to_out}
use Rattle.tree_core.proofs.MadeLemmas.{some_made}
use Rattle.tree_core.specs.texts.Cause.{Cause, no_memory, failed_read, refused_write}
use Rattle.tree_core.specs.texts.Cause as causes
use Rattle.tree_core.specs.declared.texts.fault.ReadFault.TheVariants.{Absent}
use Rattle.diag_stats.specs.Summary.{summary_of, target_of}
use Rattle.run_found.specs.declared.error.Error.{Error}
use Rattle.run_found.specs.declared.error.Error.TheVariants.{ConfigRead}
use Rattle.run_found.specs.Error.{EndsLawful, MayEndLawful, cause_of}
use Rattle.run_found.specs.Hearing.{HasMade, TreeSeen}
use Rattle.run_found.specs.Written.{SinkSeen}
use Rattle.run_command.specs.Given.{CommandArguments}
use Rattle.run_command.proofs.AbsentLemmas.{stops_never}
use Rattle.run_command.proofs.LawfulLemmas.{NoRefusal, stops_lawful}
use Rattle.run_command.proofs.StopLemmas.{stops_made}
use Rattle.run_check.specs.declared.report.Report.{Report}
use Rattle.run_check.specs.Script.{CutsFindings, WritesCheck}
use Rattle.deny_run.specs.Check.{Checks, CutsSummary, WritesSummary, refused, reported, sink_faults}

-- a count that is not above another one rose where that did
pub rose_less : (before count after : ℕ) → count ≤ after → Rose before count → Rose before after
rose_less before count after later (inl less) = inl (omega arith)
rose_less before count after later (inr last) = inr (omega (arith, last, later))

module _ (given : CommandArguments) (tree : TreeSeen) where
  made_by_cut : (err : SinkSeen) (cause : Cause) → CutsFindings given tree err cause → HasMade tree
  made_by_cut err no_memory cut = some_made cut.writes.heard.made
  made_by_cut err (refused_write first last) cut = some_made cut.3.writes.heard.made
  made_by_cut err causes.told cut = absurd cut
  made_by_cut err (failed_read first last) cut = absurd cut

  written_made : (err : SinkSeen) (answer : Result Report Error) → WritesCheck given tree err answer → HasMade tree
  written_made err (Ok report) writes = some_made writes.heard.made
  written_made err (Err error) (inl stops) = stops_made given tree err error stops
  written_made err (Err error) (inr cut) = made_by_cut err (cause_of error) cut

  module _ (show : Bool) (out err : SinkSeen) where
    pub checks_made : (answer : Result Report Error) → Checks show out err given tree answer → HasMade tree
    checks_made answer (refused error writes silent is) = written_made err (Err error) writes
    checks_made answer (reported report written count early late writes summary) = some_made writes.heard.made

    pub checks_never : Checks show out err given tree (Err (ConfigRead Absent)) → ⊥
    checks_never (refused error writes silent is) = by_end (subst (λ own. WritesCheck given tree err (Err own)) (same_error is) writes)
      where
        same_error : ◌≡◌ {A = Result Report Error} (Err (ConfigRead Absent)) (Err error) → error ≡ ConfigRead Absent
        same_error e = cc

        by_end : WritesCheck given tree err (Err (ConfigRead Absent)) → ⊥
        by_end (inl stops) = stops_never given tree err stops
        by_end (inr cut) = cut
    checks_never (reported report written count early late writes summary) = summary

    -- ---- over lawful input

    module _ (apart : NoRefusal given tree) (out_quiet : Rose out.before out.after → ⊥) (err_quiet : Rose err.before err.after → ⊥) where
      by_findings : (cause : Cause) → CutsFindings given tree err cause → MayEndLawful cause
      by_findings no_memory cut = tt
      by_findings (refused_write first last) cut = absurd (err_quiet cut.2)
      by_findings causes.told cut = cut
      by_findings (failed_read first last) cut = cut

      by_error : (error : Error) → WritesCheck given tree err (Err error) → MayEndLawful (cause_of error)
      by_error error (inl stops) = stops_lawful given tree err apart err_quiet error stops
      by_error error (inr cut) = by_findings (cause_of error) cut

      no_fault : (target : OutputSink) (before after : ℕ) → RefusedBy (sink_faults out err) target before after → ⊥
      no_fault to_out before after by = out_quiet by.2
      no_fault to_err before after by = err_quiet (rose_less err.before after err.after by.1 (subst (λ n. Rose n after) by.0 by.2))

      by_summary : (target : OutputSink) (old : SinkTexts) (script : Script) (cause : Cause) → CutsSummary target out err old script cause → MayEndLawful cause
      by_summary target old script no_memory cut = tt
      by_summary target old script (refused_write before after) cut = absurd (no_fault cut.0.cut.target before after cut.0.cut.refused)
      by_summary target old script causes.told cut = cut
      by_summary target old script (failed_read before after) cut = cut

      by_answer : (report : Report) (written : Option (List ℕ)) (answer : Result Report Error) → WritesSummary given.request.log show report out err written answer → EndsLawful answer
      by_answer report written (Ok own) summary = tt
      by_answer report written (Err error) summary = by_summary (target_of given.request.log.format) _ (summary_of given.request.log.format given.request.log.log_level show report.stats) (cause_of error) summary

      pub checks_lawful : (answer : Result Report Error) → Checks show out err given tree answer → EndsLawful answer
      checks_lawful answer (refused error writes silent is) = subst (λ own. EndsLawful own) (sym is) (by_error error writes)
      checks_lawful answer (reported report written count early late writes summary) = by_answer report written answer summary
