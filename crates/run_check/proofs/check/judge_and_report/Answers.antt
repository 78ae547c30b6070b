use Rattle.std.proofs.Common.{◌∙◌, ap, ap₂, map}
use Rattle.diag_core.specs.Overrides.{pack_overridden}
use Rattle.diag_core.specs.declared.overrides.ErrorSink.{ErrorSink}
use Rattle.check_core.specs.Check.{findings_of}
use Rattle.check_core.specs.Reports.{verdicts_of}
use Rattle.check_core.specs.Summary.{gathered_of_licenses}
use Rattle.run_check.specs.declared.check.CheckedCrates.{CheckedCrates}
use Rattle.run_check.proofs.check.judge_and_report.Goals as goal

pub returns-clause-check : goal.returns-clause-check
returns-clause-check c levels put =
    let verdicts = verdicts_of c.in_ok-crates.crates in
    let found = findings_of c.args.policy (gathered_of_licenses c.args.summary.nfos) verdicts in
    let packs = c.in_ok-crates.ensures.packs ∙ ap (λ (one : ErrorSink). map (pack_overridden one.overrides) found) c.new-sink.ensures ∙ put found in
    record {
      verdicts = verdicts;
      are = c.in_ok-crates.ensures.verdicts;
      is = ap₂ (λ crates findings. let it : CheckedCrates = record { policy = c.args.policy; crates = crates; findings = findings } in it) c.in_ok-crates.ensures.reports packs;
    }
