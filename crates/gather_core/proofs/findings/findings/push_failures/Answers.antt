use Rattle.gather_core.proofs.findings.FindingLemmas.{failure_more}
use Rattle.gather_core.proofs.findings.findings.push_failures.Goals as goal

pub words-preserved : goal.words-preserved
words-preserved c =
    failure_more c.args.file c.args.diags.now c.words.diags c.push_failure.new.diags c.args.words.now c.args.spans.now c.words.place _ c.span_at.result
    c.in_ok-push_failure.ensures c.span_at.ensures c.words-test.true c.words.invariant
