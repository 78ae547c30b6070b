use Rattle.std.proofs.Common.{◌∙◌, rules, tests}
use Rattle.std.proofs.lemmas.Iterator.{YieldsList-from_slice}
use Rattle.std.proofs.lemmas.Iterator.Consumers.{YieldsList-from_filter, count_from_yields_List}
use Rattle.std.proofs.lemmas.List.Sums.{length-filter}
use Rattle.check_core.specs.declared.report.CrateReport.{CrateReport}
use Rattle.run_sample.specs.Lines.{is_unlicensed}
use Rattle.run_sample.proofs.lines.unlicensed_in.Goals as goal

pub returns : goal.returns
returns c =
    count_from_yields_List c.filter.result c.count.result c.count.ensures.ran
    (YieldsList-from_filter _ (λ (krate : CrateReport). is_unlicensed krate.verdict) (YieldsList-from_slice c.args.crates.now (cc)) c.filter.ensures.closure (λ x r q k. search (rules, tests)))
    ∙ length-filter (λ (krate : CrateReport). is_unlicensed krate.verdict) c.args.crates.now
