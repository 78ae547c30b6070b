use Rattle.policy_core.specs.validate.Valid.{clarification_judged}
use Rattle.policy_core.proofs.validate.Clarified.{clarification_kept, clarification_told}
use Rattle.policy_core.proofs.validate.clarifications.judge_clarifications.Goals as goal

pub clarifications-preserved : goal.clarifications-preserved
clarifications-preserved g c =
    let judge = clarification_judged (g.C.Catalog.lists c.args.catalog.now) c.args.file c.args.overlay in
    let so_far = c.clarifications.yielded in
    let clarification = c.in-Some.clarification in
    let judged = c.in_ok-judged.judged in
    record {
      kept =
          clarification_kept judge so_far clarification judged c.args.valid.now c.clarifications.valid c.push_judged.new.kept
          c.in_ok-judged.ensures c.in_ok-push_judged.ensures.kept c.clarifications.invariant.kept;
      told =
          clarification_told judge so_far clarification judged c.args.found.now c.clarifications.found c.push_judged.new.found
          c.in_ok-judged.ensures c.in_ok-push_judged.ensures.told c.clarifications.invariant.told;
    }
