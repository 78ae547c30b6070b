use Rattle.std.proofs.Common.{subst, List}
use Rattle.std.specs.List.{All}
use Rattle.gather_core.specs.declared.summary.KrateLicense.{KrateLicense}
use Rattle.policy_core.specs.valid.View.{policy_of}
use Rattle.check_core.specs.Summary.{IsExpressionIn}
use Rattle.check_core.proofs.LabelLemmas.{all_point, any_gain}
use Rattle.check_core.proofs.check.check.Goals as goal

pub returns-clause-labels : goal.returns-clause-labels
returns-clause-labels g c =
    let files = c.args.ctx.now.files.now in
    let policy = c.args.ctx.now.cfg in
    let licenses = c.args.summary.nfos in
    let facts = subst (λ (all : List KrateLicense). All (λ (license : KrateLicense). IsExpressionIn license.lic_info) all) c.items.ensures c.most_nodes-nodes.ensures.facts in
    let points = all_point files (policy_of policy) licenses facts c.requires.placed in
    any_gain files policy licenses c.args.sink.now c.judge_with_room.new.sink c.judge_with_room.result c.requires.placed points c.judge_with_room.ensures.packs
    c.judge_with_room.ensures.front

pub returns-clause-terms : goal.returns-clause-terms
returns-clause-terms g c =
    let licenses = c.args.summary.nfos in
    let facts = subst (λ (all : List KrateLicense). All (λ (license : KrateLicense). IsExpressionIn license.lic_info) all) c.items.ensures c.most_nodes-nodes.ensures.facts in
    all_point c.args.ctx.now.files.now (policy_of c.args.ctx.now.cfg) licenses facts c.requires.placed
