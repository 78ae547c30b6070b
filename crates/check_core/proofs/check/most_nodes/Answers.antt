use Rattle.std.proofs.Common.{◌≤◌, subst, take, ℕ, arith}
use Rattle.std.proofs.lemmas.List.Elements.{All-more, All-weaker}
use Rattle.gather_core.specs.declared.summary.KrateLicense.{KrateLicense}
use Rattle.check_core.specs.Summary.{IsExpressionIn, nodes_in}
use Rattle.check_core.proofs.check.most_nodes.Goals as goal

pub licenses-preserved : goal.licenses-preserved
licenses-preserved c =
    let so_far = c.licenses.invariant in
    let place = c.licenses.license-index in
    let licenses = c.args.licenses.now in
    let license = c.license-item.result in
    let most = c.licenses.most in
    let next = c.larger-most.result in
    let grows : most ≤ next = c.larger-most.ensures.one in
    let fits : nodes_in license.lic_info ≤ next = subst (λ (n : ℕ). n ≤ next) c.nodes_in.ensures.nodes c.larger-most.ensures.other in
    record {
      most =
          All-more (λ (one : KrateLicense). nodes_in one.lic_info ≤ next) licenses place license c.licenses-test.true
          (All-weaker (λ (one : KrateLicense). nodes_in one.lic_info ≤ most) (λ (one : KrateLicense). nodes_in one.lic_info ≤ next) (λ one below. omega (arith, below, grows)) (take place licenses) so_far.most)
          (subst (λ (one : KrateLicense). nodes_in one.lic_info ≤ next) c.license-item.is fits);
      facts =
          All-more (λ (one : KrateLicense). IsExpressionIn one.lic_info) licenses place license c.licenses-test.true so_far.facts
          (subst (λ (one : KrateLicense). IsExpressionIn one.lic_info) c.license-item.is c.nodes_in.ensures.facts);
    }
