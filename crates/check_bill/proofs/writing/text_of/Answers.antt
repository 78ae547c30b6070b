use Rattle.std.proofs.Common.{◌∙◌, ◌++◌, ap, ℕ, List, []}
use Rattle.check_bill.specs.declared.bill.BillPackage.{BillPackage}
use Rattle.check_bill.specs.Lines.{head_before, packages_from}
use Rattle.check_bill.proofs.Lines.{head_rest}
use Rattle.check_bill.proofs.writing.text_of.Goals as goal

pub returns : goal.returns
returns c =
    let bill = c.args.bill.now in
    let packages : List ℕ = packages_from 1 c.items.result.now in
    c.in_ok-push_packages.ensures
    ∙ ap (λ (text : List ℕ). text ++ packages) (c.in_ok-push_head.ensures ∙ ap (λ (text : List ℕ). text ++ head_before bill []) c.new-text.ensures.bytes)
    ∙ head_rest bill packages
    ∙ ap (λ (left : List BillPackage). head_before bill (packages_from 1 left)) c.items.ensures
