use Rattle.std.proofs.Common.{◌≡◌, ◌++◌, ◌∙◌, OnOk, ap, codes, rules, subst}
use Rattle.run_list_text.specs.Listed.{has_none}
use Rattle.run_list_text.specs.Listing.{mark_if, marks, plain_text}
use Rattle.run_list_text.proofs.MarkLemmas.{four_pieces}
use Rattle.run_list_text.proofs.table.CrateRowsLinesListedCrate.push.Goals as goal

-- the name, the columns, the last column and the line's end
pub returns-clause-ok : goal.returns-clause-ok
returns-clause-ok c =
    let out = c.args.out.now.items in
    let columns = c.args.self.now.columns.now in
    let listed = c.args.item.now in
    let name : c.as_str.result.now ≡ listed.name = search rules in
    let licenses : c.items-licenses.result.now ≡ listed.licenses = search rules in
    let last : c.mark_if.result.now ≡ mark_if (has_none listed.licenses) = search rules in
    subst (λ row. OnOk c.push_text-2.result (c.push_text-2.new.out.items ≡ row))
    (four_pieces out (plain_text listed.name) (marks columns listed.licenses) (mark_if (has_none listed.licenses)) (codes "\n")
    c.push_plain.new.out.items c.push_marks.new.out.items c.push_text.new.out.items
    (c.in_ok-push_plain.ensures.ok ∙ ap (λ text. out ++ plain_text text) name)
    (c.in_ok-push_marks.ensures.ok ∙ ap (λ texts. c.push_plain.new.out.items ++ marks columns texts) licenses)
    (c.in_ok-push_text.ensures.ok ∙ ap (λ text. c.push_marks.new.out.items ++ text) last))
    c.push_text-2.ensures.ok
