use Rattle.std.proofs.Common.{◌∙◌, ◌++◌, ◌∷◌, [], ap, nat_cmp}
use Rattle.std.specs.BTreeMap.{insert_entry}
use Rattle.std.specs.Cmp.Lexicographic.{slice_cmp}
use Rattle.run_list_text.proofs.GroupLemmas.{name_first}
use Rattle.run_list_text.proofs.grouped.add_first.Goals as goal

pub returns : goal.returns
returns c =
    let before = c.args.map.now.entries in
    let names = c.push.new.self in
    name_first before c.insert.new.self.entries c.args.license.now c.args.name names c.requires
    (c.in_ok-insert.ensures.entries ∙ ap (λ license. insert_entry (slice_cmp nat_cmp) before license names) (c.in_ok-license.ensures ∙ c.as_str.ensures))
    (c.in_ok-push.ensures.ok ∙ ap (λ texts. texts ++ c.args.name ∷ []) c.new-names.ensures)
