use Rattle.std.proofs.Common.{◌∙◌, sym, ap, subst, ◌++◌, [], ◌∷◌, append_assoc}
use Rattle.std.proofs.lemmas.Str.{IsCharBoundary-start}
use Rattle.spdx_terms.specs.Items.{wanted_after, items_of}
use Rattle.spdx_terms.specs.NextItem.{IsNext, StandsNext, items_behind}
use Rattle.spdx_terms.proofs.items.item_vec.Goals as goal

pub items-init : goal.items-init
items-init g c = record {
  border = IsCharBoundary-start c.args.text.now c.utf8.text;
  all = ap (λ xs. xs ++ items_of c.args.mode (g.C.Catalog.lists c.args.catalog.now) c.args.text.now) (sym c.new-items.ensures.items);
}

pub items-preserved : goal.items-preserved
items-preserved g c =
    let lists = g.C.Catalog.lists c.args.catalog.now in
    let it = c.in-Some.found in
    let next : StandsNext c.args.mode lists c.items.wanted c.items.place c.args.text.now it =
    subst (λ found. IsNext c.args.mode lists c.items.wanted c.items.place c.args.text.now found) c.in-Some.is c.in_ok-found.ensures in
    let more = items_behind c.args.mode lists (wanted_after c.items.wanted it.what) it.span.end c.args.text.now in
    record {
      border = next.border;
      all = c.items.invariant.all
          ∙ ap (λ xs. c.items.items.items ++ xs) next.items
          ∙ sym (append_assoc c.items.items.items (it ∷ []) more)
          ∙ ap (λ ys. ys ++ more) (sym c.in_ok-push.ensures.items)
          ∙ ap (λ w. c.push.new.self.items ++ items_behind c.args.mode lists w it.span.end c.args.text.now) (sym c.after-wanted.ensures);
    }
