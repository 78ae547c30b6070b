use Rattle.std.proofs.Common.{◌∙◌, ap, sym, rules}
use Rattle.std.specs.List.{list_any}
use Rattle.std.specs.Ordering.{is_lt}
use Rattle.std.proofs.lemmas.List.Sorted.{answers_always, ranks_by, list_any-IsPermutation}
use Rattle.graph_core.specs.selection.ExcludeOrder.{key_behind, key_order}
use Rattle.graph_core.proofs.selection.ExcludeLemmas.{any_map, key_order_total}
use Rattle.graph_core.proofs.selection.exclude.in_order.Goals as goal

pub returns : goal.returns
returns c =
    let refs = c.in_ok-refs.refs.items in
    let sorted = c.sort_by.new.self.items in
    record {
      same = λ test.
          sym (list_any-IsPermutation (λ spec. test spec.now) refs sorted c.in_ok-sort_by.ensures.permutation)
          ∙ any_map (λ spec. spec.now) test refs
          ∙ ap (list_any test) c.in_ok-refs.ensures;
      sorted = c.in_ok-sort_by.ensures.sorted (λ a b. is_lt (key_order (key_behind a) (key_behind b))) (ranks_by key_order_total key_behind) (answers_always _ _ _ (λ f a r g called. search rules));
    }
