use Rattle.std.proofs.Common.{ℕ, List, rules, subst}
use Rattle.std.specs.List.Sorted.{IsPermutation}
use Rattle.std.specs.Cmp.Lexicographic.{slice_cmp, nat_list_cmp_total}
use Rattle.std.specs.Ordering.{nat_cmp, is_lt}
use Rattle.std.proofs.lemmas.List.Sorted.{IsPermutation-map, answers_always, ranks_by}
use Rattle.spdx_own_names.specs.IndexView.{meanings_listed}
use Rattle.spdx_own_names.specs.declared.meanings.Meaning.{Meaning}
use Rattle.spdx_own_names.proofs.ordered.in_order.Goals as goal

pub returns-clause-same : goal.returns-clause-same
returns-clause-same c =
    subst (λ (pairs : List (List ℕ × List ℕ)). IsPermutation pairs (meanings_listed c.sort_by.new.self.items)) c.in_ok-all.ensures
    (IsPermutation-map (λ (meaning : Meaning). (meaning.text, meaning.name)) c.in_ok-all.all.items c.sort_by.new.self.items c.in_ok-sort_by.ensures.permutation)

pub returns-clause-sorted : goal.returns-clause-sorted
returns-clause-sorted c =
    c.in_ok-sort_by.ensures.sorted (λ a b. is_lt (slice_cmp nat_cmp a.text b.text)) (ranks_by nat_list_cmp_total (λ (meaning : Meaning). meaning.text)) (answers_always _ _ _ (λ f a r g called. search rules))
