-- There is one shortest walk to a crate.
use Rattle.std.proofs.Common.{◌≡◌, ℕ, ◌≤◌, true, false, List, length, IsTrue, is_le, Option, Some, None, refl, sym, ◌∙◌, ap, subst, Ordering, Less, Equal, Greater, arith}
use Rattle.std.specs.Cmp.{IsTotalOrder}
use Rattle.std.specs.Cmp.Lexicographic.{lists_total, nat_list_cmp_total}
use Rattle.std.specs.FinMap.{IsAntisymmetric, nat_cmp-IsAntisymmetric, slice_cmp-IsAntisymmetric}
use Rattle.std.specs.Ordering.{ordering_reverse}
use Rattle.graph_core.specs.declared.edge.DepKind.{DepKind}
use Rattle.graph_core.specs.Metadata.{Graph}
use Rattle.graph_core.specs.selection.Choice.{Choice}
use Rattle.graph_walk.specs.Shortest.{IsShortest, ShortestIsOne, ShortestWalk, walk_order}

order-total : IsTotalOrder walk_order
order-total = lists_total nat_list_cmp_total

order-apart : IsAntisymmetric walk_order
order-apart = slice_cmp-IsAntisymmetric (slice_cmp-IsAntisymmetric nat_cmp-IsAntisymmetric)

false-true : false ≡ true → ⊥
false-true e = cc

both-ways : (o p : Ordering) → o ≡ ordering_reverse p → IsTrue (is_le o) → IsTrue (is_le p) → o ≡ Equal
both-ways o Less turned one other = absurd (false-true (sym (ap is_le turned) ∙ one))
both-ways o Equal turned one other = turned
both-ways o Greater turned one other = absurd (false-true other)

module _ (graph : Graph) (choice : Choice) (named : Option DepKind) (id : List ℕ) where
  same-crates : (one other : List (List ℕ)) → IsShortest graph choice named id one → IsShortest graph choice named id other → one ≡ other
  same-crates one other a b =
      let less : length a.walk.steps ≤ length b.walk.steps = a.shortest b.walk in
      let more : length b.walk.steps ≤ length a.walk.steps = b.shortest a.walk in
      let long : length b.walk.steps ≡ length a.walk.steps = omega arith in
      let up : IsTrue (is_le (walk_order one other)) =
      subst (λ crates. IsTrue (is_le (walk_order one crates))) b.visits (a.first b.walk long) in
      let down : IsTrue (is_le (walk_order other one)) =
      subst (λ crates. IsTrue (is_le (walk_order other crates))) a.visits (b.first a.walk (sym long)) in
      order-apart one other (both-ways (walk_order one other) (walk_order other one) (order-total.antisymm one other) up down)

  same-walks : (one other : Option (List (List ℕ))) → ShortestWalk graph choice named id one → ShortestWalk graph choice named id other
      → one ≡ other
  same-walks None None a b = refl
  same-walks None (Some other) a b = absurd (a b.walk)
  same-walks (Some one) None a b = absurd (b a.walk)
  same-walks (Some one) (Some other) a b = ap Some (same-crates one other a b)

pub shortest-is-one : ShortestIsOne
shortest-is-one graph choice named id one other a b = same-walks graph choice named id one other a b
