-- What following the edges out of a place changes.
use Rattle.std.proofs.Common.{◌≡◌, ℕ, zero, suc, ◌<◌, ◌⊎◌, true, List, [], ◌∷◌, length, slice_index_or, Contains, All, refl, sym, ◌∙◌, subst, inl, inr, arith}
use Rattle.std.specs.List.{AllByRecursion}
use Rattle.graph_core.specs.declared.edge.Edge.{Edge}
use Rattle.graph_core.specs.declared.edge.Kinds.{Kinds}
use Rattle.graph_core.specs.declared.selection.standing.Standing.{Standing}
use Rattle.graph_core.specs.selection.Places.{FrontierView, is_marked, passes, frontier_with, follow}
use Rattle.graph_core.proofs.selection.PutLemmas.{left_to_do, put-counted, put-left, put-keeps, put-waits, put-waiting, put-new, put-found, put-within}

-- one of the edges, which passes, leads to the place
pub record IsEnd (standings : List Standing) (counting : Kinds) (edges : List Edge) (place : ℕ) : Type 0 where
  pub edge : Edge
  pub one : Contains edges edge
  pub passes_it : passes standings counting edge ≡ true
  pub leads : edge.to ≡ place

some-first : (edges : List Edge) (edge : Edge) → 0 < length (edge ∷ edges)
some-first edges edge = omega arith

contains-later : (first : Edge) (edges : List Edge) (edge : Edge) → Contains edges edge → Contains (first ∷ edges) edge
contains-later first edges edge (k, in_list, at) = (suc k, omega arith, at)

module _ (standings : List Standing) (counting : Kinds) (n : ℕ) where
  abbrev Within : List Edge → Type 0
  Within edges = AllByRecursion (λ edge. edge.to < n) edges

  abbrev next : Edge → FrontierView → FrontierView
  next edge seen = frontier_with edge.to (passes standings counting edge) seen

  below : (edge : Edge) (seen : FrontierView) → length seen.marks ≡ n → edge.to < n → edge.to < length seen.marks
  below edge seen counted within = subst (λ m. edge.to < m) (sym counted) within

  still : (edge : Edge) (seen : FrontierView) → length seen.marks ≡ n → length (next edge seen).marks ≡ n
  still edge seen counted = put-counted edge.to (passes standings counting edge) seen ∙ counted

  pub follow-counted : (edges : List Edge) (seen : FrontierView) → length seen.marks ≡ n → length (follow standings counting seen edges).marks ≡ n
  follow-counted [] seen counted = counted
  follow-counted (edge ∷ edges) seen counted = follow-counted edges (next edge seen) (still edge seen counted)

  pub follow-left : (edges : List Edge) (seen : FrontierView) → length seen.marks ≡ n → Within edges
      → left_to_do (follow standings counting seen edges) ≡ left_to_do seen
  follow-left [] seen counted within = refl
  follow-left (edge ∷ edges) seen counted within =
      follow-left edges (next edge seen) (still edge seen counted) within.1
      ∙ put-left edge.to (passes standings counting edge) seen (below edge seen counted within.0)

  pub follow-keeps : (edges : List Edge) (seen : FrontierView) (q : ℕ) → length seen.marks ≡ n → Within edges
      → is_marked seen.marks q ≡ true → is_marked (follow standings counting seen edges).marks q ≡ true
  follow-keeps [] seen q counted within marked = marked
  follow-keeps (edge ∷ edges) seen q counted within marked =
      follow-keeps edges (next edge seen) q (still edge seen counted) within.1
      (put-keeps edge.to (passes standings counting edge) seen q (below edge seen counted within.0) marked)

  pub follow-waits : (edges : List Edge) (seen : FrontierView) (q : ℕ) → Contains seen.waiting q
      → Contains (follow standings counting seen edges).waiting q
  follow-waits [] seen q waits = waits
  follow-waits (edge ∷ edges) seen q waits =
      follow-waits edges (next edge seen) q (put-waits edge.to (passes standings counting edge) seen q waits)

  pub follow-within : (edges : List Edge) (seen : FrontierView) → Within edges → All (λ q. q < n) seen.waiting
      → All (λ q. q < n) (follow standings counting seen edges).waiting
  follow-within [] seen within waiting = waiting
  follow-within (edge ∷ edges) seen within waiting =
      follow-within edges (next edge seen) within.1 (put-within edge.to (passes standings counting edge) seen n within.0 waiting)

  pub follow-waiting : (edges : List Edge) (seen : FrontierView) (q : ℕ) → length seen.marks ≡ n → Within edges
      → ((place : ℕ) → Contains seen.waiting place → is_marked seen.marks place ≡ true)
      → Contains (follow standings counting seen edges).waiting q → is_marked (follow standings counting seen edges).marks q ≡ true
  follow-waiting [] seen q counted within marked waits = marked q waits
  follow-waiting (edge ∷ edges) seen q counted within marked waits =
      follow-waiting edges (next edge seen) q (still edge seen counted) within.1
      (λ place here. elim (put-waiting edge.to (passes standings counting edge) seen place (below edge seen counted within.0) here) [
        | inl before ↦ put-keeps edge.to (passes standings counting edge) seen place (below edge seen counted within.0) (marked place before)
        | inr now ↦ now
      ])
      waits

  -- each edge that passes leads to a place that is marked then
  pub follow-found : (edges : List Edge) (seen : FrontierView) (k : ℕ) (edge : Edge) → length seen.marks ≡ n → Within edges
      → k < length edges → slice_index_or edges k edge ≡ edge → passes standings counting edge ≡ true
      → is_marked (follow standings counting seen edges).marks edge.to ≡ true
  follow-found [] seen k edge counted within in_list at pass = absurd (omega arith)
  follow-found (first ∷ edges) seen zero edge counted within in_list at pass =
      subst (λ (e : Edge). is_marked (follow standings counting (next first seen) edges).marks e.to ≡ true) at
      (follow-keeps edges (next first seen) first.to (still first seen counted) within.1
      (put-found first.to (passes standings counting first) seen (below first seen counted within.0)
      (subst (λ (e : Edge). passes standings counting e ≡ true) (sym at) pass)))
  follow-found (first ∷ edges) seen (suc k) edge counted within in_list at pass =
      follow-found edges (next first seen) k edge (still first seen counted) within.1 (omega arith) at pass

  -- a place that is marked then was marked before, or it waits, and an edge that passes leads to it
  pub follow-new : (edges : List Edge) (seen : FrontierView) (q : ℕ) → is_marked (follow standings counting seen edges).marks q ≡ true
      → (is_marked seen.marks q ≡ true) ⊎ (IsEnd standings counting edges q × Contains (follow standings counting seen edges).waiting q)
  follow-new [] seen q marked = inl marked
  follow-new (edge ∷ edges) seen q marked =
      elim (follow-new edges (next edge seen) q marked) [
        | inl before ↦ elim (put-new edge.to (passes standings counting edge) seen q before) [
          | inl first ↦ inl first
          | inr found ↦ inr (
            record { edge = edge; one = (0, some-first edges edge, refl); passes_it = found.1; leads = sym found.0 },
            follow-waits edges (next edge seen) q found.2,
          )
        ]
        | inr later ↦ inr (
          record { edge = later.0.edge; one = contains-later edge edges later.0.edge later.0.one; passes_it = later.0.passes_it; leads = later.0.leads },
          later.1,
        )
      ]
