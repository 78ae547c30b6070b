-- What the search holds, and the walks that it stands for: one more that was found is one walk more, behind all others.
use Rattle.std.proofs.Common.{◌≡◌, ℕ, zero, suc, ◌+◌, ◌<◌, List, [], ◌∷◌, ◌++◌, fold, length, replicate, slice_set, slice_index_or, All, IfSome, Option, Some, None, is_some, true, false, refl, sym, ◌∙◌, ap, subst, inl, inr, arith}
use Rattle.std.specs.List.{AllByRecursion}
use Rattle.std.proofs.lemmas.Bool.{cases_eq}
use Rattle.std.proofs.lemmas.List.{length-append, get_or-map, get_or_append_left, get_or_push}
use Rattle.std.proofs.lemmas.List.Elements.{All-set, All-weaker, All-replicate, recursion_from_All}
use Rattle.std.proofs.lemmas.List.Sums.{fold-append}
use Rattle.graph_walk.specs.declared.search.Found.{Found}
use Rattle.graph_walk.specs.Search.{AreFound, best_at, best_of, found_walk, nothing_found, order_of, put, put_if, search_of, walk_behind, walk_of, with_found}

-- ---- the walks, one after the other

order-push : (found : List Found) (one : Found) → order_of (found ++ one ∷ []) ≡ with_found (order_of found) one
order-push found one = fold-append with_found [] found (one ∷ [])

length-fold : (found : List Found) (start : List (List ℕ)) → length (fold with_found start found) ≡ length start + length found
length-fold [] start = omega arith
length-fold (one ∷ found) start =
    let more : length (start ++ walk_of start one ∷ []) ≡ length start + 1 = length-append start (walk_of start one ∷ []) in
    let rest : length (fold with_found (with_found start one) found) ≡ length (with_found start one) + length found =
    length-fold found (with_found start one) in
    omega arith

pub length-order : (found : List Found) → length (order_of found) ≡ length found
length-order found = let all : length (order_of found) ≡ 0 + length found = length-fold found [] in omega arith

fold-keeps : (found : List Found) (start : List (List ℕ)) (at : ℕ) → at < length start
    → slice_index_or (fold with_found start found) at [] ≡ slice_index_or start at []
fold-keeps [] start at below = refl
fold-keeps (one ∷ found) start at below =
    let more : length (start ++ walk_of start one ∷ []) ≡ length start + 1 = length-append start (walk_of start one ∷ []) in
    fold-keeps found (with_found start one) at (omega arith) ∙ get_or_append_left start (walk_of start one ∷ []) [] at below

-- what leads to it is the same in a longer list
behind-keeps : (start order : List (List ℕ)) (by : Option ℕ) → IfSome by (λ at. at < length start)
    → ((at : ℕ) → at < length start → slice_index_or order at [] ≡ slice_index_or start at [])
    → walk_behind start by ≡ walk_behind order by
behind-keeps start order None earlier keeps = refl
behind-keeps start order (Some at) earlier keeps = sym (keeps at earlier)

fold-at : (found : List Found) (start : List (List ℕ)) (at : ℕ) (other : Found) → at < length found
    → IfSome (slice_index_or found at other).by (λ by. by < length start + at)
    → slice_index_or (fold with_found start found) (length start + at) []
    ≡ walk_of (fold with_found start found) (slice_index_or found at other)
fold-at [] start at other below earlier = absurd (omega arith)
fold-at (one ∷ found) start zero other below earlier =
    let more : length (start ++ walk_of start one ∷ []) ≡ length start + 1 = length-append start (walk_of start one ∷ []) in
    let here : length start + zero ≡ length start = omega arith in
    let end : List (List ℕ) = fold with_found (with_found start one) found in
    let keeps : (k : ℕ) → k < length start → slice_index_or end k [] ≡ slice_index_or start k [] =
    λ k less. fold-keeps found (with_found start one) k (omega arith) ∙ get_or_append_left start (walk_of start one ∷ []) [] k less in
    ap (λ k. slice_index_or end k []) here
    ∙ (fold-keeps found (with_found start one) (length start) (omega arith)
    ∙ (get_or_push start (walk_of start one) [] (length start) refl
    ∙ ap (λ behind. one.place ∷ behind)
    (behind-keeps start end one.by (subst (λ n. IfSome one.by (λ by. by < n)) here earlier) keeps)))
fold-at (one ∷ found) start (suc at) other below earlier =
    let more : length (start ++ walk_of start one ∷ []) ≡ length start + 1 = length-append start (walk_of start one ∷ []) in
    let same : length (with_found start one) + at ≡ length start + suc at = omega arith in
    let end : List (List ℕ) = fold with_found (with_found start one) found in
    ap (λ k. slice_index_or end k []) (sym same)
    ∙ fold-at found (with_found start one) at other (omega arith)
    (subst (λ n. IfSome (slice_index_or found at other).by (λ by. by < n)) (sym same) earlier)

pub order-at : (found : List Found) (at : ℕ) (other : Found) → at < length found
    → IfSome (slice_index_or found at other).by (λ by. by < at)
    → slice_index_or (order_of found) at [] ≡ walk_of (order_of found) (slice_index_or found at other)
order-at found at other below earlier =
    let same : 0 + at ≡ at = omega arith in
    ap (λ k. slice_index_or (order_of found) k []) (sym same)
    ∙ fold-at found [] at other below (subst (λ n. IfSome (slice_index_or found at other).by (λ by. by < n)) (sym same) earlier)

-- ---- one more is found

pub none-is : {A : Type 0} (o : Option A) → is_some o ≡ false → o ≡ None
none-is None is = refl
none-is (Some x) is = absurd (let wrong : true ≡ false = is in cc)

found-walk-keeps : (order : List (List ℕ)) (walk : List ℕ) (at : Option ℕ) → IfSome at (λ k. k < length order)
    → found_walk (order ++ walk ∷ []) at ≡ found_walk order at
found-walk-keeps order walk None within = refl
found-walk-keeps order walk (Some at) within = ap Some (get_or_append_left order (walk ∷ []) [] at within)

best-keeps : (order : List (List ℕ)) (walk : List ℕ) (index : List (Option ℕ)) → AllByRecursion (λ at. IfSome at (λ k. k < length order)) index
    → best_of (order ++ walk ∷ []) index ≡ best_of order index
best-keeps order walk [] within = refl
best-keeps order walk (at ∷ index) within =
    let here : found_walk (order ++ walk ∷ []) at ≡ found_walk order at = found-walk-keeps order walk at within.0 in
    let rest : best_of (order ++ walk ∷ []) index ≡ best_of order index = best-keeps order walk index within.1 in
    λ i. here i ∷ rest i

best-set : (order : List (List ℕ)) (index : List (Option ℕ)) (place : ℕ) (at : Option ℕ)
    → best_of order (slice_set index place at) ≡ slice_set (best_of order index) place (found_walk order at)
best-set order [] place at = refl
best-set order (first ∷ index) zero at = refl
best-set order (first ∷ index) (suc place) at = ap (λ rest. found_walk order first ∷ rest) (best-set order index place at)

within-more : (n m : ℕ) (index : List (Option ℕ)) → n < m → All (λ at. IfSome at (λ k. k < n)) index → All (λ at. IfSome at (λ k. k < m)) index
within-more n m index less within =
    All-weaker (λ at. IfSome at (λ k. k < n)) (λ at. IfSome at (λ k. k < m)) (λ at below. later at below) index within
  where
    later : (at : Option ℕ) → IfSome at (λ k. k < n) → IfSome at (λ k. k < m)
    later None below = tt
    later (Some k) below = omega arith

module _ (found : List Found) (index : List (Option ℕ)) (place : ℕ) (by : Option ℕ) (are : AreFound found index) where
  abbrev one : Found
  one = record { place = place; by = by }

  abbrev more : List Found
  more = found ++ one ∷ []

  abbrev index_more : List (Option ℕ)
  index_more = slice_set index place (Some (length found))

  longer : length more ≡ length found + 1
  longer = length-append found (one ∷ [])

  earlier-more : IfSome by (λ k. k < length found) → (at : ℕ) (other : Found) → at < length more
      → IfSome (slice_index_or more at other).by (λ k. k < at)
  earlier-more earlier at other below =
      elim (cases_eq at (length found)) [
        | inl same ↦ subst (λ (it : Found). IfSome it.by (λ k. k < at)) (sym (get_or_push found one other at (sym same)))
            (subst (λ n. IfSome by (λ k. k < n)) (sym same) earlier)
        | inr apart ↦
            let old : at < length found = omega (arith, longer) in
            subst (λ (it : Found). IfSome it.by (λ k. k < at)) (sym (get_or_append_left found (one ∷ []) other at old)) (are.earlier at other old)
      ]

  pub found-more : IfSome by (λ k. k < length found) → AreFound more index_more
  found-more earlier = record {
    earlier = earlier-more earlier;
    within = All-set (λ at. IfSome at (λ k. k < length more)) index place (Some (length found)) (omega (arith, longer))
        (within-more (length found) (length more) index (omega (arith, longer)) are.within);
  }

  abbrev order : List (List ℕ)
  order = order_of found

  within-order : AllByRecursion (λ at. IfSome at (λ k. k < length order)) index
  within-order =
      recursion_from_All (λ at. IfSome at (λ k. k < length order)) index
      (subst (λ n. All (λ at. IfSome at (λ k. k < n)) index) (sym (length-order found)) are.within)

  best-more : best_of (order_of more) index_more ≡ slice_set (best_of order index) place (Some (walk_of order one))
  best-more =
      ap (λ list. best_of list index_more) (order-push found one)
      ∙ (best-set (with_found order one) index place (Some (length found))
      ∙ (ap (λ best. slice_set best place (found_walk (with_found order one) (Some (length found)))) (best-keeps order (walk_of order one) index within-order)
      ∙ ap (λ walk. slice_set (best_of order index) place (Some walk)) (get_or_push order (walk_of order one) [] (length found) (length-order found))))

  pub search-more : place < length index → slice_index_or index place None ≡ None
      → search_of more index_more ≡ put place (walk_behind order by) (search_of found index)
  search-more below free =
      let empty : best_at (best_of order index) place ≡ None =
      get_or-map (found_walk order) index place None None below ∙ ap (found_walk order) free in
      let made : search_of more index_more ≡ record { order = with_found order one; best = slice_set (best_of order index) place (Some (walk_of order one)) } =
      λ i. record { order = order-push found one i; best = best-more i } in
      made ∙ ap (λ (o : Option (List ℕ)). put_if o place (walk_behind order by) (search_of found index)) (sym empty)

-- ---- what was found before

pub search-old : (found : List Found) (index : List (Option ℕ)) (place : ℕ) (behind : List ℕ) (at : ℕ) → place < length index
    → slice_index_or index place None ≡ Some at → search_of found index ≡ put place behind (search_of found index)
search-old found index place behind at below is =
    let some : best_at (best_of (order_of found) index) place ≡ Some (slice_index_or (order_of found) at []) =
    get_or-map (found_walk (order_of found)) index place None None below ∙ ap (found_walk (order_of found)) is in
    ap (λ (o : Option (List ℕ)). put_if o place behind (search_of found index)) (sym some)

-- ---- nothing

pub nothing-search : (count : ℕ) → search_of [] (replicate count None) ≡ nothing_found count
nothing-search count = ap (λ best. record { order = []; best = best }) (best-none count)
  where
    best-none : (count : ℕ) → best_of [] (replicate count None) ≡ replicate count None
    best-none zero = refl
    best-none (suc count) = ap (λ rest. None ∷ rest) (best-none count)

pub nothing-found : (count : ℕ) → AreFound [] (replicate count None)
nothing-found count = record {
  earlier = λ at other below. absurd (omega arith);
  within = All-replicate (λ at. IfSome at (λ k. k < 0)) count None tt;
}
