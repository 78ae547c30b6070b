-- Names in the order in which they are looked up: what is before and behind one of them.
use Rattle.std.proofs.Common.{◌≡◌, ◌∙◌, refl, sym, ap, subst, T, Bool, true, false, cond, ℕ, List, [], ◌∷◌, ◌++◌, length, Some, None}
use Rattle.std.specs.List.{AllByRecursion}
use Rattle.std.specs.List.Sorted.{IsStrictlySortedBy}
use Rattle.std.specs.Map.{lookup}
use Rattle.std.specs.Str.{bytes_eq}
use Rattle.std.specs.Cmp.{IsTotalOrder, on_total, then_total, nat_cmp_total}
use Rattle.std.specs.Cmp.Lexicographic.{slice_cmp, nat_list_cmp_total}
use Rattle.std.specs.Ordering.{nat_cmp, is_eq, ordering_then, ordering_reverse}
use Rattle.std.specs.declared.cmp.Ordering.{Ordering}
use Rattle.std.specs.declared.cmp.Ordering.TheVariants.{Less, Equal, Greater}
use Rattle.std.proofs.lemmas.Cmp.{tied_itself}
use Rattle.std.proofs.lemmas.Map.Entries.{lookup_head, lookup_tail}
use Rattle.std.proofs.lemmas.Map.Lookups.{exact_bytes}
use Rattle.std.proofs.lemmas.Slice.Eq.{bytes_eq-Decides}
use Rattle.spdx_terms.specs.declared.catalog.table.TableLicense.{TableLicense}
use Rattle.spdx_terms.specs.catalog.Catalog.{entry_of, names_of}
use Rattle.spdx_terms.specs.catalog.NameOrder.{name_order, AreInOrder, named_entries}

pub name_order_total : IsTotalOrder name_order
name_order_total = then_total (on_total length nat_cmp_total) nat_list_cmp_total

last_ties : (first last : Ordering) → ordering_then first last ≡ Equal → last ≡ Equal
last_ties Less last ties = absurd (subst T (sym (ap is_eq ties)) tt)
last_ties Equal last ties = ties
last_ties Greater last ties = absurd (subst T (sym (ap is_eq ties)) tt)

-- names that tie are the same
pub same_name : (a b : List ℕ) → name_order a b ≡ Equal → a ≡ b
same_name a b ties = exact_bytes a b (last_ties (nat_cmp (length a) (length b)) (slice_cmp nat_cmp a b) ties)

-- other names are distinguished
pub apart : (a b : List ℕ) (order : Ordering) → name_order a b ≡ order → is_eq order ≡ false → bytes_eq a b ≡ false
apart a b order is other = by (bytes_eq a b) refl
  where
    by : (r : Bool) → bytes_eq a b ≡ r → bytes_eq a b ≡ false
    by false e = e
    by true e =
        let same : a ≡ b = (bytes_eq-Decides a b).0 e in
        let ties : name_order a b ≡ Equal = subst (λ (k : List ℕ). name_order a k ≡ Equal) same (tied_itself name_order_total a) in
        let both : false ≡ true = sym other ∙ ap is_eq (sym is ∙ ties) in
        absurd (subst T (sym both) tt)

above : (a b : List ℕ) → name_order a b ≡ Less → name_order b a ≡ Greater
above a b less = name_order_total.antisymm b a ∙ ap ordering_reverse less

below : (a b : List ℕ) → name_order a b ≡ Greater → name_order b a ≡ Less
below a b greater = name_order_total.antisymm b a ∙ ap ordering_reverse greater

module _ {X : Type 0} (P : List ℕ → Type 0) (e : List ℕ × X) (behind : List (List ℕ × X)) where
  all_at : (front : List (List ℕ × X)) → AllByRecursion P (names_of (front ++ e ∷ behind)) → P e.0
  all_at [] all = all.0
  all_at (x ∷ front) all = all_at front all.1

  all_front : (front : List (List ℕ × X)) → AllByRecursion P (names_of (front ++ e ∷ behind)) → AllByRecursion P (names_of front)
  all_front [] all = tt
  all_front (x ∷ front) all = (all.0, all_front front all.1)

module _ {X : Type 0} (q : List ℕ) where
  none_behind : (name : List ℕ) (es : List (List ℕ × X)) → AllByRecursion (λ y. name_order name y ≡ Less) (names_of es) → name_order q name ≡ Less → lookup (bytes_eq q) es ≡ None
  none_behind name [] all less = refl
  none_behind name (x ∷ es) all less = lookup_tail (bytes_eq q) x es (apart q x.0 Less (name_order_total.trans q name x.0 less all.0) refl) ∙ none_behind name es all.1 less

module _ {X : Type 0} (e : List ℕ × X) (behind : List (List ℕ × X)) where
  -- what is before one is in order
  pub sorted_front : (front : List (List ℕ × X)) → IsStrictlySortedBy name_order (names_of (front ++ e ∷ behind)) → IsStrictlySortedBy name_order (names_of front)
  unfolding IsStrictlySortedBy
  sorted_front [] sorted = tt
  sorted_front (x ∷ front) sorted = (all_front (λ y. name_order x.0 y ≡ Less) e behind front sorted.0, sorted_front front sorted.1)

  -- and so is what is behind it
  pub sorted_behind : (front : List (List ℕ × X)) → IsStrictlySortedBy name_order (names_of (front ++ e ∷ behind)) → IsStrictlySortedBy name_order (names_of behind)
  unfolding IsStrictlySortedBy
  sorted_behind [] sorted = sorted.1
  sorted_behind (x ∷ front) sorted = sorted_behind front sorted.1

  module _ (q : List ℕ) where
    -- its own name finds it
    pub found_at : (front : List (List ℕ × X)) → IsStrictlySortedBy name_order (names_of (front ++ e ∷ behind)) → name_order q e.0 ≡ Equal → lookup (bytes_eq q) (front ++ e ∷ behind) ≡ Some e.1
    unfolding IsStrictlySortedBy
    found_at [] sorted ties = lookup_head (bytes_eq q) e behind ((bytes_eq-Decides q e.0).1 (same_name q e.0 ties))
    found_at (x ∷ front) sorted ties =
        let less : name_order x.0 e.0 ≡ Less = all_at (λ y. name_order x.0 y ≡ Less) e behind front sorted.0 in
        let own : name_order x.0 q ≡ Less = subst (λ (k : List ℕ). name_order x.0 k ≡ Less) (sym (same_name q e.0 ties)) less in
        lookup_tail (bytes_eq q) x (front ++ e ∷ behind) (apart q x.0 Greater (above x.0 q own) refl) ∙ found_at front sorted.1 ties

    -- an earlier name is found before it, or not at all
    pub found_front : (front : List (List ℕ × X)) → IsStrictlySortedBy name_order (names_of (front ++ e ∷ behind)) → name_order q e.0 ≡ Less → lookup (bytes_eq q) (front ++ e ∷ behind) ≡ lookup (bytes_eq q) front
    unfolding IsStrictlySortedBy
    found_front [] sorted less = lookup_tail (bytes_eq q) e behind (apart q e.0 Less less refl) ∙ none_behind q e.0 behind sorted.0 less
    found_front (x ∷ front) sorted less = ap (λ rest. cond (bytes_eq q x.0) (Some x.1) rest) (found_front front sorted.1 less)

    -- a later name is found behind it, or not at all
    pub found_behind : (front : List (List ℕ × X)) → IsStrictlySortedBy name_order (names_of (front ++ e ∷ behind)) → name_order q e.0 ≡ Greater → lookup (bytes_eq q) (front ++ e ∷ behind) ≡ lookup (bytes_eq q) behind
    unfolding IsStrictlySortedBy
    found_behind [] sorted greater = lookup_tail (bytes_eq q) e behind (apart q e.0 Greater greater refl)
    found_behind (x ∷ front) sorted greater =
        let less : name_order x.0 e.0 ≡ Less = all_at (λ y. name_order x.0 y ≡ Less) e behind front sorted.0 in
        let own : name_order x.0 q ≡ Less = name_order_total.trans x.0 e.0 q less (below q e.0 greater) in
        lookup_tail (bytes_eq q) x (front ++ e ∷ behind) (apart q x.0 Greater (above x.0 q own) refl) ∙ found_behind front sorted.1 greater

told_split : (front behind : List TableLicense) (middle : TableLicense) → named_entries (front ++ middle ∷ behind) ≡ named_entries front ++ (middle.name.now, middle.entry) ∷ named_entries behind
told_split [] behind middle = refl
told_split (x ∷ front) behind middle = ap (λ rest. (x.name.now, x.entry) ∷ rest) (told_split front behind middle)

module _ (licenses front behind : List TableLicense) (middle : TableLicense) (q : List ℕ) (is : licenses ≡ front ++ middle ∷ behind) (ordered : AreInOrder (named_entries licenses)) where
  cut : named_entries licenses ≡ named_entries front ++ (middle.name.now, middle.entry) ∷ named_entries behind
  cut = ap named_entries is ∙ told_split front behind middle

  parts_ordered : AreInOrder (named_entries front ++ (middle.name.now, middle.entry) ∷ named_entries behind)
  parts_ordered = subst AreInOrder cut ordered

  pub front_in_order : AreInOrder (named_entries front)
  front_in_order = sorted_front (middle.name.now, middle.entry) (named_entries behind) (named_entries front) parts_ordered

  pub behind_in_order : AreInOrder (named_entries behind)
  behind_in_order = sorted_behind (middle.name.now, middle.entry) (named_entries behind) (named_entries front) parts_ordered

  pub entry_at : name_order q middle.name.now ≡ Equal → entry_of (named_entries licenses) q ≡ Some middle.entry
  entry_at ties = ap (λ l. entry_of l q) cut ∙ found_at (middle.name.now, middle.entry) (named_entries behind) q (named_entries front) parts_ordered ties

  pub entry_front : name_order q middle.name.now ≡ Less → entry_of (named_entries licenses) q ≡ entry_of (named_entries front) q
  entry_front less = ap (λ l. entry_of l q) cut ∙ found_front (middle.name.now, middle.entry) (named_entries behind) q (named_entries front) parts_ordered less

  pub entry_behind : name_order q middle.name.now ≡ Greater → entry_of (named_entries licenses) q ≡ entry_of (named_entries behind) q
  entry_behind greater = ap (λ l. entry_of l q) cut ∙ found_behind (middle.name.now, middle.entry) (named_entries behind) q (named_entries front) parts_ordered greater
