-- The longest imprecise text of a list, from that of the list behind its first.
use Rattle.std.proofs.Common.{◌≡◌, ℕ, ◌≤◌, ◌⊎◌, inl, inr, List, [], ◌∷◌, length, Contains, Option, Some, None, IfSome, refl, sym, subst, arith}
use Rattle.std.proofs.lemmas.List.Elements.{Contains-append_cases, Contains-append_left, Contains-append_right, Contains-push, Contains-push_cases}
use Rattle.spdx_terms.specs.declared.catalog.catalog.Imprecise.{Imprecise}
use Rattle.spdx_terms.specs.catalog.Catalog.{BeginsText, BeginsNone, IsLongestImprecise}

head_or_rest : (first : List ℕ × List ℕ) (rest : List (List ℕ × List ℕ)) (one : List ℕ × List ℕ) → Contains (first ∷ rest) one → (first ≡ one) ⊎ Contains rest one
head_or_rest first rest one listed =
    elim (Contains-append_cases (first ∷ []) rest one listed) [
      | inl in_first ↦ elim (Contains-push_cases [] first one in_first) [ inl in_none ↦ absurd (omega (arith, in_none.1)) | inr same ↦ inl same ]
      | inr in_rest ↦ inr in_rest
    ]

-- none of them begins the text, and neither does the one before them
pub none_more : (first : List ℕ × List ℕ) (rest : List (List ℕ × List ℕ)) (text : List ℕ) → BeginsNone rest text → ¬ BeginsText first.0 text → BeginsNone (first ∷ rest) text
none_more first rest text none begins_not = λ one listed begins.
    elim (head_or_rest first rest one listed)
    [ inl same ↦ begins_not (subst (λ (one : List ℕ × List ℕ). BeginsText one.0 text) (sym same) begins) | inr later ↦ none one later begins ]

-- the longest of them is at least as long as the one before them, where that begins the text
pub kept_longest : (first : List ℕ × List ℕ) (rest : List (List ℕ × List ℕ)) (text : List ℕ) (len : ℕ) (name : List ℕ) → IsLongestImprecise rest text len name → (BeginsText first.0 text → length first.0 ≤ len) → IsLongestImprecise (first ∷ rest) text len name
kept_longest first rest text len name found shorter = record {
  imprecise = found.imprecise;
  is_listed = Contains-append_right (first ∷ []) rest (found.imprecise, name) found.is_listed;
  begins = found.begins;
  is_len = found.is_len;
  longest = λ other listed begins.
      elim (head_or_rest first rest other listed) [
        | inl same ↦ subst (λ (one : List ℕ × List ℕ). length one.0 ≤ len) same (shorter (subst (λ (one : List ℕ × List ℕ). BeginsText one.0 text) (sym same) begins))
        | inr later ↦ found.longest other later begins
      ];
}

-- the one before them begins the text, and none of them that does is longer
pub new_longest : (first : List ℕ × List ℕ) (rest : List (List ℕ × List ℕ)) (text : List ℕ) → BeginsText first.0 text → ((other : List ℕ × List ℕ) → Contains rest other → BeginsText other.0 text → length other.0 ≤ length first.0) → IsLongestImprecise (first ∷ rest) text (length first.0) first.1
new_longest first rest text begins longer = record {
  imprecise = first.0;
  is_listed = Contains-append_left (first ∷ []) rest first (Contains-push [] first);
  begins = begins;
  is_len = refl;
  longest = λ other listed begins_too.
      elim (head_or_rest first rest other listed)
      [ inl same ↦ subst (λ (one : List ℕ × List ℕ). length one.0 ≤ length first.0) same (omega arith) | inr later ↦ longer other later begins_too ];
}

-- what was found, where the one before them does not begin the text
pub kept_if : (first : List ℕ × List ℕ) (rest : List (List ℕ × List ℕ)) (text : List ℕ) (found : Option Imprecise) → IfSome found (λ found. IsLongestImprecise rest text found.len found.name.now) → ¬ BeginsText first.0 text → IfSome found (λ found. IsLongestImprecise (first ∷ rest) text found.len found.name.now)
kept_if first rest text None longest begins_not = longest
kept_if first rest text (Some found) longest begins_not = kept_longest first rest text found.len found.name.now longest (λ begins. absurd (begins_not begins))
