-- Entries in order of their names.
use Rattle.std.proofs.Common.{◌≡◌, ℕ, ◌+◌, ◌<◌, false, List, length, get_or, ap, ◌∙◌, arith, Result, Ok, Err}
use Rattle.std.specs.Ordering.{nat_cmp, is_lt, ordering_reverse}
use Rattle.std.specs.declared.cmp.Ordering.TheVariants.{Less}
use Rattle.std.specs.Cmp.Lexicographic.{slice_cmp, nat_list_cmp_total}
use Rattle.std.specs.Result.{IfOk}
use Rattle.std.specs.List.Sorted.{IsStrictlySortedBy, IsSorted}
use Rattle.std.proofs.lemmas.List.{get_or-map, length-map}
use Rattle.std.proofs.lemmas.Map.Keys.{Less-from_sorted}
use Rattle.tree_core.specs.Answer.{IsInNameOrder}
use Rattle.tree_core.specs.SystemNames.{system_names}
use Rattle.tree_core.specs.declared.tree.Entry.{Entry}
use Rattle.tree_core.specs.declared.tree.TreeError.{TreeError}

pub IsInNameOrder-names_of : (entries : List Entry) → IsSorted (slice_cmp nat_cmp) (system_names entries) → IsInNameOrder entries
IsInNameOrder-names_of entries sorted =
    λ k d low inside.
    let more : k + 1 < length (system_names entries) = omega (arith, length-map entries (λ (e : Entry). e.name)) in
    let first : get_or (system_names entries) k d.name ≡ (get_or entries k d).name = get_or-map (λ (e : Entry). e.name) entries k d d.name (omega arith) in
    let second : get_or (system_names entries) (k + 1) d.name ≡ (get_or entries (k + 1) d).name = get_or-map (λ (e : Entry). e.name) entries (k + 1) d d.name inside in
    let here : is_lt (slice_cmp nat_cmp (get_or (system_names entries) (k + 1) d.name) (get_or (system_names entries) k d.name)) ≡ false = sorted k d.name low more in
    rw (first, second) at here

-- the same of an answer
pub IsInNameOrder-named : (answer : Result (List Entry) TreeError) (names : List (List ℕ)) → IfOk answer (λ entries. system_names entries ≡ names) → IsSorted (slice_cmp nat_cmp) names → IfOk answer IsInNameOrder
IsInNameOrder-named (Err error) names is sorted = tt
IsInNameOrder-named (Ok entries) names is sorted = IsInNameOrder-names_of entries (rw is sorted)

not_lt_back : (a b : List ℕ) → slice_cmp nat_cmp a b ≡ Less → is_lt (slice_cmp nat_cmp b a) ≡ false
not_lt_back a b less = ap is_lt (nat_list_cmp_total.antisymm b a ∙ ap ordering_reverse less)

-- names that strictly rise are in order
pub IsSorted-strictly : (names : List (List ℕ)) → IsStrictlySortedBy (slice_cmp nat_cmp) names → IsSorted (slice_cmp nat_cmp) names
IsSorted-strictly names rise =
    λ k d low inside. not_lt_back (get_or names k d) (get_or names (k + 1) d) (Less-from_sorted (slice_cmp nat_cmp) names k (k + 1) d rise (omega arith) inside)
