-- The pairs of a query, one by one.
use Rattle.std.proofs.Common.{◌≡◌, ℕ, ◌+◌, ◌-◌, ◌<◌, ◌≤◌, Bool, true, false, List, [], ◌∷◌, ◌++◌, map, filter, fold, take, length, get_or, slice_get, cond, Option, Some, None, refl, sym, ◌∙◌, ap, not, append_assoc, append-nil, arith}
use Rattle.std.proofs.lemmas.List.Elements.{filter_more}
use Rattle.std.proofs.lemmas.Option.{slice_get-get_or}
use Rattle.std.proofs.lemmas.List.{length-append, take_all}
use Rattle.std.proofs.Math.Seq.{get_or-append_seam}
use Rattle.std.specs.List.{join_with_byte}
use Rattle.graph_core.specs.source.Git.{Pair, names_spec, last_of, last_spec, last_spec_pair, is_master, is_kept, pair_text, with_pair, with_kept, query_text, text_without_master}

last_of-append : (pairs : List Pair) (pair : Pair) → last_of (pairs ++ pair ∷ []) ≡ Some pair
last_of-append pairs pair =
    let e : length (pairs ++ pair ∷ []) - 1 ≡ length pairs = simp length-append (omega arith) in
    let h : length pairs < length (pairs ++ pair ∷ []) = simp length-append (omega arith) in
    ap (λ n. slice_get (pairs ++ pair ∷ []) n) e
    ∙ (slice_get-get_or (pairs ++ pair ∷ []) (length pairs) pair h ∙ ap Some (get_or-append_seam pairs pair [] pair))

last_of-cond : (pairs : List Pair) (pair : Pair) (b : Bool)
    → last_of (pairs ++ cond b (pair ∷ []) []) ≡ cond b (Some pair) (last_of pairs)
last_of-cond pairs pair true = last_of-append pairs pair
last_of-cond pairs pair false = ap last_of (append-nil pairs)

pub last_spec-more : (pairs : List Pair) (i : ℕ) (pair : Pair) → i < length pairs → get_or pairs i pair ≡ pair
    → last_spec (take (i + 1) pairs) ≡ last_spec_pair (last_spec (take i pairs)) pair
last_spec-more pairs i pair h e =
    ap last_of (filter_more names_spec pairs i pair h)
    ∙ (ap (λ p. last_of (filter names_spec (take i pairs) ++ cond (names_spec p) (p ∷ []) [])) e
    ∙ last_of-cond (filter names_spec (take i pairs)) pair (names_spec pair))

-- ---- the text of the pairs that are kept

abbrev texts_kept : List Pair → List (List ℕ)
texts_kept pairs = map pair_text (filter is_kept pairs)

joined-two : (x y : List ℕ) (rest : List (List ℕ))
    → join_with_byte 38 ((x ++ 38 ∷ y) ∷ rest) ≡ x ++ 38 ∷ join_with_byte 38 (y ∷ rest)
joined-two x y [] = refl
joined-two x y (z ∷ rest) = append_assoc x (38 ∷ y) (38 ∷ join_with_byte 38 (z ∷ rest))

fold-after : (byte : ℕ) (bytes : List ℕ) (pairs : List Pair)
    → fold with_kept (byte ∷ bytes) pairs ≡ join_with_byte 38 ((byte ∷ bytes) ∷ texts_kept pairs)
fold-after byte bytes [] = refl
fold-after byte bytes (pair ∷ pairs) =
    elim (is_master pair)
    as (λ master. fold with_kept (cond master (byte ∷ bytes) (with_pair (byte ∷ bytes) pair)) pairs
    ≡ join_with_byte 38 ((byte ∷ bytes) ∷ map pair_text (cond (not master) (pair ∷ filter is_kept pairs) (filter is_kept pairs)))) [
      | true ↦ fold-after byte bytes pairs
      | false ↦ fold-after byte (bytes ++ 38 ∷ pair_text pair) pairs
          ∙ joined-two (byte ∷ bytes) (pair_text pair) (texts_kept pairs)
    ]

written-cons : (name value : List ℕ) (pairs : List Pair)
    → fold with_kept (name ++ 61 ∷ value) pairs ≡ join_with_byte 38 ((name ++ 61 ∷ value) ∷ texts_kept pairs)
written-cons [] value pairs = fold-after 61 value pairs
written-cons (byte ∷ bytes) value pairs = fold-after byte (bytes ++ 61 ∷ value) pairs

-- the pairs that are kept, pushed one after another, are their text
pub fold-kept : (pairs : List Pair) → fold with_kept [] pairs ≡ text_without_master pairs
fold-kept [] = refl
fold-kept ((name, value) ∷ pairs) =
    elim (is_master (name, value))
    as (λ master. fold with_kept (cond master [] (with_pair [] (name, value))) pairs
    ≡ join_with_byte 38 (map pair_text (cond (not master) ((name, value) ∷ filter is_kept pairs) (filter is_kept pairs))))
    [ true ↦ fold-kept pairs | false ↦ written-cons name value pairs ]

pub fold-kept_all : (pairs : List Pair) (n : ℕ) → length pairs ≤ n
    → fold with_kept [] (take n pairs) ≡ text_without_master pairs
fold-kept_all pairs n h = rw (take_all n pairs h) (fold-kept pairs)

pub ruleset kept_pairs = (fold-kept_all)
