-- Clarifications that are found by their places.
use Rattle.std.proofs.Common.{◌≡◌, ◌∙◌, ℕ, suc, ◌+◌, ◌<◌, length, take, get_or, Bool, true, false, cond, List, [], ◌∷◌, ◌++◌, map, filter, Option, None, Some, option_map, refl, sym, ap, append_assoc, length-append, arith, slice_get}
use Rattle.std.proofs.Math.Seq.{get_or-append_seam}
use Rattle.std.proofs.lemmas.Option.{slice_get-get_or}
use Rattle.std.specs.Borrow.{Bor}
use Rattle.std.specs.List.{cons_option}
use Rattle.std.specs.Option.{option_to_list}
use Rattle.std.proofs.lemmas.List.{map-append, take_more}
use Rattle.std.proofs.lemmas.List.Elements.{filter_map-append}
use Rattle.graph_core.specs.Krate.{CrateRecord}
use Rattle.policy_parts.specs.spec.Index.{matching_places, places_from}
use Rattle.policy_parts.specs.spec.Matching.{spec_matches}
use Rattle.gather_license.specs.Clarification.{ClarificationView, lent_clarification}
use Rattle.gather_core.specs.Entries.{ClarificationEntry, clarifications_of, clarification_at, clarifications_at, specs_of}

-- the item behind a front
behind_front : {A : Type 0} (front : List A) (x : A) (rest : List A) → slice_get (front ++ x ∷ rest) (length front) ≡ Some x
behind_front front x rest =
    let inside : length front < length (front ++ x ∷ rest) = omega (arith, length-append front (x ∷ rest)) in
    slice_get-get_or (front ++ x ∷ rest) (length front) x inside ∙ ap Some (get_or-append_seam front x rest x)

places-mapped : (n : ℕ) (krate : CrateRecord) (entries : List ClarificationEntry)
    → places_from n (λ spec. spec_matches spec krate) (specs_of entries) ≡ places_from n (λ (entry : ClarificationEntry). spec_matches entry.spec krate) entries
places-mapped n krate [] = refl
places-mapped n krate (entry ∷ entries) =
    elim (spec_matches entry.spec krate) as (λ b.
    cond b (n ∷ places_from (suc n) (λ spec. spec_matches spec krate) (specs_of entries)) (places_from (suc n) (λ spec. spec_matches spec krate) (specs_of entries))
    ≡ cond b (n ∷ places_from (suc n) (λ (other : ClarificationEntry). spec_matches other.spec krate) entries) (places_from (suc n) (λ (other : ClarificationEntry). spec_matches other.spec krate) entries)) [
      | true ↦ ap (λ places. n ∷ places) (places-mapped (suc n) krate entries)
      | false ↦ places-mapped (suc n) krate entries
    ]

-- the places of the entries that pass lead to the clarifications of these
picked : (test : ClarificationEntry → Bool) (all front rest : List ClarificationEntry) (n : ℕ) → all ≡ front ++ rest → n ≡ length front
    → clarifications_at all (places_from n test rest) ≡ map (λ (entry : ClarificationEntry). entry.clarification) (filter test rest)
picked test all front [] n is counted = refl
picked test all front (x ∷ rest) n is counted =
    let more : suc n ≡ length (front ++ x ∷ []) = omega (arith, counted, length-append front (x ∷ [])) in
    let next = picked test all (front ++ x ∷ []) rest (suc n) (is ∙ sym (append_assoc front (x ∷ []) rest)) more in
    let here : clarification_at all n ≡ Some x.clarification =
    ap (option_map (λ (entry : ClarificationEntry). entry.clarification))
    (ap (λ xs. slice_get xs n) is ∙ ap (slice_get (front ++ x ∷ rest)) counted ∙ behind_front front x rest) in
    elim (test x) as (λ b. clarifications_at all (cond b (n ∷ places_from (suc n) test rest) (places_from (suc n) test rest))
    ≡ map (λ (entry : ClarificationEntry). entry.clarification) (cond b (x ∷ filter test rest) (filter test rest))) [
      | true ↦ ap (λ o. cons_option o (clarifications_at all (places_from (suc n) test rest))) here ∙ ap (λ xs. x.clarification ∷ xs) next
      | false ↦ next
    ]

pub items_matching : (krate : CrateRecord) (entries : List ClarificationEntry) → clarifications_at entries (matching_places (specs_of entries) krate) ≡ clarifications_of krate entries
items_matching krate entries =
    ap (clarifications_at entries) (places-mapped 0 krate entries) ∙ picked (λ (entry : ClarificationEntry). spec_matches entry.spec krate) entries [] entries 0 refl refl

-- ---- one more place

behind_list : (item : Option (Bor ClarificationView)) → map lent_clarification (option_to_list item) ≡ option_to_list (option_map lent_clarification item)
behind_list None = refl
behind_list (Some item) = refl

one_at : (o : Option ClarificationView) → cons_option o [] ≡ option_to_list o
one_at None = refl
one_at (Some x) = refl

pub items_push : (entries : List ClarificationEntry) (places : List ℕ) (i : ℕ) (item : Option (Bor ClarificationView)) (found new : List (Bor ClarificationView))
    → i < length places → new ≡ found ++ option_to_list item → map lent_clarification found ≡ clarifications_at entries (take i places)
    → option_map lent_clarification item ≡ clarification_at entries (get_or places i 0) → map lent_clarification new ≡ clarifications_at entries (take (i + 1) places)
items_push entries places i item found new inside is so_far here =
    ap (map lent_clarification) is ∙ map-append lent_clarification found (option_to_list item)
    ∙ ap (λ (front : List ClarificationView). front ++ map lent_clarification (option_to_list item)) so_far
    ∙ ap (λ (last : List ClarificationView). clarifications_at entries (take i places) ++ last)
    (behind_list item ∙ ap option_to_list here ∙ sym (one_at (clarification_at entries (get_or places i 0))))
    ∙ sym (ap (clarifications_at entries) (take_more places i 0 inside) ∙ filter_map-append (clarification_at entries) (take i places) (get_or places i 0 ∷ []))
