-- Findings and failures, one after another.
use Rattle.std.proofs.Common.{◌≡◌, ◌∙◌, ℕ, ◌+◌, ◌<◌, length, take, get_or, map, slice_get, List, [], ◌∷◌, ◌++◌, Option, Some, None, Bor, refl, sym, ap, append_assoc, arith}
use Rattle.std.specs.List.{cons_option, filter_map, zip}
use Rattle.std.specs.Option.{option_map, option_to_list}
use Rattle.std.proofs.lemmas.List.{length-map, length-take-le, map-append, take_more}
use Rattle.std.proofs.lemmas.List.Elements.{filter_map-append}
use Rattle.deny_text.specs.declared.span.Span.{Span}
use Rattle.diag_core.specs.declared.pack.Diag.{Diag}
use Rattle.gather_core.specs.findings.Findings.{failure}
use Rattle.gather_core.specs.findings.Views.{lent_text}

as_list : {B : Type 0} (o : Option B) → cons_option o [] ≡ option_to_list o
as_list None = refl
as_list (Some x) = refl

-- what is kept of one more of the items
pub filter_map_more : {A B : Type 0} (f : A → Option B) (items : List A) (i : ℕ) (item : A) → i < length items → item ≡ get_or items i item
    → filter_map f (take i items) ++ option_to_list (f item) ≡ filter_map f (take (i + 1) items)
filter_map_more {A} {B} f items i item inside is =
    sym (ap (filter_map f) (take_more items i item inside ∙ ap (λ (one : A). take i items ++ one ∷ []) (sym is))
    ∙ filter_map-append f (take i items) (item ∷ []) ∙ ap (λ (last : List B). filter_map f (take i items) ++ last) (as_list (f item)))

-- what is made of one more of the items
pub map_more : {A B : Type 0} (f : A → B) (front : List B) (items : List A) (i : ℕ) (d : A) → i < length items
    → (front ++ map f (take i items)) ++ f (get_or items i d) ∷ [] ≡ front ++ map f (take (i + 1) items)
map_more {A} {B} f front items i d inside =
    append_assoc front (map f (take i items)) (f (get_or items i d) ∷ [])
    ∙ ap (λ (l : List B). front ++ l) (sym (ap (map f) (take_more items i d inside) ∙ map-append f (take i items) (get_or items i d ∷ [])))

-- pairs of one more of the items with what is beside it
zip_push : {A B : Type 0} (front : List A) (a : A) (others : List B) → zip (front ++ a ∷ []) others ≡ zip front others ++ option_to_list (option_map (λ b. (a, b)) (slice_get others (length front)))
zip_push [] a [] = refl
zip_push [] a (b ∷ others) = refl
zip_push (x ∷ front) a [] = refl
zip_push (x ∷ front) a (b ∷ others) = ap (λ rest. (x, b) ∷ rest) (zip_push front a others)

paired : {B C D : Type 0} (f : B × C → D) (b : B) (o : Option C) → map f (option_to_list (option_map (λ c. (b, c)) o)) ≡ option_to_list (option_map (λ c. f (b, c)) o)
paired f b None = refl
paired f b (Some c) = refl

-- what is made of one more pair
zip_more : {A B C D : Type 0} (g : A → B) (f : B × C → D) (front : List D) (items : List A) (others : List C) (i : ℕ) (d : A) → i < length items
    → (front ++ map f (zip (map g (take i items)) others)) ++ option_to_list (option_map (λ c. f (g (get_or items i d), c)) (slice_get others i))
    ≡ front ++ map f (zip (map g (take (i + 1) items)) others)
zip_more {A} {B} {C} {D} g f front items others i d inside =
    let so_far = map g (take i items) in
    let item : A = get_or items i d in
    let long : length so_far ≡ i = length-map (take i items) g ∙ length-take-le i items (omega arith) in
    let more : map g (take (i + 1) items) ≡ so_far ++ g item ∷ [] = ap (map g) (take_more items i d inside) ∙ map-append g (take i items) (item ∷ []) in
    let pairs : zip (map g (take (i + 1) items)) others ≡ zip so_far others ++ option_to_list (option_map (λ c. (g item, c)) (slice_get others i)) =
    ap (λ (l : List B). zip l others) more ∙ zip_push so_far (g item) others
    ∙ ap (λ n. zip so_far others ++ option_to_list (option_map (λ c. (g item, c)) (slice_get others n))) long in
    append_assoc front (map f (zip so_far others)) (option_to_list (option_map (λ c. f (g item, c)) (slice_get others i)))
    ∙ ap (λ (l : List D). front ++ l)
    (sym (ap (map f) pairs ∙ map-append f (zip so_far others) (option_to_list (option_map (λ c. (g item, c)) (slice_get others i)))
    ∙ ap (λ (l : List D). map f (zip so_far others) ++ l) (paired f (g item) (slice_get others i))))

-- one failure more, where the synthetic manifest writes it
pub failure_more : (file : ℕ) (front so_far new : List Diag) (words : List (Bor (List ℕ))) (spans : List Span) (i : ℕ) (d : Bor (List ℕ)) (found : Option Span)
    → new ≡ so_far ++ option_to_list (option_map (λ (place : Span). failure file ((get_or words i d).now, place)) found) → found ≡ slice_get spans i → i < length words
    → so_far ≡ front ++ map (failure file) (zip (map lent_text (take i words)) spans) → new ≡ front ++ map (failure file) (zip (map lent_text (take (i + 1) words)) spans)
failure_more file front so_far new words spans i d found adds is inside before =
    adds
    ∙ ap (λ (o : Option Span). so_far ++ option_to_list (option_map (λ (place : Span). failure file ((get_or words i d).now, place)) o)) is
    ∙ ap (λ (l : List Diag). l ++ option_to_list (option_map (λ (place : Span). failure file ((get_or words i d).now, place)) (slice_get spans i))) before
    ∙ zip_more lent_text (failure file) front words spans i d inside
