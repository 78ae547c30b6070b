-- One more item at the end of a list that is read item by item.
use Rattle.std.proofs.Common.{◌≡◌, List, [], ◌∷◌, ◌++◌, append-nil, map, Option, None, Some, refl, sym, ap, ◌∙◌}
use Rattle.std.proofs.lemmas.Grind.{flat_map-append}
use Rattle.std.proofs.lemmas.List.{map-append}
use Rattle.std.proofs.lemmas.List.Elements.{filter_map-append}
use Rattle.std.specs.List.{filter_map, flat_map, cons_option}
use Rattle.std.specs.Prelude.{option_to_list}

option_alone : {A : Type 0} (o : Option A) → cons_option o [] ≡ option_to_list o
option_alone None = refl
option_alone (Some x) = refl

pub values_more : {A B X : Type 0} (h : B → Option A) (view : X → B) (xs : List X) (x : X) (before after : List A)
    → before ≡ filter_map h (map view xs) → after ≡ before ++ option_to_list (h (view x)) → after ≡ filter_map h (map view (xs ++ x ∷ []))
values_more h view xs x before after held grown =
    grown ∙ ap (λ ys. ys ++ option_to_list (h (view x))) held ∙ sym (ap (filter_map h) (map-append view xs (x ∷ []))
    ∙ filter_map-append h (map view xs) (view x ∷ []) ∙ ap (λ ys. filter_map h (map view xs) ++ ys) (option_alone (h (view x))))

pub faults_more : {A B X : Type 0} (f : B → List A) (view : X → B) (xs : List X) (x : X) (before after : List A)
    → before ≡ flat_map f (map view xs) → after ≡ before ++ f (view x) → after ≡ flat_map f (map view (xs ++ x ∷ []))
faults_more f view xs x before after held grown =
    grown ∙ ap (λ ys. ys ++ f (view x)) held ∙ sym (ap (flat_map f) (map-append view xs (x ∷ []))
    ∙ flat_map-append f (map view xs) (view x ∷ []) ∙ ap (λ ys. flat_map f (map view xs) ++ ys) (append-nil (f (view x))))
