-- The places of keys that are there, one after another.
use Rattle.std.proofs.Common.{◌≡◌, ◌∙◌, refl, ap, List, [], ◌∷◌, ◌++◌, Option, Some, None}
use Rattle.std.proofs.lemmas.List.Elements.{filter_map-append}
use Rattle.std.specs.List.{cons_option}
use Rattle.std.specs.Prelude.{option_to_list}
use Rattle.deny_text.specs.declared.span.Span.{Span}
use Rattle.policy_core.specs.config.Places.{places_there}

alone : (place : Option Span) → cons_option place [] ≡ option_to_list place
alone None = refl
alone (Some place) = refl

pub one_more : (places : List (Option Span)) (place : Option Span) → places_there (places ++ place ∷ []) ≡ places_there places ++ option_to_list place
one_more places place =
    filter_map-append (λ (found : Option Span). found) places (place ∷ []) ∙ ap (λ more. places_there places ++ more) (alone place)
