-- Moved keys are read behind other keys as if they were first.
use Rattle.std.proofs.Common.{◌≡◌, ℕ, Bool, true, List, [], ◌∷◌, ◌++◌, append-nil, append_assoc, Option, refl, sym, ap, ◌∙◌}
use Rattle.std.specs.Prelude.{codes, option_map, option_to_list}
use Rattle.deny_text.specs.declared.span.Span.{Span}
use Rattle.toml_subset.specs.Data.{Entries, Toml}
use Rattle.toml_subset.specs.declared.string.Key.{Key}
use Rattle.toml_subset.specs.shapes.Shaped.{ShapeReading}
use Rattle.policy_toml.specs.HelperState.{given_value}
use Rattle.policy_toml.specs.Readings.{boolean_of, text_of, list_of}
use Rattle.policy_toml.specs.rows.Rows.{optional_value, key_span, entries_besides}
use Rattle.policy_toml.proofs.rows.RowLemmas.{none_is, found_behind, entry_behind}
use Rattle.policy_parts.specs.Values.{target_of}
use Rattle.policy_parts.specs.declared.target.Target.{Target}
use Rattle.policy_core.specs.config.Places.{places_there, places_of_keys}
use Rattle.policy_core.specs.config.Root.{moved_in, moved_keys}
use Rattle.policy_core.specs.declared.config.root.MovedKeys.{MovedKeys}
use Rattle.policy_core.proofs.config.PlaceLemmas.{one_more}

-- ---- places that are appended one after another

pub none_yet : (old : List Span) → old ≡ old ++ places_there []
none_yet old = sym (append-nil old)

pub one_further : (old : List Span) (places : List (Option Span)) (place : Option Span)
    → (old ++ places_there places) ++ option_to_list place ≡ old ++ places_there (places ++ place ∷ [])
one_further old places place =
    append_assoc old (places_there places) (option_to_list place) ∙ ap (λ more. old ++ more) (sym (one_more places place))

-- ---- moved keys

abbrev pub moved_of : Option (List Target) → Option (List (List ℕ)) → Option (List (List ℕ)) → Option Bool → Option Bool → Option Bool → MovedKeys
moved_of targets exclude features all none dev = record {
  targets = targets;
  exclude = exclude;
  features = features;
  all_features = all;
  no_default_features = none;
  exclude_dev = dev;
}

pub same_moved : {t t' : Option (List Target)} {x x' y y' : Option (List (List ℕ))} {a a' b b' d d' : Option Bool}
    → t ≡ t' → x ≡ x' → y ≡ y' → a ≡ a' → b ≡ b' → d ≡ d' → moved_of t x y a b d ≡ moved_of t' x' y' a' b' d'
same_moved {t} {t'} {x} {x'} {y} {y'} {a} {a'} {b} {b'} {d} {d'} targets exclude features all none dev =
    ap (λ v. moved_of v x y a b d) targets
    ∙ ap (λ v. moved_of t' v y a b d) exclude
    ∙ ap (λ v. moved_of t' x' v a b d) features
    ∙ ap (λ v. moved_of t' x' y' v b d) all
    ∙ ap (λ v. moved_of t' x' y' a' v d) none
    ∙ ap (λ v. moved_of t' x' y' a' b' v) dev

given_behind : {A : Type 0} (name : List ℕ) (reads : Toml → ShapeReading A) (passed : List (List ℕ)) (entries : Entries) → none_is name passed ≡ true
    → optional_value name reads (entries_besides passed entries) ≡ optional_value name reads entries
given_behind name reads passed entries apart = ap (λ value. given_value (option_map reads value)) (found_behind name passed entries apart)

span_behind : (name : List ℕ) (passed : List (List ℕ)) (entries : Entries) → none_is name passed ≡ true
    → key_span name (entries_besides passed entries) ≡ key_span name entries
span_behind name passed entries apart = ap (option_map (λ (found : Key × Toml). found.0.span)) (entry_behind name passed entries apart)

-- the keys that are read before them
abbrev pub passed : List (List ℕ)
passed = codes "advisories" ∷ codes "bans" ∷ codes "sources" ∷ codes "licenses" ∷ codes "graph" ∷ []

pub moved_behind : (entries : Entries) → moved_in (entries_besides passed entries) ≡ moved_in entries
moved_behind entries = same_moved
    (given_behind (codes "targets") (list_of target_of) passed entries refl)
    (given_behind (codes "exclude") (list_of text_of) passed entries refl)
    (given_behind (codes "features") (list_of text_of) passed entries refl)
    (given_behind (codes "all-features") boolean_of passed entries refl)
    (given_behind (codes "no-default-features") boolean_of passed entries refl)
    (given_behind (codes "exclude-dev") boolean_of passed entries refl)

abbrev six : Option Span → Option Span → Option Span → Option Span → Option Span → Option Span → List Span
six a b c d e f = places_there (a ∷ b ∷ c ∷ d ∷ e ∷ f ∷ [])

pub same_places : {a a' b b' c c' d d' e e' f f' : Option Span} → a ≡ a' → b ≡ b' → c ≡ c' → d ≡ d' → e ≡ e' → f ≡ f' → six a b c d e f ≡ six a' b' c' d' e' f'
same_places {a} {a'} {b} {b'} {c} {c'} {d} {d'} {e} {e'} {f} {f'} p q r s t u =
    ap (λ v. six v b c d e f) p
    ∙ ap (λ v. six a' v c d e f) q
    ∙ ap (λ v. six a' b' v d e f) r
    ∙ ap (λ v. six a' b' c' v e f) s
    ∙ ap (λ v. six a' b' c' d' v f) t
    ∙ ap (λ v. six a' b' c' d' e' v) u

pub places_behind : (entries : Entries) → places_of_keys moved_keys (entries_besides passed entries) ≡ places_of_keys moved_keys entries
places_behind entries = same_places
    (span_behind (codes "targets") passed entries refl)
    (span_behind (codes "exclude") passed entries refl)
    (span_behind (codes "features") passed entries refl)
    (span_behind (codes "all-features") passed entries refl)
    (span_behind (codes "no-default-features") passed entries refl)
    (span_behind (codes "exclude-dev") passed entries refl)
