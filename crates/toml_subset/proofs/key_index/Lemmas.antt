-- Places of names in lists of keys.
use Rattle.std.proofs.Common.{◌≡◌, ℕ, suc, ◌+◌, ◌<◌, Bool, true, false, cond, List, [], ◌∷◌, ◌++◌, length, length-append, Option, Some, None, refl, sym, ap, subst, ◌∙◌, arith}
use Rattle.std.specs.Prelude.{option_map}
use Rattle.std.specs.List.{position, position_from}
use Rattle.std.proofs.lemmas.Iterator.Adapters.{position_from-zero}
use Rattle.std.specs.FinMap.{get, insert, empty, get-empty, get-insert}
use Rattle.std.specs.Cmp.Lexicographic.{slice_cmp, nat_list_cmp_total}
use Rattle.std.specs.Ordering.{nat_cmp}
use Rattle.std.specs.Str.{bytes_eq}
use Rattle.std.proofs.lemmas.Map.Text.{is_eq-slice_cmp}
use Rattle.std.proofs.lemmas.Slice.Eq.{bytes_eq-Decides}
use Rattle.deny_text.specs.TextMap.{TextMapTo}
use Rattle.toml_subset.specs.declared.string.Key.{Key}
use Rattle.toml_subset.specs.key_index.KeyPlaces.{first_key_place, HasKeyPlaces, HasPlacesFrom, few_keys, IsIndex}

-- a place, or else that of a further key
abbrev or_last : Bool → ℕ → Option ℕ → Option ℕ
or_last b n (Some i) = Some i
or_last b n None = cond b (Some n) None

later : (b : Bool) (n : ℕ) (o : Option ℕ) → option_map suc (or_last b n o) ≡ or_last b (suc n) (option_map suc o)
later b n (Some i) = refl
later true n None = refl
later false n None = refl

place_of-push : (name : List ℕ) (keys : List Key) (key : Key) → first_key_place name (keys ++ key ∷ []) ≡ or_last (bytes_eq name key.name.text) (length keys) (first_key_place name keys)
place_of-push name [] key = refl
place_of-push name (other ∷ more) key =
    elim (bytes_eq name other.name.text) as (λ b. cond b (Some 0) (option_map suc (first_key_place name (more ++ key ∷ [])))
    ≡ or_last (bytes_eq name key.name.text) (suc (length more)) (cond b (Some 0) (option_map suc (first_key_place name more)))) [
      | true ↦ refl
      | false ↦ ap (option_map suc) (place_of-push name more key) ∙ later (bytes_eq name key.name.text) (length more) (first_key_place name more)
    ]

either : (b : Bool) (n : ℕ) (o : Option ℕ) → (b ≡ true → o ≡ None) → cond b (Some n) o ≡ or_last b n o
either true n None absent = refl
either true n (Some i) absent = let never = absent refl in absurd (cc)
either false n None absent = refl
either false n (Some i) absent = refl

-- a further key, of a name that is new, has its place behind the others
pub has_places-push : (places : TextMapTo ℕ) (keys : List Key) (key : Key) → HasKeyPlaces places keys → first_key_place key.name.text keys ≡ None
    → HasKeyPlaces (insert places key.name.text (length keys)) (keys ++ key ∷ [])
has_places-push places keys key has absent name =
    get-insert nat_list_cmp_total places key.name.text (length keys) name
    ∙ ap (λ b. cond b (Some (length keys)) (get places name)) (is_eq-slice_cmp name key.name.text)
    ∙ ap (λ o. cond (bytes_eq name key.name.text) (Some (length keys)) o) (has name)
    ∙ either (bytes_eq name key.name.text) (length keys) (first_key_place name keys)
    (λ same. ap (λ n. first_key_place n keys) ((bytes_eq-Decides name key.name.text).0 same) ∙ absent)
    ∙ sym (place_of-push name keys key)

-- a look-up key by key

shifted : (b : Bool) (i : ℕ) (o : Option ℕ) → cond b (Some i) (option_map (λ j. i + 1 + j) o) ≡ option_map (λ j. i + j) (cond b (Some 0) (option_map suc o))
shifted true i o = ap Some (omega arith)
shifted false i None = refl
shifted false i (Some j) = ap Some (omega arith)

place_from : (name : List ℕ) (i : ℕ) (keys : List Key) → position_from (λ key. bytes_eq name key.name.text) i keys ≡ option_map (λ j. i + j) (first_key_place name keys)
place_from name i [] = refl
place_from name i (key ∷ more) =
    ap (λ o. cond (bytes_eq name key.name.text) (Some i) o) (place_from name (i + 1) more) ∙ shifted (bytes_eq name key.name.text) i (first_key_place name more)

from_zero : (o : Option ℕ) → option_map (λ j. 0 + j) o ≡ o
from_zero None = refl
from_zero (Some j) = ap Some (omega arith)

pub position-place : (name : List ℕ) (keys : List Key) → position (λ key. bytes_eq name key.name.text) keys ≡ first_key_place name keys
position-place name keys = position_from-zero (λ key. bytes_eq name key.name.text) keys ∙ place_from name 0 keys ∙ from_zero (first_key_place name keys)

-- all places

pub no_places : (first : ℕ) (keys : List Key) (places : TextMapTo ℕ) → length keys ≡ 0 → places ≡ empty → HasPlacesFrom first places keys
no_places first [] places none is name = ap (λ m. get m name) is ∙ get-empty (slice_cmp nat_cmp) name
no_places first (key ∷ more) places none is name = absurd (omega arith)

pub one_more_place : (first : ℕ) (key : Key) (more : List Key) (places : TextMapTo ℕ) → HasPlacesFrom (first + 1) places more
    → HasPlacesFrom first (insert places key.name.text first) (key ∷ more)
one_more_place first key more places has name =
    get-insert nat_list_cmp_total places key.name.text first name
    ∙ ap (λ b. cond b (Some first) (get places name)) (is_eq-slice_cmp name key.name.text)
    ∙ ap (λ o. cond (bytes_eq name key.name.text) (Some first) o) (has name)
    ∙ shifted (bytes_eq name key.name.text) first (first_key_place name more)

pub counted_from_zero : (places : TextMapTo ℕ) (keys : List Key) → HasPlacesFrom 0 places keys → HasKeyPlaces places keys
counted_from_zero places keys has name = has name ∙ from_zero (first_key_place name keys)

pub few_indexed : (places : TextMapTo ℕ) (keys : List Key) (key : Key) → length keys < few_keys → IsIndex places (keys ++ key ∷ [])
few_indexed places keys key short long = let longs = length-append keys (key ∷ []) in absurd (omega arith)

-- the first map, and one for a further key
pub first_indexed : (places new : TextMapTo ℕ) (keys : List Key) (key : Key) → length keys ≡ few_keys → HasPlacesFrom 0 places keys → first_key_place key.name.text keys ≡ None
    → new ≡ insert places key.name.text few_keys → IsIndex new (keys ++ key ∷ [])
first_indexed places new keys key count has absent is long =
    subst (λ (m : TextMapTo ℕ). HasKeyPlaces m (keys ++ key ∷ [])) (ap (insert places key.name.text) count ∙ sym is)
    (has_places-push places keys key (counted_from_zero places keys has) absent)

pub more_indexed : (places new : TextMapTo ℕ) (keys : List Key) (key : Key) → few_keys < length keys → IsIndex places keys → first_key_place key.name.text keys ≡ None
    → new ≡ insert places key.name.text (length keys) → IsIndex new (keys ++ key ∷ [])
more_indexed places new keys key many index absent is long =
    subst (λ (m : TextMapTo ℕ). HasKeyPlaces m (keys ++ key ∷ [])) (sym is) (has_places-push places keys key (index many) absent)
