-- Where the name of a key is in a list of keys.
use Rattle.std.specs.Prelude.{◌≡◌, ℕ, suc, ◌+◌, ◌<◌, length, if◌then◌else◌, List, [], ◌∷◌, Option, Some, None}
use Rattle.std.specs.Prelude.{option_map}
use Rattle.std.specs.FinMap as finmap
use Rattle.std.specs.Str.{bytes_eq}
use Rattle.deny_text.specs.TextMap.{TextMapTo}
use Rattle.toml_subset.specs.declared.string.Key.{Key}

-- the place of the first key of a name
abbrev pub first_key_place : List ℕ → List Key → Option ℕ
first_key_place name [] = None
first_key_place name (key ∷ more) =
    if bytes_eq name key.name.text then Some 0 else option_map suc (first_key_place name more)

-- a map from names has the place of each
abbrev pub HasKeyPlaces : TextMapTo ℕ → List Key → Type 0
HasKeyPlaces places keys = (name : List ℕ) → finmap.get places name ≡ first_key_place name keys

-- the same, counted from a first place on
abbrev pub HasPlacesFrom : ℕ → TextMapTo ℕ → List Key → Type 0
HasPlacesFrom first places keys =
    (name : List ℕ) → finmap.get places name ≡ option_map (λ i. first + i) (first_key_place name keys)

-- Few keys need no map.
abbrev pub few_keys : ℕ
few_keys = 8

abbrev pub IsIndex : TextMapTo ℕ → List Key → Type 0
IsIndex places keys = few_keys < length keys → HasKeyPlaces places keys
