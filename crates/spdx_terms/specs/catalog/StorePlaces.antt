-- The places of stored texts, by their words and by their names.
use Rattle.std.specs.Prelude.{◌≡◌, ℕ, List, map, position, is_some, if◌then◌else◌}
use Rattle.std.specs.FinMap as finmap
use Rattle.std.specs.Str.{bytes_eq}
use Rattle.deny_text.specs.TextMap.{TextMapTo}
use Rattle.spdx_terms.specs.declared.catalog.store.StoreText.{StoreText}
use Rattle.spdx_terms.specs.catalog.TextWords.{words_with_spaces, words_of}

-- the words of each text, with a space after each word
abbrev pub all_spelled : List StoreText → List (List ℕ)
all_spelled texts = map (λ stored. words_with_spaces (words_of stored.body)) texts

-- the name of each text
abbrev pub all_named : List StoreText → List (List ℕ)
all_named texts = map (λ stored. stored.name) texts

-- the map has the first place of each
abbrev pub FindsPlaces : TextMapTo ℕ → List (List ℕ) → Type 0
FindsPlaces places known = (words : List ℕ) → finmap.get places words ≡ position (λ one. bytes_eq one words) known

-- the map with a further place, unless the key has one
abbrev pub with_new : TextMapTo ℕ → List ℕ → ℕ → TextMapTo ℕ
with_new places key place = if is_some (finmap.get places key) then places else finmap.insert places key place

-- the first place of each text's words, and that of each text's name
pub record FindsTexts (places names : TextMapTo ℕ) (texts : List StoreText) : Type 0 where
  pub by_words : FindsPlaces places (all_spelled texts)
  pub by_names : FindsPlaces names (all_named texts)
