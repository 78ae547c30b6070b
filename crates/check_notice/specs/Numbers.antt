-- Texts, each once, with their numbers.
use Rattle.std.specs.Prelude.{◌≡◌, ℕ, ◌+◌, List, [], ◌∷◌, ◌++◌, position, if◌then◌else◌}
use Rattle.std.specs.FinMap as finmap
use Rattle.std.specs.List.{fold, position_or_len}
use Rattle.std.specs.Str.{bytes_eq}
use Rattle.deny_text.specs.TextMap.{TextMapTo}
use Rattle.graph_core.specs.Krate.{has_text}

-- a text behind the others, where it is not among them
abbrev pub with_text : List (List ℕ) → List ℕ → List (List ℕ)
with_text texts text = if has_text texts text then texts else texts ++ text ∷ []

-- each text once, in the order in which they first come
abbrev pub distinct_of : List (List ℕ) → List (List ℕ)
distinct_of texts = fold with_text [] texts

-- the number of a text among others, from 1
abbrev pub number_in : List (List ℕ) → List ℕ → ℕ
number_in texts text = position_or_len (λ one. bytes_eq one text) texts + 1

-- a map has the place of each text. Only a private type cites this.
abbrev pub FindsTexts : TextMapTo ℕ → List (List ℕ) → Type 0
FindsTexts places texts =
    (text : List ℕ) → finmap.get places text ≡ position (λ one. bytes_eq one text) texts
