-- The exact identifier over stored texts, and the text of a name.
use Rattle.std.specs.Prelude.{◌≤◌, ℕ, Bool, false, List, [], ◌∷◌, Option, Some, None, find, option_map}
use Rattle.std.proofs.Common.{lit≤}
use Rattle.std.specs.Str.{bytes_eq}
use Rattle.std.specs.Cmp.Lexicographic.{pointwise}
use Rattle.spdx_terms.specs.declared.catalog.identifier.Match.{Match}
use Rattle.spdx_terms.specs.declared.catalog.store.StoreText.{StoreText}
use Rattle.spdx_terms.specs.catalog.Identifier.{no_match}
use Rattle.spdx_terms.specs.catalog.TextWords.{words_of}

-- the same words, of which there is at least one
abbrev pub same_words : List (List ℕ) → List (List ℕ) → Bool
same_words stored [] = false
same_words stored (word ∷ words) = pointwise bytes_eq stored (word ∷ words)

-- the first stored text with the same words as a text, where the text has some
abbrev pub stored_for : List StoreText → List ℕ → Option StoreText
stored_for texts text = find (λ stored. same_words (words_of stored.body) (words_of text)) texts

-- the licence that a stored text is, for certain
abbrev pub match_with : Option StoreText → Match
match_with None = no_match
match_with (Some stored) = record { name = Some stored.name; score = 100 }

-- what a store says of a text
abbrev pub match_of : List StoreText → List ℕ → Match
match_of texts text = match_with (stored_for texts text)

pub score_within : (found : Option StoreText) → (match_with found).score ≤ 100
score_within None = lit≤ tt
score_within (Some stored) = lit≤ tt

-- ---- by a name

-- the first stored text of a name
abbrev pub named_for : List StoreText → List ℕ → Option StoreText
named_for texts name = find (λ stored. bytes_eq stored.name name) texts

-- its body
abbrev pub text_of_store : List StoreText → List ℕ → Option (List ℕ)
text_of_store texts name = option_map (λ (stored : StoreText). stored.body) (named_for texts name)
