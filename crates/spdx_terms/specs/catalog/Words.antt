-- The words that licence expressions are made of (SPDX 2.3, Annex D).
use Rattle.std.specs.Prelude.{ℕ, ◌==◌, Bool, true, false, not, ◌&&◌, ◌||◌, List, [], ◌∷◌, codes, nat_eq}
use Rattle.std.specs.Char.{is_ascii_alphanumeric}
use Rattle.std.specs.Str.{byte, str_eq_ignore_ascii_case}
use Rattle.std.specs.List.{list_all, list_any, starts_with, slice_split, before_first}

-- an ASCII letter, a digit, `-` or `.`
abbrev pub is_word_byte : ℕ → Bool
is_word_byte b = is_ascii_alphanumeric b || b == byte "-" || b == byte "."

-- at least one such byte, and no other
abbrev pub is_word : List ℕ → Bool
is_word [] = false
is_word (b ∷ bs) = is_word_byte b && list_all is_word_byte bs

-- `AND`, `OR` or `WITH`, in any case
abbrev pub is_operator : List ℕ → Bool
is_operator word = list_any (str_eq_ignore_ascii_case word) (codes "AND" ∷ codes "OR" ∷ codes "WITH" ∷ [])

-- begins as a reference to a licence or a document of one's own does
abbrev pub is_reference : List ℕ → Bool
is_reference word = starts_with nat_eq word (codes "LicenseRef-") || starts_with nat_eq word (codes "DocumentRef-")

-- can be the name of a licence or of an exception: one word that is no operator and no reference
abbrev pub is_name : List ℕ → Bool
is_name word = is_word word && not (is_operator word) && not (is_reference word)

abbrev pub is_space : ℕ → Bool
is_space b = b == byte " "

-- can be an imprecise text: words with single spaces between, of which the first is no operator
abbrev pub is_imprecise : List ℕ → Bool
is_imprecise text = list_all is_word (slice_split is_space text) && not (is_operator (before_first is_space text))

-- what is here goes on no word: the end, or a byte that is no part of a word and no colon
abbrev pub ends_word : List ℕ → Bool
ends_word [] = true
ends_word (b ∷ bs) = not (is_word_byte b || b == byte ":")
