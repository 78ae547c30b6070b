-- The words of the lines of a text, one line after the other.
use Rattle.std.proofs.Common.{◌≡◌, ◌∙◌, ℕ, ◌+◌, ◌<◌, List, ◌∷◌, ◌++◌, length, drop, get_or, ap, sym, append_assoc, codes}
use Rattle.std.proofs.lemmas.List.{at_drop_more, map-append}
use Rattle.std.proofs.lemmas.List.Concat.{flat_map-append}
use Rattle.std.specs.Char.{to_ascii_lowercase}
use Rattle.std.specs.List.{flat_map}
use Rattle.std.specs.Str.{str_to_ascii_lowercase}
use Rattle.spdx_terms.specs.catalog.TextWords.{line_words, words_with_spaces}

-- the line at a place, and those after it
pub spelled-drop : (lines : List (List ℕ)) (n : ℕ) (line : List ℕ) → (n < length lines) × (line ≡ get_or lines n line) → words_with_spaces (flat_map line_words (drop n lines)) ≡ words_with_spaces (line_words line) ++ words_with_spaces (flat_map line_words (drop (n + 1) lines))
spelled-drop lines n line at =
    at_drop_more (λ lines. words_with_spaces (flat_map line_words lines)) lines n line at.0
    ∙ ap (λ line. words_with_spaces (flat_map line_words (line ∷ drop (n + 1) lines))) (sym at.1)
    ∙ flat_map-append (λ word. word ++ codes " ") (line_words line) (flat_map line_words (drop (n + 1) lines))

-- a list that grew by the front of what is left
pub grown : {X : Type 0} (old new front rest left whole : List X) → new ≡ old ++ front → left ≡ front ++ rest → old ++ left ≡ whole → new ++ rest ≡ whole
grown old new front rest left whole e f h = ap (λ l. l ++ rest) e ∙ append_assoc old front rest ∙ ap (λ l. old ++ l) (sym f) ∙ h

-- a word more behind the words so far, in lower case
pub lower_more : (words word : List ℕ) → str_to_ascii_lowercase (words ++ (word ++ codes " ")) ≡ str_to_ascii_lowercase words ++ (str_to_ascii_lowercase word ++ codes " ")
lower_more words word =
    map-append to_ascii_lowercase words (word ++ codes " ")
    ∙ ap (λ added. str_to_ascii_lowercase words ++ added) (map-append to_ascii_lowercase word (codes " "))
