-- The tokens of a licence expression: words, marks, and characters of neither kind (SPDX 2.3, Annex D).
use Rattle.std.specs.Prelude.{ℕ, false, ◌==◌, Bool, ◌&&◌, ◌||◌, List, [], ◌∷◌, Option, Some, None, if◌then◌else◌, codes}
use Rattle.std.specs.Prelude.{nat_eq, drop, length}
use Rattle.std.specs.Str.{byte, bytes_eq}
use Rattle.std.specs.List.{list_any, prefix_len, starts_with, before_first, after_first}
use Rattle.deny_text.specs.Character.{goes_on}
use Rattle.spdx_terms.specs.declared.item.Token.{Token}
use Rattle.spdx_terms.specs.declared.item.Token.TheVariants.{Word, Plus, Open, Close, Slash, Other}
use Rattle.spdx_terms.specs.declared.term.LicenseItem.{LicenseItem}
use Rattle.spdx_terms.specs.declared.term.LicenseItem.TheVariants.{Reference}
use Rattle.spdx_terms.specs.catalog.Words.{is_word_byte, is_word}

-- space, tab, LF or CR
abbrev pub is_white : ℕ → Bool
is_white b = b == byte " " || b == 9 || b == 10 || b == 13

-- a byte of a word: an ASCII letter, a digit, `-`, `.` or `:`
abbrev pub in_word : ℕ → Bool
in_word b = is_word_byte b || b == byte ":"

-- the token that begins with a byte which is no white space; a slash is a mark where the mode has it
abbrev pub token_of : Bool → ℕ → Token
token_of slash b =
    if in_word b then Word
    else (if b == byte "+" then Plus
    else (if b == byte "(" then Open
    else (if b == byte ")" then Close
    else (if slash && b == byte "/" then Slash
    else Other))))

-- a token goes on over a byte: a word is the longest run, a character is whole, and the others are one byte
abbrev pub goes_on_over : Token → ℕ → Bool
goes_on_over Word b = in_word b
goes_on_over Plus b = false
goes_on_over Open b = false
goes_on_over Close b = false
goes_on_over Slash b = false
goes_on_over Other b = goes_on b

-- how many bytes it takes behind its first one
abbrev pub rest_len : Token → List ℕ → ℕ
rest_len token rest = prefix_len (goes_on_over token) rest

abbrev pub one_of : List (List ℕ) → List ℕ → Bool
one_of words text = list_any (bytes_eq text) words

-- the operators as they are spelled in a text
abbrev pub says_and : List ℕ → Bool
says_and = one_of (codes "AND" ∷ codes "and" ∷ [])

abbrev pub says_or : List ℕ → Bool
says_or = one_of (codes "OR" ∷ codes "or" ∷ [])

abbrev pub says_with : List ℕ → Bool
says_with = one_of (codes "WITH" ∷ codes "with" ∷ [])

-- what is behind a prefix
abbrev pub after_prefix : List ℕ → List ℕ → Option (List ℕ)
after_prefix prefix text = if starts_with nat_eq text prefix then Some (drop (length prefix) text) else None

abbrev pub is_colon : ℕ → Bool
is_colon b = b == byte ":"

-- a licence of one's own: its id is one word without a colon
abbrev pub own_license : Option (List ℕ) → Option (List ℕ) → Option LicenseItem
own_license doc None = None
own_license doc (Some id) = if is_word id then Some (Reference doc id) else None

-- one that is in a document of one's own
abbrev pub in_document : Option (List ℕ) → Option LicenseItem
in_document None = None
in_document (Some text) =
    if is_word (before_first is_colon text)
    then own_license (Some (before_first is_colon text))
    (after_prefix (codes "LicenseRef-") (after_first is_colon text))
    else None

abbrev pub or_else : Option LicenseItem → Option LicenseItem → Option LicenseItem
or_else None other = other
or_else (Some item) other = Some item

-- the reference that a word is: `LicenseRef-` and an id, or `DocumentRef-`, a document, `:LicenseRef-` and an id
abbrev pub reference_of : List ℕ → Option LicenseItem
reference_of word =
    or_else (own_license None (after_prefix (codes "LicenseRef-") word))
    (in_document (after_prefix (codes "DocumentRef-") word))
