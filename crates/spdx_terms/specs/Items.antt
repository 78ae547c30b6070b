-- The items of a licence expression: its terms and exceptions where they are wanted, operators, marks, and all else.
use Rattle.std.specs.Prelude.{ℕ, ◌+◌, ◌==◌, nat_lt, nat_le, Bool, true, false, not, ◌&&◌, ◌||◌, List, [], ◌∷◌, Option}
use Rattle.std.specs.Prelude.{Some, None, is_some, if◌then◌else◌, unwrap_or, take, drop, length, slice_get}
use Rattle.std.specs.Str.{byte, str_eq_ignore_ascii_case}
use Rattle.std.specs.Option.{option_map, option_or}
use Rattle.deny_text.specs.declared.span.Span.{Span}
use Rattle.spdx_terms.specs.declared.catalog.catalog.LicenseEntry.{LicenseEntry}
use Rattle.spdx_terms.specs.declared.catalog.catalog.Imprecise.{Imprecise}
use Rattle.spdx_terms.specs.declared.mode.ParseMode.{ParseMode}
use Rattle.spdx_terms.specs.declared.item.Token.{Token}
use Rattle.spdx_terms.specs.declared.item.Token.TheVariants.{Word as a_word, Plus as a_plus, Open as an_open}
use Rattle.spdx_terms.specs.declared.item.Token.TheVariants.{Close as a_close, Slash as a_slash, Other as another}
use Rattle.spdx_terms.specs.declared.item.WantedItem.{WantedItem}
use Rattle.spdx_terms.specs.declared.item.WantedItem.TheVariants.{Term as wants_term, Exception as wants_exception}
use Rattle.spdx_terms.specs.declared.item.WantedItem.TheVariants.{AfterTerm, AfterPart}
use Rattle.spdx_terms.specs.declared.item.ItemKind.{ItemKind}
use Rattle.spdx_terms.specs.declared.item.ItemKind.TheVariants.{Term, Exception, And, Or, With, Open, Close, Plus, Word}
use Rattle.spdx_terms.specs.declared.item.ItemKind.TheVariants.{Other}
use Rattle.spdx_terms.specs.declared.item.Item.{Item}
use Rattle.spdx_terms.specs.declared.item.LicenseMarks.{LicenseMarks}
use Rattle.spdx_terms.specs.declared.term.LicenseItem.{LicenseItem}
use Rattle.spdx_terms.specs.declared.term.LicenseItem.TheVariants.{Spdx}
use Rattle.spdx_terms.specs.catalog.Catalog.{CatalogLists, entry_of}
use Rattle.spdx_terms.specs.catalog.Words.{ends_word}
use Rattle.spdx_terms.specs.Tokens.{is_white, token_of, rest_len, one_of, says_and, says_or, says_with, reference_of}

-- so many bytes from a place on
abbrev pub span_at : ℕ → ℕ → Span
span_at place len = record { start = place; end = place + len }

abbrev pub item_at : ItemKind → ℕ → ℕ → Item
item_at what place len = record { what = what; span = span_at place len }

-- what is wanted behind an item
abbrev pub wanted_after : WantedItem → ItemKind → WantedItem
wanted_after wanted (Term simple) = AfterTerm
wanted_after wanted (Exception name) = AfterPart
wanted_after wanted And = wants_term
wanted_after wanted Or = wants_term
wanted_after wanted With = wants_exception
wanted_after wanted Open = wants_term
wanted_after wanted Close = AfterPart
wanted_after wanted Plus = wanted
wanted_after wanted Word = wanted
wanted_after wanted Other = wanted

-- an operator, or a word that is none
abbrev pub operator_of : List ℕ → ItemKind
operator_of word = if says_and word then And else (if says_or word then Or else (if says_with word then With else Word))

abbrev pub is_operator_text : List ℕ → Bool
is_operator_text word = says_and word || says_or word || says_with word

-- a `+` directly behind so many bytes
abbrev pub plus_behind : List ℕ → ℕ → Bool
plus_behind text len = unwrap_or (option_map (λ b. b == byte "+") (slice_get text len)) false

-- a term with a `+` or without
abbrev pub term_of : LicenseItem → LicenseMarks → ℕ → ℕ → Item
term_of item marks place len =
    item_at (Term (record { item = item; marks = marks; name_end = place + len })) place
    (if marks.plus then len + 1 else len)

abbrev pub license_of : List ℕ → LicenseEntry → Bool → ℕ → ℕ → Item
license_of name entry plus place len =
    term_of (Spdx name entry.family entry.rank (plus || entry.later) plus)
    (record { later = entry.later; deprecated = entry.deprecated; gnu = entry.gnu; plus = plus }) place len

-- the licence of a name that takes so many bytes of a text
abbrev pub license_at : CatalogLists → List ℕ → ℕ → List ℕ → ℕ → Option Item
license_at lists name place text len =
    option_map (λ entry. license_of name entry (plus_behind text len) place len) (entry_of lists.licenses name)

abbrev pub reference_at : List ℕ → ℕ → ℕ → Option Item
reference_at word place len =
    option_map
    (λ item. term_of item (record { later = false; deprecated = false; gnu = false; plus = false }) place len)
    (reference_of word)

-- an imprecise text begins a text without regard to ASCII case, and its last word ends there
abbrev pub begins : List ℕ → List ℕ → Bool
begins imprecise text =
    str_eq_ignore_ascii_case imprecise (take (length imprecise) text) && ends_word (drop (length imprecise) text)

-- the longer of two, and of equally long ones the second
abbrev pub longer_match : ℕ × List ℕ → Option (ℕ × List ℕ) → Option (ℕ × List ℕ)
longer_match found None = Some found
longer_match found (Some best) = if nat_le found.0 best.0 then Some best else Some found

-- the longest listed text that begins a text: its length and the licence that it means
abbrev pub longest_match : List (List ℕ × List ℕ) → List ℕ → Option (ℕ × List ℕ)
longest_match [] text = None
longest_match (one ∷ rest) text =
    if begins one.0 text then longer_match (length one.0, one.1) (longest_match rest text) else longest_match rest text

-- what a catalogue found at the start of a text: its length and the licence that is meant
abbrev pub imprecise_of : Imprecise → ℕ × List ℕ
imprecise_of found = (found.len, found.name.now)

-- a word has a reading of its own: it is an operator, a reference or a licence name
abbrev pub has_reading : CatalogLists → List ℕ → Bool
has_reading lists word = is_operator_text word || is_some (reference_of word) || is_some (entry_of lists.licenses word)

-- an imprecise text is taken where it is longer than the word, or the word has no reading of its own
abbrev pub imprecise_at : CatalogLists → ℕ → List ℕ → ℕ → Option (ℕ × List ℕ) → Option Item
imprecise_at lists place text len None = None
imprecise_at lists place text len (Some found) =
    if nat_lt len found.0 || not (has_reading lists (take len text)) then license_at lists found.1 place text found.0
    else None

abbrev pub imprecise_if : Bool → CatalogLists → ℕ → List ℕ → ℕ → Option Item
imprecise_if true lists place text len = imprecise_at lists place text len (longest_match lists.imprecise text)
imprecise_if false lists place text len = None

-- a word of a text where a term is wanted, without imprecise texts: a reference, a licence name, or what it is
-- everywhere
abbrev pub plain_item : CatalogLists → ℕ → List ℕ → ℕ → Item
plain_item lists place text len =
    unwrap_or (option_or (reference_at (take len text) place len) (license_at lists (take len text) place text len))
    (item_at (operator_of (take len text)) place len)

-- the same with them; the text is what is from the place on
abbrev pub term_item : ParseMode → CatalogLists → ℕ → List ℕ → ℕ → Item
term_item mode lists place text len =
    unwrap_or (imprecise_if mode.allow_imprecise_license_names lists place text len) (plain_item lists place text len)

abbrev pub exception_item : CatalogLists → ℕ → List ℕ → ℕ → Item
exception_item lists place word len =
    item_at (if one_of lists.exceptions word then Exception word else operator_of word) place len

-- a word by what is wanted
abbrev pub word_item : ParseMode → CatalogLists → WantedItem → ℕ → List ℕ → ℕ → Item
word_item mode lists wants_term place text len = term_item mode lists place text len
word_item mode lists wants_exception place text len = exception_item lists place (take len text) len
word_item mode lists AfterTerm place text len = item_at (operator_of (take len text)) place len
word_item mode lists AfterPart place text len = item_at (operator_of (take len text)) place len

-- the item that begins with a token
abbrev pub token_item : ParseMode → CatalogLists → WantedItem → ℕ → List ℕ → ℕ → Token → Item
token_item mode lists wanted place text len a_word = word_item mode lists wanted place text len
token_item mode lists wanted place text len a_plus = item_at Plus place len
token_item mode lists wanted place text len an_open = item_at Open place len
token_item mode lists wanted place text len a_close = item_at Close place len
token_item mode lists wanted place text len a_slash = item_at Or place len
token_item mode lists wanted place text len another = item_at Other place len

-- the item that begins a text whose first byte is no white space
abbrev pub first_item : ParseMode → CatalogLists → WantedItem → ℕ → ℕ → List ℕ → Item
first_item mode lists wanted place b rest =
    let token = token_of mode.allow_slash_as_or_operator b in
    token_item mode lists wanted place (b ∷ rest) (1 + rest_len token rest) token

-- the item that begins at a byte, unless it is passed over
abbrev pub item_here : Bool → ParseMode → CatalogLists → WantedItem → ℕ → ℕ → List ℕ → Option Item
item_here true mode lists wanted place b rest = None
item_here false mode lists wanted place b rest = Some (first_item mode lists wanted place b rest)

abbrev pub with_item : Option Item → List Item → List Item
with_item None items = items
with_item (Some item) items = item ∷ items

abbrev pub wanted_behind : WantedItem → Option Item → WantedItem
wanted_behind wanted None = wanted
wanted_behind wanted (Some item) = wanted_after wanted item.what

abbrev pub used_behind : ℕ → Option Item → ℕ
used_behind used None = used
used_behind used (Some item) = item.span.end

-- The items of what is from a place on. White space is passed over, and so is what the item before has used.
abbrev pub items_from : ParseMode → CatalogLists → WantedItem → ℕ → ℕ → List ℕ → List Item
items_from mode lists wanted place used [] = []
items_from mode lists wanted place used (b ∷ rest) =
    let found = item_here (nat_lt place used || is_white b) mode lists wanted place b rest in
    with_item found (items_from mode lists (wanted_behind wanted found) (place + 1) (used_behind used found) rest)

-- the items of a text
abbrev pub items_of : ParseMode → CatalogLists → List ℕ → List Item
items_of mode lists text = items_from mode lists wants_term 0 0 text
