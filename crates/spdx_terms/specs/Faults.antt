-- The first fault of a licence expression: what may not are at a place, by what is before it.
use Rattle.std.specs.Prelude.{ℕ, Bool, true, false, not, ◌&&◌, ◌||◌, List, [], ◌∷◌, Option, Some, None, if◌then◌else◌}
use Rattle.std.specs.Prelude.{length, drop}
use Rattle.deny_text.specs.declared.span.Span.{Span}
use Rattle.spdx_terms.specs.declared.mode.ParseMode.{ParseMode}
use Rattle.spdx_terms.specs.declared.error.ParseReason.{ParseReason}
use Rattle.spdx_terms.specs.declared.error.ParseReason.TheVariants.{Empty, InvalidCharacters, SeparatedPlus}
use Rattle.spdx_terms.specs.declared.error.ParseReason.TheVariants.{UnopenedParens, Unexpected, UnknownTerm}
use Rattle.spdx_terms.specs.declared.error.ParseReason.TheVariants.{UnknownException, DeprecatedId, GplNoPlus}
use Rattle.spdx_terms.specs.declared.error.ParseReason.TheVariants.{UnclosedParens}
use Rattle.spdx_terms.specs.declared.error.ParseError.{ParseError}
use Rattle.spdx_terms.specs.declared.item.WantedItem.{WantedItem}
use Rattle.spdx_terms.specs.declared.item.WantedItem.TheVariants.{Term as wants_term, Exception as wants_exception}
use Rattle.spdx_terms.specs.declared.item.WantedItem.TheVariants.{AfterTerm, AfterPart}
use Rattle.spdx_terms.specs.declared.item.ItemKind.{ItemKind}
use Rattle.spdx_terms.specs.declared.item.ItemKind.TheVariants.{Term, Exception, And, Or, With, Open, Close, Plus, Word}
use Rattle.spdx_terms.specs.declared.item.ItemKind.TheVariants.{Other}
use Rattle.spdx_terms.specs.declared.item.Item.{Item}
use Rattle.spdx_terms.specs.declared.item.LicenseMarks.{LicenseMarks}
use Rattle.spdx_terms.specs.declared.item.Simple.{Simple}
use Rattle.spdx_terms.specs.catalog.Catalog.{CatalogLists}
use Rattle.spdx_terms.specs.Items.{items_of, wanted_after}

abbrev pub fault : ParseReason → ℕ → ℕ → Option ParseError
fault reason start end = Some (record { reason = reason; span = record { start = start; end = end } })

abbrev pub fault_over : ParseReason → Span → Option ParseError
fault_over reason span = Some (record { reason = reason; span = span })

abbrev pub fault_unless : Bool → ParseReason → Span → Option ParseError
fault_unless fine reason span = if fine then None else fault_over reason span

abbrev pub takes_term : WantedItem → Bool
takes_term wants_term = true
takes_term wants_exception = false
takes_term AfterTerm = false
takes_term AfterPart = false

abbrev pub takes_exception : WantedItem → Bool
takes_exception wants_term = false
takes_exception wants_exception = true
takes_exception AfterTerm = false
takes_exception AfterPart = false

abbrev pub takes_operator : WantedItem → Bool
takes_operator wants_term = false
takes_operator wants_exception = false
takes_operator AfterTerm = true
takes_operator AfterPart = true

abbrev pub takes_with : WantedItem → Bool
takes_with wants_term = false
takes_with wants_exception = false
takes_with AfterTerm = true
takes_with AfterPart = false

-- what a word is called that is neither operator nor what is wanted
abbrev pub word_reason : WantedItem → ParseReason
word_reason wants_term = UnknownTerm
word_reason wants_exception = UnknownException
word_reason AfterTerm = Unexpected
word_reason AfterPart = Unexpected

-- a mode takes the marks of a term
abbrev pub marks_allowed : ParseMode → LicenseMarks → Bool
marks_allowed mode marks =
    (mode.allow_deprecated || not marks.deprecated) && (mode.allow_postfix_plus_on_gpl || not (marks.gnu && marks.plus))

-- a mark of a term that the mode refuses
abbrev pub mark_fault : ParseMode → Simple → Span → Option ParseError
mark_fault mode simple span =
    if simple.marks.deprecated && not mode.allow_deprecated then fault DeprecatedId span.start simple.name_end
    else fault_unless (not (simple.marks.gnu && simple.marks.plus) || mode.allow_postfix_plus_on_gpl) GplNoPlus span

-- the first of two faults
abbrev pub first_of : Option ParseError → Option ParseError → Option ParseError
first_of None later = later
first_of (Some fault) later = Some fault

-- some parenthesis is open
abbrev pub has_open : List Span → Bool
has_open [] = false
has_open (last ∷ rest) = true

-- what is wrong with an item, by what is wanted and by whether a parenthesis is open
abbrev pub item_fault : ParseMode → WantedItem → Bool → ItemKind → Span → Option ParseError
item_fault mode wanted opened (Term simple) span =
    first_of (fault_unless (takes_term wanted) Unexpected span) (mark_fault mode simple span)
item_fault mode wanted opened (Exception name) span = fault_unless (takes_exception wanted) Unexpected span
item_fault mode wanted opened And span = fault_unless (takes_operator wanted) Unexpected span
item_fault mode wanted opened Or span = fault_unless (takes_operator wanted) Unexpected span
item_fault mode wanted opened With span = fault_unless (takes_with wanted) Unexpected span
item_fault mode wanted opened Open span = fault_unless (takes_term wanted) Unexpected span
item_fault mode wanted opened Close span =
    if opened then fault_unless (takes_operator wanted) Unexpected span else fault_over UnopenedParens span
item_fault mode wanted opened Plus span = fault_over SeparatedPlus span
item_fault mode wanted opened Word span = fault_over (word_reason wanted) span
item_fault mode wanted opened Other span = fault_over InvalidCharacters span

-- the open parentheses behind an item
abbrev pub opened_after : List Span → ItemKind → Span → List Span
opened_after opened (Term simple) span = opened
opened_after opened (Exception name) span = opened
opened_after opened And span = opened
opened_after opened Or span = opened
opened_after opened With span = opened
opened_after opened Open span = span ∷ opened
opened_after opened Close span = drop 1 opened
opened_after opened Plus span = opened
opened_after opened Word span = opened
opened_after opened Other span = opened

-- where the last open parenthesis is
abbrev pub last_open : List Span → Option Span
last_open [] = None
last_open (last ∷ rest) = Some last

abbrev pub unclosed_fault : Option Span → Option ParseError
unclosed_fault None = None
unclosed_fault (Some last) = fault_over UnclosedParens last

-- what is wrong at the end of a text of so many bytes, by the last open parenthesis
abbrev pub end_fault : ℕ → WantedItem → Option Span → Option ParseError
end_fault len wanted opened = if takes_operator wanted then unclosed_fault opened else fault Unexpected len len

abbrev pub fault_from : ParseMode → ℕ → WantedItem → List Span → List Item → Option ParseError
fault_from mode len wanted opened [] = end_fault len wanted (last_open opened)
fault_from mode len wanted opened (item ∷ items) =
    first_of (item_fault mode wanted (has_open opened) item.what item.span)
    (fault_from mode len (wanted_after wanted item.what) (opened_after opened item.what item.span) items)

abbrev pub fault_of : ParseMode → ℕ → List Item → Option ParseError
fault_of mode len [] = fault Empty 0 len
fault_of mode len (item ∷ items) = fault_from mode len wants_term [] (item ∷ items)

-- the first fault of a text
abbrev pub first_fault : ParseMode → CatalogLists → List ℕ → Option ParseError
first_fault mode lists text = fault_of mode (length text) (items_of mode lists text)

-- an item that no licensee has: a licensee is one part without parentheses
abbrev pub is_alone : ItemKind → Bool
is_alone (Term simple) = true
is_alone (Exception name) = true
is_alone And = false
is_alone Or = false
is_alone With = true
is_alone Open = false
is_alone Close = true
is_alone Plus = true
is_alone Word = true
is_alone Other = true

abbrev pub lone_fault : ParseMode → WantedItem → ItemKind → Span → Option ParseError
lone_fault mode wanted what span =
    first_of (fault_unless (is_alone what) Unexpected span) (item_fault mode wanted false what span)

abbrev pub licensee_fault_from : ParseMode → ℕ → WantedItem → List Item → Option ParseError
licensee_fault_from mode len wanted [] = end_fault len wanted None
licensee_fault_from mode len wanted (item ∷ items) =
    first_of (lone_fault mode wanted item.what item.span)
    (licensee_fault_from mode len (wanted_after wanted item.what) items)

abbrev pub licensee_fault_of : ParseMode → ℕ → List Item → Option ParseError
licensee_fault_of mode len [] = fault Empty 0 len
licensee_fault_of mode len (item ∷ items) = licensee_fault_from mode len wants_term (item ∷ items)

-- the mode that licensees are read in: a `+` may follow any licence, and there are no imprecise texts and no slashes
abbrev pub licensee_mode : ParseMode → ParseMode
licensee_mode mode = record {
  allow_deprecated = mode.allow_deprecated;
  allow_imprecise_license_names = false;
  allow_postfix_plus_on_gpl = true;
  allow_slash_as_or_operator = false;
}

-- the first fault of a licensee's text
abbrev pub licensee_fault : ParseMode → CatalogLists → List ℕ → Option ParseError
licensee_fault mode lists text =
    licensee_fault_of (licensee_mode mode) (length text) (items_of (licensee_mode mode) lists text)
