-- Where faults lie in a text.
use Rattle.std.proofs.Common.{◌≡◌, ◌∙◌, refl, sym, subst, ℕ, ◌+◌, ◌-◌, ◌<◌, ◌≤◌, ◌⊎◌, inl, inr, zero, suc, Bool, true, false, not, ◌&&◌, ◌||◌, cond, List, [], ◌∷◌, map, Option, Some, None, length, drop, get_or, arith}
use Rattle.std.proofs.lemmas.Bool.{false≢true}
use Rattle.std.proofs.lemmas.Bool.Decides.{nat_tests}
use Rattle.std.proofs.lemmas.List.{get_or-drop, length-drop}
use Rattle.std.proofs.lemmas.Str.{IsCharBoundary-start, IsCharBoundary-end}
use Rattle.std.specs.Str.{IsUtf8, IsCharBoundary}
use Rattle.deny_text.specs.declared.span.Span.{Span}
use Rattle.deny_text.specs.Spans.{LiesBetween}
use Rattle.spdx_terms.specs.catalog.Catalog.{CatalogLists, IsCatalog}
use Rattle.spdx_terms.specs.declared.mode.ParseMode.{ParseMode}
use Rattle.spdx_terms.specs.declared.error.ParseError.{ParseError}
use Rattle.spdx_terms.specs.declared.error.ParseReason.{ParseReason}
use Rattle.spdx_terms.specs.declared.error.ParseReason.TheVariants.{Unexpected, DeprecatedId, GplNoPlus}
use Rattle.spdx_terms.specs.declared.term.LicenseItem.{LicenseItem}
use Rattle.spdx_terms.specs.declared.item.WantedItem.{WantedItem}
use Rattle.spdx_terms.specs.declared.item.WantedItem.TheVariants.{Term as wants_term}
use Rattle.spdx_terms.specs.declared.item.ItemKind.{ItemKind}
use Rattle.spdx_terms.specs.declared.item.ItemKind.TheVariants.{Term, Exception, And, Or, With, Open, Close, Plus, Word, Other}
use Rattle.spdx_terms.specs.declared.item.Item.{Item}
use Rattle.spdx_terms.specs.declared.item.Simple.{Simple}
use Rattle.spdx_terms.specs.Spans.{Rise}
use Rattle.spdx_terms.specs.Items.{item_at, term_of, plus_behind, items_of, wanted_after}
use Rattle.spdx_terms.specs.Faults.{fault_unless, fault_over, takes_term, takes_exception, takes_operator, takes_with, word_reason, mark_fault, first_of, item_fault, opened_after, has_open, last_open, end_fault, fault_from, fault_of, first_fault, is_alone, lone_fault, licensee_mode, licensee_fault, licensee_fault_from, licensee_fault_of}
use Rattle.spdx_terms.proofs.ItemSpans.{items_rise}
use Rattle.spdx_core.proofs.ItemKinds.{is_other, Kinds, Each, each_item}

-- ---- where names end

-- the name of a term begins where the term does, and ends there too or before a `+`
record NameEnds (place : ℕ) (text : List ℕ) (named : Simple) (span : Span) : Type 0 where
  start : span.start ≡ place
  len : ℕ
  name : named.name_end ≡ place + len
  ends : (span.end ≡ place + len) ⊎ ((len < length text) × (get_or text len 0 ≡ 43))

Named : ℕ → List ℕ → ItemKind → Span → Type 0
Named place text (Term named) span = NameEnds place text named span
Named place text (Exception name) span = Unit {0}
Named place text And span = Unit {0}
Named place text Or span = Unit {0}
Named place text With span = Unit {0}
Named place text Open span = Unit {0}
Named place text Close span = Unit {0}
Named place text Plus span = Unit {0}
Named place text Word span = Unit {0}
Named place text Other span = Unit {0}

abbrev NamedItem : ℕ → List ℕ → Item → Type 0
NamedItem place text it = Named place text it.what it.span

plus_at : (text : List ℕ) (k : ℕ) → plus_behind text k ≡ true → (k < length text) × (get_or text k 0 ≡ 43)
plus_at [] k h = absurd (false≢true h)
plus_at (b ∷ rest) zero h = (omega arith, grind (arith, nat_tests))
plus_at (b ∷ rest) (suc k) h = let more = plus_at rest k h in (omega arith, more.1)

named_term : (plus : Bool) (item : LicenseItem) (later deprecated gnu : Bool) (place len : ℕ) (text : List ℕ) → (plus ≡ true → (len < length text) × (get_or text len 0 ≡ 43))
    → NamedItem place text (term_of item (record { later = later; deprecated = deprecated; gnu = gnu; plus = plus }) place len)
unfolding Named
named_term true item later deprecated gnu place len text behind = record { start = refl; len = len; name = refl; ends = inr (behind refl) }
named_term false item later deprecated gnu place len text behind = record { start = refl; len = len; name = refl; ends = inl refl }

named_other : (what : ItemKind) (place : ℕ) (text : List ℕ) (len : ℕ) → is_other what ≡ true → NamedItem place text (item_at what place len)
unfolding Named
named_other (Term named) place text len is = absurd (false≢true is)
named_other (Exception name) place text len is = tt
named_other And place text len is = tt
named_other Or place text len is = tt
named_other With place text len is = tt
named_other Open place text len is = tt
named_other Close place text len is = tt
named_other Plus place text len is = tt
named_other Word place text len is = tt
named_other Other place text len is = tt

named_kinds : (lists : CatalogLists) → Kinds lists NamedItem
unfolding Named
named_kinds lists = record {
  license = λ name entry place text len is. named_term (plus_behind text len) _ entry.later entry.deprecated entry.gnu place len text (λ h. plus_at text len h);
  reference = λ item place text len is. named_term false item false false false place len text (λ h. absurd (false≢true h));
  exception = λ name place text len is. tt;
  other = λ what place text len is. named_other what place text len is;
}

-- the same in the whole text: a name's end lies behind its start, and is the term's end or a border
record NameLies (text : List ℕ) (named : Simple) (span : Span) : Type 0 where
  behind : span.start ≤ named.name_end
  border : (span.end ≡ named.name_end) ⊎ IsCharBoundary text named.name_end

Lies : List ℕ → ItemKind → Span → Type 0
Lies text (Term named) span = NameLies text named span
Lies text (Exception name) span = Unit {0}
Lies text And span = Unit {0}
Lies text Or span = Unit {0}
Lies text With span = Unit {0}
Lies text Open span = Unit {0}
Lies text Close span = Unit {0}
Lies text Plus span = Unit {0}
Lies text Word span = Unit {0}
Lies text Other span = Unit {0}

abbrev NamesLie : List ℕ → List Item → Type 0
NamesLie text items = Each (λ it. Lies text it.what it.span) items

name_lies : (text : List ℕ) (place : ℕ) (named : Simple) (span : Span) → NameEnds place (drop place text) named span → NameLies text named span
name_lies text place named span ends =
    let name : named.name_end ≡ place + ends.len = ends.name in
    let start : span.start ≡ place = ends.start in
    record {
      behind = omega arith;
      border = elim ends.ends as (λ _. (span.end ≡ named.name_end) ⊎ IsCharBoundary text named.name_end) [
        | inl same ↦ inl (same ∙ sym name)
        | inr plus ↦
            let at : get_or (drop place text) ends.len 0 ≡ get_or text (place + ends.len) 0 = get_or-drop place text ends.len 0 in
            let byte : get_or text (place + ends.len) 0 ≡ 43 = sym at ∙ plus.1 in
            let total : length (drop place text) ≡ length text - place = length-drop place text in
            let inside : ends.len < length (drop place text) = plus.0 in
            let border : IsCharBoundary text (place + ends.len) = (omega arith, λ below high. absurd (omega (arith, byte))) in
            inr (subst (λ k. IsCharBoundary text k) (sym name) border)
      ];
    }

lies_by : (text : List ℕ) (place : ℕ) (what : ItemKind) (span : Span) → Named place (drop place text) what span → Lies text what span
unfolding Named Lies
lies_by text place (Term named) span ends = name_lies text place named span ends
lies_by text place (Exception name) span ends = tt
lies_by text place And span ends = tt
lies_by text place Or span ends = tt
lies_by text place With span ends = tt
lies_by text place Open span ends = tt
lies_by text place Close span ends = tt
lies_by text place Plus span ends = tt
lies_by text place Word span ends = tt
lies_by text place Other span ends = tt

names_lie : (mode : ParseMode) (lists : CatalogLists) (text : List ℕ) → NamesLie text (items_of mode lists text)
names_lie mode lists text =
    each_item (named_kinds lists) mode text (λ it. Lies text it.what it.span) (λ place it ends. lies_by text place it.what it.span ends) wants_term 0 0 text refl

-- ---- where faults lie

Told : List ℕ → Option ParseError → Type 0
Told text None = Unit {0}
Told text (Some fault) = LiesBetween text fault.span

told_unless : (text : List ℕ) (fine : Bool) (reason : ParseReason) (span : Span) → LiesBetween text span → Told text (fault_unless fine reason span)
unfolding Told
told_unless text true reason span lies = tt
told_unless text false reason span lies = lies

told_over : (text : List ℕ) (reason : ParseReason) (span : Span) → LiesBetween text span → Told text (fault_over reason span)
unfolding Told
told_over text reason span lies = lies

told_first : (text : List ℕ) (a b : Option ParseError) → Told text a → Told text b → Told text (first_of a b)
unfolding Told
told_first text None b p q = q
told_first text (Some fault) b p q = p

told_cond : (text : List ℕ) (t : Bool) (a b : Option ParseError) → Told text a → Told text b → Told text (cond t a b)
told_cond text true a b p q = p
told_cond text false a b p q = q

name_in : (text : List ℕ) (named : Simple) (span : Span) → LiesBetween text span → NameLies text named span → LiesBetween text (record { start = span.start; end = named.name_end })
name_in text named span lies name = record {
  ordered = name.behind;
  start_border = lies.start_border;
  end_border = elim name.border as (λ _. IsCharBoundary text named.name_end) [
    | inl same ↦ subst (λ k. IsCharBoundary text k) same lies.end_border
    | inr border ↦ border
  ];
}

told_marks : (text : List ℕ) (mode : ParseMode) (named : Simple) (span : Span) → LiesBetween text span → NameLies text named span → Told text (mark_fault mode named span)
told_marks text mode named span lies name =
    told_cond text (named.marks.deprecated && not mode.allow_deprecated) _ _
    (told_over text DeprecatedId (record { start = span.start; end = named.name_end }) (name_in text named span lies name))
    (told_unless text (not (named.marks.gnu && named.marks.plus) || mode.allow_postfix_plus_on_gpl) GplNoPlus span lies)

told_at : (text : List ℕ) (mode : ParseMode) (wanted : WantedItem) (opened : Bool) (what : ItemKind) (span : Span) → LiesBetween text span → Lies text what span → Told text (item_fault mode wanted opened what span)
unfolding Lies
told_at text mode wanted opened (Term named) span lies name = told_first text (fault_unless (takes_term wanted) Unexpected span) (mark_fault mode named span) (told_unless text (takes_term wanted) Unexpected span lies) (told_marks text mode named span lies name)
told_at text mode wanted opened (Exception name) span lies there = told_unless text (takes_exception wanted) Unexpected span lies
told_at text mode wanted opened And span lies there = told_unless text (takes_operator wanted) Unexpected span lies
told_at text mode wanted opened Or span lies there = told_unless text (takes_operator wanted) Unexpected span lies
told_at text mode wanted opened With span lies there = told_unless text (takes_with wanted) Unexpected span lies
told_at text mode wanted opened Open span lies there = told_unless text (takes_term wanted) Unexpected span lies
told_at text mode wanted opened Close span lies there = told_cond text opened _ _ (told_unless text (takes_operator wanted) Unexpected span lies) (told_over text _ span lies)
told_at text mode wanted opened Plus span lies there = told_over text _ span lies
told_at text mode wanted opened Word span lies there = told_over text (word_reason wanted) span lies
told_at text mode wanted opened Other span lies there = told_over text _ span lies

-- open parentheses lie in the text
AllIn : List ℕ → List Span → Type 0
AllIn text [] = Unit {0}
AllIn text (span ∷ spans) = LiesBetween text span × AllIn text spans

all_but_first : (text : List ℕ) (opened : List Span) → AllIn text opened → AllIn text (drop 1 opened)
unfolding AllIn
all_but_first text [] all = tt
all_but_first text (span ∷ spans) all = all.1

opened_lie : (text : List ℕ) (opened : List Span) (what : ItemKind) (span : Span) → AllIn text opened → LiesBetween text span → AllIn text (opened_after opened what span)
unfolding AllIn
opened_lie text opened (Term named) span all lies = all
opened_lie text opened (Exception name) span all lies = all
opened_lie text opened And span all lies = all
opened_lie text opened Or span all lies = all
opened_lie text opened With span all lies = all
opened_lie text opened Open span all lies = (lies, all)
opened_lie text opened Close span all lies = all_but_first text opened all
opened_lie text opened Plus span all lies = all
opened_lie text opened Word span all lies = all
opened_lie text opened Other span all lies = all

at_end : (text : List ℕ) → LiesBetween text (record { start = length text; end = length text })
at_end text = record { ordered = omega arith; start_border = IsCharBoundary-end text; end_border = IsCharBoundary-end text }

told_unclosed : (text : List ℕ) (opened : List Span) (wanted : WantedItem) → AllIn text opened → Told text (end_fault (length text) wanted (last_open opened))
unfolding AllIn Told
told_unclosed text [] wanted all = told_cond text (takes_operator wanted) _ _ tt (at_end text)
told_unclosed text (last ∷ rest) wanted all = told_cond text (takes_operator wanted) _ _ all.0 (at_end text)

item_in : (text : List ℕ) (place : ℕ) (it : Item) (items : List Item) (end : ℕ) → Rise text place (map (λ item. item.span) (it ∷ items)) end → LiesBetween text it.span
item_in text place it items end rise = let some : it.span.start < it.span.end = rise.0.some in record { ordered = omega arith; start_border = rise.0.start_border; end_border = rise.0.end_border }

told_from : (text : List ℕ) (mode : ParseMode) (wanted : WantedItem) (opened : List Span) (place : ℕ) (items : List Item) → AllIn text opened → Rise text place (map (λ item. item.span) items) (length text) → NamesLie text items
    → Told text (fault_from mode (length text) wanted opened items)
told_from text mode wanted opened place [] all rise names = told_unclosed text opened wanted all
told_from text mode wanted opened place (it ∷ items) all rise names =
    let lies = item_in text place it items (length text) rise in
    told_first text (item_fault mode wanted (has_open opened) it.what it.span) _
    (told_at text mode wanted (has_open opened) it.what it.span lies names.0)
    (told_from text mode (wanted_after wanted it.what) (opened_after opened it.what it.span) it.span.end items (opened_lie text opened it.what it.span all lies) rise.1 names.1)

told_empty : (text : List ℕ) (reason : ParseReason) → IsUtf8 text → LiesBetween text (record { start = 0; end = length text })
told_empty text reason utf8 = record { ordered = omega arith; start_border = IsCharBoundary-start text utf8; end_border = IsCharBoundary-end text }

told_of : (text : List ℕ) (mode : ParseMode) (items : List Item) → IsUtf8 text → Rise text 0 (map (λ item. item.span) items) (length text) → NamesLie text items → Told text (fault_of mode (length text) items)
unfolding AllIn Told
told_of text mode [] utf8 rise names = told_empty text Unexpected utf8
told_of text mode (it ∷ items) utf8 rise names = told_from text mode wants_term [] 0 (it ∷ items) tt rise names

-- the same of licensees
told_lone : (text : List ℕ) (mode : ParseMode) (wanted : WantedItem) (what : ItemKind) (span : Span) → LiesBetween text span → Lies text what span → Told text (lone_fault mode wanted what span)
told_lone text mode wanted what span lies name =
    told_first text (fault_unless (is_alone what) Unexpected span) (item_fault mode wanted false what span) (told_unless text (is_alone what) Unexpected span lies) (told_at text mode wanted false what span lies name)

told_alone : (text : List ℕ) (mode : ParseMode) (wanted : WantedItem) (place : ℕ) (items : List Item) → Rise text place (map (λ item. item.span) items) (length text) → NamesLie text items → Told text (licensee_fault_from mode (length text) wanted items)
unfolding AllIn
told_alone text mode wanted place [] rise names = told_unclosed text [] wanted tt
told_alone text mode wanted place (it ∷ items) rise names =
    told_first text (lone_fault mode wanted it.what it.span) _
    (told_lone text mode wanted it.what it.span (item_in text place it items (length text) rise) names.0)
    (told_alone text mode (wanted_after wanted it.what) it.span.end items rise.1 names.1)

told_licensee : (text : List ℕ) (mode : ParseMode) (items : List Item) → IsUtf8 text → Rise text 0 (map (λ item. item.span) items) (length text) → NamesLie text items → Told text (licensee_fault_of mode (length text) items)
unfolding Told
told_licensee text mode [] utf8 rise names = told_empty text Unexpected utf8
told_licensee text mode (it ∷ items) utf8 rise names = told_alone text mode wants_term 0 (it ∷ items) rise names

found_in : (text : List ℕ) (found : Option ParseError) (fault : ParseError) → Told text found → found ≡ Some fault → LiesBetween text fault.span
unfolding Told
found_in text found fault told is = subst (λ (one : Option ParseError). Told text one) is told

pub fault_lies : (mode : ParseMode) (lists : CatalogLists) (text : List ℕ) (fault : ParseError) → IsCatalog lists → IsUtf8 text → first_fault mode lists text ≡ Some fault → LiesBetween text fault.span
fault_lies mode lists text fault laws utf8 is =
    found_in text (first_fault mode lists text) fault
    (told_of text mode (items_of mode lists text) utf8 (items_rise mode lists laws text utf8) (names_lie mode lists text)) is

pub licensee_fault_lies : (mode : ParseMode) (lists : CatalogLists) (text : List ℕ) (fault : ParseError) → IsCatalog lists → IsUtf8 text → licensee_fault mode lists text ≡ Some fault → LiesBetween text fault.span
licensee_fault_lies mode lists text fault laws utf8 is =
    let plain = licensee_mode mode in
    found_in text (licensee_fault mode lists text) fault
    (told_licensee text plain (items_of plain lists text) utf8 (items_rise plain lists laws text utf8) (names_lie plain lists text)) is
