-- Where the items of a text are, and what the slash changes.
use Rattle.std.proofs.Common.{◌≡◌, ◌∙◌, refl, sym, ap, subst, ℕ, ◌+◌, ◌-◌, ◌<◌, ◌≤◌, Bool, true, false, not, ◌||◌, cond, IsTrue, nat_lt, nat_eq, List, [], ◌∷◌, map, Option, Some, length, drop, arith}
use Rattle.std.proofs.lemmas.Bool.{false≢true}
use Rattle.std.proofs.lemmas.Bool.Decides.{nat_tests}
use Rattle.std.proofs.lemmas.List.{drop-drop, length-drop}
use Rattle.std.proofs.lemmas.Str.{IsCharBoundary-after_ascii, IsCharBoundary-start, IsUtf8-drop}
use Rattle.std.specs.Str.{IsUtf8, IsCharBoundary}
use Rattle.deny_text.specs.declared.span.Span.{Span}
use Rattle.spdx_terms.specs.catalog.Catalog.{CatalogLists, IsCatalog}
use Rattle.spdx_terms.specs.declared.mode.ParseMode.{ParseMode}
use Rattle.spdx_terms.specs.declared.item.Token.{Token}
use Rattle.spdx_terms.specs.declared.item.Token.TheVariants.{Word as a_word, Plus as a_plus, Open as an_open, Close as a_close, Slash as a_slash, Other as another}
use Rattle.spdx_terms.specs.declared.item.WantedItem.{WantedItem}
use Rattle.spdx_terms.specs.declared.item.WantedItem.TheVariants.{Term as wants_term, Exception as wants_exception, AfterTerm, AfterPart}
use Rattle.spdx_terms.specs.declared.item.Item.{Item}
use Rattle.spdx_terms.specs.Spans.{Rise}
use Rattle.spdx_terms.specs.Tokens.{is_white, in_word, token_of, rest_len}
use Rattle.spdx_terms.specs.Items.{items_of, items_from, first_item, token_item, item_here, with_item, wanted_behind, used_behind, wanted_after}
use Rattle.spdx_terms.specs.Laws.{with_slash, has_no_slash}
use Rattle.spdx_terms.proofs.ImpreciseLemmas.{both_true}
use Rattle.spdx_terms.proofs.ItemBorders.{FitsAt, first_fits, border_behind, white_ascii}

abbrev pub spans : List Item → List Span
spans items = map (λ item. item.span) items

-- the text behind a byte
pub behind_byte : (text : List ℕ) (place b : ℕ) (rest : List ℕ) → drop place text ≡ b ∷ rest → drop (place + 1) text ≡ rest
behind_byte text place b rest is = sym (drop-drop 1 place text) ∙ ap (drop 1) is

pub byte_at : (text : List ℕ) (place b : ℕ) (rest : List ℕ) → drop place text ≡ b ∷ rest → place < length text
byte_at text place b rest is = let total : length (drop place text) ≡ length text - place = length-drop place text in let more : length (drop place text) ≡ length (b ∷ rest) = ap length is in omega arith

pub record Stands (text : List ℕ) (place used : ℕ) : Type 0 where
  pub free : used ≤ place → IsCharBoundary text place
  pub held : place < used → IsCharBoundary text used
  pub inside : used ≤ length text

pub next_stands : (text : List ℕ) (place used : ℕ) → place < used → Stands text place used → Stands text (place + 1) used
next_stands text place used lt s = record {
  free = λ le. let same : used ≡ place + 1 = omega arith in subst (λ k. IsCharBoundary text k) same (s.held lt);
  held = λ more. s.held lt;
  inside = s.inside;
}

pub white_stands : (text : List ℕ) (place used b : ℕ) (rest : List ℕ) → IsUtf8 text → drop place text ≡ b ∷ rest → is_white b ≡ true → used ≤ place → Stands text place used → Stands text (place + 1) used
white_stands text place used b rest utf8 is white le s =
    let at : length (drop 0 (b ∷ rest)) ≡ length (b ∷ rest) = refl in
    let border : IsCharBoundary (drop place text) 1 = subst (λ all. IsCharBoundary all 1) (sym is) (IsCharBoundary-after_ascii (b ∷ rest) 0 (subst (λ all. IsUtf8 all) is (IsUtf8-drop text place utf8 (s.free le))) (omega arith) (white_ascii b white)) in
    let lt : place < length text = byte_at text place b rest is in
    record {
      free = λ more. border_behind text place 1 (omega arith) border;
      held = λ more. absurd (omega arith);
      inside = omega arith;
    }

-- an item ends at a border of the text
item_border : (text : List ℕ) (place b : ℕ) (rest : List ℕ) (it : Item) → drop place text ≡ b ∷ rest → FitsAt place (b ∷ rest) it → IsCharBoundary text it.span.end
item_border text place b rest it is fits =
    let lt : place < length text = byte_at text place b rest is in
    let border : IsCharBoundary text (place + fits.len) = border_behind text place fits.len (omega arith) (subst (λ all. IsCharBoundary all fits.len) (sym is) fits.border) in
    subst (λ k. IsCharBoundary text k) (sym fits.end) border

-- behind an item
pub item_stands : (text : List ℕ) (place b : ℕ) (rest : List ℕ) (it : Item) → drop place text ≡ b ∷ rest → FitsAt place (b ∷ rest) it → Stands text (place + 1) it.span.end
item_stands text place b rest it is fits =
    let end : it.span.end ≡ place + fits.len = fits.end in
    let some : 0 < fits.len = fits.some in
    let end_border : IsCharBoundary text it.span.end = item_border text place b rest it is fits in
    record {
      free = λ more. let same : it.span.end ≡ place + 1 = omega arith in subst (λ k. IsCharBoundary text k) same end_border;
      held = λ more. end_border;
      inside = end_border.0;
    }

rises_at : (mode : ParseMode) (lists : CatalogLists) → IsCatalog lists → (text : List ℕ) → IsUtf8 text → (wanted : WantedItem) (place used b : ℕ) (rest : List ℕ) → drop place text ≡ b ∷ rest → used ≤ place → Stands text place used
    → FitsAt place (b ∷ rest) (first_item mode lists wanted place b rest)
    → ((wanted : WantedItem) (used : ℕ) → Stands text (place + 1) used → Rise text used (spans (items_from mode lists wanted (place + 1) used rest)) (length text))
    → Rise text used (spans (first_item mode lists wanted place b rest ∷ items_from mode lists (wanted_after wanted (first_item mode lists wanted place b rest).what) (place + 1) (first_item mode lists wanted place b rest).span.end rest)) (length text)
rises_at mode lists laws text utf8 wanted place used b rest is le s fits later =
    let it : Item = first_item mode lists wanted place b rest in
    let end : it.span.end ≡ place + fits.len = fits.end in
    let start : it.span.start ≡ place = fits.start in
    let some : 0 < fits.len = fits.some in
    let stands : Stands text (place + 1) it.span.end = item_stands text place b rest it is fits in
    let end_border : IsCharBoundary text it.span.end = item_border text place b rest it is fits in
    let start_border : IsCharBoundary text it.span.start = subst (λ k. IsCharBoundary text k) (sym start) (s.free le) in (
      record { behind = omega arith; some = omega arith; start_border = start_border; end_border = end_border },
      later (wanted_after wanted it.what) it.span.end stands,
    )

rises : (mode : ParseMode) (lists : CatalogLists) → IsCatalog lists → (text : List ℕ) → IsUtf8 text → (wanted : WantedItem) (place used : ℕ) (bytes : List ℕ) → drop place text ≡ bytes → Stands text place used
    → Rise text used (spans (items_from mode lists wanted place used bytes)) (length text)
rises mode lists laws text utf8 wanted place used [] is s = s.inside
rises mode lists laws text utf8 wanted place used (b ∷ rest) is s =
    let behind : drop (place + 1) text ≡ rest = behind_byte text place b rest is in
    elim (nat_lt place used) as (λ (t : Bool). nat_lt place used ≡ t
    → Rise text used (spans (let found = item_here (t || is_white b) mode lists wanted place b rest in with_item found (items_from mode lists (wanted_behind wanted found) (place + 1) (used_behind used found) rest))) (length text)) [
      | true ↦ λ h.
          let lt : place < used = grind (arith, nat_tests) in
          rises mode lists laws text utf8 wanted (place + 1) used rest behind (next_stands text place used lt s)
      | false ↦ λ h.
          let le : used ≤ place = grind (arith, nat_tests) in
          elim (is_white b) as (λ (t : Bool). is_white b ≡ t
          → Rise text used (spans (let found = item_here t mode lists wanted place b rest in with_item found (items_from mode lists (wanted_behind wanted found) (place + 1) (used_behind used found) rest))) (length text)) [
            | true ↦ λ white. rises mode lists laws text utf8 wanted (place + 1) used rest behind (white_stands text place used b rest utf8 is white le s)
            | false ↦ λ dark.
                rises_at mode lists laws text utf8 wanted place used b rest is le s
                (first_fits mode lists laws wanted place b rest (subst (λ all. IsUtf8 all) is (IsUtf8-drop text place utf8 (s.free le))))
                (λ more next stands. rises mode lists laws text utf8 more (place + 1) next rest behind stands)
          ]
          refl
    ]
    refl

-- the items of a text follow one another in it
pub items_rise : (mode : ParseMode) (lists : CatalogLists) → IsCatalog lists → (text : List ℕ) → IsUtf8 text → Rise text 0 (spans (items_of mode lists text)) (length text)
items_rise mode lists laws text utf8 =
    rises mode lists laws text utf8 wants_term 0 0 text refl (record { free = λ le. IsCharBoundary-start text utf8; held = λ lt. IsCharBoundary-start text utf8; inside = omega arith })

-- a byte that is no slash begins the same token in either mode
token_same : (b : ℕ) → nat_eq b 47 ≡ false → token_of true b ≡ token_of false b
token_same b h = ap (λ t. cond (in_word b) a_word (cond (nat_eq b 43) a_plus (cond (nat_eq b 40) an_open (cond (nat_eq b 41) a_close (cond t a_slash another))))) h

item_same : (mode : ParseMode) (lists : CatalogLists) (wanted : WantedItem) (place : ℕ) (text : List ℕ) (len : ℕ) (token : Token) → token_item (with_slash true mode) lists wanted place text len token ≡ token_item (with_slash false mode) lists wanted place text len token
item_same mode lists wants_term place text len a_word = refl
item_same mode lists wants_exception place text len a_word = refl
item_same mode lists AfterTerm place text len a_word = refl
item_same mode lists AfterPart place text len a_word = refl
item_same mode lists wanted place text len a_plus = refl
item_same mode lists wanted place text len an_open = refl
item_same mode lists wanted place text len a_close = refl
item_same mode lists wanted place text len a_slash = refl
item_same mode lists wanted place text len another = refl

first_same : (mode : ParseMode) (lists : CatalogLists) (wanted : WantedItem) (place b : ℕ) (rest : List ℕ) → nat_eq b 47 ≡ false
    → first_item (with_slash true mode) lists wanted place b rest ≡ first_item (with_slash false mode) lists wanted place b rest
first_same mode lists wanted place b rest h =
    ap (λ token. token_item (with_slash true mode) lists wanted place (b ∷ rest) (1 + rest_len token rest) token) (token_same b h)
    ∙ item_same mode lists wanted place (b ∷ rest) (1 + rest_len (token_of false b) rest) (token_of false b)

here_same : (passes : Bool) (mode : ParseMode) (lists : CatalogLists) (wanted : WantedItem) (place b : ℕ) (rest : List ℕ) → nat_eq b 47 ≡ false
    → item_here passes (with_slash true mode) lists wanted place b rest ≡ item_here passes (with_slash false mode) lists wanted place b rest
here_same true mode lists wanted place b rest h = refl
here_same false mode lists wanted place b rest h = ap Some (first_same mode lists wanted place b rest h)

not_slash : (t : Bool) → not t ≡ true → t ≡ false
not_slash true h = absurd (false≢true h)
not_slash false h = refl

from_same : (mode : ParseMode) (lists : CatalogLists) (wanted : WantedItem) (place used : ℕ) (text : List ℕ) → has_no_slash text ≡ true
    → items_from (with_slash true mode) lists wanted place used text ≡ items_from (with_slash false mode) lists wanted place used text
from_same mode lists wanted place used [] h = refl
from_same mode lists wanted place used (b ∷ rest) h =
    let parts = both_true (not (nat_eq b 47)) (has_no_slash rest) h in
    let here = here_same (nat_lt place used || is_white b) mode lists wanted place b rest (not_slash (nat_eq b 47) parts.0) in
    let found : Option Item = item_here (nat_lt place used || is_white b) (with_slash false mode) lists wanted place b rest in
    ap (λ f. with_item f (items_from (with_slash true mode) lists (wanted_behind wanted f) (place + 1) (used_behind used f) rest)) here
    ∙ ap (with_item found) (from_same mode lists (wanted_behind wanted found) (place + 1) (used_behind used found) rest parts.1)

pub slash_same : (mode : ParseMode) (lists : CatalogLists) (text : List ℕ) → IsTrue (has_no_slash text) → items_of (with_slash true mode) lists text ≡ items_of (with_slash false mode) lists text
slash_same mode lists text h = from_same mode lists wants_term 0 0 text h
