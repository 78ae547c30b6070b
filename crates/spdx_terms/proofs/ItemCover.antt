-- What is between the items of a text.
use Rattle.std.proofs.Common.{◌≡◌, ◌∙◌, refl, sym, ap, subst, ℕ, ◌+◌, ◌-◌, ◌<◌, ◌≤◌, Bool, true, false, ◌||◌, IsTrue, nat_lt, List, [], ◌∷◌, length, drop, get_or, arith}
use Rattle.std.proofs.lemmas.Bool.Decides.{nat_tests}
use Rattle.std.proofs.lemmas.List.{get_or-drop, length-drop}
use Rattle.std.proofs.lemmas.Str.{IsCharBoundary-start, IsUtf8-drop}
use Rattle.std.specs.Str.{IsUtf8}
use Rattle.spdx_terms.specs.catalog.Catalog.{CatalogLists, IsCatalog}
use Rattle.spdx_terms.specs.declared.mode.ParseMode.{ParseMode}
use Rattle.spdx_terms.specs.declared.item.WantedItem.{WantedItem}
use Rattle.spdx_terms.specs.declared.item.WantedItem.TheVariants.{Term as wants_term}
use Rattle.spdx_terms.specs.declared.item.Item.{Item}
use Rattle.spdx_terms.specs.Spans.{IsWhite, WhiteBetween}
use Rattle.spdx_terms.specs.Tokens.{is_white}
use Rattle.spdx_terms.specs.Items.{items_of, items_from, first_item, item_here, with_item, wanted_behind, used_behind, wanted_after}
use Rattle.spdx_terms.proofs.ItemBorders.{FitsAt, first_fits}
use Rattle.spdx_terms.proofs.ItemSpans.{spans, Stands, behind_byte, next_stands, white_stands, item_stands}

-- the byte at a place
here : (text : List ℕ) (place b : ℕ) (rest : List ℕ) → drop place text ≡ b ∷ rest → get_or text place 0 ≡ b
here text place b rest is =
    let same : place + 0 ≡ place = omega arith in
    ap (λ k. get_or text k 0) (sym same) ∙ sym (get_or-drop place text 0 0) ∙ ap (λ all. get_or all 0 0) is

-- one white byte more
more_white : (text : List ℕ) (used place b : ℕ) (rest : List ℕ) → drop place text ≡ b ∷ rest → is_white b ≡ true → IsWhite text used place → IsWhite text used (place + 1)
more_white text used place b rest is white so_far k from to =
    elim (nat_lt k place) as (λ (t : Bool). nat_lt k place ≡ t → IsTrue (is_white (get_or text k 0))) [
      | true ↦ λ h. let lt : k < place = grind (arith, nat_tests) in so_far k from lt
      | false ↦ λ h.
          let ge : place ≤ k = grind (arith, nat_tests) in
          let same : place ≡ k = omega arith in
          subst (λ k. IsTrue (is_white (get_or text k 0))) same (ap is_white (here text place b rest is) ∙ white)
    ]
    refl

-- at the end of a text
end_white : (text : List ℕ) (used place : ℕ) → drop place text ≡ [] → IsWhite text used place → IsWhite text used (length text)
end_white text used place is so_far k from to =
    let total : length (drop place text) ≡ length text - place = length-drop place text in
    let none : length (drop place text) ≡ length {A = ℕ} [] = ap length is in
    so_far k from (omega arith)

nothing_white : (text : List ℕ) (start end : ℕ) → end ≤ start → IsWhite text start end
nothing_white text start end le k from to = absurd (omega arith)

covers : (mode : ParseMode) (lists : CatalogLists) → IsCatalog lists → (text : List ℕ) → IsUtf8 text → (wanted : WantedItem) (place used : ℕ) (bytes : List ℕ) → drop place text ≡ bytes → Stands text place used
    → IsWhite text used place → WhiteBetween text used (spans (items_from mode lists wanted place used bytes))
covers mode lists laws text utf8 wanted place used [] is s white = end_white text used place is white
covers mode lists laws text utf8 wanted place used (b ∷ rest) is s so_far =
    let behind : drop (place + 1) text ≡ rest = behind_byte text place b rest is in
    elim (nat_lt place used) as (λ (t : Bool). nat_lt place used ≡ t
    → WhiteBetween text used (spans (let found = item_here (t || is_white b) mode lists wanted place b rest in with_item found (items_from mode lists (wanted_behind wanted found) (place + 1) (used_behind used found) rest)))) [
      | true ↦ λ h.
          let lt : place < used = grind (arith, nat_tests) in
          covers mode lists laws text utf8 wanted (place + 1) used rest behind (next_stands text place used lt s) (nothing_white text used (place + 1) (omega arith))
      | false ↦ λ h.
          let le : used ≤ place = grind (arith, nat_tests) in
          elim (is_white b) as (λ (t : Bool). is_white b ≡ t
          → WhiteBetween text used (spans (let found = item_here t mode lists wanted place b rest in with_item found (items_from mode lists (wanted_behind wanted found) (place + 1) (used_behind used found) rest)))) [
            | true ↦ λ white.
                covers mode lists laws text utf8 wanted (place + 1) used rest behind (white_stands text place used b rest utf8 is white le s) (more_white text used place b rest is white so_far)
            | false ↦ λ dark.
                let it : Item = first_item mode lists wanted place b rest in
                let fits : FitsAt place (b ∷ rest) it = first_fits mode lists laws wanted place b rest (subst (λ all. IsUtf8 all) is (IsUtf8-drop text place utf8 (s.free le))) in
                let start : it.span.start ≡ place = fits.start in
                let end : it.span.end ≡ place + fits.len = fits.end in
                let some : 0 < fits.len = fits.some in (
                  subst (λ k. IsWhite text used k) (sym start) so_far,
                  covers mode lists laws text utf8 (wanted_after wanted it.what) (place + 1) it.span.end rest behind (item_stands text place b rest it is fits)
                      (nothing_white text it.span.end (place + 1) (omega arith)),
                )
          ]
          refl
    ]
    refl

-- the items of a text cover it
pub items_cover : (mode : ParseMode) (lists : CatalogLists) → IsCatalog lists → (text : List ℕ) → IsUtf8 text → WhiteBetween text 0 (spans (items_of mode lists text))
items_cover mode lists laws text utf8 =
    covers mode lists laws text utf8 wants_term 0 0 text refl (record { free = λ le. IsCharBoundary-start text utf8; held = λ lt. IsCharBoundary-start text utf8; inside = omega arith })
    (nothing_white text 0 0 (omega arith))
