-- Reading items one by one.
use Rattle.std.proofs.Common.{◌≡◌, ◌∙◌, refl, sym, ap, ℕ, ◌+◌, ◌-◌, ◌<◌, ◌≤◌, zero, suc, Bool, true, false, ◌||◌, nat_lt, List, [], ◌∷◌, length, drop, arith}
use Rattle.std.proofs.lemmas.Bool.Decides.{nat_tests}
use Rattle.spdx_terms.specs.declared.mode.ParseMode.{ParseMode}
use Rattle.spdx_terms.specs.declared.item.WantedItem.{WantedItem}
use Rattle.spdx_terms.specs.declared.item.Item.{Item}
use Rattle.spdx_terms.specs.catalog.Catalog.{CatalogLists}
use Rattle.spdx_terms.specs.Tokens.{is_white}
use Rattle.spdx_terms.specs.Items.{items_from, item_here, with_item, wanted_behind, used_behind}

not_below : (n : ℕ) → nat_lt n n ≡ false
not_below n = grind (arith, nat_tests)

below : (m n : ℕ) → m < n → nat_lt m n ≡ true
below m n h = grind (arith, nat_tests)

-- at a place that nothing has used
pub items_at : (mode : ParseMode) (lists : CatalogLists) (wanted : WantedItem) (place : ℕ) (b : ℕ) (rest : List ℕ)
    → items_from mode lists wanted place place (b ∷ rest)
    ≡ (let found = item_here (is_white b) mode lists wanted place b rest in with_item found (items_from mode lists (wanted_behind wanted found) (place + 1) (used_behind place found) rest))
items_at mode lists wanted place b rest =
    ap (λ (t : Bool). let found = item_here (t || is_white b) mode lists wanted place b rest in with_item found (items_from mode lists (wanted_behind wanted found) (place + 1) (used_behind place found) rest))
    (not_below place)

nothing_left : (none : List ℕ) (k : ℕ) → length none ≡ 0 → drop k none ≡ none
nothing_left [] zero h = refl
nothing_left [] (suc k) h = refl
nothing_left (b ∷ rest) k h = absurd (omega arith)

-- what was used is passed over
pub passed : (mode : ParseMode) (lists : CatalogLists) (wanted : WantedItem) (place used : ℕ) (text : List ℕ) → place ≤ used → used ≤ place + length text
    → items_from mode lists wanted place used text ≡ items_from mode lists wanted used used (drop (used - place) text)
passed mode lists wanted place used [] from to = ap (λ text. items_from mode lists wanted used used text) (sym (nothing_left [] (used - place) refl))
passed mode lists wanted place used (b ∷ rest) from to =
    elim (nat_lt place used) as (λ (t : Bool). nat_lt place used ≡ t → items_from mode lists wanted place used (b ∷ rest) ≡ items_from mode lists wanted used used (drop (used - place) (b ∷ rest))) [
      | true ↦ λ is.
          let lt : place < used = grind (arith, nat_tests) in
          let step : used - place ≡ suc (used - (place + 1)) = omega arith in
          ap (λ (t : Bool). let found = item_here (t || is_white b) mode lists wanted place b rest in with_item found (items_from mode lists (wanted_behind wanted found) (place + 1) (used_behind used found) rest)) is
          ∙ passed mode lists wanted (place + 1) used rest (omega arith) (omega arith)
          ∙ ap (λ k. items_from mode lists wanted used used (drop k (b ∷ rest))) (sym step)
      | false ↦ λ is.
          let ge : used ≤ place = grind (arith, nat_tests) in
          let same : used ≡ place = omega arith in
          let none : used - place ≡ 0 = omega arith in
          ap (λ p. items_from mode lists wanted p used (b ∷ rest)) (sym same)
          ∙ ap (λ k. items_from mode lists wanted used used (drop k (b ∷ rest))) (sym none)
    ]
    refl

at_most : (m n : ℕ) → n ≤ m → nat_lt m n ≡ false
at_most m n h = grind (arith, nat_tests)

-- what was used before a place uses nothing behind it
pub unused : (mode : ParseMode) (lists : CatalogLists) (wanted : WantedItem) (place used : ℕ) (text : List ℕ) → used ≤ place
    → items_from mode lists wanted place used text ≡ items_from mode lists wanted place place text
unused mode lists wanted place used [] before = refl
unused mode lists wanted place used (b ∷ rest) before =
    let read : Bool → ℕ → List Item = λ t old. let found = item_here (t || is_white b) mode lists wanted place b rest in with_item found (items_from mode lists (wanted_behind wanted found) (place + 1) (used_behind old found) rest) in
    ap (λ t. read t used) (at_most place used before)
    ∙ elim (is_white b) as (λ (t : Bool). (let found = item_here t mode lists wanted place b rest in with_item found (items_from mode lists (wanted_behind wanted found) (place + 1) (used_behind used found) rest))
    ≡ (let found = item_here t mode lists wanted place b rest in with_item found (items_from mode lists (wanted_behind wanted found) (place + 1) (used_behind place found) rest)))
    [ true ↦ unused mode lists wanted (place + 1) used rest (omega arith) ∙ sym (unused mode lists wanted (place + 1) place rest (omega arith)) | false ↦ refl ]
    ∙ ap (λ t. read t place) (sym (not_below place))
