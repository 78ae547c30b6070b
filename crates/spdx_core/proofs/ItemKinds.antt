-- What holds of every item of a text, from what holds of each kind of item.
use Rattle.std.proofs.Common.{◌≡◌, ◌∙◌, refl, sym, ap, subst, ℕ, ◌+◌, Bool, true, false, not, ◌||◌, cond, nat_lt, List, [], ◌∷◌, Option, Some, None, unwrap_or, take, drop}
use Rattle.std.proofs.lemmas.List.{drop-drop}
use Rattle.std.specs.Option.{option_map, option_or}
use Rattle.spdx_terms.specs.declared.catalog.catalog.LicenseEntry.{LicenseEntry}
use Rattle.spdx_terms.specs.catalog.Catalog.{CatalogLists, entry_of}
use Rattle.spdx_terms.specs.declared.mode.ParseMode.{ParseMode}
use Rattle.spdx_terms.specs.declared.term.LicenseItem.{LicenseItem}
use Rattle.spdx_terms.specs.declared.item.Token.{Token}
use Rattle.spdx_terms.specs.declared.item.Token.TheVariants.{Word as a_word, Plus as a_plus, Open as an_open, Close as a_close, Slash as a_slash, Other as another}
use Rattle.spdx_terms.specs.declared.item.WantedItem.{WantedItem}
use Rattle.spdx_terms.specs.declared.item.WantedItem.TheVariants.{Term as wants_term, Exception as wants_exception, AfterTerm, AfterPart}
use Rattle.spdx_terms.specs.declared.item.ItemKind.{ItemKind}
use Rattle.spdx_terms.specs.declared.item.ItemKind.TheVariants.{Term, Exception, And, Or, With, Open, Close, Plus, Word, Other}
use Rattle.spdx_terms.specs.declared.item.Item.{Item}
use Rattle.spdx_terms.specs.Tokens.{is_white, says_and, says_or, says_with, one_of, token_of, rest_len, reference_of}
use Rattle.spdx_terms.specs.Items.{item_at, term_of, license_of, license_at, reference_at, plus_behind, has_reading, longest_match, imprecise_at, imprecise_if, plain_item, word_item, token_item, first_item, operator_of, items_from, item_here, with_item, wanted_behind, used_behind, wanted_after}

-- an operator, a mark, a word or a character
abbrev pub is_other : ItemKind → Bool
is_other (Term named) = false
is_other (Exception name) = false
is_other And = true
is_other Or = true
is_other With = true
is_other Open = true
is_other Close = true
is_other Plus = true
is_other Word = true
is_other Other = true

-- this holds of the item at a place, by the text from there on
pub record Kinds (lists : CatalogLists) (Holds : ℕ → List ℕ → Item → Type 0) : Type 0 where
  pub license : (name : List ℕ) (entry : LicenseEntry) (place : ℕ) (text : List ℕ) (len : ℕ) → entry_of lists.licenses name ≡ Some entry → Holds place text (license_of name entry (plus_behind text len) place len)
  pub reference : (item : LicenseItem) (place : ℕ) (text : List ℕ) (len : ℕ) → reference_of (take len text) ≡ Some item
      → Holds place text (term_of item (record { later = false; deprecated = false; gnu = false; plus = false }) place len)
  pub exception : (name : List ℕ) (place : ℕ) (text : List ℕ) (len : ℕ) → one_of lists.exceptions name ≡ true → Holds place text (item_at (Exception name) place len)
  pub other : (what : ItemKind) (place : ℕ) (text : List ℕ) (len : ℕ) → is_other what ≡ true → Holds place text (item_at what place len)

abbrev HoldsIf : (ℕ → List ℕ → Item → Type 0) → ℕ → List ℕ → Option Item → Type 0
HoldsIf Holds place text None = Unit {0}
HoldsIf Holds place text (Some it) = Holds place text it

of_license : {lists : CatalogLists} {Holds : ℕ → List ℕ → Item → Type 0} → Kinds lists Holds → (name : List ℕ) (place : ℕ) (text : List ℕ) (len : ℕ) (found : Option LicenseEntry) → entry_of lists.licenses name ≡ found
    → HoldsIf Holds place text (option_map (λ entry. license_of name entry (plus_behind text len) place len) found)
of_license kinds name place text len None is = tt
of_license kinds name place text len (Some entry) is = kinds.license name entry place text len is

of_reference : {lists : CatalogLists} {Holds : ℕ → List ℕ → Item → Type 0} → Kinds lists Holds → (place : ℕ) (text : List ℕ) (len : ℕ) (found : Option LicenseItem) → reference_of (take len text) ≡ found
    → HoldsIf Holds place text (option_map (λ item. term_of item (record { later = false; deprecated = false; gnu = false; plus = false }) place len) found)
of_reference kinds place text len None is = tt
of_reference kinds place text len (Some item) is = kinds.reference item place text len is

either_of : (Holds : ℕ → List ℕ → Item → Type 0) (place : ℕ) (text : List ℕ) (a b : Option Item) → HoldsIf Holds place text a → HoldsIf Holds place text b → HoldsIf Holds place text (option_or a b)
either_of Holds place text None b p q = q
either_of Holds place text (Some it) b p q = p

or_else_of : (Holds : ℕ → List ℕ → Item → Type 0) (place : ℕ) (text : List ℕ) (a : Option Item) (b : Item) → HoldsIf Holds place text a → Holds place text b → Holds place text (unwrap_or a b)
or_else_of Holds place text None b p q = q
or_else_of Holds place text (Some it) b p q = p

of_tests : {lists : CatalogLists} {Holds : ℕ → List ℕ → Item → Type 0} → Kinds lists Holds → (a b c : Bool) (place : ℕ) (text : List ℕ) (len : ℕ) → Holds place text (item_at (cond a And (cond b Or (cond c With Word))) place len)
of_tests kinds true b c place text len = kinds.other And place text len refl
of_tests kinds false true c place text len = kinds.other Or place text len refl
of_tests kinds false false true place text len = kinds.other With place text len refl
of_tests kinds false false false place text len = kinds.other Word place text len refl

of_word : {lists : CatalogLists} {Holds : ℕ → List ℕ → Item → Type 0} → Kinds lists Holds → (word : List ℕ) (place : ℕ) (text : List ℕ) (len : ℕ) → Holds place text (item_at (operator_of word) place len)
of_word kinds word place text len = of_tests kinds (says_and word) (says_or word) (says_with word) place text len

of_meant : {lists : CatalogLists} {Holds : ℕ → List ℕ → Item → Type 0} → Kinds lists Holds → (taken : Bool) (place : ℕ) (text : List ℕ) (found : ℕ × List ℕ) → HoldsIf Holds place text (cond taken (license_at lists found.1 place text found.0) None)
of_meant {lists} kinds true place text found = of_license kinds found.1 place text found.0 (entry_of lists.licenses found.1) refl
of_meant kinds false place text found = tt

of_imprecise : {lists : CatalogLists} {Holds : ℕ → List ℕ → Item → Type 0} → Kinds lists Holds → (place : ℕ) (text : List ℕ) (len : ℕ) (found : Option (ℕ × List ℕ)) → HoldsIf Holds place text (imprecise_at lists place text len found)
of_imprecise kinds place text len None = tt
of_imprecise {lists} kinds place text len (Some found) = of_meant kinds (nat_lt len found.0 || not (has_reading lists (take len text))) place text found

of_imprecise_if : {lists : CatalogLists} {Holds : ℕ → List ℕ → Item → Type 0} → Kinds lists Holds → (on : Bool) (place : ℕ) (text : List ℕ) (len : ℕ) → HoldsIf Holds place text (imprecise_if on lists place text len)
of_imprecise_if {lists} kinds true place text len = of_imprecise kinds place text len (longest_match lists.imprecise text)
of_imprecise_if kinds false place text len = tt

of_plain : {lists : CatalogLists} {Holds : ℕ → List ℕ → Item → Type 0} → Kinds lists Holds → (place : ℕ) (text : List ℕ) (len : ℕ) → Holds place text (plain_item lists place text len)
of_plain {lists} {Holds} kinds place text len =
    or_else_of Holds place text (option_or (reference_at (take len text) place len) (license_at lists (take len text) place text len)) (item_at (operator_of (take len text)) place len)
    (either_of Holds place text (reference_at (take len text) place len) (license_at lists (take len text) place text len)
    (of_reference kinds place text len (reference_of (take len text)) refl)
    (of_license kinds (take len text) place text len (entry_of lists.licenses (take len text)) refl))
    (of_word kinds (take len text) place text len)

of_exception : {lists : CatalogLists} {Holds : ℕ → List ℕ → Item → Type 0} → Kinds lists Holds → (known : Bool) (word : List ℕ) (place : ℕ) (text : List ℕ) (len : ℕ) → one_of lists.exceptions word ≡ known
    → Holds place text (item_at (cond known (Exception word) (operator_of word)) place len)
of_exception kinds true word place text len is = kinds.exception word place text len is
of_exception kinds false word place text len is = of_word kinds word place text len

of_wanted : {lists : CatalogLists} {Holds : ℕ → List ℕ → Item → Type 0} → Kinds lists Holds → (mode : ParseMode) (wanted : WantedItem) (place : ℕ) (text : List ℕ) (len : ℕ) → Holds place text (word_item mode lists wanted place text len)
of_wanted {lists} {Holds} kinds mode wants_term place text len =
    or_else_of Holds place text (imprecise_if mode.allow_imprecise_license_names lists place text len) (plain_item lists place text len)
    (of_imprecise_if kinds mode.allow_imprecise_license_names place text len) (of_plain kinds place text len)
of_wanted {lists} kinds mode wants_exception place text len = of_exception kinds (one_of lists.exceptions (take len text)) (take len text) place text len refl
of_wanted kinds mode AfterTerm place text len = of_word kinds (take len text) place text len
of_wanted kinds mode AfterPart place text len = of_word kinds (take len text) place text len

of_token : {lists : CatalogLists} {Holds : ℕ → List ℕ → Item → Type 0} → Kinds lists Holds → (mode : ParseMode) (wanted : WantedItem) (place : ℕ) (text : List ℕ) (len : ℕ) (token : Token) → Holds place text (token_item mode lists wanted place text len token)
of_token kinds mode wanted place text len a_word = of_wanted kinds mode wanted place text len
of_token kinds mode wanted place text len a_plus = kinds.other Plus place text len refl
of_token kinds mode wanted place text len an_open = kinds.other Open place text len refl
of_token kinds mode wanted place text len a_close = kinds.other Close place text len refl
of_token kinds mode wanted place text len a_slash = kinds.other Or place text len refl
of_token kinds mode wanted place text len another = kinds.other Other place text len refl

-- this holds of all items
abbrev pub Each : (Item → Type 0) → List Item → Type 0
Each Holds [] = Unit {0}
Each Holds (it ∷ items) = Holds it × Each Holds items

-- what holds of every item in its place holds of the items of a text
pub each_item : {lists : CatalogLists} {Holds : ℕ → List ℕ → Item → Type 0} → Kinds lists Holds → (mode : ParseMode) (text : List ℕ) (Said : Item → Type 0) → ((place : ℕ) (it : Item) → Holds place (drop place text) it → Said it)
    → (wanted : WantedItem) (place used : ℕ) (bytes : List ℕ) → drop place text ≡ bytes → Each Said (items_from mode lists wanted place used bytes)
each_item kinds mode text Said says wanted place used [] is = tt
each_item {lists} {Holds} kinds mode text Said says wanted place used (b ∷ rest) is =
    let behind : drop (place + 1) text ≡ rest = sym (drop-drop 1 place text) ∙ ap (drop 1) is in
    elim (nat_lt place used || is_white b) as (λ (t : Bool). Each Said (let found = item_here t mode lists wanted place b rest in with_item found (items_from mode lists (wanted_behind wanted found) (place + 1) (used_behind used found) rest))) [
      | true ↦ each_item kinds mode text Said says wanted (place + 1) used rest behind
      | false ↦
          let it : Item = first_item mode lists wanted place b rest in
          let token = token_of mode.allow_slash_as_or_operator b in
          let here : Holds place (b ∷ rest) it = of_token kinds mode wanted place (b ∷ rest) (1 + rest_len token rest) token in (
            says place it (subst (λ all. Holds place all it) (sym is) here),
            each_item kinds mode text Said says (wanted_after wanted it.what) (place + 1) it.span.end rest behind,
          )
    ]
