-- Texts with their items, over an odd catalogue. Spans are written by hand.
use Rattle.std.specs.Prelude.{◌≡◌, ℕ, Bool, true, false, List, [], ◌∷◌, ◌++◌, if◌then◌else◌, codes, map}
use Rattle.spdx_terms.specs.declared.catalog.catalog.LicenseEntry.{LicenseEntry}
use Rattle.spdx_terms.specs.catalog.Catalog.{CatalogLists}
use Rattle.spdx_terms.specs.declared.mode.ParseMode.{ParseMode}
use Rattle.spdx_terms.specs.declared.item.ItemKind.{ItemKind}
use Rattle.spdx_terms.specs.declared.item.ItemKind.TheVariants.{Term, Exception, And, Or, With, Open, Close, Plus, Word}
use Rattle.spdx_terms.specs.declared.item.ItemKind.TheVariants.{Other}
use Rattle.spdx_terms.specs.declared.item.Item.{Item}
use Rattle.spdx_terms.specs.declared.item.LicenseMarks.{LicenseMarks}
use Rattle.spdx_terms.specs.Items.{items_of}
use Rattle.spdx_terms.specs.Terms.{item_text}

abbrev pub entry : ℕ → ℕ → Bool → Bool → Bool → LicenseEntry
entry family rank later deprecated gnu =
    record { family = family; rank = rank; later = later; deprecated = deprecated; gnu = gnu }

-- Five licences and two exceptions, of which one has a licence's name. An imprecise text holds an operator, one means
-- a licence that is deprecated, one begins as a reference does, and one is the name of a licence but for case.
abbrev pub odd_catalog : CatalogLists
odd_catalog = record {
  licenses =
      (codes "MIT", entry 0 10 false false false)
      ∷ (codes "ISC", entry 1 10 false false false)
      ∷ (codes "Old-1.0", entry 2 10 false true false)
      ∷ (codes "GPL-2.0", entry 3 20 false true true)
      ∷ (codes "GPL-2.0-or-later", entry 3 20 true false true)
      ∷ [];
  exceptions = codes "LLVM-exception" ∷ codes "ISC" ∷ [];
  imprecise =
      (codes "mit or", codes "MIT")
      ∷ (codes "old one", codes "Old-1.0")
      ∷ (codes "LicenseRef-z q", codes "ISC")
      ∷ (codes "isc", codes "MIT")
      ∷ [];
}

-- a mode with imprecise texts or without, and with the slash or without; items ask for nothing else
abbrev pub mode_with : Bool → Bool → ParseMode
mode_with imprecise slash = record {
  allow_deprecated = false;
  allow_imprecise_license_names = imprecise;
  allow_postfix_plus_on_gpl = false;
  allow_slash_as_or_operator = slash;
}

abbrev pub mark : Bool → List ℕ → List ℕ
mark is_there name = if is_there then name else []

abbrev pub marks_text : LicenseMarks → List ℕ
marks_text marks =
    mark marks.later (codes " later") ++ (mark marks.deprecated (codes " deprecated") ++ mark marks.gnu (codes " gnu"))

-- what a row calls an item
abbrev pub what_text : ItemKind → List ℕ
what_text (Term simple) = item_text simple.item ++ marks_text simple.marks
what_text (Exception name) = codes "exception " ++ name
what_text And = codes "AND"
what_text Or = codes "OR"
what_text With = codes "WITH"
what_text Open = codes "("
what_text Close = codes ")"
what_text Plus = codes "plus"
what_text Word = codes "word"
what_text Other = codes "other"

abbrev pub item_row : Item → List ℕ × ℕ × ℕ
item_row item = (what_text item.what, item.span.start, item.span.end)

-- a text, and its items with their places
abbrev pub ItemRow : Type 0
ItemRow = List ℕ × List (List ℕ × ℕ × ℕ)

-- each text has the items of its row
abbrev pub RowsHold : ParseMode → List ItemRow → Type 0
RowsHold mode rows = map (λ row. map item_row (items_of mode odd_catalog row.0)) rows ≡ map (λ row. row.1) rows

-- without imprecise texts and without the slash
abbrev pub plain_rows : List ItemRow
plain_rows =
    (codes "MIT or MIT", (codes "MIT", 0, 3) ∷ (codes "OR", 4, 6) ∷ (codes "MIT", 7, 10) ∷ [])
    ∷ (codes "mit or ISC", (codes "word", 0, 3) ∷ (codes "OR", 4, 6) ∷ (codes "ISC", 7, 10) ∷ [])
    ∷ (codes "old one", (codes "word", 0, 3) ∷ (codes "word", 4, 7) ∷ [])
    ∷ (codes "LicenseRef-z q", (codes "LicenseRef-z", 0, 12) ∷ (codes "word", 13, 14) ∷ [])
    ∷ (codes "DocumentRef-d:LicenseRef-a+", (codes "DocumentRef-d:LicenseRef-a", 0, 26) ∷ (codes "plus", 26, 27) ∷ [])
    ∷ (codes "DocumentRef-d:LicenseRef-", (codes "word", 0, 25) ∷ [])
    ∷ (
      codes "GPL-2.0+ WITH LLVM-exception",
      (codes "GPL-2.0+ deprecated gnu", 0, 8) ∷ (codes "WITH", 9, 13) ∷ (codes "exception LLVM-exception", 14, 28) ∷ [],
    )
    ∷ (codes "GPL-2.0-or-later", (codes "GPL-2.0-or-later later gnu", 0, 16) ∷ [])
    ∷ (codes "MIT/ISC", (codes "MIT", 0, 3) ∷ (codes "other", 3, 4) ∷ (codes "word", 4, 7) ∷ [])
    ∷ (
      codes "MIT and Or ISC",
      (codes "MIT", 0, 3) ∷ (codes "AND", 4, 7) ∷ (codes "word", 8, 10) ∷ (codes "ISC", 11, 14) ∷ [],
    )
    ∷ (codes "MIT WITH MIT", (codes "MIT", 0, 3) ∷ (codes "WITH", 4, 8) ∷ (codes "word", 9, 12) ∷ [])
    ∷ (codes "ISC WITH ISC", (codes "ISC", 0, 3) ∷ (codes "WITH", 4, 8) ∷ (codes "exception ISC", 9, 12) ∷ [])
    ∷ (codes "LLVM-exception", (codes "word", 0, 14) ∷ [])
    ∷ (codes "MIT\t" ++ 195 ∷ 169 ∷ codes "+", (codes "MIT", 0, 3) ∷ (codes "other", 4, 6) ∷ (codes "plus", 6, 7) ∷ [])
    ∷ (codes "\r\n ", [])
    ∷ []

-- with imprecise texts
abbrev pub imprecise_rows : List ItemRow
imprecise_rows =
    (codes "MIT or MIT", (codes "MIT", 0, 6) ∷ (codes "word", 7, 10) ∷ [])
    ∷ (codes "mit or or MIT or", (codes "MIT", 0, 6) ∷ (codes "OR", 7, 9) ∷ (codes "MIT", 10, 16) ∷ [])
    ∷ (codes "mit or/MIT", (codes "MIT", 0, 6) ∷ (codes "other", 6, 7) ∷ (codes "word", 7, 10) ∷ [])
    ∷ (codes "mit or-x", (codes "word", 0, 3) ∷ (codes "word", 4, 8) ∷ [])
    ∷ (codes "mit  or", (codes "word", 0, 3) ∷ (codes "OR", 5, 7) ∷ [])
    ∷ (codes "MIT OR+", (codes "MIT+", 0, 7) ∷ [])
    ∷ (codes "MIT OR +", (codes "MIT", 0, 6) ∷ (codes "plus", 7, 8) ∷ [])
    ∷ (codes "Old One", (codes "Old-1.0 deprecated", 0, 7) ∷ [])
    ∷ (codes "LicenseRef-z", (codes "LicenseRef-z", 0, 12) ∷ [])
    ∷ (codes "LicenseRef-z q)", (codes "ISC", 0, 14) ∷ (codes ")", 14, 15) ∷ [])
    ∷ (codes "isc", (codes "MIT", 0, 3) ∷ [])
    ∷ (codes "ISC", (codes "ISC", 0, 3) ∷ [])
    ∷ []

-- with the slash
abbrev pub slash_rows : List ItemRow
slash_rows =
    (codes "MIT/ISC", (codes "MIT", 0, 3) ∷ (codes "OR", 3, 4) ∷ (codes "ISC", 4, 7) ∷ [])
    ∷ (codes "mit or/MIT", (codes "word", 0, 3) ∷ (codes "OR", 4, 6) ∷ (codes "OR", 6, 7) ∷ (codes "MIT", 7, 10) ∷ [])
    ∷ (
      codes "(MIT)AND(ISC)",
      (codes "(", 0, 1) ∷ (codes "MIT", 1, 4) ∷ (codes ")", 4, 5) ∷ (codes "AND", 5, 8) ∷ (codes "(", 8, 9)
          ∷ (codes "ISC", 9, 12) ∷ (codes ")", 12, 13) ∷ [],
    )
    ∷ (codes "WITH LLVM-exception", (codes "WITH", 0, 4) ∷ (codes "exception LLVM-exception", 5, 19) ∷ [])
    ∷ []

-- with both
abbrev pub lax_rows : List ItemRow
lax_rows =
    (codes "mit or/MIT or", (codes "MIT", 0, 6) ∷ (codes "OR", 6, 7) ∷ (codes "MIT", 7, 13) ∷ [])
    ∷ (
      codes "OLD ONE AND mit or",
      (codes "Old-1.0 deprecated", 0, 7) ∷ (codes "AND", 8, 11) ∷ (codes "MIT", 12, 18) ∷ [],
    )
    ∷ (codes "licenseref-Z Q+", (codes "ISC+", 0, 15) ∷ [])
    ∷ (codes "LicenseRef-z  q", (codes "LicenseRef-z", 0, 12) ∷ (codes "word", 14, 15) ∷ [])
    ∷ (codes "GPL-2.0 +", (codes "GPL-2.0 deprecated gnu", 0, 7) ∷ (codes "plus", 8, 9) ∷ [])
    ∷ (codes "mit or:", (codes "word", 0, 3) ∷ (codes "word", 4, 7) ∷ [])
    ∷ []
