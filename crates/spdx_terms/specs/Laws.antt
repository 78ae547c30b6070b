-- What holds of all terms and licensees.
use Rattle.std.specs.Prelude.{◌≡◌, ℕ, Bool, true, false, not, ◌==◌, IsTrue, List, length, map}
use Rattle.std.specs.List.{list_all}
use Rattle.std.specs.Str.{IsUtf8, byte}
use Rattle.std.specs.declared.cmp.Ordering.TheVariants.{Equal}
use Rattle.spdx_terms.specs.declared.term.LicenseReq.{LicenseReq}
use Rattle.spdx_terms.specs.catalog.Catalog.{CatalogLists, IsCatalog}
use Rattle.spdx_terms.specs.declared.mode.ParseMode.{ParseMode}
use Rattle.spdx_terms.specs.Items.{items_of}
use Rattle.spdx_terms.specs.Spans.{Rise, WhiteBetween}
use Rattle.spdx_terms.specs.Terms.{req_text, family_of}
use Rattle.spdx_terms.specs.Satisfaction.{Satisfies}
use Rattle.spdx_terms.specs.Licensee.{printed_order}

-- a licensee satisfies terms of its own family alone
abbrev pub SatisfiesOwnFamily : Type 0
SatisfiesOwnFamily = (licensee term : LicenseReq) → Satisfies licensee term → family_of licensee ≡ family_of term

-- licensees that print the same are equal, and so neither is less
abbrev pub PrintedAlikeIsEqual : Type 0
PrintedAlikeIsEqual =
    (licensee other : LicenseReq) → req_text licensee ≡ req_text other → printed_order licensee other ≡ Equal

-- the spans of a text's items follow one another in it, are not empty, and stand on character borders
abbrev pub ItemsRise : Type 0
ItemsRise =
    (mode : ParseMode) (lists : CatalogLists) (text : List ℕ) → IsCatalog lists → IsUtf8 text
    → Rise text 0 (map (λ item. item.span) (items_of mode lists text)) (length text)

-- a text's items cover it: all else is white space
abbrev pub ItemsCover : Type 0
ItemsCover =
    (mode : ParseMode) (lists : CatalogLists) (text : List ℕ) → IsCatalog lists → IsUtf8 text
    → WhiteBetween text 0 (map (λ item. item.span) (items_of mode lists text))

-- the mode with the slash, or without
abbrev pub with_slash : Bool → ParseMode → ParseMode
with_slash slash mode = record {
  allow_deprecated = mode.allow_deprecated;
  allow_imprecise_license_names = mode.allow_imprecise_license_names;
  allow_postfix_plus_on_gpl = mode.allow_postfix_plus_on_gpl;
  allow_slash_as_or_operator = slash;
}

-- no slash is in a text
abbrev pub has_no_slash : List ℕ → Bool
has_no_slash text = list_all (λ b. not (b == byte "/")) text

-- where none is in a text, the slash changes no item
abbrev pub SlashChangesNothing : Type 0
SlashChangesNothing =
    (mode : ParseMode) (lists : CatalogLists) (text : List ℕ) → IsTrue (has_no_slash text)
    → items_of (with_slash true mode) lists text ≡ items_of (with_slash false mode) lists text
