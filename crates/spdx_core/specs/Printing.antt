-- Terms as they are printed, and names that are joined.
use Rattle.std.specs.Prelude.{◌≡◌, ℕ, ◌+◌, Bool, true, false, ◌||◌, IsTrue, All, List, [], ◌∷◌, ◌++◌, Option, Some}
use Rattle.std.specs.Prelude.{None, length, codes}
use Rattle.std.specs.List.{AllByRecursion, AllZip, flat_map}
use Rattle.spdx_terms.specs.declared.catalog.catalog.LicenseEntry.{LicenseEntry}
use Rattle.spdx_terms.specs.catalog.Catalog.{CatalogLists, IsCatalog, entry_of}
use Rattle.spdx_terms.specs.catalog.Words.{is_word}
use Rattle.spdx_terms.specs.declared.mode.ParseMode.{ParseMode}
use Rattle.spdx_terms.specs.declared.term.LicenseItem.{LicenseItem}
use Rattle.spdx_terms.specs.declared.term.LicenseItem.TheVariants.{Spdx, Reference}
use Rattle.spdx_terms.specs.declared.term.LicenseReq.{LicenseReq}
use Rattle.spdx_terms.specs.declared.term.ExpressionReq.{ExpressionReq}
use Rattle.spdx_terms.specs.Licensee.{IsLicensee}
use Rattle.spdx_terms.specs.Terms.{req_text}
use Rattle.spdx_terms.specs.Tokens.{one_of}
use Rattle.spdx_core.specs.Grammar.{ExpressionTree, leaf, both, Spells}

-- ---- printed terms

-- what the catalogue says of a licence; a `+` means later versions too
pub record IsLicenseOf (lists : CatalogLists) (name : List ℕ) (family rank : ℕ) (later plus : Bool) : Type 0 where
  pub entry : LicenseEntry
  pub known : entry_of lists.licenses name ≡ Some entry
  pub is_family : family ≡ entry.family
  pub is_rank : rank ≡ entry.rank
  pub is_later : later ≡ (plus || entry.later)

abbrev pub IsWordIf : Option (List ℕ) → Type 0
IsWordIf None = Unit {0}
IsWordIf (Some word) = IsTrue (is_word word)

-- a licence of the catalogue, or a reference that is made of words
abbrev pub IsItemOf : CatalogLists → LicenseItem → Type 0
IsItemOf lists (Spdx name family rank later plus) = IsLicenseOf lists name family rank later plus
IsItemOf lists (Reference doc id) = IsWordIf doc × IsTrue (is_word id)

abbrev pub IsExceptionOf : CatalogLists → Option (List ℕ) → Type 0
IsExceptionOf lists None = Unit {0}
IsExceptionOf lists (Some name) = IsTrue (one_of lists.exceptions name)

-- a term over a catalogue
pub record IsTermOf (lists : CatalogLists) (req : LicenseReq) : Type 0 where
  pub item : IsItemOf lists req.item
  pub exception : IsExceptionOf lists req.exception

-- the mode with deprecated names and `+` behind names of the GNU families
abbrev pub printed_mode : ParseMode
printed_mode = record {
  allow_deprecated = true;
  allow_imprecise_license_names = false;
  allow_postfix_plus_on_gpl = true;
  allow_slash_as_or_operator = false;
}

-- a printed term reads back: its whole text is this one term
abbrev pub PrintedReadsBack : Type 0
PrintedReadsBack = (lists : CatalogLists) (req : LicenseReq) → IsCatalog lists → IsTermOf lists req
    → Spells printed_mode lists (req_text req) (leaf 0)
    (record { req = req; span = record { start = 0; end = length (req_text req) } } ∷ [])

-- the terms of an expression are terms over its catalogue, and so are licensees
abbrev pub TermsAreOfCatalog : Type 0
TermsAreOfCatalog =
    (mode : ParseMode) (lists : CatalogLists) (text : List ℕ) (tree : ExpressionTree) (terms : List ExpressionReq)
    → Spells mode lists text tree terms → All (λ term. IsTermOf lists term.req) terms

abbrev pub LicenseesAreOfCatalog : Type 0
LicenseesAreOfCatalog =
    (mode : ParseMode) (lists : CatalogLists) (text : List ℕ) (req : LicenseReq) → IsLicensee mode lists text req
    → IsTermOf lists req

-- ---- joined names

-- the mode with deprecated names
abbrev pub named_mode : ParseMode
named_mode = record {
  allow_deprecated = true;
  allow_imprecise_license_names = false;
  allow_postfix_plus_on_gpl = false;
  allow_slash_as_or_operator = false;
}

-- what follows a name where others are joined to it
abbrev pub next_names : List (List ℕ) → List ℕ
next_names names = flat_map (λ name. codes " AND " ++ name) names

-- names with ` AND ` between
abbrev pub joined_names : List ℕ → List (List ℕ) → List ℕ
joined_names first names = first ++ next_names names

-- a tree with a further part for each name, whose places are counted from a number on
abbrev pub with_names : ExpressionTree → ℕ → List (List ℕ) → ExpressionTree
with_names tree n [] = tree
with_names tree n (name ∷ names) = with_names (both tree (leaf n)) (n + 1) names

abbrev pub IsKnown : CatalogLists → List ℕ → Type 0
IsKnown lists name = (entry : LicenseEntry) × (entry_of lists.licenses name ≡ Some entry)

-- the term of a licence's name alone
pub record IsNameOf (lists : CatalogLists) (name : List ℕ) (term : ExpressionReq) : Type 0 where
  pub entry : LicenseEntry
  pub known : entry_of lists.licenses name ≡ Some entry
  pub is : term.req ≡ record { item = Spdx name entry.family entry.rank entry.later false; exception = None }

-- joined names have a tree: their terms are these names, from left to right
abbrev pub JoinedNamesAreRead : Type 0
JoinedNamesAreRead =
    (lists : CatalogLists) (first : List ℕ) (names : List (List ℕ)) → IsCatalog lists → IsKnown lists first
    → AllByRecursion (IsKnown lists) names
    → (terms : List ExpressionReq)
    × Spells named_mode lists (joined_names first names) (with_names (leaf 0) 1 names) terms
    × AllZip (IsNameOf lists) (first ∷ names) terms
