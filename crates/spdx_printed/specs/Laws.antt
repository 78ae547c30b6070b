-- What holds of all printed expressions.
use Rattle.std.specs.Prelude.{◌≡◌, ℕ, List, map}
use Rattle.std.specs.List.{AllByRecursion}
use Rattle.spdx_terms.specs.catalog.Catalog.{CatalogLists, IsCatalog}
use Rattle.spdx_terms.specs.declared.mode.ParseMode.{ParseMode}
use Rattle.spdx_terms.specs.declared.term.LicenseItem.{LicenseItem}
use Rattle.spdx_terms.specs.declared.term.LicenseItem.TheVariants.{Spdx, Reference}
use Rattle.spdx_terms.specs.declared.term.LicenseReq.{LicenseReq}
use Rattle.spdx_terms.specs.declared.term.ExpressionReq.{ExpressionReq}
use Rattle.spdx_terms.specs.Terms.{req_text}
use Rattle.spdx_core.specs.Grammar.{ExpressionTree, Spells}
use Rattle.spdx_core.specs.Printing.{IsExceptionOf, IsKnown, printed_mode}
use Rattle.spdx_printed.specs.Printed.{printed_of}

-- a catalogue has the name of a licence; references need no catalogue
abbrev pub HasLicense : CatalogLists → LicenseItem → Type 0
HasLicense lists (Spdx name family rank later plus) = IsKnown lists name
HasLicense lists (Reference doc id) = Unit {0}

-- a catalogue has the names of a term
pub record HasNames (lists : CatalogLists) (req : LicenseReq) : Type 0 where
  pub license : HasLicense lists req.item
  pub exception : IsExceptionOf lists req.exception

-- terms as they are printed
abbrev pub texts_of : List ExpressionReq → List (List ℕ)
texts_of terms = map (λ term. req_text term.req) terms

-- an expression, read in whatever mode and over whatever catalogue, is printed as a text that is read as the same tree
-- with terms that print the same, over every catalogue that has its names
abbrev pub PrintedIsRead : Type 0
PrintedIsRead =
    (mode : ParseMode) (known lists : CatalogLists) (text : List ℕ) (tree : ExpressionTree) (terms : List ExpressionReq)
    → Spells mode known text tree terms → IsCatalog lists → AllByRecursion (λ term. HasNames lists term.req) terms
    → (again : List ExpressionReq) × Spells printed_mode lists (printed_of terms tree) tree again
    × (texts_of again ≡ texts_of terms)
