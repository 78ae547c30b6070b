-- Licence expressions as they are taken from fields and from names.
use Rattle.std.specs.Prelude.{ℕ, true, false, List, [], ◌∷◌, Option, None}
use Rattle.std.specs.Option.{option_or}
use Rattle.spdx_terms.specs.catalog.Catalog.{CatalogLists}
use Rattle.spdx_terms.specs.declared.mode.ParseMode.{ParseMode}
use Rattle.spdx_core.specs.Printing.{named_mode, joined_names}
use Rattle.spdx_core.specs.Reading.{ExpressionView, expression_of_text}

-- ---- a crate's field

abbrev pub strict_with_slash : ParseMode
strict_with_slash = record {
  allow_deprecated = false;
  allow_imprecise_license_names = false;
  allow_postfix_plus_on_gpl = false;
  allow_slash_as_or_operator = true;
}

abbrev pub lax_mode : ParseMode
lax_mode = record {
  allow_deprecated = true;
  allow_imprecise_license_names = true;
  allow_postfix_plus_on_gpl = true;
  allow_slash_as_or_operator = true;
}

-- strict with the slash on, or else lax; an empty field is no expression
abbrev pub field_read : CatalogLists → List ℕ → Option ExpressionView
field_read lists [] = None
field_read lists (byte ∷ bytes) =
    option_or (expression_of_text strict_with_slash lists (byte ∷ bytes))
    (expression_of_text lax_mode lists (byte ∷ bytes))

-- ---- names

-- the names with ` AND ` between; nothing of no name
abbrev pub joined_text : List (List ℕ) → List ℕ
joined_text [] = []
joined_text (first ∷ names) = joined_names first names

-- the names joined by ` AND `; deprecated names are allowed, and nothing else
abbrev pub joined_read : CatalogLists → List (List ℕ) → Option ExpressionView
joined_read lists [] = None
joined_read lists (first ∷ names) = expression_of_text named_mode lists (joined_names first names)
