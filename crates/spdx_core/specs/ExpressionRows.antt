-- Rows over a catalogue in which `mit or` is an imprecise text for MIT.
use Rattle.std.specs.Prelude.{true, false, [], ◌∷◌, Option, Some, None, codes}
use Rattle.spdx_terms.specs.declared.mode.ParseMode.{ParseMode}
use Rattle.spdx_terms.specs.declared.error.ParseError.{ParseError}
use Rattle.spdx_terms.specs.declared.error.ParseReason.TheVariants.{Unexpected}
use Rattle.spdx_terms.specs.declared.term.LicenseItem.TheVariants.{Spdx}
use Rattle.spdx_core.specs.Grammar.{leaf, either, term}
use Rattle.spdx_core.specs.Reading.{ExpressionView}

-- without imprecise texts `MIT or MIT` has two terms
abbrev pub two_terms : ParseMode × Option ExpressionView
two_terms = (
  record {
    allow_deprecated = false;
    allow_imprecise_license_names = false;
    allow_postfix_plus_on_gpl = false;
    allow_slash_as_or_operator = false;
  },
  Some (record {
    text = codes "MIT or MIT";
    terms =
        term (Spdx (codes "MIT") 0 10 false false) None 0 3 ∷ term (Spdx (codes "MIT") 0 10 false false) None 7 10 ∷ [];
    tree = either (leaf 0) (leaf 1);
  }),
)

-- with them its operator is used up, and the second name is where an operator is wanted
abbrev pub operator_is_used_up : ParseMode × Option ParseError
operator_is_used_up = (
  record {
    allow_deprecated = true;
    allow_imprecise_license_names = true;
    allow_postfix_plus_on_gpl = true;
    allow_slash_as_or_operator = true;
  },
  Some (record { reason = Unexpected; span = record { start = 7; end = 10 } }),
)
