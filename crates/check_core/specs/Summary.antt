-- What of each crate the check looks at, of what was gathered.
use Rattle.std.specs.Prelude.{ℕ, List, length, map, ⊤}
use Rattle.spdx_core.specs.Expressions.{IsExpression}
use Rattle.spdx_core.specs.Reading.{postfix}
use Rattle.gather_core.specs.declared.findings.license.LicenseInfo.{LicenseInfo}
use Rattle.gather_core.specs.declared.findings.license.LicenseInfo.TheVariants.{SpdxExpression, Unlicensed}
use Rattle.gather_core.specs.Gathered.{krate_of}
use Rattle.gather_core.specs.declared.summary.KrateLicense.{KrateLicense}
use Rattle.check_core.specs.findings.Places.{PlaceFits}
use Rattle.check_core.specs.Turns.{GatheredCrate}

abbrev pub gathered_of_license : KrateLicense → GatheredCrate
gathered_of_license license = record {
  krate = krate_of license;
  exceptions = license.exceptions;
  info = license.lic_info;
  gathered = license.diags;
  notes = license.notes;
}

abbrev pub gathered_of_licenses : List KrateLicense → List GatheredCrate
gathered_of_licenses licenses = map gathered_of_license licenses

-- the nodes of the expression; none where there is no expression
abbrev pub nodes_in : LicenseInfo → ℕ
nodes_in Unlicensed = 0
nodes_in (SpdxExpression expression nfo) = length (postfix expression.tree)

-- its terms follow one another in its text, and are those of its tree
abbrev pub IsExpressionIn : LicenseInfo → Type 0
IsExpressionIn Unlicensed = ⊤
IsExpressionIn (SpdxExpression expression nfo) = IsExpression expression.text expression.terms expression.tree

-- each place of its text is one of 64 bits in its file
abbrev pub InfoFits : LicenseInfo → Type 0
InfoFits Unlicensed = ⊤
InfoFits (SpdxExpression expression nfo) = PlaceFits nfo (length expression.text)
