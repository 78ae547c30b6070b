-- What an expression was retrieved via, in words.
use Rattle.std.specs.Prelude.{ℕ, List, [], ◌∷◌, ◌++◌, codes}
use Rattle.std.specs.List.{flat_map}
use Rattle.gather_core.specs.declared.findings.license.LicenseExprSource.{LicenseExprSource}
use Rattle.gather_core.specs.declared.findings.license.LicenseExprSource.TheVariants.{Metadata, UserOverride}
use Rattle.gather_core.specs.declared.findings.license.LicenseExprSource.TheVariants.{OverlayOverride, LicenseFiles}

-- a text that follows another one
abbrev pub behind_comma : List ℕ → List ℕ
behind_comma text = codes ", " ++ text

-- texts with a comma and a blank between
abbrev pub with_commas : List (List ℕ) → List ℕ
with_commas [] = []
with_commas (text ∷ texts) = text ++ flat_map behind_comma texts

abbrev pub source_text : LicenseExprSource → List ℕ
source_text (Metadata place) = codes "Cargo.toml `license`"
source_text UserOverride = codes "user override"
source_text OverlayOverride = codes "overlay override"
source_text (LicenseFiles paths) = codes "license files: " ++ with_commas paths
