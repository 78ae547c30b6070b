-- The codes of the licence check, with their names and with what they say.
use Rattle.std.specs.Prelude.{ℕ, List, [], ◌∷◌, Option, codes, find, bytes_eq}
use Rattle.diag_core.specs.declared.licenses.Code.{Code}
use Rattle.diag_core.specs.declared.licenses.Code.TheVariants.{Accepted, Rejected, Unlicensed}
use Rattle.diag_core.specs.declared.licenses.Code.TheVariants.{SkippedPrivateWorkspaceCrate, LicenseNotEncountered}
use Rattle.diag_core.specs.declared.licenses.Code.TheVariants.{LicenseExceptionNotEncountered, MissingClarificationFile}
use Rattle.diag_core.specs.declared.licenses.Code.TheVariants.{ParseError, EmptyLicenseField, NoLicenseField}
use Rattle.diag_core.specs.declared.licenses.Code.TheVariants.{GatherFailure}

-- the codes in their order
abbrev pub license_codes : List Code
license_codes =
    Accepted ∷ Rejected ∷ Unlicensed ∷ SkippedPrivateWorkspaceCrate ∷ LicenseNotEncountered
    ∷ LicenseExceptionNotEncountered ∷ MissingClarificationFile ∷ ParseError ∷ EmptyLicenseField ∷ NoLicenseField
    ∷ GatherFailure ∷ []

-- the name of a code
abbrev pub license_code_name : Code → List ℕ
license_code_name Accepted = codes "accepted"
license_code_name Rejected = codes "rejected"
license_code_name Unlicensed = codes "unlicensed"
license_code_name SkippedPrivateWorkspaceCrate = codes "skipped-private-workspace-crate"
license_code_name LicenseNotEncountered = codes "license-not-encountered"
license_code_name LicenseExceptionNotEncountered = codes "license-exception-not-encountered"
license_code_name MissingClarificationFile = codes "missing-clarification-file"
license_code_name ParseError = codes "parse-error"
license_code_name EmptyLicenseField = codes "empty-license-field"
license_code_name NoLicenseField = codes "no-license-field"
license_code_name GatherFailure = codes "gather-failure"

-- what a code says
abbrev pub license_code_description : Code → List ℕ
license_code_description Accepted = codes "A license was explicitly accepted"
license_code_description Rejected = codes "A license was not explicitly accepted"
license_code_description Unlicensed = codes "A license expression could not be determined for a crate"
license_code_description SkippedPrivateWorkspaceCrate =
    codes "A private workspace crate was skipped during the license check"
license_code_description LicenseNotEncountered = codes "An allowed license was not used by any crate in the graph"
license_code_description LicenseExceptionNotEncountered =
    codes "A license exception was not used by any crate in the graph"
license_code_description MissingClarificationFile =
    codes "A license clarification file was not found in the crate's source"
license_code_description ParseError = codes "Failed to parse an SPDX expression"
license_code_description EmptyLicenseField = codes "A crate declared an empty license field"
license_code_description NoLicenseField = codes "A crate did not have a license field"
license_code_description GatherFailure = codes "An error occurred gathering a license file from the crate's source"

-- the code of that name, where there is one
unfoldable pub license_code_named : List ℕ → Option Code
license_code_named name = find (λ code. bytes_eq (license_code_name code) name) license_codes
