-- The codes of findings: those of the licence check, and then those that the checks share.
use Rattle.std.specs.Prelude.{ℕ, List, ◌++◌, Option, codes, find, bytes_eq, map}
use Rattle.diag_core.specs.declared.code.DiagnosticCode.{DiagnosticCode}
use Rattle.diag_core.specs.declared.code.DiagnosticCode.TheVariants.{License, General}
use Rattle.diag_core.specs.LicenseCode.{license_codes, license_code_name, license_code_description}
use Rattle.diag_core.specs.GeneralCode.{general_codes, general_code_name, general_code_description}

-- the codes in their order
abbrev pub all_codes : List DiagnosticCode
all_codes = map License license_codes ++ map General general_codes

-- the name of a code
abbrev pub code_name : DiagnosticCode → List ℕ
code_name (License code) = license_code_name code
code_name (General code) = general_code_name code

-- what a code says
abbrev pub code_description : DiagnosticCode → List ℕ
code_description (License code) = license_code_description code
code_description (General code) = general_code_description code

-- the name behind the letter of its check
abbrev pub qualified_name : DiagnosticCode → List ℕ
qualified_name (License code) = codes "l:" ++ license_code_name code
qualified_name (General code) = codes "g:" ++ general_code_name code

-- the code of that name, where there is one
unfoldable pub code_named : List ℕ → Option DiagnosticCode
code_named name = find (λ code. bytes_eq (code_name code) name) all_codes
