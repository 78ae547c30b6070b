-- The codes that the checks share, with their names and with what they say.
use Rattle.std.specs.Prelude.{ℕ, List, [], ◌∷◌, Option, codes, find, bytes_eq}
use Rattle.diag_core.specs.declared.general.Code.{Code}
use Rattle.diag_core.specs.declared.general.Code.TheVariants.{Deprecated}

-- the codes in their order
abbrev pub general_codes : List Code
general_codes = Deprecated ∷ []

-- the name of a code
abbrev pub general_code_name : Code → List ℕ
general_code_name Deprecated = codes "deprecated"

-- what a code says
abbrev pub general_code_description : Code → List ℕ
general_code_description Deprecated = codes "A deprecated field was detected"

-- the code of that name, where there is one
unfoldable pub general_code_named : List ℕ → Option Code
general_code_named name = find (λ code. bytes_eq (general_code_name code) name) general_codes
