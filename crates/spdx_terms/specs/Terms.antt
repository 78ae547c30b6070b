-- How terms are printed, and their families.
use Rattle.std.specs.Prelude.{ℕ, List, [], ◌++◌, Option, Some, None, codes, if◌then◌else◌}
use Rattle.spdx_terms.specs.declared.term.LicenseItem.{LicenseItem}
use Rattle.spdx_terms.specs.declared.term.LicenseItem.TheVariants.{Spdx, Reference}
use Rattle.spdx_terms.specs.declared.term.LicenseReq.{LicenseReq}
use Rattle.spdx_terms.specs.declared.term.Family.{Family}
use Rattle.spdx_terms.specs.declared.term.Family.TheVariants.{Spdx as of_licenses, Reference as of_references}

abbrev pub reference_text : Option (List ℕ) → List ℕ → List ℕ
reference_text None id = codes "LicenseRef-" ++ id
reference_text (Some doc) id = codes "DocumentRef-" ++ (doc ++ (codes ":LicenseRef-" ++ id))

-- the name, and `+` where it was written; a reference as it was written
abbrev pub item_text : LicenseItem → List ℕ
item_text (Spdx name family rank later plus) = name ++ (if plus then codes "+" else [])
item_text (Reference doc id) = reference_text doc id

abbrev pub exception_text : Option (List ℕ) → List ℕ
exception_text None = []
exception_text (Some name) = codes " WITH " ++ name

-- a term as it is printed
abbrev pub req_text : LicenseReq → List ℕ
req_text req = item_text req.item ++ exception_text req.exception

abbrev pub item_family : LicenseItem → Family
item_family (Spdx name family rank later plus) = of_licenses family
item_family (Reference doc id) = of_references

-- the family of a term
abbrev pub family_of : LicenseReq → Family
family_of req = item_family req.item
