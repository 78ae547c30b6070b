-- What a term is called in a notice.
use Rattle.std.specs.Prelude.{ℕ, List, ◌++◌}
use Rattle.spdx_terms.specs.declared.term.LicenseItem.{LicenseItem}
use Rattle.spdx_terms.specs.declared.term.LicenseItem.TheVariants.{Spdx, Reference}
use Rattle.spdx_terms.specs.declared.term.LicenseReq.{LicenseReq}
use Rattle.spdx_terms.specs.Terms.{exception_text, reference_text}

-- the name of a licence, without a `+`; a reference as it was written
abbrev pub item_key : LicenseItem → List ℕ
item_key (Spdx name family rank later plus) = name
item_key (Reference doc id) = reference_text doc id

-- A term as it is printed, without the `+`: a version has one text, whether later ones are meant or not.
abbrev pub key_of : LicenseReq → List ℕ
key_of req = item_key req.item ++ exception_text req.exception
