-- The licensee of a string is what the reader of licensees answers.
use Rattle.std.proofs.Common.{◌≡◌, ◌∙◌, refl, ap, List, Some, None, Ok, Err}
use Rattle.spdx_terms.specs.catalog.Catalog.{CatalogLists}
use Rattle.deny_text.specs.declared.span.Span.{Span}
use Rattle.spdx_core.proofs.OnePart.{licensee_or_fault}
use Rattle.spdx_terms.specs.Faults.{licensee_fault}
use Rattle.spdx_terms.specs.Licensee.{IsLicensee, IsOnePart, alone, with_exception, part_of}
use Rattle.spdx_terms.specs.Reasons.{reason_text}
use Rattle.spdx_terms.specs.declared.error.ParseError.{ParseError}
use Rattle.spdx_terms.specs.declared.item.Item.{Item}
use Rattle.spdx_terms.specs.declared.mode.ParseMode.{ParseMode}
use Rattle.spdx_terms.specs.declared.term.LicenseReq.{LicenseReq}
use Rattle.toml_subset.specs.Written.{WrittenString}
use Rattle.toml_subset.specs.shapes.Shapes.{fault_alone, custom}
use Rattle.policy_parts.specs.entries.Licensees.{named_mode, place_in, licensee_by, licensee_in, part_in}

part_is : {mode : ParseMode} {items : List Item} {req : LicenseReq} → IsOnePart mode items req → part_of items ≡ Some req
part_is (alone named span ok) = refl
part_is (with_exception named name first second third ok) = refl

pub licensee_read : (lists : CatalogLists) (string : WrittenString) (whole : Span) (req : LicenseReq) → IsLicensee named_mode lists string.text req
    → licensee_in lists string whole ≡ Ok (record { 0 = record { value = req; span = whole } })
licensee_read lists string whole req one =
    ap (λ fault. licensee_by string whole fault (part_in lists string.text)) ((licensee_or_fault named_mode lists string.text).1 (req, one))
    ∙ ap (licensee_by string whole None) (part_is one)

pub licensee_refused : (lists : CatalogLists) (string : WrittenString) (whole : Span) (fault : ParseError) → licensee_fault named_mode lists string.text ≡ Some fault
    → licensee_in lists string whole ≡ Err (fault_alone (custom (reason_text fault.reason)) (place_in string whole fault.span))
licensee_refused lists string whole fault is = ap (λ found. licensee_by string whole found (part_in lists string.text)) is
