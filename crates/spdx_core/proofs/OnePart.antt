-- A licensee's text is one part exactly where it has no fault.
use Rattle.std.proofs.Common.{◌≡◌, ap, ◌↔◌, ℕ, List, None, length}
use Rattle.spdx_terms.specs.catalog.Catalog.{CatalogLists}
use Rattle.spdx_terms.specs.declared.mode.ParseMode.{ParseMode}
use Rattle.spdx_terms.specs.declared.item.Item.{Item}
use Rattle.spdx_terms.specs.declared.term.LicenseReq.{LicenseReq}
use Rattle.spdx_terms.specs.Items.{items_of}
use Rattle.spdx_terms.specs.Faults.{first_of, licensee_mode, licensee_fault, licensee_fault_of}
use Rattle.spdx_terms.specs.Licensee.{IsLicensee, IsOnePart, alone, with_exception}
use Rattle.spdx_terms.proofs.FaultLemmas.{marks_untold}
use Rattle.spdx_terms.proofs.LicenseeLemmas.{one_part}

fine : (mode : ParseMode) (len : ℕ) (items : List Item) (req : LicenseReq) → IsOnePart mode items req → licensee_fault_of mode len items ≡ None
fine mode len _ _ (alone named span ok) = ap (λ fault. first_of fault None) (marks_untold mode named span ok)
fine mode len _ _ (with_exception named name first second third ok) = ap (λ fault. first_of fault None) (marks_untold mode named first ok)

pub licensee_or_fault : (mode : ParseMode) (lists : CatalogLists) (text : List ℕ) → (licensee_fault mode lists text ≡ None) ↔ ((req : LicenseReq) × IsLicensee mode lists text req)
licensee_or_fault mode lists text =
    let plain = licensee_mode mode in (
      λ none. let one = one_part plain (length text) (items_of plain lists text) none in (one.req, one.one),
      λ found. fine plain (length text) (items_of plain lists text) found.0 found.1,
    )
