use Rattle.std.proofs.Common.{length, ◌≡◌, None, ◌∙◌}
use Rattle.spdx_terms.specs.Faults.{licensee_fault_of}
use Rattle.spdx_terms.proofs.LicenseeLemmas.{is_licensee, none_of}
use Rattle.spdx_terms.proofs.licensee.Licensee.parse_mode.Goals as goal

pub returns : goal.returns
returns g c =
    let fine : None ≡ licensee_fault_of c.of_licensees-mode.result (length c.args.text.now) c.as_slice.result.now = none_of c.first_fault.result c.in_default.not-Some ∙ c.first_fault.ensures in
    is_licensee c.args.mode c.of_licensees-mode.result (g.C.Catalog.lists c.args.catalog.now) c.args.text.now (length c.args.text.now) c.in_ok-items.items.items c.as_slice.result.now c.in-Some-part.req
    c.in_ok-licensee-in-Some-part.licensee c.of_licensees-mode.ensures c.in_ok-items.ensures c.as_slice.ensures.value fine c.in-Some-part.ensures c.in_ok-licensee-in-Some-part.ensures
