use Rattle.std.proofs.Common.{◌≡◌, refl, ◌∙◌, rules}
use Rattle.std.specs.Array.Iter.{array_into_iter_items}
use Rattle.diag_core.specs.LicenseCode.{license_codes}
use Rattle.diag_core.proofs.CodeLemmas.{map-IsMapOf}
use Rattle.diag_core.proofs.licenses.Code.iter.Goals as goal

pub returns : goal.returns
returns c =
    let each : c.map.result ≡ license_codes = map-IsMapOf (λ row. row.code) _ c.map.result 11 c.map.ensures.items refl (λ p x y q k. search rules) in
    let gives : array_into_iter_items c.into_iter.result ≡ c.map.result = c.into_iter.ensures.into_iter_gives.0 in
    gives ∙ each
