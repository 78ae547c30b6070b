use Rattle.std.proofs.Common.{◌≡◌, refl, ap}
use Rattle.spdx_terms.specs.declared.term.LicenseItem.{LicenseItem}
use Rattle.spdx_terms.specs.declared.term.LicenseItem.TheVariants.{Spdx, Reference}
use Rattle.spdx_terms.specs.declared.term.Family.TheVariants.{Spdx as of_licenses}
use Rattle.spdx_terms.specs.Terms.{item_family}
use Rattle.spdx_terms.specs.Satisfaction.{SatisfiesItem}
use Rattle.spdx_terms.proofs.laws.satisfies_own_family.Goals as goal

one_family : (licensee term : LicenseItem) → SatisfiesItem licensee term → item_family licensee ≡ item_family term
one_family (Spdx name family rank later plus) (Spdx term_name term_family term_rank term_later term_plus) h = ap of_licenses h.0
one_family (Spdx name family rank later plus) (Reference doc id) h = absurd h
one_family (Reference doc id) (Spdx name family rank later plus) h = absurd h
one_family (Reference doc id) (Reference term_doc term_id) h = refl

pub returns : goal.returns
returns c = λ licensee term h. one_family licensee.item term.item h.item
