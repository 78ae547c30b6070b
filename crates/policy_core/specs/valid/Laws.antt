-- What holds of all licensees and terms.
use Rattle.std.specs.Prelude.{◌↔◌, IsTrue}
use Rattle.spdx_terms.specs.declared.term.LicenseReq.{LicenseReq}
use Rattle.spdx_terms.specs.Satisfaction.{Satisfies}
use Rattle.policy_core.specs.valid.Satisfied.{satisfies}

-- the test is satisfaction
abbrev pub TestIsSatisfaction : Type 0
TestIsSatisfaction = (licensee term : LicenseReq) → IsTrue (satisfies licensee term) ↔ Satisfies licensee term
