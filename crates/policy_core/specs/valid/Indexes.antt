-- What a policy's entries are found by: the families of their licences.
use Rattle.std.specs.Prelude.{List, map}
use Rattle.spdx_terms.specs.declared.term.Family.{Family}
use Rattle.spdx_terms.specs.declared.term.LicenseReq.{LicenseReq}
use Rattle.spdx_terms.specs.Terms.{family_of}
use Rattle.policy_core.specs.valid.Policy.{Grant}

-- the families of licensees, place by place
abbrev pub families_in : List LicenseReq → List Family
families_in licensees = map family_of licensees

-- those of the licensees of each exception
abbrev pub granted_families : List Grant → List (List Family)
granted_families exceptions = map (λ grant. families_in grant.allowed) exceptions
