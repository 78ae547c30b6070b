-- How many entries of a policy can allow a term: those of the term's own licence family.
use Rattle.std.specs.Prelude.{ℕ, ◌+◌, List, [], length, slice_get, sum_by, unwrap_or}
use Rattle.spdx_terms.specs.declared.term.ExpressionReq.{ExpressionReq}
use Rattle.spdx_terms.specs.declared.term.Family.{Family}
use Rattle.spdx_terms.specs.declared.term.LicenseReq.{LicenseReq}
use Rattle.spdx_terms.specs.Terms.{family_of}
use Rattle.spdx_terms.specs.families.Places.{places_in}
pub use Rattle.policy_core.specs.valid.Indexes.{families_in, granted_families}
use Rattle.policy_core.specs.valid.Policy.{Grant, Policy, granted_licensees}

-- ---- families

-- the families of a policy's entries, list by list
pub record EntryFamilies : Type 0 where
  pub allowed : List Family
  pub granted : List (List Family)

abbrev pub entry_families : Policy → EntryFamilies
entry_families policy = record { allowed = families_in policy.allowed; granted = granted_families policy.exceptions }

-- the families of the list at a place
abbrev pub families_at : List (List Family) → ℕ → List Family
families_at lists place = unwrap_or (slice_get lists place) []

-- ---- entries

-- the places of the licensees of a term's family
abbrev pub places_for : List LicenseReq → LicenseReq → List ℕ
places_for licensees term = places_in (family_of term) (families_in licensees)

-- how many licensees are of a term's family
abbrev pub entries_in : List LicenseReq → LicenseReq → ℕ
entries_in licensees term = length (places_for licensees term)

-- those of the exceptions at some places
abbrev pub granted_entries : List Grant → List ℕ → LicenseReq → ℕ
granted_entries exceptions counted term =
    sum_by (λ place. entries_in (granted_licensees exceptions place) term) counted

-- How many entries are asked at most for a term of a crate: those of the term's family in each exception that counts
-- for the crate, and in what is allowed.
abbrev pub entries_of : Policy → List ℕ → LicenseReq → ℕ
entries_of policy counted term = granted_entries policy.exceptions counted term + entries_in policy.allowed term

-- those of all terms of an expression
abbrev pub entries_of_terms : Policy → List ℕ → List ExpressionReq → ℕ
entries_of_terms policy counted terms = sum_by (λ term. entries_of policy counted term.req) terms
