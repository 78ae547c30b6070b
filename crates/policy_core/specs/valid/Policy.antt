-- What a valid policy says of a crate and of a term.
use Rattle.std.specs.Prelude.{◌⊎◌, ℕ, Bool, true, IsTrue, List, [], ◌∷◌, map, Option, None, slice_get, Any, option_map}
use Rattle.std.specs.Option.{option_or, option_map_or}
use Rattle.url.specs.Parts.{Parts}
use Rattle.graph_core.specs.Krate as crates
use Rattle.graph_core.specs.Krate.{CrateRecord, SourceMatches}
use Rattle.spdx_terms.specs.declared.term.LicenseReq.{LicenseReq}
use Rattle.policy_parts.specs.spec.Index.{places_from, first_of, matching_places}
use Rattle.policy_parts.specs.spec.Spec.{Spec}
use Rattle.spdx_core.specs.declared.certificates.verdict.Hit.{Hit}
use Rattle.spdx_core.specs.declared.certificates.verdict.Hit.TheVariants.{Allowed, Exception}
use Rattle.policy_core.specs.valid.Satisfied.{satisfies}

-- an exception: the crates that it is for, and the licensees that it allows them
pub record Grant : Type 0 where
  pub spec : Spec
  pub allowed : List LicenseReq

-- What verdicts depend on: whether private crates are passed over, the registries and addresses that make one private,
-- the licensees that are allowed, in sorted order, and all exceptions, those of the policy and then those of its
-- exceptions file.
pub record Policy : Type 0 where
  pub ignores : Bool
  pub registries : List (List ℕ)
  pub ignore_sources : List Parts
  pub allowed : List LicenseReq
  pub exceptions : List Grant

-- ---- crates that are passed over

-- A crate is passed over where private crates are, and either its publish list is there and has names of these
-- registries alone, or its source matches one of these addresses exactly.
pub record IsPrivate (policy : Policy) (krate : CrateRecord) : Type 0 where
  pub ignores : IsTrue policy.ignores
  pub private : IsTrue (crates.is_private policy.registries krate.publish)
      ⊎ Any (λ address. SourceMatches true krate.source address) policy.ignore_sources

-- ---- what allows a term

-- the first item that passes a test, as a place from 0
abbrev pub first_place : {A : Type 0} → (A → Bool) → List A → Option ℕ
first_place test items = first_of (places_from 0 test items)

-- the first exception whose spec matches a crate
abbrev pub first_exception : Policy → CrateRecord → Option ℕ
first_exception policy krate = first_of (matching_places (map (λ grant. grant.spec) policy.exceptions) krate)

-- the first of some licensees that satisfies a term
abbrev pub first_entry : List LicenseReq → LicenseReq → Option ℕ
first_entry licensees term = first_place (λ licensee. satisfies licensee term) licensees

-- the licensees of the exception at a place; behind the end of the list there are none
abbrev pub granted_licensees : List Grant → ℕ → List LicenseReq
granted_licensees exceptions place = option_map_or (λ grant. grant.allowed) (slice_get exceptions place) []

-- the hit of a term by the exception at a place
abbrev pub exception_hit : List Grant → ℕ → LicenseReq → Option Hit
exception_hit exceptions place term =
    option_map (Exception place) (first_entry (granted_licensees exceptions place) term)

-- the hit of a term by the exceptions at some places: by the first of them, in this order, that has one
abbrev pub granted_hit : List Grant → List ℕ → LicenseReq → Option Hit
granted_hit exceptions [] term = None
granted_hit exceptions (place ∷ places) term =
    option_or (exception_hit exceptions place term) (granted_hit exceptions places term)

-- The hit of a term of a crate's expression, by the places of the exceptions that count for the crate: the first
-- licensee that satisfies the term, exception by exception in the order of the places, or else the first allowed one.
abbrev pub hit_of : Policy → List ℕ → LicenseReq → Option Hit
hit_of policy counted term =
    option_or (granted_hit policy.exceptions counted term) (option_map Allowed (first_entry policy.allowed term))
