-- Policies, exceptions that count, terms, and how many entries are asked for them at most, worked out by hand from the rules.
use Rattle.std.proofs.Common.{◌≡◌, ℕ, Bool, true, false, List, [], ◌∷◌, map, None, codes, refl}
use Rattle.spdx_terms.specs.declared.term.ExpressionReq.{ExpressionReq}
use Rattle.spdx_terms.specs.declared.term.LicenseItem.TheVariants.{Spdx, Reference}
use Rattle.spdx_terms.specs.declared.term.LicenseReq.{LicenseReq}
use Rattle.policy_core.specs.valid.Policy.{Grant}
use Rattle.policy_core.specs.valid.Rows.{grant, isc, mit, policy, zlib}
use Rattle.check_core.specs.evaluate.Entries.{entries_of_terms}

abbrev version : List ℕ → ℕ → ℕ → Bool → LicenseReq
version name family rank later = record { item = Spdx name family rank later false; exception = None }

abbrev gpl : ℕ → Bool → LicenseReq
gpl rank later = version (codes "GPL") 5 rank later

abbrev apache : ℕ → Bool → LicenseReq
apache rank later = version (codes "Apache") 6 rank later

abbrev eupl : ℕ → LicenseReq
eupl rank = version (codes "EUPL") 7 rank false

abbrev reference : List ℕ → LicenseReq
reference id = record { item = Reference None id; exception = None }

abbrev term : LicenseReq → ExpressionReq
term req = record { req = req; span = record { start = 0; end = 0 } }

-- how many are asked for these terms, by the exceptions at some places
abbrev asked_by : List ℕ → List LicenseReq → List Grant → List LicenseReq → ℕ
asked_by counted licensees grants terms = entries_of_terms (policy licensees grants) counted (map term terms)

-- where no exception counts
abbrev asked : List LicenseReq → List LicenseReq → ℕ
asked licensees terms = asked_by [] licensees [] terms

abbrev versions : List LicenseReq
versions = gpl 10 false ∷ gpl 20 false ∷ gpl 30 false ∷ mit ∷ []

of_three_versions : (asked versions (gpl 30 false ∷ []) ≡ 3) × (asked versions (zlib ∷ []) ≡ 0) × (asked versions (gpl 10 true ∷ []) ≡ 3)
of_three_versions = (refl, refl, refl)

-- in the exception that counts and in what is allowed, for each term
of_an_exception : asked_by (0 ∷ []) (gpl 30 false ∷ mit ∷ []) (grant (codes "a") (mit ∷ gpl 20 false ∷ []) ∷ []) (mit ∷ gpl 30 false ∷ []) ≡ 4
of_an_exception = refl

-- in each of several that count: one version of the family in either, and one that is allowed
of_exceptions : asked_by (0 ∷ 1 ∷ []) (gpl 10 false ∷ []) (grant (codes "a") (gpl 20 false ∷ mit ∷ []) ∷ grant (codes "a") (gpl 30 false ∷ []) ∷ []) (gpl 30 false ∷ []) ≡ 3
of_exceptions = refl

-- those that do not count add none, and neither does a place behind the list
of_other_exceptions : asked_by (1 ∷ 3 ∷ []) (mit ∷ []) (grant (codes "b") (mit ∷ mit ∷ []) ∷ grant (codes "a") (isc ∷ []) ∷ grant (codes "a") (mit ∷ []) ∷ []) (mit ∷ []) ≡ 1
of_other_exceptions = refl

of_an_empty_exception : asked_by (0 ∷ []) (eupl 11 ∷ eupl 12 ∷ mit ∷ []) (grant (codes "a") [] ∷ grant (codes "a") (eupl 12 ∷ []) ∷ []) (eupl 12 ∷ mit ∷ []) ≡ 3
of_an_empty_exception = refl

of_two_terms : asked (apache 10 false ∷ apache 11 false ∷ apache 20 false ∷ []) (apache 11 true ∷ apache 11 false ∷ []) ≡ 6
of_two_terms = refl

-- references are one family
of_references : asked (reference (codes "a") ∷ reference (codes "b") ∷ mit ∷ []) (reference (codes "c") ∷ []) ≡ 2
of_references = refl

of_no_terms : asked versions [] ≡ 0
of_no_terms = refl
