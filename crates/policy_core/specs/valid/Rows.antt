-- Rows of policies, the exceptions that count for a crate, terms of its expression, and what allows each, worked out by
-- hand from the rules.
use Rattle.std.specs.Prelude.{ℕ, false, true, Bool, List, [], ◌∷◌, codes, Option, Some, None}
use Rattle.graph_core.specs.Krate.{CrateRecord}
use Rattle.spdx_terms.specs.declared.term.LicenseItem.TheVariants.{Spdx, Reference}
use Rattle.spdx_terms.specs.declared.term.LicenseReq.{LicenseReq}
use Rattle.spdx_core.specs.declared.certificates.verdict.Hit.{Hit}
use Rattle.spdx_core.specs.declared.certificates.verdict.Hit.TheVariants.{Allowed, Exception}
use Rattle.policy_core.specs.valid.Policy.{Grant, Policy, hit_of}

abbrev pub crate_a : CrateRecord
crate_a = record {
  name = codes "a";
  id = codes "a 1.0.0";
  version = (1, 0, 0, [], []);
  source = None;
  authors = [];
  repository = None;
  description = None;
  manifest_path = codes "/w/a/Cargo.toml";
  license = None;
  license_file = None;
  features = [];
  publish = None;
  rust_version = None;
}

-- ---- terms and licensees

abbrev plain_licensee : List ℕ → ℕ → LicenseReq
plain_licensee name family = record { item = Spdx name family 0 false false; exception = None }

abbrev pub mit : LicenseReq
mit = plain_licensee (codes "MIT") 1

abbrev pub isc : LicenseReq
isc = plain_licensee (codes "ISC") 2

abbrev pub zlib : LicenseReq
zlib = plain_licensee (codes "Zlib") 3

abbrev x11 : LicenseReq
x11 = plain_licensee (codes "X11") 4

abbrev mit_with : LicenseReq
mit_with = record { item = Spdx (codes "MIT") 1 0 false false; exception = Some (codes "Classpath-exception-2.0") }

abbrev gpl : List ℕ → ℕ → Bool → LicenseReq
gpl name rank later = record { item = Spdx name 5 rank later false; exception = None }

abbrev gpl2_only : LicenseReq
gpl2_only = gpl (codes "GPL-2.0-only") 20 false

abbrev gpl2_or_later : LicenseReq
gpl2_or_later = gpl (codes "GPL-2.0-or-later") 20 true

abbrev gpl3_only : LicenseReq
gpl3_only = gpl (codes "GPL-3.0-only") 30 false

abbrev reference : Option (List ℕ) → List ℕ → LicenseReq
reference doc id = record { item = Reference doc id; exception = None }

-- ---- policies

abbrev pub grant : List ℕ → List LicenseReq → Grant
grant name licensees = record {
  spec = record { name = name; span = record { start = 0; end = 0 }; requirement = None };
  allowed = licensees;
}

abbrev pub policy : List LicenseReq → List Grant → Policy
policy licensees grants =
    record { ignores = false; registries = []; ignore_sources = []; allowed = licensees; exceptions = grants }

pub record HitRow : Type 0 where
  pub policy : Policy
  pub counted : List ℕ
  pub term : LicenseReq
  pub hit : Option Hit

-- what the definition makes of a row
abbrev pub computed_row : HitRow → HitRow
computed_row row = record {
  policy = row.policy;
  counted = row.counted;
  term = row.term;
  hit = hit_of row.policy row.counted row.term;
}

-- by the exceptions at some places
abbrev row_by : List ℕ → List LicenseReq → List Grant → LicenseReq → Option Hit → HitRow
row_by counted licensees grants term hit =
    record { policy = policy licensees grants; counted = counted; term = term; hit = hit }

-- of a crate for which no exception counts
abbrev row : List LicenseReq → List Grant → LicenseReq → Option Hit → HitRow
row licensees grants term hit = row_by [] licensees grants term hit

-- two exceptions of one crate: the first allows Zlib and then ISC, the second ISC alone
abbrev two_grants : List Grant
two_grants = grant (codes "a") (zlib ∷ isc ∷ []) ∷ grant (codes "a") (isc ∷ []) ∷ []

abbrev pub rows : List HitRow
rows =
    -- allowed, by its place in the list
    row_by (0 ∷ []) (mit ∷ zlib ∷ []) (grant (codes "a") (isc ∷ []) ∷ []) mit (Some (Allowed 0))
    ∷ row_by (0 ∷ []) (mit ∷ zlib ∷ []) (grant (codes "a") (isc ∷ []) ∷ []) zlib (Some (Allowed 1))
    ∷ row_by (0 ∷ []) (mit ∷ zlib ∷ []) (grant (codes "a") (isc ∷ []) ∷ []) x11 None
    -- an exception that counts comes first, by the place of its entry
    ∷ row_by (0 ∷ []) (mit ∷ zlib ∷ []) (grant (codes "a") (isc ∷ []) ∷ []) isc (Some (Exception 0 0))
    ∷ row_by (0 ∷ []) (mit ∷ zlib ∷ []) (grant (codes "a") (mit ∷ []) ∷ []) mit (Some (Exception 0 0))
    ∷ row_by (1 ∷ []) (mit ∷ []) (grant (codes "b") (isc ∷ []) ∷ grant (codes "a") (zlib ∷ isc ∷ isc ∷ []) ∷ []) isc
    (Some (Exception 1 1))
    -- one that does not count is none
    ∷ row [] two_grants isc None
    ∷ row (isc ∷ []) two_grants isc (Some (Allowed 0))
    ∷ row_by (1 ∷ []) [] two_grants zlib None
    -- of two that count the second alone satisfies, and the first is asked before it
    ∷ row_by (0 ∷ 1 ∷ []) [] (grant (codes "a") (mit ∷ []) ∷ grant (codes "a") (isc ∷ []) ∷ []) isc
    (Some (Exception 1 0))
    ∷ row_by (0 ∷ 1 ∷ []) [] two_grants isc (Some (Exception 0 1))
    ∷ row_by (0 ∷ 1 ∷ []) (mit ∷ []) two_grants mit (Some (Allowed 0))
    ∷ row_by (0 ∷ 1 ∷ []) (zlib ∷ []) two_grants x11 None
    -- an empty exception has no hit; alone it leaves what is allowed, and before another it does not hide that
    ∷ row_by (0 ∷ []) (mit ∷ []) (grant (codes "a") [] ∷ grant (codes "a") (isc ∷ []) ∷ []) isc None
    ∷ row_by (0 ∷ []) (mit ∷ []) (grant (codes "a") [] ∷ grant (codes "a") (isc ∷ []) ∷ []) mit (Some (Allowed 0))
    ∷ row_by (0 ∷ 1 ∷ []) (isc ∷ []) (grant (codes "a") [] ∷ grant (codes "a") (isc ∷ []) ∷ []) isc
    (Some (Exception 1 0))
    -- the order is that of the places that count, whatever the list's
    ∷ row_by (1 ∷ 0 ∷ []) [] two_grants isc (Some (Exception 1 0))
    -- a place behind the end of the list grants nothing
    ∷ row_by (2 ∷ []) (mit ∷ []) two_grants isc None
    ∷ row_by (2 ∷ 1 ∷ []) (isc ∷ []) two_grants isc (Some (Exception 1 0))
    -- of two that satisfy the first in sorted order, whatever the policy wrote first
    ∷ row (gpl2_or_later ∷ gpl3_only ∷ []) [] gpl2_or_later (Some (Allowed 0))
    -- a later version satisfies a term that takes it; a licensee that takes later ones wants a term that does
    ∷ row (gpl3_only ∷ []) [] gpl2_or_later (Some (Allowed 0))
    ∷ row (gpl3_only ∷ []) [] gpl2_only None
    ∷ row (gpl2_or_later ∷ []) [] gpl2_only None
    ∷ row (gpl2_only ∷ []) [] (gpl (codes "GPL-3.0-or-later") 30 true) None
    -- with the same exception alone
    ∷ row (mit ∷ mit_with ∷ []) [] mit_with (Some (Allowed 1))
    ∷ row (mit_with ∷ []) [] mit None
    -- the same reference alone
    ∷ row (reference None (codes "x") ∷ []) [] (reference None (codes "x")) (Some (Allowed 0))
    ∷ row (reference (Some (codes "d")) (codes "x") ∷ []) [] (reference None (codes "x")) None
    ∷ row (mit ∷ []) [] (reference None (codes "MIT")) None
    ∷ []
