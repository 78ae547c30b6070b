-- Flags by place, which say what is a hit so far. Only contracts of calls that set or read them cite these.
use Rattle.std.specs.Prelude.{ℕ, Bool, false, true, List, ◌++◌, length, map, get_or, slice_set, Option, Some, None}
use Rattle.std.specs.List.{range_with_len}
use Rattle.spdx_core.specs.declared.certificates.verdict.Hit.{Hit}
use Rattle.spdx_core.specs.declared.certificates.verdict.Hit.TheVariants.{Allowed, Exception}
use Rattle.diag_core.specs.declared.pack.Check.TheVariants.{Licenses}
use Rattle.diag_core.specs.declared.pack.Diag.{Diag}
use Rattle.diag_core.specs.Pack.{PackOf, with_crate}
use Rattle.policy_core.specs.declared.valid.policy.ValidConfig.{ValidConfig}
use Rattle.check_core.specs.unused.Unused.{exception_findings, is_exception_hit, is_license_hit, license_findings}

pub record Flags : Type 0 where
  pub allowed : List Bool
  pub exceptions : List Bool

-- a flag for each place below a number
abbrev pub flags_of : ℕ → (ℕ → Bool) → List Bool
flags_of count is_hit = map is_hit (range_with_len 0 count)

-- the places of the policy's licensees and exceptions at which one of these hits is
abbrev pub flags_by : ValidConfig → List Hit → Flags
flags_by policy hits = record {
  allowed = flags_of (length policy.allowed) (is_license_hit hits);
  exceptions = flags_of (length policy.exceptions) (is_exception_hit hits);
}

abbrev pub no_flags : ℕ → List Bool
no_flags count = flags_of count (λ place. false)

-- behind the end of the list no flag is set
abbrev pub flag_at : List Bool → ℕ → Bool
flag_at flags place = get_or flags place false

-- with the flag of one more hit
abbrev pub flags_with_hit : Flags → Hit → Flags
flags_with_hit flags (Allowed entry) =
    record { allowed = slice_set flags.allowed entry true; exceptions = flags.exceptions }
flags_with_hit flags (Exception exception entry) =
    record { allowed = flags.allowed; exceptions = slice_set flags.exceptions exception true }

abbrev pub marked_by : Flags → Option Hit → Flags
marked_by flags None = flags
marked_by flags (Some hit) = flags_with_hit flags hit

-- ---- packs

-- with more findings behind its own
abbrev pub with_more : PackOf → List Diag → PackOf
with_more pack more =
    record { check = pack.check; kid = pack.kid; findings = pack.findings ++ map (with_crate pack.kid) more }

abbrev pub unused_pack : ValidConfig → Flags → PackOf
unused_pack policy flags = record {
  check = Licenses;
  kid = None;
  findings = license_findings policy (flag_at flags.allowed) ++ exception_findings policy (flag_at flags.exceptions);
}
