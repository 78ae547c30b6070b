-- What of a policy is no hit: what allows no term of any crate.
use Rattle.std.specs.Prelude.{ℕ, suc, ◌==◌, Bool, false, List, [], ◌∷◌, ◌++◌, map, filter, codes, Option, Some, None}
use Rattle.std.specs.Prelude.{if◌then◌else◌}
use Rattle.std.specs.List.{flat_map, list_any}
use Rattle.std.specs.Option.{option_map_or, option_to_list}
use Rattle.spdx_core.specs.declared.certificates.verdict.Hit.{Hit}
use Rattle.spdx_core.specs.declared.certificates.verdict.Hit.TheVariants.{Allowed, Exception}
use Rattle.diag_core.specs.declared.label.Label.{Label}
use Rattle.diag_core.specs.declared.label.LabelStyle.TheVariants.{Primary}
use Rattle.diag_core.specs.declared.licenses.Code.{Code}
use Rattle.diag_core.specs.declared.licenses.Code.TheVariants.{LicenseNotEncountered, LicenseExceptionNotEncountered}
use Rattle.diag_core.specs.declared.pack.Check.TheVariants.{Licenses}
use Rattle.diag_core.specs.declared.pack.Diag.{Diag}
use Rattle.diag_core.specs.declared.severity.Severity.{Severity}
use Rattle.diag_core.specs.declared.severity.Severity.TheVariants.{Warning, Error}
use Rattle.diag_core.specs.Label.{label_at}
use Rattle.diag_core.specs.Pack.{PackOf}
use Rattle.policy_parts.specs.declared.entries.licensee.Licensee.{Licensee}
use Rattle.policy_parts.specs.declared.names.LintLevel.{LintLevel}
use Rattle.policy_parts.specs.declared.names.LintLevel.TheVariants.{Allow, Warn, Deny}
use Rattle.policy_core.specs.declared.valid.policy.ValidConfig.{ValidConfig}
use Rattle.policy_core.specs.declared.valid.policy.ValidException.{ValidException}
use Rattle.check_core.specs.findings.Findings.{finding}

-- ---- hits

-- the hits among what was found for terms, in order
abbrev pub hits_in : List (Option Hit) → List Hit
hits_in found = flat_map option_to_list found

-- a hit is the allowed licensee at a place
abbrev pub allows : ℕ → Hit → Bool
allows place (Allowed entry) = entry == place
allows place (Exception exception entry) = false

-- a hit is an entry of the exception at a place
abbrev pub excepts : ℕ → Hit → Bool
excepts place (Allowed entry) = false
excepts place (Exception exception entry) = exception == place

abbrev pub is_license_hit : List Hit → ℕ → Bool
is_license_hit hits place = list_any (allows place) hits

abbrev pub is_exception_hit : List Hit → ℕ → Bool
is_exception_hit hits place = list_any (excepts place) hits

-- the items at whose places no hit is, where the first is at a place
abbrev pub items_without_hit : {A : Type 0} → (ℕ → Bool) → ℕ → List A → List A
items_without_hit is_hit place [] = []
items_without_hit is_hit place (x ∷ xs) =
    (if is_hit place then [] else x ∷ []) ++ items_without_hit is_hit (suc place) xs

-- ---- findings

-- the level of what is reported of unused entries; nothing is reported where they are allowed
abbrev pub severity_asked : LintLevel → Option Severity
severity_asked Allow = None
severity_asked Warn = Some Warning
severity_asked Deny = Some Error

abbrev pub unused_finding : Severity → Code → List ℕ → Label → Diag
unused_finding severity code message label = finding severity code message (label ∷ []) []

abbrev pub unused_license : Severity → ℕ → Licensee → Diag
unused_license severity file licensee =
    unused_finding severity LicenseNotEncountered (codes "license was not encountered")
    (label_at Primary file licensee.0.span (codes "unmatched license allowance"))

-- at the name of its spec
abbrev pub unused_exception : Severity → ValidException → Diag
unused_exception severity exception =
    unused_finding severity LicenseExceptionNotEncountered (codes "license exception was not encountered")
    (label_at Primary exception.file_id exception.spec.span (codes "unmatched license exception"))

-- an exception is in the file of that number
abbrev pub is_own : ℕ → ValidException → Bool
is_own file exception = exception.file_id == file

-- of some exceptions those of the file are reported
abbrev pub own_findings : Severity → ℕ → List ValidException → List Diag
own_findings severity file exceptions = map (unused_exception severity) (filter (is_own file) exceptions)

-- each allowed licensee that is no hit, in sorted order
abbrev pub license_findings : ValidConfig → (ℕ → Bool) → List Diag
license_findings policy is_hit =
    option_map_or (λ severity. map (unused_license severity policy.file_id) (items_without_hit is_hit 0 policy.allowed))
    (severity_asked policy.unused_allowed_license) []

-- each exception of the policy's own file none of whose entries is a hit
abbrev pub exception_findings : ValidConfig → (ℕ → Bool) → List Diag
exception_findings policy is_hit =
    option_map_or (λ severity. own_findings severity policy.file_id (items_without_hit is_hit 0 policy.exceptions))
    (severity_asked policy.unused_license_exception) []

-- what is reported after all crates, of which these are the hits
abbrev pub unused_findings : ValidConfig → List Hit → List Diag
unused_findings policy hits =
    license_findings policy (is_license_hit hits) ++ exception_findings policy (is_exception_hit hits)

-- it is about no crate, and may be empty
abbrev pub last_pack : ValidConfig → List Hit → PackOf
last_pack policy hits = record { check = Licenses; kid = None; findings = unused_findings policy hits }
