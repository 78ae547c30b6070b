-- What the last packs of all policies tell.
use Rattle.std.specs.Prelude.{◌≡◌, ◌⊎◌, ℕ, suc, List, [], ◌∷◌, ◌++◌, Any}
use Rattle.std.specs.List.{AllByRecursion}
use Rattle.spdx_core.specs.declared.certificates.verdict.Hit.{Hit}
use Rattle.spdx_core.specs.declared.certificates.verdict.Hit.TheVariants.{Allowed, Exception}
use Rattle.diag_core.specs.declared.label.Label.{Label}
use Rattle.diag_core.specs.declared.pack.Diag.{Diag}
use Rattle.diag_core.specs.File.{File}
use Rattle.gather_core.specs.findings.License.{PlaceLies}
use Rattle.policy_parts.specs.declared.entries.licensee.Licensee.{Licensee}
use Rattle.policy_parts.specs.declared.names.LintLevel.{LintLevel}
use Rattle.policy_parts.specs.declared.names.LintLevel.TheVariants.{Allow}
use Rattle.policy_parts.specs.Names.{severity_of_lint}
use Rattle.policy_core.specs.declared.valid.policy.ValidConfig.{ValidConfig}
use Rattle.policy_core.specs.declared.valid.policy.ValidException.{ValidException}
use Rattle.check_core.specs.unused.Unused.{unused_exception, unused_findings, unused_license}

-- ---- which entries are reported

-- one of these hits is the allowed licensee at a place
abbrev pub LicenseIsHit : List Hit → ℕ → Type 0
LicenseIsHit hits place = Any (λ hit. hit ≡ Allowed place) hits

-- one of these hits is an entry of the exception at a place
abbrev pub ExceptionIsHit : List Hit → ℕ → Type 0
ExceptionIsHit hits place = Any (λ hit. (entry : ℕ) × (hit ≡ Exception place entry)) hits

-- A lint tells an entry that is no hit, unless its level is allow.
pub record IsUnused (level : LintLevel) (Hits : Type 0) : Type 0 where
  pub asked : level ≡ Allow → ⊥
  pub no_hit : Hits → ⊥

-- Findings tell just the items that are to be reported, in order, where the first item is at a place.
abbrev pub Tell : {A : Type 0} → (ℕ → A → Type 0) → (A → Diag) → ℕ → List A → List Diag → Type 0
Tell is_told told place [] findings = findings ≡ []
Tell is_told told place (x ∷ xs) findings =
    (is_told place x × ((rest : List Diag) × (findings ≡ told x ∷ rest) × Tell is_told told (suc place) xs rest))
    ⊎ ((is_told place x → ⊥) × Tell is_told told (suc place) xs findings)

abbrev pub LicenseIsTold : ValidConfig → List Hit → ℕ → Licensee → Type 0
LicenseIsTold policy hits place licensee = IsUnused policy.unused_allowed_license (LicenseIsHit hits place)

-- that of the policy's own file alone
abbrev pub ExceptionIsTold : ValidConfig → List Hit → ℕ → ValidException → Type 0
ExceptionIsTold policy hits place exception =
    IsUnused policy.unused_license_exception (ExceptionIsHit hits place) × (exception.file_id ≡ policy.file_id)

-- the findings are those of licensees, and then those of exceptions, at their lint levels
pub record TellUnused (policy : ValidConfig) (hits : List Hit) (findings : List Diag) : Type 0 where
  pub licenses : List Diag
  pub exceptions : List Diag
  pub all : findings ≡ licenses ++ exceptions
  pub of_licenses : Tell (LicenseIsTold policy hits)
      (unused_license (severity_of_lint policy.unused_allowed_license) policy.file_id) 0 policy.allowed licenses
  pub of_exceptions : Tell (ExceptionIsTold policy hits)
      (unused_exception (severity_of_lint policy.unused_license_exception)) 0 policy.exceptions exceptions

abbrev pub TellsTheUnused : Type 0
TellsTheUnused = (policy : ValidConfig) (hits : List Hit) → TellUnused policy hits (unused_findings policy hits)

-- ---- where their labels lie

-- the places of licensees lie in the policy's file, and those of exceptions each in its own
pub record EntriesLie (files : List File) (policy : ValidConfig) : Type 0 where
  pub allowed : AllByRecursion (λ (licensee : Licensee). PlaceLies files policy.file_id licensee.0.span) policy.allowed
  pub exceptions : AllByRecursion
      (λ (exception : ValidException). PlaceLies files exception.file_id exception.spec.span) policy.exceptions

abbrev pub EntryLabelLies : List File → Label → Type 0
EntryLabelLies files label = PlaceLies files label.file_id label.range

abbrev pub EntryLabelsLie : List File → Diag → Type 0
EntryLabelsLie files told = AllByRecursion (EntryLabelLies files) told.diag.labels

abbrev pub LabelsLieInThePolicy : Type 0
LabelsLieInThePolicy =
    (files : List File) (policy : ValidConfig) (hits : List Hit) → EntriesLie files policy
    → AllByRecursion (EntryLabelsLie files) (unused_findings policy hits)
