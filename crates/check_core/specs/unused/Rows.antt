-- Rows of policies and hits, with what is reported after all crates, worked out by hand from the rules.
use Rattle.std.specs.Prelude.{ℕ, pos, false, List, [], ◌∷◌, map, codes, Option, Some, None}
use Rattle.deny_text.specs.declared.span.Span.{Span}
use Rattle.spdx_terms.specs.declared.term.LicenseItem.TheVariants.{Spdx}
use Rattle.spdx_core.specs.declared.certificates.verdict.Hit.{Hit}
use Rattle.spdx_core.specs.declared.certificates.verdict.Hit.TheVariants.{Allowed, Exception}
use Rattle.diag_core.specs.declared.label.Label.{Label}
use Rattle.diag_core.specs.declared.label.LabelStyle.TheVariants.{Primary}
use Rattle.diag_core.specs.declared.pack.Diag.{Diag}
use Rattle.diag_core.specs.declared.severity.Severity.{Severity}
use Rattle.diag_core.specs.declared.severity.Severity.TheVariants.{Warning, Error}
use Rattle.diag_core.specs.Label.{label_at}
use Rattle.policy_parts.specs.declared.entries.licensee.Licensee.{Licensee}
use Rattle.policy_parts.specs.declared.names.LintLevel.{LintLevel}
use Rattle.policy_parts.specs.declared.names.LintLevel.TheVariants.{Allow, Warn, Deny}
use Rattle.policy_core.specs.declared.valid.policy.ValidConfig.{ValidConfig}
use Rattle.policy_core.specs.declared.valid.policy.ValidException.{ValidException}
use Rattle.check_core.specs.unused.Unused.{unused_findings}

-- ---- policies

abbrev from_to : ℕ → ℕ → Span
from_to start end = record { start = start; end = end }

abbrev licensee : List ℕ → ℕ → ℕ → Licensee
licensee name start end = record {
  0 = record { value = record { item = Spdx name 1 0 false false; exception = None }; span = from_to start end };
}

abbrev mit : Licensee
mit = licensee (codes "MIT") 21 24

abbrev zlib : Licensee
zlib = licensee (codes "Zlib") 28 32

-- an exception that is in a file
abbrev exception : ℕ → ℕ → ℕ → List Licensee → ValidException
exception file start end licensees = record {
  spec = record { name = codes "a"; span = from_to start end; requirement = None };
  allowed = licensees;
  license_files = [];
  file_id = file;
}

abbrev policy : LintLevel → LintLevel → List Licensee → List ValidException → ValidConfig
policy licenses grants licensees exceptions = record {
  file_id = 0;
  version = pos 1;
  private = record { ignore = false; ignore_sources = []; registries = [] };
  unused_allowed_license = licenses;
  unused_license_exception = grants;
  confidence_threshold = pos 80;
  allowed = licensees;
  clarifications = [];
  exceptions = exceptions;
  ignore_sources = [];
  include_dev = false;
  include_build = false;
}

-- ---- findings

pub record UnusedFinding : Type 0 where
  pub severity : Severity
  pub code : Option (List ℕ)
  pub message : List ℕ
  pub labels : List Label

abbrev told_by : Diag → UnusedFinding
told_by finding = record {
  severity = finding.diag.severity;
  code = finding.diag.code;
  message = finding.diag.message;
  labels = finding.diag.labels;
}

abbrev license_told : Severity → ℕ → ℕ → UnusedFinding
license_told severity start end = record {
  severity = severity;
  code = Some (codes "license-not-encountered");
  message = codes "license was not encountered";
  labels = label_at Primary 0 (from_to start end) (codes "unmatched license allowance") ∷ [];
}

abbrev exception_told : Severity → ℕ → ℕ → UnusedFinding
exception_told severity start end = record {
  severity = severity;
  code = Some (codes "license-exception-not-encountered");
  message = codes "license exception was not encountered";
  labels = label_at Primary 0 (from_to start end) (codes "unmatched license exception") ∷ [];
}

pub record UnusedRow : Type 0 where
  pub policy : ValidConfig
  pub hits : List Hit
  pub told : List UnusedFinding

-- what the definition makes of a row
abbrev pub reported_row : UnusedRow → UnusedRow
reported_row row =
    record { policy = row.policy; hits = row.hits; told = map told_by (unused_findings row.policy row.hits) }

abbrev row : ValidConfig → List Hit → List UnusedFinding → UnusedRow
row policy hits told = record { policy = policy; hits = hits; told = told }

-- an allowed `MIT` and `Zlib`, and two exceptions of the policy's file
abbrev usual_policy : LintLevel → LintLevel → ValidConfig
usual_policy licenses grants =
    policy licenses grants (mit ∷ zlib ∷ []) (exception 0 61 62 (mit ∷ zlib ∷ []) ∷ exception 0 90 91 [] ∷ [])

abbrev pub unused_rows : List UnusedRow
unused_rows =
    -- no hit at all
    row (usual_policy Warn Warn) [] (license_told Warning 21 24 ∷ license_told Warning 28 32
    ∷ exception_told Warning 61 62 ∷ exception_told Warning 90 91 ∷ [])
    -- by the place of the entry, whatever is there
    ∷ row (usual_policy Warn Warn) (Allowed 1 ∷ [])
    (license_told Warning 21 24 ∷ exception_told Warning 61 62 ∷ exception_told Warning 90 91 ∷ [])
    -- one entry is enough for an exception, and its place is none in the list of allowed licences
    ∷ row (usual_policy Warn Warn) (Exception 0 1 ∷ [])
    (license_told Warning 21 24 ∷ license_told Warning 28 32 ∷ exception_told Warning 90 91 ∷ [])
    ∷ row (usual_policy Warn Warn) (Exception 1 0 ∷ Allowed 0 ∷ Allowed 0 ∷ [])
    (license_told Warning 28 32 ∷ exception_told Warning 61 62 ∷ [])
    ∷ row (usual_policy Warn Warn) (Allowed 1 ∷ Exception 1 0 ∷ Exception 0 0 ∷ Allowed 0 ∷ []) []
    -- each lint has its level, and tells nothing where it is `allow`
    ∷ row (usual_policy Deny Warn) (Allowed 0 ∷ Exception 0 0 ∷ [])
    (license_told Error 28 32 ∷ exception_told Warning 90 91 ∷ [])
    ∷ row (usual_policy Allow Deny) (Allowed 0 ∷ Exception 0 0 ∷ []) (exception_told Error 90 91 ∷ [])
    ∷ row (usual_policy Warn Allow) (Allowed 0 ∷ Exception 0 0 ∷ []) (license_told Warning 28 32 ∷ [])
    ∷ row (usual_policy Allow Allow) [] []
    -- exceptions of another file are not reported
    ∷ row (policy Warn Warn []
    (exception 1 61 62 (mit ∷ []) ∷ exception 0 90 91 (mit ∷ []) ∷ exception 1 99 100 [] ∷ [])) []
    (exception_told Warning 90 91 ∷ [])
    -- of two equal entries the one that is no hit is reported
    ∷ row (policy Warn Warn (mit ∷ licensee (codes "MIT") 28 31 ∷ []) []) (Allowed 0 ∷ [])
    (license_told Warning 28 31 ∷ [])
    ∷ []
