-- The types of a policy that are one of a table of names.
use Rattle.std.specs.Prelude.{ℕ, List, [], ◌∷◌, codes}
use Rattle.toml_subset.specs.Data.{Toml}
use Rattle.toml_subset.specs.shapes.Shaped.{ShapeReading}
use Rattle.policy_toml.specs.Readings.{name_of}
use Rattle.diag_core.specs.declared.severity.Severity.{Severity}
use Rattle.diag_core.specs.declared.severity.Severity.TheVariants as severity
use Rattle.policy_parts.specs.declared.names.BlanketAgreement.{BlanketAgreement}
use Rattle.policy_parts.specs.declared.names.BlanketAgreement.TheVariants as agreement
use Rattle.policy_parts.specs.declared.names.LintLevel.{LintLevel}
use Rattle.policy_parts.specs.declared.names.LintLevel.TheVariants as lint
use Rattle.policy_parts.specs.declared.names.Scope.{Scope}
use Rattle.policy_parts.specs.declared.names.Scope.TheVariants as scope

abbrev pub scope_names : List (List ℕ × Scope)
scope_names =
    (codes "all", scope.All) ∷ (codes "workspace", scope.Workspace) ∷ (codes "transitive", scope.Transitive)
    ∷ (codes "none", scope.None) ∷ []

abbrev pub scope_of : Toml → ShapeReading Scope
scope_of = name_of (codes "Scope") scope_names

abbrev pub scope_name : Scope → List ℕ
scope_name scope.All = codes "all"
scope_name scope.Workspace = codes "workspace"
scope_name scope.Transitive = codes "transitive"
scope_name scope.None = codes "none"

abbrev pub agreement_names : List (List ℕ × BlanketAgreement)
agreement_names =
    (codes "both", agreement.Both) ∷ (codes "either", agreement.Either) ∷ (codes "osi", agreement.Osi)
    ∷ (codes "fsf", agreement.Fsf)
    ∷ (codes "osi-only", agreement.OsiOnly) ∷ (codes "fsf-only", agreement.FsfOnly)
    ∷ (codes "neither", agreement.Neither) ∷ []

abbrev pub agreement_of : Toml → ShapeReading BlanketAgreement
agreement_of = name_of (codes "BlanketAgreement") agreement_names

abbrev pub lint_names : List (List ℕ × LintLevel)
lint_names = (codes "allow", lint.Allow) ∷ (codes "warn", lint.Warn) ∷ (codes "deny", lint.Deny) ∷ []

abbrev pub lint_of : Toml → ShapeReading LintLevel
lint_of = name_of (codes "LintLevel") lint_names

-- what is allowed is a note, what is warned of a warning, and what is denied an error
abbrev pub severity_of_lint : LintLevel → Severity
severity_of_lint lint.Allow = severity.Note
severity_of_lint lint.Warn = severity.Warning
severity_of_lint lint.Deny = severity.Error
