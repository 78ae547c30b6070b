-- Findings that are printed.
use Rattle.std.specs.Prelude.{◌≡◌, ℕ, Bool, List, ◌++◌, Option, All, ⊤}
use Rattle.std.specs.List.{flat_map}
use Rattle.tree_core.specs.Faults.{Gained, Rose}
use Rattle.diag_core.specs.File.{File}
use Rattle.diag_core.specs.Severity.{is_same_severity}
use Rattle.diag_core.specs.declared.diagnostic.Diagnostic.{Diagnostic}
use Rattle.diag_core.specs.declared.severity.Severity.TheVariants as severity
use Rattle.diag_core.specs.Pack.{PackOf}
use Rattle.diag_print.specs.Places.{AllLabelsAreInside, LabelsAreInside}
use Rattle.diag_print.specs.Printed.{all_printed_at, printed_at}
use Rattle.diag_print.specs.declared.context.LogContext.{LogContext}
use Rattle.diag_print.specs.declared.printer.PrintError.{PrintError}
use Rattle.diag_print.specs.declared.printer.PrintError.TheVariants.{WriteFault, Memory}

-- a finding that refuses a policy
abbrev pub is_error : Diagnostic → Bool
is_error finding = is_same_severity finding.severity severity.Error

-- each label of each finding is inside its file
abbrev pub AreInside : List File → List Diagnostic → Type 0
AreInside files findings = All (LabelsAreInside files) findings

-- the lines of findings, in order
abbrev pub printed_findings : LogContext → List File → List Diagnostic → List ℕ
printed_findings context files findings = flat_map (printed_at context files) findings

-- the same of packs
abbrev pub PacksAreInside : List File → List PackOf → Type 0
PacksAreInside files packs = All (λ (pack : PackOf). AllLabelsAreInside files pack.findings) packs

-- the lines of the findings of packs, in order
abbrev pub printed_packs : LogContext → List File → List PackOf → List ℕ
printed_packs context files packs = flat_map (λ (pack : PackOf). all_printed_at context files pack.findings) packs

-- what was written, and what is pending behind it, are the text
pub record LeavesPending (old new : Option (List ℕ)) (pending text : List ℕ) : Type 0 where
  pub front : List ℕ
  pub gained : Gained old new front
  pub parts : front ++ pending ≡ text

-- a refused write tells the sink's count of faults at the start of the call and the one after that, and it rose between
abbrev pub HasReasonSince : ℕ → ℕ → PrintError → Type 0
HasReasonSince begun after (WriteFault first last) = (first ≡ begun) × (last ≡ after) × Rose begun after
HasReasonSince begun after Memory = ⊤
