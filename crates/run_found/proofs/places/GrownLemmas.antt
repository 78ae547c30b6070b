-- The places of a policy are where they were once the table of files has grown.
use Rattle.std.proofs.Common.{sym, subst, ℕ, List, [], ◌∷◌, ◌++◌, Option, Some, None}
use Rattle.std.specs.List.{AllByRecursion}
use Rattle.deny_text.specs.declared.span.Span.{Span}
use Rattle.diag_core.specs.File.{File, Grows}
use Rattle.policy_core.specs.declared.valid.policy.ValidConfig.{ValidConfig}
use Rattle.policy_core.specs.declared.valid.policy.ValidClarification.{ValidClarification}
use Rattle.policy_core.specs.declared.valid.policy.ValidException.{ValidException}
use Rattle.policy_core.specs.Places.{ClarificationStands, ExceptionStands, ExpressionStands, FileStands, LicenseeStands, LiesInFile, PolicyStands}
use Rattle.gather_core.proofs.findings.LicenseLemmas.{source_grown}

lies_grown : (files more : List File) (file : ℕ) (place : Span) → LiesInFile files file place → LiesInFile (files ++ more) file place
lies_grown files more file place lies = record { text = lies.text; source = source_grown files more file lies.text lies.source; lies = lies.lies }

-- what is so of each in a table is so of each in another
each_grown : {A : Type 0} (P Q : A → Type 0) → ((one : A) → P one → Q one) → (ones : List A) → AllByRecursion P ones → AllByRecursion Q ones
each_grown P Q step [] all = tt
each_grown P Q step (one ∷ ones) all = (step one all.0, each_grown P Q step ones all.1)

expression_grown : (files more : List File) (file : ℕ) (whole : Option Span) (start : ℕ) (words : List ℕ) → ExpressionStands files file whole start words → ExpressionStands (files ++ more) file whole start words
expression_grown files more file (Some place) start words lies = lies_grown files more file place lies
expression_grown files more file None start words stands =
    record { text = stands.text; source = source_grown files more file stands.text stands.source; lies = stands.lies; is = stands.is; fits = stands.fits }

clarification_grown : (files more : List File) (one : ValidClarification) → ClarificationStands files one → ClarificationStands (files ++ more) one
clarification_grown files more one stands = record {
  spec = lies_grown files more one.file_id one.spec.span stands.spec;
  expression = expression_grown files more one.file_id one.whole one.expr_offset one.expression.text stands.expression;
  license_files =
      each_grown (FileStands files one.file_id) (FileStands (files ++ more) one.file_id) (λ file. lies_grown files more one.file_id file.path.span) one.license_files stands.license_files;
}

exception_grown : (files more : List File) (one : ValidException) → ExceptionStands files one → ExceptionStands (files ++ more) one
exception_grown files more one stands = record {
  spec = lies_grown files more one.file_id one.spec.span stands.spec;
  allowed =
      each_grown (LicenseeStands files one.file_id) (LicenseeStands (files ++ more) one.file_id) (λ licensee. lies_grown files more one.file_id licensee.0.span) one.allowed stands.allowed;
  license_files =
      each_grown (FileStands files one.file_id) (FileStands (files ++ more) one.file_id) (λ file. lies_grown files more one.file_id file.path.span) one.license_files stands.license_files;
}

pub policy_grown : (files new : List File) (policy : ValidConfig) → Grows files new → PolicyStands files policy → PolicyStands new policy
policy_grown files new policy grows stands =
    let more = grows.0 in
    subst (λ (table : List File). PolicyStands table policy) (sym grows.1) (record {
      ignore_sources =
          each_grown (λ string. LiesInFile files policy.file_id string.span) (λ string. LiesInFile (files ++ more) policy.file_id string.span)
          (λ string. lies_grown files more policy.file_id string.span) policy.private.ignore_sources stands.ignore_sources;
      allowed =
          each_grown (LicenseeStands files policy.file_id) (LicenseeStands (files ++ more) policy.file_id) (λ licensee. lies_grown files more policy.file_id licensee.0.span) policy.allowed stands.allowed;
      clarifications = each_grown (ClarificationStands files) (ClarificationStands (files ++ more)) (clarification_grown files more) policy.clarifications stands.clarifications;
      exceptions = each_grown (ExceptionStands files) (ExceptionStands (files ++ more)) (exception_grown files more) policy.exceptions stands.exceptions;
    })
