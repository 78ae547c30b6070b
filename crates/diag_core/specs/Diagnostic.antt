-- What is reported.
use Rattle.std.specs.Prelude.{[], Option, Some, None}
use Rattle.diag_core.specs.declared.severity.Severity.{Severity}
use Rattle.diag_core.specs.declared.diagnostic.Diagnostic.{Diagnostic}
use Rattle.diag_core.specs.declared.code.DiagnosticCode.{DiagnosticCode}
use Rattle.diag_core.specs.Code.{code_name}
use Rattle.diag_core.specs.Label.{heap}

-- no code, an empty message, no label and no note
abbrev pub plain_diagnostic : Severity → Diagnostic
plain_diagnostic severity =
    record { severity = severity; code = None; message = []; labels = []; notes = []; alloc = heap }

-- the diagnostic with the name of the code, where there is one
abbrev pub with_code_of : Option DiagnosticCode → Diagnostic → Diagnostic
with_code_of None diag = diag
with_code_of (Some code) diag = record diag { code = Some (code_name code) }
