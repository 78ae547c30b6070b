use Rattle.std.proofs.Common.{◌≡◌, Some, refl}
use Rattle.diag_core.specs.declared.licenses.Code.TheVariants as licenses
use Rattle.diag_core.specs.declared.general.Code.TheVariants as general
use Rattle.diag_core.specs.declared.code.DiagnosticCode.{DiagnosticCode}
use Rattle.diag_core.specs.declared.code.DiagnosticCode.TheVariants.{License, General}
use Rattle.diag_core.specs.Code.{code_name, code_named}
use Rattle.diag_core.proofs.code.code_reads_back.Goals as goal

each : (code : DiagnosticCode) → code_named (code_name code) ≡ Some code
unfolding code_named
each (License licenses.Accepted) = refl
each (License licenses.Rejected) = refl
each (License licenses.Unlicensed) = refl
each (License licenses.SkippedPrivateWorkspaceCrate) = refl
each (License licenses.LicenseNotEncountered) = refl
each (License licenses.LicenseExceptionNotEncountered) = refl
each (License licenses.MissingClarificationFile) = refl
each (License licenses.ParseError) = refl
each (License licenses.EmptyLicenseField) = refl
each (License licenses.NoLicenseField) = refl
each (License licenses.GatherFailure) = refl
each (General general.Deprecated) = refl

pub returns : goal.returns
returns c = each c.args.code
