use Rattle.std.proofs.Common.{◌≡◌, Some, refl}
use Rattle.diag_core.specs.Code.{code_named}
use Rattle.diag_core.specs.declared.code.DiagnosticCode.TheVariants as code
use Rattle.diag_core.specs.declared.general.Code.TheVariants as general
use Rattle.diag_core.specs.declared.licenses.Code.TheVariants as licenses
use Rattle.run_request.specs.Names.{code_or_level_named}
use Rattle.run_request.specs.declared.level.CodeOrLevel.{CodeOrLevel}
use Rattle.run_request.specs.declared.level.CodeOrLevel.TheVariants.{Code, Level}
use Rattle.run_request.specs.declared.level.Level.TheVariants.{Allowed, Warnings, Denied}
use Rattle.run_overrides.specs.Twice.{name_of}
use Rattle.run_overrides.proofs.laws.name_reads_back.Goals as goal

each : (subject : CodeOrLevel) → code_or_level_named (name_of subject) ≡ Some subject
unfolding code_named
each (Level Allowed) = refl
each (Level Warnings) = refl
each (Level Denied) = refl
each (Code (code.License licenses.Accepted)) = refl
each (Code (code.License licenses.Rejected)) = refl
each (Code (code.License licenses.Unlicensed)) = refl
each (Code (code.License licenses.SkippedPrivateWorkspaceCrate)) = refl
each (Code (code.License licenses.LicenseNotEncountered)) = refl
each (Code (code.License licenses.LicenseExceptionNotEncountered)) = refl
each (Code (code.License licenses.MissingClarificationFile)) = refl
each (Code (code.License licenses.ParseError)) = refl
each (Code (code.License licenses.EmptyLicenseField)) = refl
each (Code (code.License licenses.NoLicenseField)) = refl
each (Code (code.License licenses.GatherFailure)) = refl
each (Code (code.General general.Deprecated)) = refl

pub returns : goal.returns
returns c = each c.args.subject
