use Rattle.diag_core.specs.LicenseCode.{license_codes, license_code_name, license_code_named}
use Rattle.diag_core.proofs.CodeLemmas.{find-found}
use Rattle.diag_core.proofs.licenses.Code.from_str.Goals as goal

pub returns : goal.returns
unfolding license_code_named
returns c = find-found license_code_name c.args.text.now _ c.rows.result.now c.code_named.ensures license_codes c.rows.ensures.names c.rows.ensures.codes
