use Rattle.diag_core.specs.GeneralCode.{general_codes, general_code_name, general_code_named}
use Rattle.diag_core.proofs.CodeLemmas.{find-found}
use Rattle.diag_core.proofs.general.Code.from_str.Goals as goal

pub returns : goal.returns
unfolding general_code_named
returns c = find-found general_code_name c.args.text.now _ c.rows.result.now c.code_named.ensures general_codes c.rows.ensures.names c.rows.ensures.codes
