use Rattle.diag_core.proofs.CodeLemmas.{code_named-License, code_named-General, code_named-None}
use Rattle.diag_core.proofs.code.DiagnosticCode.from_str.Goals as goal

pub returns-in-Ok : goal.returns-in-Ok
returns-in-Ok c = code_named-License c.args.text.now c.in-Ok.code c.in-Ok.ensures

pub returns-in-Ok-from_str : goal.returns-in-Ok-from_str
returns-in-Ok-from_str c = code_named-General c.args.text.now c.in-Ok-from_str.code c.in-Err.ensures c.in-Ok-from_str.ensures

pub returns-in-Err-from_str : goal.returns-in-Err-from_str
returns-in-Err-from_str c = code_named-None c.args.text.now c.in-Err.ensures c.in-Err-from_str.ensures
