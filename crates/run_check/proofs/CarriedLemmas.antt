-- A request for a check of which all is carried.
use Rattle.std.proofs.Common.{◌≡◌, [], None}
use Rattle.diag_print.specs.declared.context.LogContext.{LogContext}
use Rattle.run_context.specs.Asked.{unsupported_part}
use Rattle.run_request.specs.declared.check.CheckArgs.{CheckArgs}
use Rattle.run_request.specs.declared.context.KrateContext.{KrateContext}
use Rattle.run_found.proofs.CarriedLemmas.{all_none}
use Rattle.run_command.proofs.CarriedLemmas.{carried_of_parts}
use Rattle.run_check.specs.Carried.{parts_of, unsupported_of}

pub check_carried : (log : LogContext) (args : CheckArgs) (context : KrateContext) → unsupported_of log args context ≡ None → unsupported_part context [] ≡ None
check_carried log args context carried =
    let none = all_none (parts_of log args context) carried in carried_of_parts context none.0 none.1.1.1.1.1.1.0
