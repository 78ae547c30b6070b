use Rattle.std.proofs.Common.{refl}
use Rattle.std.proofs.lemmas.Result.{err_from_is_err_and}
use Rattle.graph_core.specs.selection.Choice.{choice_of}
use Rattle.run_command.proofs.MetadataLemmas.{crates_chosen, crates_refused, refusal_told}
use Rattle.run_command.proofs.crates.crates_of.Goals as goal

pub returns-in_err-krates-clause-found : goal.returns-in_err-krates-clause-found
returns-in_err-krates-clause-found c given tree err files has =
    let p = err_from_is_err_and c.from_residual.result c.from_residual.ensures.1 in
    rw (p.1, p.2) (crates_refused given tree err files c.args.found has c.in_err-krates.field-0.0 c.in_err-krates.ensures)

pub returns-in_err-krates-clause-told : goal.returns-in_err-krates-clause-told
returns-in_err-krates-clause-told c =
    let p = err_from_is_err_and c.from_residual.result c.from_residual.ensures.1 in
    rw (p.1, p.2) (refusal_told (choice_of c.args.found.asked.selection) c.args.found.asked.metadata c.in_err-krates.field-0.0 c.in_err-krates.ensures)

pub returns-clause-found : goal.returns-clause-found
returns-clause-found c given tree err files has = crates_chosen given tree err files c.args.found has c.in_ok-krates.krates c.in_ok-krates.ensures _ refl refl
