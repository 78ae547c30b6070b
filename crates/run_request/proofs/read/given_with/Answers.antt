use Rattle.std.proofs.Common.{map}
use Rattle.run_request.proofs.ReadLemmas.{told_clause, asked_clause}
use Rattle.run_request.proofs.read.given_with.Goals as goal

pub returns-in-Ok : goal.returns-in-Ok
returns-in-Ok c =
    asked_clause (map (λ word. word.now) c.args.words.now) c.args.cwd.now c.in-Ok.matches c.asked_by.result c.in-Ok.ensures.ok c.asked_by.ensures

pub returns-in-Err : goal.returns-in-Err
returns-in-Err c =
    told_clause (map (λ word. word.now) c.args.words.now) c.args.cwd.now c.in-Err.error c.told_by.result c.in-Err.ensures.err c.told_by.ensures
