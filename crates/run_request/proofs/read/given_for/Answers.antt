use Rattle.std.proofs.Common.{map}
use Rattle.run_request.proofs.CommandLemmas.{command_clause, size_clause}
use Rattle.run_request.proofs.ReadLemmas.{request_clause, help_clause, mistake_clause}
use Rattle.run_request.proofs.read.given_for.Goals as goal

pub returns-clause-request : goal.returns-clause-request
returns-clause-request c = request_clause (map (λ word. word.now) c.args.words.now) c.args.cwd.now c.given_by.result c.given_by.ensures

pub returns-clause-command : goal.returns-clause-command
returns-clause-command c = command_clause (map (λ word. word.now) c.args.words.now) c.args.cwd.now c.given_by.result c.given_by.ensures

pub returns-clause-help : goal.returns-clause-help
returns-clause-help c = help_clause (map (λ word. word.now) c.args.words.now) c.args.cwd.now c.given_by.result c.given_by.ensures

pub returns-clause-mistake : goal.returns-clause-mistake
returns-clause-mistake c = mistake_clause (map (λ word. word.now) c.args.words.now) c.args.cwd.now c.given_by.result c.given_by.ensures

pub returns-clause-size : goal.returns-clause-size
returns-clause-size c =
    size_clause (map (λ word. word.now) c.args.words.now) c.args.cwd.now c.given_by.result
    (command_clause (map (λ word. word.now) c.args.words.now) c.args.cwd.now c.given_by.result c.given_by.ensures)
