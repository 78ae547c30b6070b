use Rattle.std.proofs.Common.{map}
use Rattle.clap.specs.Words.{app_of}
use Rattle.run_request.proofs.ReadLemmas.{ok_matches, err_kinds}
use Rattle.run_request.proofs.read.matches_of.Goals as goal

pub returns-clause-ok : goal.returns-clause-ok
returns-clause-ok c =
    ok_matches _ _ (app_of c.args.command.now) (map (λ word. word.now) c.args.words.now) _ c.requires c.try_get_matches_from_mut.ensures.ok c.try_get_matches_from_mut.ensures.kinds

pub returns-clause-err : goal.returns-clause-err
returns-clause-err c =
    err_kinds (app_of c.args.command.now) (map (λ word. word.now) c.args.words.now) _ c.requires c.try_get_matches_from_mut.ensures.kinds
