-- The calls of the search, and behind them those of the text.
use Rattle.std.proofs.Common.{subst, ℕ, List, Option}
use Rattle.tree_core.proofs.MadeLemmas.{some_joined}
use Rattle.run_context.specs.Paths.{IsConfigPath}
use Rattle.refusal_help.proofs.AgainLemmas.{asks_none, asks_until}
use Rattle.refusal_help.proofs.again.policy_again.Goals as goal

pub returns-in-Ok-Some-clause-made : goal.returns-in-Ok-Some-clause-made
returns-in-Ok-Some-clause-made g c = some_joined c.config_path_since.ensures.made c.text_where-text.ensures.made

-- ---- nothing was found, or the search was given up

pub returns-in-Ok-None-clause-asked : goal.returns-in-Ok-None-clause-asked
returns-in-Ok-None-clause-asked g c =
    asks_none c.args.context.now c.args.with_text (g.T.Tree.trace c.args.tree.now) (g.T.Tree.trace c.config_path_since.new.tree)
    (subst (λ (found : Option (List ℕ)). IsConfigPath c.args.context.now (g.T.Tree.trace c.args.tree.now) (g.T.Tree.trace c.config_path_since.new.tree) found) c.in-Ok-None.field-0-is c.in-Ok-None.ensures.looked)

pub returns-in-Err-clause-asked : goal.returns-in-Err-clause-asked
returns-in-Err-clause-asked g c =
    asks_until c.args.context.now c.args.with_text (g.T.Tree.trace c.args.tree.now) (g.T.Tree.trace c.config_path_since.new.tree) c.in-Err.field-0 c.in-Err.ensures.given_up
