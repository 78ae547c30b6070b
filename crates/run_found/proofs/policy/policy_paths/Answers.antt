use Rattle.std.proofs.Common.{inl, inr, arith}
use Rattle.std.proofs.lemmas.Result.{err_from_is_err_and}
use Rattle.tree_core.proofs.MadeLemmas.{some-later, some_joined}
use Rattle.tree_core.specs.texts.Search.{search_cause}
use Rattle.run_found.proofs.StepLemmas.{counts_from}
use Rattle.run_found.proofs.policy.policy_paths.Goals as goal

pub returns-clause-paths : goal.returns-clause-paths
returns-clause-paths g c = record {
  between = g.T.Tree.trace c.config_path_since.new.tree;
  config = c.in_ok-policy.ensures.looked;
  exceptions = c.in_ok-exceptions.ensures.looked;
}

pub returns-in_err-policy-clause-given_up : goal.returns-in_err-policy-clause-given_up
returns-in_err-policy-clause-given_up g c =
    let p = err_from_is_err_and c.from_residual.result c.from_residual.ensures.1 in
    rw (p.1, p.2) (inl c.in_err-policy.ensures.given_up)

pub returns-in_err-exceptions-clause-given_up : goal.returns-in_err-exceptions-clause-given_up
returns-in_err-exceptions-clause-given_up g c =
    let p = err_from_is_err_and c.from_residual-in_err-exceptions.result c.from_residual-in_err-exceptions.ensures.1 in
    rw (p.1, p.2) (inr (record {
      between = g.T.Tree.trace c.config_path_since.new.tree;
      found = c.in_ok-policy.policy;
      config = c.in_ok-policy.ensures.looked;
      until = c.in_err-exceptions.ensures.given_up;
    }))

-- ---- the calls and the counts

pub exceptions_path_since-requires : goal.exceptions_path_since-requires
exceptions_path_since-requires g c =
    let start = c.requires in
    let then = some-later c.in_ok-policy.ensures.made in
    omega arith

pub returns-clause-made : goal.returns-clause-made
returns-clause-made g c = some_joined c.in_ok-policy.ensures.made c.in_ok-exceptions.ensures.made

pub returns-in_err-exceptions-clause-made : goal.returns-in_err-exceptions-clause-made
returns-in_err-exceptions-clause-made g c = some_joined c.in_ok-policy.ensures.made c.in_err-exceptions.ensures.made

pub returns-in_err-exceptions-clause-counts : goal.returns-in_err-exceptions-clause-counts
returns-in_err-exceptions-clause-counts g c =
    let p = err_from_is_err_and c.from_residual-in_err-exceptions.result c.from_residual-in_err-exceptions.ensures.1 in
    rw (p.1, p.2)
    (counts_from c.args.begun (g.T.Tree.fault_count c.args.tree.now) (g.T.Tree.fault_count c.config_path_since.new.tree) (g.T.Tree.fault_count c.exceptions_path_since.new.tree)
    (search_cause c.in_err-exceptions.field-0.0) (some-later c.in_ok-policy.ensures.made) c.in_err-exceptions.ensures.counts)
