-- A check of the sample answers with its report, and nothing is written by it.
use Rattle.std.proofs.Common.{IfOk, None, Some, ◌<◌, ◌^◌, arith, rules, subst}
use Rattle.std.proofs.lemmas.Result.{err_from_is_err_and}
use Rattle.run_check.specs.Given.{check_arguments_of}
use Rattle.run_check.specs.Headline.{CheckHeadline}
use Rattle.run_check.specs.Script.{WritesCheck}
use Rattle.run_found.specs.Hearing.{tree_seen}
use Rattle.run_sample.specs.Files.{sample_content}
use Rattle.run_sample.specs.Sample.{IsSampleReport}
use Rattle.run_sample.proofs.SampleLemmas.{carried_by, complete_by, given_by, never_absent, nowhere, sample_seen, sampled_by, unwritten_of}
use Rattle.run_sample.proofs.WholeLemmas.{built_in_by}
use Rattle.run_sample.proofs.command.report_on.Goals as goal

pub returns-in_err-args-clause-complete : goal.returns-in_err-args-clause-complete
returns-in_err-args-clause-complete g c =
    let p = err_from_is_err_and c.from_residual-in_err-args.result c.from_residual-in_err-args.ensures.1 in
    rw (p.1, p.2) (λ hearing asked heard asks. tt)

pub returns-clause-sampled : goal.returns-clause-sampled
returns-clause-sampled g c =
    let n = c.args.count in
    let lists = g.C.Catalog.lists c.args.catalog.now in
    let match_of = g.I.Identifier.match_of c.args.identifier.now in
    let own = check_arguments_of lists match_of c.sample_log.result c.in_ok-args.args c.in_ok-context.context in
    let state = c.new-tree.result in
    let tells = Some c.cmd.new.tree.content in
    let calls = c.cmd.new.tree.calls in
    let tree = tree_seen (Some state.content) tells 0 0 state.calls calls in
    let sample = sample_seen n state c.in_ok-tree.tree tells calls c.new-tree.ensures c.in_ok-tree.ensures.content c.in_ok-tree.ensures.no_calls in
    subst (λ given. IfOk c.cmd.result (IsSampleReport n given))
    (given_by lists match_of c.sample_log.result c.in_ok-args.args c.in_ok-context.context c.sample_log.ensures c.in_ok-args.ensures c.in_ok-context.ensures)
    (sampled_by n own tree nowhere sample c.cmd.result (c.cmd.ensures.headline (sample_content n) sample.told) c.cmd.ensures.own_reads c.cmd.ensures.rises c.cmd.ensures.reported_policy
    c.cmd.ensures.reported_findings c.cmd.ensures.hits c.cmd.ensures.certificates)

pub returns-clause-complete : goal.returns-clause-complete
returns-clause-complete g c =
    let n = c.args.count in
    let lists = g.C.Catalog.lists c.args.catalog.now in
    let match_of = g.I.Identifier.match_of c.args.identifier.now in
    let state = c.new-tree.result in
    let tells = Some c.cmd.new.tree.content in
    let calls = c.cmd.new.tree.calls in
    let tree = tree_seen (Some state.content) tells 0 0 state.calls calls in
    let sample = sample_seen n state c.in_ok-tree.tree tells calls c.new-tree.ensures c.in_ok-tree.ensures.content c.in_ok-tree.ensures.no_calls in
    complete_by n lists match_of tree None None c.cmd.result sample
    (subst (λ given. CheckHeadline given (sample_content n) tree nowhere c.cmd.result)
    (given_by lists match_of c.sample_log.result c.in_ok-args.args c.in_ok-context.context c.sample_log.ensures c.in_ok-args.ensures c.in_ok-context.ensures)
    (c.cmd.ensures.headline (sample_content n) sample.told))

pub returns-in_err-args-clause-built_in : goal.returns-in_err-args-clause-built_in
returns-in_err-args-clause-built_in g c =
    let p = err_from_is_err_and c.from_residual-in_err-args.result c.from_residual-in_err-args.ensures.1 in
    rw (p.1, p.2) (λ some built_in. tt)

pub returns-clause-built_in : goal.returns-clause-built_in
returns-clause-built_in g c =
    let n = c.args.count in
    let lists = g.C.Catalog.lists c.args.catalog.now in
    let match_of = g.I.Identifier.match_of c.args.identifier.now in
    let state = c.new-tree.result in
    let tells = Some c.cmd.new.tree.content in
    let calls = c.cmd.new.tree.calls in
    let tree = tree_seen (Some state.content) tells 0 0 state.calls calls in
    let sample = sample_seen n state c.in_ok-tree.tree tells calls c.new-tree.ensures c.in_ok-tree.ensures.content c.in_ok-tree.ensures.no_calls in
    let fits : n < 2 ^ 32 = search rules in
    built_in_by n (omega (arith, fits)) lists match_of tree nowhere c.cmd.result sample
    (subst (λ given. WritesCheck given tree nowhere c.cmd.result)
    (given_by lists match_of c.sample_log.result c.in_ok-args.args c.in_ok-context.context c.sample_log.ensures c.in_ok-args.ensures c.in_ok-context.ensures)
    (c.cmd.ensures.written (carried_by lists match_of c.sample_log.result c.in_ok-args.args c.in_ok-context.context c.sample_log.ensures c.in_ok-args.ensures c.in_ok-context.ensures)))

-- ---- what is refused

pub returns-clause-unwritten : goal.returns-clause-unwritten
returns-clause-unwritten g c =
    let own = check_arguments_of (g.C.Catalog.lists c.args.catalog.now) (g.I.Identifier.match_of c.args.identifier.now) c.sample_log.result c.in_ok-args.args c.in_ok-context.context in
    let state = c.new-tree.result in
    unwritten_of own (tree_seen (Some state.content) (Some c.cmd.new.tree.content) 0 0 state.calls c.cmd.new.tree.calls) None None c.cmd.result
    (c.cmd.ensures.written
    (carried_by (g.C.Catalog.lists c.args.catalog.now) (g.I.Identifier.match_of c.args.identifier.now) c.sample_log.result c.in_ok-args.args c.in_ok-context.context
    c.sample_log.ensures c.in_ok-args.ensures c.in_ok-context.ensures))

pub returns-clause-policy : goal.returns-clause-policy
returns-clause-policy g c is =
    let own = check_arguments_of (g.C.Catalog.lists c.args.catalog.now) (g.I.Identifier.match_of c.args.identifier.now) c.sample_log.result c.in_ok-args.args c.in_ok-context.context in
    let state = c.new-tree.result in
    let tree = tree_seen (Some state.content) (Some c.cmd.new.tree.content) 0 0 state.calls c.cmd.new.tree.calls in
    never_absent own tree nowhere
    (subst (λ answer. WritesCheck own tree nowhere answer) is
    (c.cmd.ensures.written
    (carried_by (g.C.Catalog.lists c.args.catalog.now) (g.I.Identifier.match_of c.args.identifier.now) c.sample_log.result c.in_ok-args.args c.in_ok-context.context
    c.sample_log.ensures c.in_ok-args.ensures c.in_ok-context.ensures)))
