-- Each end of `judged_since`: the crates, and the report on them.
use Rattle.std.proofs.Common.{ap₂, refl, sym, subst, None, Ok}
use Rattle.std.proofs.lemmas.Result.{err_from_is_err_and}
use Rattle.graph_core.specs.selection.Listed.{ReachedCrates}
use Rattle.run_found.specs.Hearing.{tree_seen}
use Rattle.run_found.specs.Written.{sink_seen}
use Rattle.run_command.specs.Found.{choice_in}
use Rattle.run_command.specs.Given.{command_arguments_of}
use Rattle.run_command.proofs.SettledLemmas.{cut_stops}
use Rattle.run_check.specs.declared.judged.JudgedCrates.{JudgedCrates}
use Rattle.run_check.specs.declared.report.Report.{Report}
use Rattle.run_check.specs.Given.{report_options}
use Rattle.run_check.specs.Judged.{Judges}
use Rattle.run_check.proofs.ReportLemmas.{judged_ends}
use Rattle.run_check.proofs.command.judged_since.Goals as goal

-- the crates were refused

pub returns-in_err-found-clause-judges : goal.returns-in_err-found-clause-judges
returns-in_err-found-clause-judges g c =
    let p = err_from_is_err_and c.from_residual.result c.from_residual.ensures.1 in
    rw (p.1, p.2) (c.in_err-found.ensures.found (g.I.Identifier.match_of c.args.identifier.now))

-- memory was wanting behind them

pub returns-in_err-judged-clause-judges : goal.returns-in_err-judged-clause-judges
returns-in_err-judged-clause-judges g c =
    let match_of = g.I.Identifier.match_of c.args.identifier.now in
    let given = command_arguments_of (g.C.Catalog.lists c.args.catalog.now) match_of c.args.log_ctx c.args.context.now (report_options c.args.levels.now None) in
    let err = sink_seen (g.S.Sink.written c.args.err.now) (g.S.Sink.written c.crates_found.new.err) (g.S.Sink.fault_count c.args.err.now) (g.S.Sink.fault_count c.crates_found.new.err) in
    let found = c.in_ok-found.found in
    let has = c.in_ok-found.ensures.found match_of in
    let p = err_from_is_err_and c.from_residual-in_err-judged.result c.from_residual-in_err-judged.ensures.1 in
    rw (p.1, p.2)
    (cut_stops given (g.T.Tree.content c.args.tree.now) (g.T.Tree.content c.crates_found.new.tree) (g.T.Tree.content c.judged_of.new.tree)
    (g.T.Tree.fault_count c.args.tree.now) (g.T.Tree.fault_count c.crates_found.new.tree) (g.T.Tree.fault_count c.judged_of.new.tree)
    (g.T.Tree.trace c.args.tree.now) (g.T.Tree.trace c.crates_found.new.tree) (g.T.Tree.trace c.judged_of.new.tree)
    err c.crates_found.new.files found has (c.in_err-judged.ensures.cut has.graph (choice_in given has.policy) has.chosen))

-- the report

pub returns-clause-judges : goal.returns-clause-judges
returns-clause-judges g c =
    let match_of = g.I.Identifier.match_of c.args.identifier.now in
    let levels = c.args.levels.now in
    let given = command_arguments_of (g.C.Catalog.lists c.args.catalog.now) match_of c.args.log_ctx c.args.context.now (report_options levels None) in
    let told = g.T.Tree.content c.args.tree.now in
    let middle = g.T.Tree.content c.crates_found.new.tree in
    let tells = g.T.Tree.content c.judged_of.new.tree in
    let begun = g.T.Tree.fault_count c.args.tree.now in
    let mid = g.T.Tree.fault_count c.crates_found.new.tree in
    let after = g.T.Tree.fault_count c.judged_of.new.tree in
    let old = g.T.Tree.trace c.args.tree.now in
    let between = g.T.Tree.trace c.crates_found.new.tree in
    let more = g.T.Tree.trace c.judged_of.new.tree in
    let err = sink_seen (g.S.Sink.written c.args.err.now) (g.S.Sink.written c.crates_found.new.err) (g.S.Sink.fault_count c.args.err.now) (g.S.Sink.fault_count c.crates_found.new.err) in
    let found = c.in_ok-found.found in
    let has = c.in_ok-found.ensures.found match_of in
    let judged : JudgedCrates = c.in_ok-judged.judged in
    let one = c.in_ok-judged.ensures.judged has.graph (choice_in given has.policy) levels has.chosen c.in_ok-found.ensures.overrides in
    subst (λ (it : JudgedCrates). Judges given (tree_seen told tells begun after old more) err (Ok it))
    (sym (ap₂ (λ (report : Report) (krates : ReachedCrates). let it : JudgedCrates = record { report = report; krates = krates } in it) one.report one.krates))
    (judged_ends given refl told middle tells begun mid after old between more err c.crates_found.new.files found has judged.report.files one.checked one.is)
