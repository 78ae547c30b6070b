-- Each end of `found_why`: the crates, the check of them, and the texts.
use Rattle.std.proofs.Common.{inl, subst}
use Rattle.std.proofs.lemmas.Result.{err_from_is_err_and}
use Rattle.run_found.specs.Hearing.{tree_seen}
use Rattle.run_found.specs.Written.{sink_seen}
use Rattle.run_found.proofs.StageLemmas.{gather_cut}
use Rattle.run_command.specs.Carried.{no_levels}
use Rattle.run_command.specs.Found.{choice_in, scanner_of_given}
use Rattle.run_command.specs.Given.{command_arguments_of}
use Rattle.run_command.proofs.SettledLemmas.{cut_stops}
use Rattle.run_why.specs.Given.{why_options}
use Rattle.run_why.specs.Steps.{TellsTexts}
use Rattle.run_why.proofs.EndLemmas.{lies_of, why_ends}
use Rattle.run_why.proofs.whying.found_why.Goals as goal

pub returns-in_err-asked-clause-finds : goal.returns-in_err-asked-clause-finds
returns-in_err-asked-clause-finds g c =
    let p = err_from_is_err_and c.from_residual.result c.from_residual.ensures.1 in
    rw (p.1, p.2) (c.in_err-asked.ensures.asked (g.I.Identifier.match_of c.args.identifier.now))

pub returns-in_err-asked-clause-counts : goal.returns-in_err-asked-clause-counts
returns-in_err-asked-clause-counts g c =
    let p = err_from_is_err_and c.from_residual.result c.from_residual.ensures.1 in
    rw (p.1, p.2) c.in_err-asked.ensures.counts

pub returns-in_err-judged-clause-finds : goal.returns-in_err-judged-clause-finds
returns-in_err-judged-clause-finds g c =
    let match_of = g.I.Identifier.match_of c.args.identifier.now in
    let lists = g.C.Catalog.lists c.args.catalog.now in
    let given = command_arguments_of lists match_of c.args.log_ctx c.args.context.now (why_options c.args.log_ctx c.args.context.now c.args.words.now) in
    let told = g.T.Tree.content c.args.tree.now in
    let middle = g.T.Tree.content c.crates_asked.new.tree in
    let tells = g.T.Tree.content c.judged_of.new.tree in
    let begun = g.T.Tree.fault_count c.args.tree.now in
    let mid = g.T.Tree.fault_count c.crates_asked.new.tree in
    let after = g.T.Tree.fault_count c.judged_of.new.tree in
    let old = g.T.Tree.trace c.args.tree.now in
    let between = g.T.Tree.trace c.crates_asked.new.tree in
    let more = g.T.Tree.trace c.judged_of.new.tree in
    let err = sink_seen (g.S.Sink.written c.args.err.now) (g.S.Sink.written c.crates_asked.new.err) (g.S.Sink.fault_count c.args.err.now) (g.S.Sink.fault_count c.crates_asked.new.err) in
    let files = c.crates_asked.new.files in
    let crates = c.in_ok-asked.asked.crates in
    let asked = c.in_ok-asked.ensures.asked match_of in
    let has = asked.chosen.has in
    let p = err_from_is_err_and c.from_residual-in_err-judged.result c.from_residual-in_err-judged.ensures.1 in
    rw (p.1, p.2)
    (inl (cut_stops given told middle tells begun mid after old between more err files crates has (c.in_err-judged.ensures.cut has.graph (choice_in given has.policy) has.chosen)))

pub texts_told-requires-clause-lie : goal.texts_told-requires-clause-lie
texts_told-requires-clause-lie g c =
    let match_of = g.I.Identifier.match_of c.args.identifier.now in
    let lists = g.C.Catalog.lists c.args.catalog.now in
    let given = command_arguments_of lists match_of c.args.log_ctx c.args.context.now (why_options c.args.log_ctx c.args.context.now c.args.words.now) in
    let told = g.T.Tree.content c.args.tree.now in
    let middle = g.T.Tree.content c.crates_asked.new.tree in
    let tells = g.T.Tree.content c.judged_of.new.tree in
    let begun = g.T.Tree.fault_count c.args.tree.now in
    let mid = g.T.Tree.fault_count c.crates_asked.new.tree in
    let after = g.T.Tree.fault_count c.judged_of.new.tree in
    let old = g.T.Tree.trace c.args.tree.now in
    let between = g.T.Tree.trace c.crates_asked.new.tree in
    let more = g.T.Tree.trace c.judged_of.new.tree in
    let err = sink_seen (g.S.Sink.written c.args.err.now) (g.S.Sink.written c.crates_asked.new.err) (g.S.Sink.fault_count c.args.err.now) (g.S.Sink.fault_count c.crates_asked.new.err) in
    let files = c.crates_asked.new.files in
    let crates = c.in_ok-asked.asked.crates in
    let asked = c.in_ok-asked.ensures.asked match_of in
    let has = asked.chosen.has in
    let one = c.in_ok-judged.ensures.judged has.graph (choice_in given has.policy) no_levels has.chosen c.in_ok-asked.ensures.overrides in
    lies_of lists match_of c.args.log_ctx c.args.context.now c.args.words.now c.requires told middle tells begun mid after old between more err files asked.found crates asked.chosen c.in_ok-judged.judged one
    c.in_ok-judged.ensures.places

pub returns-in_err-texts-clause-finds : goal.returns-in_err-texts-clause-finds
returns-in_err-texts-clause-finds g c =
    let match_of = g.I.Identifier.match_of c.args.identifier.now in
    let lists = g.C.Catalog.lists c.args.catalog.now in
    let given = command_arguments_of lists match_of c.args.log_ctx c.args.context.now (why_options c.args.log_ctx c.args.context.now c.args.words.now) in
    let told = g.T.Tree.content c.args.tree.now in
    let middle = g.T.Tree.content c.crates_asked.new.tree in
    let tells = g.T.Tree.content c.judged_of.new.tree in
    let begun = g.T.Tree.fault_count c.args.tree.now in
    let mid = g.T.Tree.fault_count c.crates_asked.new.tree in
    let after = g.T.Tree.fault_count c.judged_of.new.tree in
    let old = g.T.Tree.trace c.args.tree.now in
    let between = g.T.Tree.trace c.crates_asked.new.tree in
    let more = g.T.Tree.trace c.judged_of.new.tree in
    let err = sink_seen (g.S.Sink.written c.args.err.now) (g.S.Sink.written c.crates_asked.new.err) (g.S.Sink.fault_count c.args.err.now) (g.S.Sink.fault_count c.crates_asked.new.err) in
    let files = c.crates_asked.new.files in
    let crates = c.in_ok-asked.asked.crates in
    let asked = c.in_ok-asked.ensures.asked match_of in
    let has = asked.chosen.has in
    let one = c.in_ok-judged.ensures.judged has.graph (choice_in given has.policy) no_levels has.chosen c.in_ok-asked.ensures.overrides in
    let cut = gather_cut (scanner_of_given given crates.policy) crates.policy (tree_seen middle tells mid after between more) files c.in_ok-judged.judged.report.files has.graph (choice_in given has.policy) one.is.licenses one.is.gathered in
    let p = err_from_is_err_and c.from_residual-in_err-texts.result c.from_residual-in_err-texts.ensures.1 in
    rw (p.1, p.2)
    (inl (cut_stops given told middle tells begun mid after old between more err files crates has cut))

pub returns-clause-finds : goal.returns-clause-finds
returns-clause-finds g c =
    let match_of = g.I.Identifier.match_of c.args.identifier.now in
    let lists = g.C.Catalog.lists c.args.catalog.now in
    let given = command_arguments_of lists match_of c.args.log_ctx c.args.context.now (why_options c.args.log_ctx c.args.context.now c.args.words.now) in
    let told = g.T.Tree.content c.args.tree.now in
    let middle = g.T.Tree.content c.crates_asked.new.tree in
    let tells = g.T.Tree.content c.judged_of.new.tree in
    let begun = g.T.Tree.fault_count c.args.tree.now in
    let mid = g.T.Tree.fault_count c.crates_asked.new.tree in
    let after = g.T.Tree.fault_count c.judged_of.new.tree in
    let old = g.T.Tree.trace c.args.tree.now in
    let between = g.T.Tree.trace c.crates_asked.new.tree in
    let more = g.T.Tree.trace c.judged_of.new.tree in
    let err = sink_seen (g.S.Sink.written c.args.err.now) (g.S.Sink.written c.crates_asked.new.err) (g.S.Sink.fault_count c.args.err.now) (g.S.Sink.fault_count c.crates_asked.new.err) in
    let files = c.crates_asked.new.files in
    let crates = c.in_ok-asked.asked.crates in
    let asked = c.in_ok-asked.ensures.asked match_of in
    let has = asked.chosen.has in
    let one = c.in_ok-judged.ensures.judged has.graph (choice_in given has.policy) no_levels has.chosen c.in_ok-asked.ensures.overrides in
    why_ends lists match_of c.args.log_ctx c.args.context.now c.args.words.now c.requires told middle tells begun mid after old between more err files asked.found crates asked.chosen c.in_ok-judged.judged one asked.same
    c.in_ok-asked.asked.told asked.told c.in_ok-texts.texts
    (subst (λ some. TellsTexts c.args.log_ctx.format some c.in_ok-asked.asked.told c.in_ok-judged.judged c.in_ok-texts.texts) c.has_any.ensures c.in_ok-texts.ensures)
    asked.own asked.known
