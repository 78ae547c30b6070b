use Rattle.std.proofs.Common.{inl, subst, Ok, Err}
use Rattle.std.proofs.lemmas.Result.{err_from_is_err_and}
use Rattle.run_found.specs.Hearing.{tree_seen}
use Rattle.run_found.specs.Written.{sink_seen}
use Rattle.run_command.specs.Carried.{plain_options}
use Rattle.run_command.specs.Crates.{FindsCrates, HasCrates}
use Rattle.run_command.specs.Found.{choice_in}
use Rattle.run_command.specs.Given.{command_arguments_of}
use Rattle.run_command.proofs.CarriedLemmas.{plain_carried, plain_use}
use Rattle.run_command.proofs.SettledLemmas.{cut_stops}
use Rattle.run_record.proofs.VerifyLemmas.{file_counts, verified_by}
use Rattle.run_record.proofs.verifying.verified_crates.Goals as goal

pub crates_found-requires-clause-carried : goal.crates_found-requires-clause-carried
crates_found-requires-clause-carried g c = plain_carried c.args.log_ctx c.args.context.now c.requires

pub returns-in_err-found-clause-verifies : goal.returns-in_err-found-clause-verifies
returns-in_err-found-clause-verifies g c =
    let lists = g.C.Catalog.lists c.args.catalog.now in
    let match_of = g.I.Identifier.match_of c.args.identifier.now in
    let log = c.args.log_ctx in
    let context = c.args.context.now in
    let tree = tree_seen (g.T.Tree.content c.args.tree.now) (g.T.Tree.content c.crates_found.new.tree) (g.T.Tree.fault_count c.args.tree.now) (g.T.Tree.fault_count c.crates_found.new.tree)
    (g.T.Tree.trace c.args.tree.now) (g.T.Tree.trace c.crates_found.new.tree) in
    let err = sink_seen (g.S.Sink.written c.args.err.now) (g.S.Sink.written c.crates_found.new.err) (g.S.Sink.fault_count c.args.err.now) (g.S.Sink.fault_count c.crates_found.new.err) in
    let p = err_from_is_err_and c.from_residual.result c.from_residual.ensures.1 in
    rw (p.1, p.2)
    (inl (subst (λ options. FindsCrates (command_arguments_of lists match_of log context options) tree err c.crates_found.new.files (Err c.in_err-found.field-0.0))
    (plain_use log context _ c.no_levels-levels.ensures c.requires) (c.in_err-found.ensures.found match_of)))

pub returns-in_err-summary-clause-verifies : goal.returns-in_err-summary-clause-verifies
returns-in_err-summary-clause-verifies g c =
    let lists = g.C.Catalog.lists c.args.catalog.now in
    let match_of = g.I.Identifier.match_of c.args.identifier.now in
    let log = c.args.log_ctx in
    let context = c.args.context.now in
    let given = command_arguments_of lists match_of log context (plain_options log context) in
    let found = c.in_ok-found.found in
    let first = g.T.Tree.content c.args.tree.now in
    let middle = g.T.Tree.content c.crates_found.new.tree in
    let tells = g.T.Tree.content c.licenses_found.new.tree in
    let begun = g.T.Tree.fault_count c.args.tree.now in
    let mid = g.T.Tree.fault_count c.crates_found.new.tree in
    let after = g.T.Tree.fault_count c.licenses_found.new.tree in
    let old = g.T.Tree.trace c.args.tree.now in
    let between = g.T.Tree.trace c.crates_found.new.tree in
    let more = g.T.Tree.trace c.licenses_found.new.tree in
    let err = sink_seen (g.S.Sink.written c.args.err.now) (g.S.Sink.written c.crates_found.new.err) (g.S.Sink.fault_count c.args.err.now) (g.S.Sink.fault_count c.crates_found.new.err) in
    let has : HasCrates given (tree_seen first middle begun mid old between) err c.crates_found.new.files found =
    subst (λ options. FindsCrates (command_arguments_of lists match_of log context options) (tree_seen first middle begun mid old between) err c.crates_found.new.files (Ok found))
    (plain_use log context _ c.no_levels-levels.ensures c.requires) (c.in_ok-found.ensures.found match_of) in
    let p = err_from_is_err_and c.from_residual-in_err-summary.result c.from_residual-in_err-summary.ensures.1 in
    rw (p.1, p.2)
    (inl (cut_stops given first middle tells begun mid after old between more err c.crates_found.new.files found has
    (c.in_err-summary.ensures.cut has.graph (choice_in given has.policy) has.chosen)))

pub returns-clause-verifies : goal.returns-clause-verifies
returns-clause-verifies g c =
    let lists = g.C.Catalog.lists c.args.catalog.now in
    let match_of = g.I.Identifier.match_of c.args.identifier.now in
    let log = c.args.log_ctx in
    let context = c.args.context.now in
    let given = command_arguments_of lists match_of log context (plain_options log context) in
    let found = c.in_ok-found.found in
    let first = g.T.Tree.content c.args.tree.now in
    let middle = g.T.Tree.content c.crates_found.new.tree in
    let later = g.T.Tree.content c.licenses_found.new.tree in
    let tells = g.T.Tree.content c.verify_file.new.tree in
    let begun = g.T.Tree.fault_count c.args.tree.now in
    let mid = g.T.Tree.fault_count c.crates_found.new.tree in
    let settled = g.T.Tree.fault_count c.licenses_found.new.tree in
    let after = g.T.Tree.fault_count c.verify_file.new.tree in
    let old = g.T.Tree.trace c.args.tree.now in
    let between = g.T.Tree.trace c.crates_found.new.tree in
    let more = g.T.Tree.trace c.licenses_found.new.tree in
    let new = g.T.Tree.trace c.verify_file.new.tree in
    let err = sink_seen (g.S.Sink.written c.args.err.now) (g.S.Sink.written c.crates_found.new.err) (g.S.Sink.fault_count c.args.err.now) (g.S.Sink.fault_count c.crates_found.new.err) in
    let has : HasCrates given (tree_seen first middle begun mid old between) err c.crates_found.new.files found =
    subst (λ options. FindsCrates (command_arguments_of lists match_of log context options) (tree_seen first middle begun mid old between) err c.crates_found.new.files (Ok found))
    (plain_use log context _ c.no_levels-levels.ensures c.requires) (c.in_ok-found.ensures.found match_of) in
    verified_by given c.requires c.args.path.now first middle later tells begun mid settled after old between more new err c.crates_found.new.files found has c.licenses_found.new.files
    c.in_ok-summary.summary.nfos (c.in_ok-summary.ensures.gathered has.graph (choice_in given has.policy) has.chosen) c.verify_file.result c.verify_file.ensures

pub returns-clause-counts : goal.returns-clause-counts
returns-clause-counts g c = file_counts _ _ _ _ c.verify_file.result c.verify_file.ensures _ _ _

pub returns-in_err-summary-clause-counts : goal.returns-in_err-summary-clause-counts
returns-in_err-summary-clause-counts g c =
    let p = err_from_is_err_and c.from_residual-in_err-summary.result c.from_residual-in_err-summary.ensures.1 in
    rw (p.1, p.2) tt
