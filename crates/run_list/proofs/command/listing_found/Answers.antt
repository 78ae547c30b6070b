-- Each end of `listing_found`: the crates, their licences, and what is listed of them.
use Rattle.std.proofs.Common.{rules, subst}
use Rattle.std.proofs.lemmas.Int.{to_z-of_z}
use Rattle.std.proofs.lemmas.Result.{err_from_is_err_and}
use mir.Syntax.{w64}
use mir.Val.{SFits}
use Rattle.run_found.specs.Hearing.{tree_seen}
use Rattle.run_found.specs.Written.{sink_seen}
use Rattle.run_command.specs.Crates.{HasCrates}
use Rattle.run_command.specs.Found.{choice_in}
use Rattle.run_command.specs.Given.{command_arguments_of}
use Rattle.run_command.specs.Stops.{Stops}
use Rattle.run_command.proofs.CarriedLemmas.{plain_carried}
use Rattle.run_command.proofs.SettledLemmas.{cut_stops}
use Rattle.run_list.specs.Given.{list_arguments_of}
use Rattle.run_list.proofs.ListingLemmas.{listing_answers, memory_counts, options_are}
use Rattle.run_list.proofs.command.listing_found.Goals as goal

pub crates_found-requires-clause-carried : goal.crates_found-requires-clause-carried
crates_found-requires-clause-carried g c = plain_carried c.args.log_ctx c.args.context.now c.requires

pub returns-in_err-found-clause-found : goal.returns-in_err-found-clause-found
returns-in_err-found-clause-found g c =
    let lists = g.C.Catalog.lists c.args.catalog.now in
    let match_of = g.I.Identifier.match_of c.args.identifier.now in
    let tree = tree_seen (g.T.Tree.content c.args.tree.now) (g.T.Tree.content c.crates_found.new.tree) (g.T.Tree.fault_count c.args.tree.now) (g.T.Tree.fault_count c.crates_found.new.tree)
    (g.T.Tree.trace c.args.tree.now) (g.T.Tree.trace c.crates_found.new.tree) in
    let err = sink_seen (g.S.Sink.written c.args.err.now) (g.S.Sink.written c.crates_found.new.err) (g.S.Sink.fault_count c.args.err.now) (g.S.Sink.fault_count c.crates_found.new.err) in
    let error = c.in_err-found.field-0.0 in
    let fits : SFits w64 c.args.args.threshold = search rules in
    let same = options_are c.args.log_ctx c.args.args c.args.context.now c.no_levels-levels.result _ c.requires c.no_levels-levels.ensures (to_z-of_z w64 c.args.args.threshold fits) in
    let p = err_from_is_err_and c.from_residual.result c.from_residual.ensures.1 in
    rw (p.1, p.2)
    (subst (λ options. Stops (command_arguments_of lists match_of c.args.log_ctx c.args.context.now options) tree err error) same (c.in_err-found.ensures.found match_of))

pub returns-in_err-summary-clause-found : goal.returns-in_err-summary-clause-found
returns-in_err-summary-clause-found g c =
    let lists = g.C.Catalog.lists c.args.catalog.now in
    let match_of = g.I.Identifier.match_of c.args.identifier.now in
    let given = (list_arguments_of lists match_of c.args.log_ctx c.args.args c.args.context.now).command in
    let begun = g.T.Tree.fault_count c.args.tree.now in
    let mid = g.T.Tree.fault_count c.crates_found.new.tree in
    let told = g.T.Tree.content c.args.tree.now in
    let middle = g.T.Tree.content c.crates_found.new.tree in
    let old = g.T.Tree.trace c.args.tree.now in
    let between = g.T.Tree.trace c.crates_found.new.tree in
    let err = sink_seen (g.S.Sink.written c.args.err.now) (g.S.Sink.written c.crates_found.new.err) (g.S.Sink.fault_count c.args.err.now) (g.S.Sink.fault_count c.crates_found.new.err) in
    let found = c.in_ok-found.found in
    let fits : SFits w64 c.args.args.threshold = search rules in
    let same = options_are c.args.log_ctx c.args.args c.args.context.now c.no_levels-levels.result _ c.requires c.no_levels-levels.ensures (to_z-of_z w64 c.args.args.threshold fits) in
    let has = subst (λ options. HasCrates (command_arguments_of lists match_of c.args.log_ctx c.args.context.now options) (tree_seen told middle begun mid old between) err c.crates_found.new.files found)
    same (c.in_ok-found.ensures.found match_of) in
    let p = err_from_is_err_and c.from_residual-in_err-summary.result c.from_residual-in_err-summary.ensures.1 in
    rw (p.1, p.2)
    (cut_stops given told middle (g.T.Tree.content c.licenses_found.new.tree) begun mid (g.T.Tree.fault_count c.licenses_found.new.tree) old between (g.T.Tree.trace c.licenses_found.new.tree)
    err c.crates_found.new.files found has (c.in_err-summary.ensures.cut has.graph (choice_in given has.policy) has.chosen))

pub returns-clause-found : goal.returns-clause-found
returns-clause-found g c =
    let lists = g.C.Catalog.lists c.args.catalog.now in
    let match_of = g.I.Identifier.match_of c.args.identifier.now in
    let given = list_arguments_of lists match_of c.args.log_ctx c.args.args c.args.context.now in
    let begun = g.T.Tree.fault_count c.args.tree.now in
    let mid = g.T.Tree.fault_count c.crates_found.new.tree in
    let told = g.T.Tree.content c.args.tree.now in
    let middle = g.T.Tree.content c.crates_found.new.tree in
    let old = g.T.Tree.trace c.args.tree.now in
    let between = g.T.Tree.trace c.crates_found.new.tree in
    let err = sink_seen (g.S.Sink.written c.args.err.now) (g.S.Sink.written c.crates_found.new.err) (g.S.Sink.fault_count c.args.err.now) (g.S.Sink.fault_count c.crates_found.new.err) in
    let found = c.in_ok-found.found in
    let files = c.crates_found.new.files in
    let fits : SFits w64 c.args.args.threshold = search rules in
    let same = options_are c.args.log_ctx c.args.args c.args.context.now c.no_levels-levels.result _ c.requires c.no_levels-levels.ensures (to_z-of_z w64 c.args.args.threshold fits) in
    let has = subst (λ options. HasCrates (command_arguments_of lists match_of c.args.log_ctx c.args.context.now options) (tree_seen told middle begun mid old between) err files found)
    same (c.in_ok-found.ensures.found match_of) in
    listing_answers given c.requires told middle (g.T.Tree.content c.licenses_found.new.tree) begun mid (g.T.Tree.fault_count c.licenses_found.new.tree) old between (g.T.Tree.trace c.licenses_found.new.tree)
    err files found has c.licenses_found.new.files c.in_ok-summary.summary.nfos (c.in_ok-summary.ensures.gathered has.graph (choice_in given.command has.policy) has.chosen)
    c.listing_of.result c.listing_of.ensures.crates c.listing_of.ensures.reads c.listing_of.ensures.memory

pub returns-clause-counts : goal.returns-clause-counts
returns-clause-counts g c =
    let begun = g.T.Tree.fault_count c.args.tree.now in
    memory_counts begun begun (g.T.Tree.fault_count c.licenses_found.new.tree) c.listing_of.result c.listing_of.ensures.memory
