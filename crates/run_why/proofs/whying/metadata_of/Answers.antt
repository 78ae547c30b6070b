-- The options are those of `why`, all of which is carried.
use Rattle.std.proofs.Common.{subst}
use Rattle.run_found.specs.Hearing.{tree_seen}
use Rattle.run_found.specs.Written.{sink_seen}
use Rattle.run_command.specs.Carried as command
use Rattle.run_command.specs.Crates.{FindsMetadata}
use Rattle.run_command.specs.Given.{command_arguments_of}
use Rattle.run_command.proofs.CarriedLemmas.{plain_carried}
use Rattle.run_why.proofs.WhyLemmas.{command_carried, options_are}
use Rattle.run_why.proofs.whying.metadata_of.Goals as goal

pub metadata_found-requires-clause-carried : goal.metadata_found-requires-clause-carried
metadata_found-requires-clause-carried g c =
    plain_carried c.args.log_ctx c.args.context.now (command_carried (command.unsupported_of c.args.log_ctx c.args.context.now) c.args.words.now c.requires.carried)

pub returns-clause-found : goal.returns-clause-found
returns-clause-found g c = λ match_of.
    let lists = g.C.Catalog.lists c.args.catalog.now in
    let tree = tree_seen (g.T.Tree.content c.args.tree.now) (g.T.Tree.content c.metadata_found.new.tree) (g.T.Tree.fault_count c.args.tree.now) (g.T.Tree.fault_count c.metadata_found.new.tree)
    (g.T.Tree.trace c.args.tree.now) (g.T.Tree.trace c.metadata_found.new.tree) in
    let err = sink_seen (g.S.Sink.written c.args.err.now) (g.S.Sink.written c.metadata_found.new.err) (g.S.Sink.fault_count c.args.err.now) (g.S.Sink.fault_count c.metadata_found.new.err) in
    let same = options_are c.args.log_ctx c.args.context.now c.args.words.now c.no_levels-levels.result c.requires.carried c.no_levels-levels.ensures in
    subst (λ options. FindsMetadata (command_arguments_of lists match_of c.args.log_ctx c.args.context.now options) tree err c.metadata_found.new.files c.metadata_found.result) same (c.metadata_found.ensures.found match_of)
