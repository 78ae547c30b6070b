use Rattle.toml_value.proofs.LevelLemmas.{put_back-view, put_back-whole}
use Rattle.toml_value.proofs.tree.put.with_node.Goals as goal

pub returns-clause-view : goal.returns-clause-view
returns-clause-view c = put_back-view c.args.table c.put_back.new.self c.args.place c.args.node c.put_back.ensures.keys c.put_back.ensures.nodes

pub returns-clause-whole : goal.returns-clause-whole
returns-clause-whole c =
    put_back-whole c.args.table c.put_back.new.self c.args.place c.args.node c.put_back.ensures.keys c.put_back.ensures.nodes c.requires.whole c.requires.node
