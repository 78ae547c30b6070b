use Rattle.std.proofs.Common.{◌∙◌}
use Rattle.toml_value.proofs.LevelLemmas.{place_found}
use Rattle.toml_value.proofs.tree.tables.TableTree.find.Goals as goal

pub returns : goal.returns
returns c = let tree = c.args.self.now in c.find.ensures ∙ place_found tree.root tree.whole c.args.key.now
