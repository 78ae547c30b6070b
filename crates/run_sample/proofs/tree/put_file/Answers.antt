use Rattle.tree_core.specs.Content.{resolve}
use Rattle.run_sample.proofs.ContentLemmas.{puts_file}
use Rattle.run_sample.proofs.ShallowLemmas.{still_shallow}
use Rattle.run_sample.proofs.tree.put_file.Goals as goal

pub returns-in-Ok-clause-content : goal.returns-in-Ok-clause-content
returns-in-Ok-clause-content c =
    puts_file c.args.tree.now.content c.put.new.self.content (resolve c.args.path.now) c.args.bytes.now c.in-Ok.ensures.ok

pub returns-in-Ok-clause-shallow : goal.returns-in-Ok-clause-shallow
returns-in-Ok-clause-shallow c =
    still_shallow c.args.tree.now.content c.put.new.self.content (resolve c.args.path.now) c.args.bytes.now c.requires.shallow c.requires.leaf c.in-Ok.ensures.ok
