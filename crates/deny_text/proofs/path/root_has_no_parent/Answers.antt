use Rattle.deny_text.proofs.ParentLemmas.{root_has_no_parent}
use Rattle.deny_text.proofs.path.root_has_no_parent.Goals as goal

pub returns : goal.returns
returns c = root_has_no_parent
