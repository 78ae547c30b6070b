use Rattle.deny_text.proofs.PathLemmas.{ancestors_of-cons}
use Rattle.deny_text.proofs.ancestors.ancestors_go_up.Goals as goal

pub returns : goal.returns
returns c = ancestors_of-cons
