use Rattle.check_why.proofs.LawLemmas.{term-satisfies-itself}
use Rattle.check_why.proofs.laws.term_satisfies_itself.Goals as goal

pub returns : goal.returns
returns c = term-satisfies-itself
