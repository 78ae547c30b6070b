use Rattle.check_verify.proofs.LawLemmas.{choices_held}
use Rattle.check_verify.proofs.laws.choices_are_held.Goals as goal

pub returns : goal.returns
returns c = choices_held
