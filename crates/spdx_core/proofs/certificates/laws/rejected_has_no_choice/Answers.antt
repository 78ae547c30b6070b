use Rattle.spdx_core.proofs.certificates.LawLemmas.{no_choice, not_accepted}
use Rattle.spdx_core.proofs.certificates.laws.rejected_has_no_choice.Goals as goal

pub returns : goal.returns
returns c = λ has_hit tree. (λ none. not_accepted has_hit tree none, λ refused. no_choice has_hit tree refused)
