use Rattle.std.proofs.Common.{◌≡◌, take}
use Rattle.run_list_text.specs.Listed.{printed_terms}
use Rattle.run_list_text.proofs.listed.printed_terms.Given as goal

abbrev pub invariant-terms : goal.invariant-terms
invariant-terms l = l.texts ≡ printed_terms (take l.term-index l.terms)
