use Rattle.std.proofs.Common.{◌∙◌, sym, ap}
use Rattle.std.specs.Ordering.{nat_cmp}
use Rattle.std.specs.Cmp.Lexicographic.{slice_cmp, nat_list_cmp_total}
use Rattle.std.proofs.lemmas.Cmp.{tied_itself}
use Rattle.spdx_terms.specs.Terms.{req_text}
use Rattle.spdx_terms.proofs.laws.printed_alike_is_equal.Goals as goal

pub returns : goal.returns
returns c = λ licensee other same. ap (slice_cmp nat_cmp (req_text licensee)) (sym same) ∙ tied_itself nat_list_cmp_total (req_text licensee)
