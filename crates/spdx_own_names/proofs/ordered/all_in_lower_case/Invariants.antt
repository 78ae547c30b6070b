-- the texts so far, in lower case
use Rattle.std.proofs.Common.{◌≡◌, map, take}
use Rattle.spdx_own_names.specs.IndexView.{meanings_listed}
use Rattle.spdx_own_names.specs.Ordered.{lower_pair}
use Rattle.spdx_own_names.proofs.ordered.all_in_lower_case.Given as goal

abbrev pub invariant-listed : goal.invariant-listed
invariant-listed l = meanings_listed l.all.items ≡ map lower_pair (meanings_listed (take l.meaning-index l.listed))
