use Rattle.std.specs.List.Sorted.{IsStrictlySortedBy}
use Rattle.run_list_text.proofs.listed.licenses_of.Goals as goal

pub returns-in-Unlicensed-clause-ordered : goal.returns-in-Unlicensed-clause-ordered
unfolding IsStrictlySortedBy
returns-in-Unlicensed-clause-ordered c = rw c.new.ensures tt
