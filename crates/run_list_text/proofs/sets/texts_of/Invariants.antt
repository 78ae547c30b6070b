-- the texts so far, and those that are left, are all
use Rattle.std.proofs.Common.{◌≡◌, ◌++◌}
use Rattle.run_list_text.proofs.sets.texts_of.Given as goal

abbrev pub invariant-texts : goal.invariant-texts
invariant-texts l = l.texts ++ l.text-iterator ≡ l.fn.set.keys
