use Rattle.std.proofs.Common.{◌≡◌, ◌++◌, take}
use Rattle.run_list_text.specs.Listing.{texts_behind}
use Rattle.run_list_text.proofs.plain.push_further.Given as goal

abbrev pub invariant-texts : goal.invariant-texts
invariant-texts l = l.out.items ≡ l.initial.out.items ++ texts_behind l.between (take l.text-index l.texts)
