-- the first texts were put into the set
use Rattle.std.proofs.Common.{◌≡◌, take, nat_cmp}
use Rattle.std.specs.List.{fold}
use Rattle.std.specs.Cmp.Lexicographic.{slice_cmp}
use Rattle.std.specs.BTreeSet.{insert_key}
use Rattle.run_list_text.proofs.sets.copies_in.Given as goal

abbrev pub invariant-texts : goal.invariant-texts
invariant-texts l = l.set.keys ≡ fold (insert_key (slice_cmp nat_cmp)) l.initial.set.keys (take l.text-index l.texts)
