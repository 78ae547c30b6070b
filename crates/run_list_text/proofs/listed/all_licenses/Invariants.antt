-- the licences of the first crates are in the set
use Rattle.std.proofs.Common.{◌≡◌, flat_map, take}
use Rattle.run_list_text.specs.Listed.{distinct_texts}
use Rattle.run_list_text.proofs.listed.all_licenses.Given as goal

abbrev pub invariant-crates : goal.invariant-crates
invariant-crates l = l.set.keys ≡ distinct_texts (flat_map (λ listed. listed.licenses) (take l.listed-index l.crates))
