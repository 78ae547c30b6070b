use Rattle.std.proofs.Common.{◌≡◌, ◌&&◌, bytes_eq, drop}
use Rattle.std.specs.Cmp.Lexicographic.{pointwise}
use Rattle.check_record.specs.Items.{ids_of}
use Rattle.check_verify.specs.Verified.{ids_gathered}
use Rattle.check_verify.proofs.verifying.same_ids.Given as goal

abbrev pub invariant-crates : goal.invariant-crates
invariant-crates l = (l.same && pointwise bytes_eq (ids_gathered (drop l.place l.licenses)) (ids_of (drop l.place l.items))) ≡ pointwise bytes_eq (ids_gathered l.licenses) (ids_of l.items)
