-- Ids that a record takes.
use Rattle.std.proofs.Common.{◌≡◌, refl, ap, ℕ, true, nat_cmp, is_lt, List, [], ◌∷◌}
use Rattle.std.specs.List.Sorted.{IsStrictlySortedBy}
use Rattle.std.specs.Cmp.Lexicographic.{slice_cmp}
use Rattle.check_record.specs.Items.{all_rise, is_before, rise_from}

rise_behind : (x : List ℕ) (xs : List (List ℕ)) → IsStrictlySortedBy (slice_cmp nat_cmp) (x ∷ xs) → rise_from is_before x xs ≡ true
unfolding IsStrictlySortedBy
rise_behind x [] sorted = refl
rise_behind x (y ∷ xs) sorted = rw (ap is_lt sorted.0.0) (rise_behind y xs sorted.1)

-- ids that rise strictly
pub rising : (ids : List (List ℕ)) → IsStrictlySortedBy (slice_cmp nat_cmp) ids → all_rise is_before ids ≡ true
rising [] sorted = refl
rising (id ∷ ids) sorted = rise_behind id ids sorted
