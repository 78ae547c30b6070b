use Rattle.std.proofs.Common.{◌≡◌, length}
use Rattle.std.specs.Cmp.Lexicographic.{slice_cmp}
use Rattle.deny_text.specs.Path.{part_cmp, path_order}
use Rattle.deny_text.proofs.path.compare_components.Given as goal

-- the parts that are left compare as the paths do
abbrev pub invariant-parts : goal.invariant-parts
invariant-parts l = slice_cmp part_cmp l.xs l.ys ≡ path_order l.x l.y

abbrev pub decreases-parts : goal.decreases-parts
decreases-parts l = length l.xs
