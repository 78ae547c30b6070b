-- Computed examples: each row holds as it is there.
use Rattle.std.proofs.Common.{◌≡◌, codes, true, false, Some, None, refl}
use Rattle.graph_core.specs.selection.Choice.{first_cut, fits, same_version}
use Rattle.graph_core.specs.selection.Roots.{is_published_nowhere}

-- ---- where a spec is cut

at_sign_first : first_cut (codes "a:1.0.0@x") ≡ Some (codes "a:1.0.0", codes "x")
at_sign_first = refl

colon_alone : first_cut (codes "a:1.0.0") ≡ Some (codes "a", codes "1.0.0")
colon_alone = refl

first_of_two : first_cut (codes "a@1@2") ≡ Some (codes "a", codes "1@2")
first_of_two = refl

name_alone : first_cut (codes "a") ≡ None
name_alone = refl

empty_name : first_cut (codes "@1.0.0") ≡ Some (codes "", codes "1.0.0")
empty_name = refl

-- ---- versions

with_equal_build : same_version (1, 0, 0, codes "", codes "x") (1, 0, 0, codes "", codes "x") ≡ true
with_equal_build = refl

with_other_build : same_version (1, 0, 0, codes "", codes "x") (1, 0, 0, codes "", codes "") ≡ false
with_other_build = refl

with_other_pre_release : same_version (1, 0, 0, codes "rc.1", codes "") (1, 0, 0, codes "", codes "") ≡ false
with_other_pre_release = refl

each_version : fits None (2, 0, 0, codes "", codes "") ≡ true
each_version = refl

-- ---- publish lists

no_list : is_published_nowhere None ≡ false
no_list = refl
