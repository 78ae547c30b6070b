-- Paths as their texts, read by components.
use Rattle.std.specs.Prelude.{◌≡◌, ◌≢◌, ◌↔◌, ◌⊎◌, ℕ, zero, suc, ◌-◌, ◌<◌, ◌||◌, List, [], ◌∷◌, ◌++◌, length, take}
use Rattle.std.specs.Prelude.{slice_index, slice_get, Option, None, Some, if◌then◌else◌, codes}
use Rattle.std.specs.Option.{option_and_then}
use Rattle.std.specs.List.{flat_map}
use Rattle.std.specs.Ordering.{on, then_cmp, nat_cmp, eq_by_cmp}
use Rattle.std.specs.declared.cmp.Ordering.{Ordering}
use Rattle.std.specs.Str.{bytes_eq}
use Rattle.std.specs.Cmp.{IsTotalOrder, on_total, then_total, nat_cmp_total}
use Rattle.std.specs.Cmp.Lexicographic.{slice_cmp, lists_total, nat_list_cmp_total}
use Rattle.std.specs.Path.{path_components, path_join, path_parent, PathEndsWith, IsAbsolute}

-- The parts of a path, each as its text. A path is split at each slash. A leading slash is the root, empty parts
-- are dropped, and `.` is kept only as the first part of a relative path.
abbrev pub components_of : List ℕ → List (List ℕ)
components_of = path_components

-- The second path where it is absolute. Else the base, a slash where the base is not empty and lacks one at its
-- end, and the second path.
abbrev pub join_of : List ℕ → List ℕ → List ℕ
join_of = path_join

-- all but the last part; none where the path has no part or is the root alone
abbrev pub parent_of : List ℕ → Option (List ℕ)
parent_of = path_parent

-- where there is a parent, the parts of the path are the parent's and one more
abbrev pub ParentDropsLast : Type 0
ParentDropsLast =
    (path parent : List ℕ) → parent_of path ≡ Some parent
    → (last : List ℕ) × (components_of path ≡ components_of parent ++ last ∷ [])

-- there is no parent exactly where there is no part, and where the root is the one part
abbrev pub RootHasNoParent : Type 0
RootHasNoParent =
    (path : List ℕ) → (parent_of path ≡ None) ↔ ((components_of path ≡ []) ⊎ (components_of path ≡ codes "/" ∷ []))

-- the parts without a `.` at their front
abbrev pub without_dot : List (List ℕ) → List (List ℕ)
without_dot [] = []
without_dot (part ∷ parts) = if bytes_eq part (codes ".") then parts else part ∷ parts

-- the path begins with a slash
abbrev pub BeginsAtRoot : List ℕ → Type 0
BeginsAtRoot = IsAbsolute

-- The parts of a join are those of both paths, less a leading `.` of the second. Those of an absolute second path, and
-- of a second path behind an empty one, are its own.
pub record JoinsByParts : Type 0 where
  pub relative : (base path : List ℕ) → base ≢ [] → ¬ (BeginsAtRoot path)
      → components_of (join_of base path) ≡ components_of base ++ without_dot (components_of path)
  pub absolute : (base path : List ℕ) → BeginsAtRoot path → components_of (join_of base path) ≡ components_of path
  pub behind_nothing : (path : List ℕ) → components_of (join_of [] path) ≡ components_of path

-- the path, and then the ancestors of its parent, of which the first `count` are listed
abbrev pub ancestors_within : ℕ → Option (List ℕ) → List (List ℕ)
ancestors_within zero path = []
ancestors_within (suc count) None = []
ancestors_within (suc count) (Some path) = path ∷ ancestors_within count (parent_of path)

-- the path, and then the ancestors of its parent; a path has no more ancestors above it than parts
unfoldable pub ancestors_of : List ℕ → List (List ℕ)
ancestors_of path = ancestors_within (suc (length (components_of path))) (Some path)

-- the ancestors of the path, where there is one
abbrev pub ancestors_from : Option (List ℕ) → List (List ℕ)
ancestors_from None = []
ancestors_from (Some path) = ancestors_of path

-- the ancestors of a path are the path, and then those of its parent
abbrev pub AncestorsGoUp : Type 0
AncestorsGoUp = (path : List ℕ) → ancestors_of path ≡ path ∷ ancestors_from (parent_of path)

-- the part where it is a name: neither the root nor `.` nor `..`
abbrev pub name_part : List ℕ → Option (List ℕ)
name_part part =
    if (bytes_eq part (codes "/") || bytes_eq part (codes ".") || bytes_eq part (codes "..")) then None else Some part

-- the last of the parts where it is a name
abbrev pub last_name : List (List ℕ) → Option (List ℕ)
last_name parts = option_and_then name_part (slice_get parts (length parts - 1))

-- the last part of the path where it is a name
unfoldable pub file_name_of : List ℕ → Option (List ℕ)
file_name_of path = last_name (components_of path)

-- the parts of the path end with all the parts of `end`
abbrev pub EndsWithParts : List ℕ → List ℕ → Type 0
EndsWithParts = PathEndsWith

-- the root, then `.`, then `..`, then the names
abbrev pub part_rank : List ℕ → ℕ
part_rank part =
    if bytes_eq part (codes "/") then 0
    else (if bytes_eq part (codes ".") then 1 else (if bytes_eq part (codes "..") then 2 else 3))

-- by rank, and names by their bytes
abbrev pub part_cmp : List ℕ → List ℕ → Ordering
part_cmp = then_cmp (on part_rank nat_cmp) (slice_cmp nat_cmp)

-- the first parts that differ decide, and a proper front is less
abbrev pub path_order : List ℕ → List ℕ → Ordering
path_order = on components_of (slice_cmp part_cmp)

pub path_order_total : IsTotalOrder path_order
path_order_total =
    on_total components_of (lists_total (then_total (on_total part_rank nat_cmp_total) nat_list_cmp_total))

-- the parts, each with a slash behind it
abbrev pub key_of : List ℕ → List ℕ
key_of path = flat_map (λ part. part ++ codes "/") (components_of path)

-- the keys of paths are equal exactly where the paths are
abbrev pub KeysTellPaths : Type 0
KeysTellPaths = (x y : List ℕ) → eq_by_cmp path_order x y ≡ eq_by_cmp (slice_cmp nat_cmp) (key_of x) (key_of y)

-- the texts are the same up to the place, and a slash is there in both
pub record IsSharedSlash (x y : List ℕ) (place : ℕ) : Type 0 where
  pub in_first : place < length x
  pub in_second : place < length y
  pub same : take place x ≡ take place y
  pub at_first : slice_index x place ≡ 47
  pub at_second : slice_index y place ≡ 47
