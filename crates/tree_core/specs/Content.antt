-- What a tree holds: files and folders, by the names that lead to them.
use Rattle.std.specs.Prelude.{◌≡◌, ℕ, Bool, true, false, List, [], ◌∷◌, ◌++◌, Option, Some, None, length, take, ◌-◌}
use Rattle.std.specs.Prelude.{codes, if◌then◌else◌}
use Rattle.std.specs.Ordering.{nat_cmp, on, then_cmp}
use Rattle.std.specs.declared.cmp.Ordering.{Ordering}
use Rattle.std.specs.Cmp.{IsTotalOrder, on_total, then_total}
use Rattle.std.specs.Cmp.Lexicographic.{slice_cmp, lists_total, nat_list_cmp_total}
use Rattle.std.specs.Str.{bytes_eq}
use Rattle.std.specs.List.{fold, filter_map}
use Rattle.std.specs.FinMap as map
use Rattle.deny_text.specs.Path.{components_of, join_of}

-- a file with its bytes, or a folder
pub data TreeNode : Type 0 where
  file : List ℕ → TreeNode
  folder : TreeNode

-- where something is there: the names that lead to it from the root
abbrev pub Place : Type 0
Place = List (List ℕ)

-- the folder that it is in; the root for the root
abbrev pub place_above : Place → Place
place_above place = take (length place - 1) place

-- by the first names that differ, in byte order
abbrev pub names_cmp : Place → Place → Ordering
names_cmp = slice_cmp (slice_cmp nat_cmp)

-- by the folders that they are in, and then by their names: what is right in a folder is together, after the root
abbrev pub place_cmp : Place → Place → Ordering
place_cmp = then_cmp (on place_above names_cmp) names_cmp

pub place_cmp_total : IsTotalOrder place_cmp
place_cmp_total = then_total (on_total place_above (lists_total nat_list_cmp_total)) (lists_total nat_list_cmp_total)

abbrev pub Content : Type 0
Content = map.FinMap place_cmp TreeNode

-- one part of a path: the root leads to the root, `.` stays, `..` goes to the folder above (at the root it stays),
-- and a name goes below
abbrev pub step : Place → List ℕ → Place
step place part =
    if bytes_eq part (codes "/") then []
    else (if bytes_eq part (codes ".") then place
    else (if bytes_eq part (codes "..") then place_above place else place ++ part ∷ []))

-- the place that a path leads to, from the root on
abbrev pub resolve : List ℕ → Place
resolve path = fold step [] (components_of path)

-- a joined path leads on from where the folder leads; at a part that is the root it begins anew
abbrev pub JoinGoesOn : Type 0
JoinGoesOn = (folder path : List ℕ) → resolve (join_of folder path) ≡ fold step (resolve folder) (components_of path)

-- what is at a path
abbrev pub node_at : Content → List ℕ → Option TreeNode
node_at content path = map.get content (resolve path)

abbrev pub is_file : TreeNode → Bool
is_file (file bytes) = true
is_file folder = false

-- an entry of a listing: a name, and whether it is a file
abbrev pub ListedEntry : Type 0
ListedEntry = List ℕ × Bool

-- what is at the second place, as an entry of the folder at the first, where it is right in it
abbrev pub entry_in : Place → Place → TreeNode → Option ListedEntry
entry_in [] [] node = None
entry_in [] (name ∷ []) node = Some (name, is_file node)
entry_in [] (name ∷ below ∷ rest) node = None
entry_in (at ∷ place) [] node = None
entry_in (at ∷ place) (name ∷ rest) node = if bytes_eq at name then entry_in place rest node else None

-- what is right in a folder, in byte order of names
abbrev pub entries_in : Content → Place → List ListedEntry
entries_in content place = filter_map (λ e. entry_in place e.0 e.1) (map.entries content)

-- the root is a folder, and so is what any entry is in
pub record IsRooted (content : Content) : Type 0 where
  pub root : map.get content [] ≡ Some folder
  pub above : (place : Place) (name : List ℕ) (node : TreeNode) → map.get content (place ++ name ∷ []) ≡ Some node
      → map.get content place ≡ Some folder
