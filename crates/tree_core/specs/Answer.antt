-- What the calls of a tree that tells its content answer.
use Rattle.std.specs.Prelude.{◌≡◌, ◌≢◌, ℕ, Bool, false, List, Option, Some, None, Result, Ok, Err, map, is_some}
use Rattle.std.specs.Prelude.{IsSorted}
use Rattle.std.specs.Ordering.{nat_cmp, on}
use Rattle.std.specs.Cmp.Lexicographic.{slice_cmp}
use Rattle.tree_core.specs.Content.{Content, TreeNode, file, folder, is_file, node_at, entries_in, resolve, ListedEntry}
use Rattle.tree_core.specs.declared.tree.TreeError.{TreeError}
use Rattle.tree_core.specs.declared.tree.TreeError.TheVariants.{Absent, WrongKind, Failed, Memory}
use Rattle.tree_core.specs.declared.tree.Entry.{Entry}

-- `read`: the bytes of a file, Absent where nothing is there, WrongKind at a folder
abbrev pub ReadAnswers : Option TreeNode → Result (List ℕ) TreeError → Type 0
ReadAnswers there (Ok bytes) = there ≡ Some (file bytes)
ReadAnswers there (Err Absent) = there ≡ None
ReadAnswers there (Err WrongKind) = there ≡ Some folder
ReadAnswers there (Err Failed) = Unit {0}
ReadAnswers there (Err Memory) = Unit {0}

abbrev pub listed_entry : Entry → ListedEntry
listed_entry entry = (entry.name, entry.is_file)

-- `list`: the entries of a folder, Absent where nothing is there, WrongKind at a file
abbrev pub ListAnswers : Content → List ℕ → Result (List Entry) TreeError → Type 0
ListAnswers content path (Ok entries) =
    (node_at content path ≡ Some folder) × (map listed_entry entries ≡ entries_in content (resolve path))
ListAnswers content path (Err Absent) = node_at content path ≡ None
ListAnswers content path (Err WrongKind) = (bytes : List ℕ) × (node_at content path ≡ Some (file bytes))
ListAnswers content path (Err Failed) = Unit {0}
ListAnswers content path (Err Memory) = Unit {0}

-- a file is there
abbrev pub has_file : Option TreeNode → Bool
has_file None = false
has_file (Some node) = is_file node

-- `is_file`: whether a file is there
abbrev pub FileAnswers : Option TreeNode → Result Bool TreeError → Type 0
FileAnswers there (Ok answer) = answer ≡ has_file there
FileAnswers there (Err error) = Unit {0}

-- `exists`: whether anything is there
abbrev pub ExistsAnswers : Option TreeNode → Result Bool TreeError → Type 0
ExistsAnswers there (Ok answer) = answer ≡ is_some there
ExistsAnswers there (Err error) = Unit {0}

-- a look, or a read of what was opened, is refused with Failed or Memory alone
abbrev pub FailsOrLacksMemory : {T : Type 0} → Result T TreeError → Type 0
FailsOrLacksMemory result = (result ≢ Err Absent) × (result ≢ Err WrongKind)

-- entries are in byte order of their names
abbrev pub IsInNameOrder : List Entry → Type 0
IsInNameOrder entries = IsSorted (on (λ e. e.name) (slice_cmp nat_cmp)) entries
