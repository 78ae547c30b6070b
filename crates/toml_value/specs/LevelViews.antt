-- What the program's way from the root to the open table stands for.
use Rattle.std.specs.Prelude.{◌≡◌, ℕ, ◌+◌, ◌≤◌, List, Option, Some, None, Result, Ok, Err, map}
use Rattle.toml_subset.specs.Data.{depth_limit, entries_depth}
use Rattle.toml_subset.specs.Lines.{Document}
use Rattle.toml_subset.specs.Answer.{TomlReading}
use Rattle.toml_subset.specs.Reading.{LineFound}
use Rattle.toml_subset.specs.Tables.{entries_of}
use Rattle.toml_subset.specs.declared.error.SyntaxError.{SyntaxError}
use Rattle.toml_subset.specs.declared.error.TomlError.{TomlError}
use Rattle.toml_subset.specs.declared.error.TomlError.TheVariants.{Syntax, Memory}
use Rattle.toml_subset.specs.declared.string.Key.{Key}
use Rattle.toml_subset.specs.frames.Levels as levels
use Rattle.toml_subset.specs.frames.Levels.{Cursor, IsWay}
use Rattle.toml_value.specs.AroundViews.{around_view}
use Rattle.toml_value.specs.BranchViews.{branches_view}
use Rattle.toml_value.specs.TreeViews.{tree_view}
use Rattle.toml_value.specs.declared.tree.levels.TableLevel.{TableLevel}
use Rattle.toml_value.specs.declared.tree.document.Document.{Document as DocumentOf}
use Rattle.toml_value.specs.declared.tree.document.Pending.{Pending}

abbrev pub level_view : TableLevel → levels.TableLevel
level_view level = record { table = branches_view level.table; place = level.place; around = around_view level.around }

abbrev pub cursor_view : DocumentOf → Cursor
cursor_view document = record {
  around = map (λ level. level_view level) document.around.items;
  here = tree_view document.body;
  above = document.above;
}

abbrev pub pending_view : Pending → Cursor
pending_view pending = record {
  around = map (λ level. level_view level) pending.around.items;
  here = tree_view pending.awaiting.tree;
  above = pending.above;
}

-- a key of the open table is pending, or else refused
abbrev pub IsPending : Option SyntaxError → List Key → Cursor → Result Pending SyntaxError → Type 0
IsPending None keys c (Ok pending) = (pending.awaiting.keys ≡ keys) × (pending_view pending ≡ c)
IsPending None keys c (Err fault) = ⊥
IsPending (Some refusal) keys c (Ok pending) = ⊥
IsPending (Some refusal) keys c (Err fault) = fault ≡ refusal

-- no value below the open table is too deep
abbrev pub IsShallowCursor : Cursor → Type 0
IsShallowCursor c = c.above + entries_depth (entries_of c.here) ≤ depth_limit

-- The program's way stands for the document that a line makes, and reading goes on at the same place; or the line has
-- the fault. Memory may end anywhere.
abbrev pub IsLineRead : TomlReading LineFound → Result (DocumentOf × ℕ) TomlError → Type 0
IsLineRead wanted (Ok found) = (new : Document) × (wanted ≡ Ok (new, found.1)) × IsWay new (cursor_view found.0)
IsLineRead wanted (Err (Syntax fault)) = wanted ≡ Err fault
IsLineRead wanted (Err Memory) = Unit {0}
