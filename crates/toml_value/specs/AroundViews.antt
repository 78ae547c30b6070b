-- What is around a table that was taken out.
use Rattle.std.specs.Prelude.{Bool, true, map, Option, Some, None, Ok, Err}
use Rattle.std.specs.List.{list_all}
use Rattle.toml_subset.specs.frames.Levels as levels
use Rattle.toml_subset.specs.frames.Levels.{refusal}
use Rattle.toml_subset.specs.Answer.{TomlReading}
use Rattle.toml_subset.specs.Tables.{Branches}
use Rattle.toml_subset.specs.declared.error.SyntaxReason.TheVariants.{RedefinedTable}
use Rattle.toml_subset.specs.declared.string.Key.{Key}
use Rattle.toml_value.specs.BranchViews.{mark_of, body_view, branches_view, is_whole_body}
use Rattle.toml_value.specs.declared.tree.Branches.{Branches as BranchesOf}
use Rattle.toml_value.specs.declared.tree.levels.Around.{Around}
use Rattle.toml_value.specs.declared.tree.levels.Around.TheVariants.{Alone, Behind}

abbrev pub around_view : Around → levels.Around
around_view (Alone span mark) = levels.alone span (mark_of mark)
around_view (Behind span bodies at) = levels.behind span (map (λ b. body_view b) bodies.items) at

-- a table that was taken out, and what it is where it is there
abbrev pub opened_view : Around × BranchesOf → levels.Around × Branches
opened_view found = (around_view found.0, branches_view found.1)

-- what a part of a header opens of what is at its key, or the fault of a key that it may not open
abbrev pub or_redefined : {A : Type 0} → Key → Option A → TomlReading A
or_redefined key (Some opened) = Ok opened
or_redefined key None = Err (refusal RedefinedTable key)

abbrev pub is_whole_around : Around → Bool
is_whole_around (Alone span mark) = true
is_whole_around (Behind span bodies at) = list_all (λ whole. whole) (map (λ b. is_whole_body b) bodies.items)
