-- Tables of codes.
use Rattle.std.specs.Prelude.{◌≡◌, ℕ, List, [], ◌∷◌}
use Rattle.diag_core.specs.declared.code_table.CodeRow.{CodeRow}

-- each row has its code's name
abbrev pub HaveNames : {C : Type 0} → (C → List ℕ) → List (CodeRow C) → Type 0
HaveNames name_of [] = Unit {0}
HaveNames name_of (row ∷ rows) = (row.name.now ≡ name_of row.code) × HaveNames name_of rows
