-- Tables of names.
use Rattle.std.specs.Prelude.{ℕ, List, [], ◌∷◌, Option, Some, None, if◌then◌else◌}
use Rattle.std.specs.Str.{bytes_eq}
use Rattle.run_request.specs.declared.from_word.NamedValue.{NamedValue}

-- a name with its value
abbrev pub pair_of : {T : Type 0} → NamedValue T → List ℕ × T
pair_of row = (row.name.now, row.value)

-- the value of that name in a table: the first, if there were several
abbrev pub named_in : {T : Type 0} → List (List ℕ × T) → List ℕ → Option T
named_in [] word = None
named_in (pair ∷ pairs) word = if bytes_eq pair.0 word then Some pair.1 else named_in pairs word
