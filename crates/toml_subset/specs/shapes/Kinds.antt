-- The words for the kinds of values.
use Rattle.std.specs.Prelude.{ℕ, List, codes}
use Rattle.toml_subset.specs.declared.shapes.shape.ValueKind.{ValueKind}
use Rattle.toml_subset.specs.declared.shapes.shape.ValueKind.TheVariants.{String, Integer, Decimal, Boolean, Array}
use Rattle.toml_subset.specs.declared.shapes.shape.ValueKind.TheVariants.{Table}

abbrev pub kind_word : ValueKind → List ℕ
kind_word String = codes "a string"
kind_word Integer = codes "an integer"
kind_word Decimal = codes "a decimal"
kind_word Boolean = codes "a boolean"
kind_word Array = codes "an array"
kind_word Table = codes "a table"
