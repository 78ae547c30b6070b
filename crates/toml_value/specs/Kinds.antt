-- The kind of a value.
use Rattle.toml_subset.specs.Data as «data»
use Rattle.toml_subset.specs.Data.{TomlContent}
use Rattle.toml_subset.specs.declared.shapes.shape.ValueKind.{ValueKind}
use Rattle.toml_subset.specs.declared.shapes.shape.ValueKind.TheVariants.{String, Integer, Decimal, Boolean, Array}
use Rattle.toml_subset.specs.declared.shapes.shape.ValueKind.TheVariants.{Table}

abbrev pub kind_of : TomlContent → ValueKind
kind_of (data.string w) = String
kind_of (data.integer z) = Integer
kind_of (data.decimal z) = Decimal
kind_of (data.boolean b) = Boolean
kind_of (data.array items) = Array
kind_of (data.table entries) = Table
