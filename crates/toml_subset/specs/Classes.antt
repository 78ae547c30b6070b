-- The classes of number runs as the program answers them.
use Rattle.std.specs.Prelude.{ℕ, Result, Ok, Err}
use Rattle.toml_subset.specs.Data as «data»
use Rattle.toml_subset.specs.Data.{TomlContent}
use Rattle.toml_subset.specs.Numbers.{Class, unsupported, number_form, number_range, integer, decimal}
use Rattle.toml_subset.specs.Places.{from_to}
use Rattle.toml_subset.specs.Reading.{ValueFound}
use Rattle.toml_subset.specs.declared.error.SyntaxReason.{SyntaxReason}
use Rattle.toml_subset.specs.declared.error.SyntaxReason.TheVariants.{Unsupported, NumberForm, NumberRange}
use Rattle.toml_subset.specs.declared.number.Number.{Number}
use Rattle.toml_subset.specs.declared.number.Number.TheVariants.{Integer, Decimal}

abbrev pub class_answer : Class → Result Number SyntaxReason
class_answer unsupported = Err Unsupported
class_answer number_form = Err NumberForm
class_answer number_range = Err NumberRange
class_answer (integer z) = Ok (Integer z)
class_answer (decimal z) = Ok (Decimal z)

-- what a number stands for
abbrev pub content_by : Number → TomlContent
content_by (Integer z) = data.integer z
content_by (Decimal z) = data.decimal z

-- a number that begins at a place, and the place behind it
abbrev pub number_found : ℕ → Number × ℕ → ValueFound
number_found i found = (from_to i found.1, content_by found.0, found.1)
