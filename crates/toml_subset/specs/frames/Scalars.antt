-- What values stand for that are no arrays and no tables.
use Rattle.std.specs.Prelude.{ℕ}
use Rattle.deny_text.specs.declared.span.Span.{Span}
use Rattle.toml_subset.specs.Classes.{content_by}
use Rattle.toml_subset.specs.Data as «data»
use Rattle.toml_subset.specs.Data.{TomlContent}
use Rattle.toml_subset.specs.Reading.{ValueFound}
use Rattle.toml_subset.specs.declared.frames.scalar.Scalar.{Scalar}
use Rattle.toml_subset.specs.declared.frames.scalar.Scalar.TheVariants.{String, Number, Boolean}

abbrev pub scalar_content : Scalar → TomlContent
scalar_content (String s) = data.string s
scalar_content (Number n) = content_by n
scalar_content (Boolean b) = data.boolean b

abbrev pub scalar_found : Scalar × Span × ℕ → ValueFound
scalar_found found = (found.1, scalar_content found.0, found.2)
