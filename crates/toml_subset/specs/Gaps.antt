-- What the gaps of the program go over.
use Rattle.std.specs.Prelude.{ℕ, List}
use Rattle.toml_subset.specs.Places.{after_blanks, after_blanks_and_comment}
use Rattle.toml_subset.specs.declared.scan.Gap.{Gap}
use Rattle.toml_subset.specs.declared.scan.Gap.TheVariants.{White, Space}

abbrev pub goes_over : Gap → List ℕ → ℕ → ℕ
goes_over White = after_blanks
goes_over Space = after_blanks_and_comment
