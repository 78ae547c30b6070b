-- Facts of what reading a text answers.
use Rattle.std.specs.Prelude.{Result, Ok, Err, ⊤}
use Rattle.toml_subset.specs.declared.error.SyntaxError.{SyntaxError}
use Rattle.toml_subset.specs.declared.error.TomlError.{TomlError}
use Rattle.toml_subset.specs.declared.error.TomlError.TheVariants.{Syntax, Memory}

-- a fact of a syntax fault
abbrev pub OnSyntax : {A : Type 0} → Result A TomlError → (SyntaxError → Type 0) → Type 0
OnSyntax (Ok x) P = ⊤
OnSyntax (Err (Syntax fault)) P = P fault
OnSyntax (Err Memory) P = ⊤
