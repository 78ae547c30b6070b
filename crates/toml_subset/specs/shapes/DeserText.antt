-- What is said where a type was not read from a value.
use Rattle.std.specs.Prelude.{ℕ, List, codes}
use Rattle.toml_subset.specs.shapes.Shapes.{faults_text}
use Rattle.toml_subset.specs.declared.shapes.shape.DeserError.{DeserError}
use Rattle.toml_subset.specs.declared.shapes.shape.DeserError.TheVariants.{Faults, Memory}

abbrev pub deser_text : DeserError → List ℕ
deser_text (Faults faults) = faults_text faults
deser_text Memory = codes "out of memory"
