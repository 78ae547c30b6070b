-- What of a request is not carried.
use Rattle.std.specs.Prelude.{Bool, true, false}
use Rattle.diag_print.specs.declared.context.Format.{Format}
use Rattle.diag_print.specs.declared.context.Format.TheVariants.{Human, Json, Sarif}

-- findings are printed for people and as JSON
abbrev pub is_sarif : Format → Bool
is_sarif Human = false
is_sarif Json = false
is_sarif Sarif = true
