-- Keys that have to be there, one behind another.
use Rattle.std.proofs.Common.{◌≡◌, ℕ, true, List, Option, ap, ◌∙◌}
use Rattle.std.specs.Prelude.{option_map}
use Rattle.deny_text.specs.declared.span.Span.{Span}
use Rattle.toml_subset.specs.Data.{Entries, Toml}
use Rattle.toml_subset.specs.shapes.Shaped.{ShapeReading, TellsFaults, shaped_then}
use Rattle.toml_subset.specs.declared.shapes.shape.DeserError.{DeserError}
use Rattle.toml_subset.specs.declared.shapes.shape.DeserError.TheVariants.{Faults, Memory}
use Rattle.policy_toml.specs.HelperState.{HelperState, required_of}
use Rattle.policy_toml.specs.rows.Rows.{required_value, needed_at}
use Rattle.policy_toml.proofs.rows.RowLemmas.{none_is, found_behind, begun, required_is}

-- such a key is read as if it were the first
pub needed_behind : {A : Type 0} (name : List ℕ) (reads : Toml → ShapeReading A) (passed : List (List ℕ)) (entries : Entries) (span : Span) (state : HelperState)
    → none_is name passed ≡ true → state ≡ begun passed entries span → required_of name reads state ≡ required_value name reads entries span
needed_behind name reads passed entries span state apart is =
    required_is name reads state (ap (λ (s : HelperState). s.faults) is)
    ∙ ap (λ (s : HelperState). required_value name reads s.left s.span) is
    ∙ ap (λ (value : Option Toml). needed_at name span (option_map reads value)) (found_behind name passed entries apart)

-- what refuses a reading refuses what follows
pub refused_then : {A B : Type 0} (f : A → ShapeReading B) (read : ShapeReading A) (error : DeserError) → TellsFaults read error → TellsFaults (shaped_then f read) error
refused_then f read (Faults told) h = (ap (shaped_then f) h.0, h.1)
refused_then f read Memory h = h
