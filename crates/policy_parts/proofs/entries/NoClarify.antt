-- A file of exceptions with an empty `clarify` is read as one without it.
use Rattle.std.proofs.Common.{◌≡◌, ◌∙◌, ℕ, true, false, cond, List, [], ◌∷◌, ◌++◌, Option, Ok, Err, codes, refl, sym, ap}
use Rattle.std.specs.Prelude.{option_map, unwrap_or}
use Rattle.std.specs.Str.{bytes_eq}
use Rattle.std.proofs.lemmas.Slice.Eq.{bytes_eq-Decides}
use Rattle.deny_text.specs.declared.span.Span.{Span}
use Rattle.toml_subset.specs.Data.{Entries, Toml, no_entry, entry}
use Rattle.toml_subset.specs.shapes.Shaped.{ShapeReading, shaped_of, shaped_then}
use Rattle.toml_value.specs.Lookup.{value_at}
use Rattle.toml_value.specs.Removal.{entries_without, names_in}
use Rattle.policy_toml.specs.HelperState.{faults_of, given_value, unexpected_faults}
use Rattle.policy_toml.specs.Readings.{list_of}
use Rattle.policy_toml.specs.rows.Rows.{needed_at, shaped_by}
use Rattle.policy_toml.proofs.rows.Keys.{value_at_without, without_absent}
use Rattle.policy_parts.specs.entries.Clarifications.{clarification_of}
use Rattle.policy_parts.specs.entries.Exceptions.{exceptions_file_in, exceptions_file_rows, exceptions_of}
use Rattle.policy_parts.specs.entries.Laws.{EmptyClarifyIsNone}
use Rattle.policy_parts.specs.declared.entries.exception.Exception.{Exception}
use Rattle.policy_parts.specs.declared.entries.exception.ExceptionsFile.{ExceptionsFile}

-- two keys are taken out in either order
without_swap : (one other : List ℕ) (entries : Entries) → bytes_eq one other ≡ false
    → entries_without one (entries_without other entries) ≡ entries_without other (entries_without one entries)
without_swap one other no_entry apart = refl
without_swap one other (entry key span content more) apart =
    let name = key.name.text in
    let kept : Entries → Entries = λ rest. entry key span content rest in
    elim (bytes_eq name one) as (λ p. bytes_eq name one ≡ p
    → entries_without one (cond (bytes_eq name other) more (kept (entries_without other more))) ≡ entries_without other (cond p more (kept (entries_without one more)))) [
      | true ↦ λ is.
          let miss : bytes_eq name other ≡ false = ap (λ n. bytes_eq n other) ((bytes_eq-Decides name one).0 is) ∙ apart in
          ap (λ q. entries_without one (cond q more (kept (entries_without other more)))) miss
          ∙ ap (λ p. cond p (entries_without other more) (kept (entries_without one (entries_without other more)))) is
      | false ↦ λ is.
          elim (bytes_eq name other) as (λ q. bytes_eq name other ≡ q
          → entries_without one (cond q more (kept (entries_without other more))) ≡ entries_without other (kept (entries_without one more))) [
            | true ↦ λ there. sym (ap (λ q. cond q (entries_without one more) (kept (entries_without other (entries_without one more)))) there)
            | false ↦ λ there.
                ap (λ p. cond p (entries_without other more) (kept (entries_without one (entries_without other more)))) is
                ∙ ap kept (without_swap one other more apart)
                ∙ sym (ap (λ q. cond q (entries_without one more) (kept (entries_without other (entries_without one more)))) there)
          ] refl
    ] refl

then_same : {A B : Type 0} (f g : A → ShapeReading B) (read : ShapeReading A) → ((x : A) → f x ≡ g x) → shaped_then f read ≡ shaped_then g read
then_same f g (Ok x) same = same x
then_same f g (Err faults) same = refl

abbrev file_by : Span → List Exception → Option Toml → Entries → ShapeReading ExceptionsFile
file_by span exceptions value left =
    let clarify = option_map (list_of clarification_of) value in
    shaped_of ((faults_of clarify ++ []) ++ unexpected_faults (names_in left) span) (record { exceptions = exceptions; clarify = unwrap_or (given_value clarify) [] })

pub empty_clarify : EmptyClarifyIsNone
empty_clarify lists entries span place empty once =
    let less = entries_without (codes "clarify") entries in
    let last = entries_without (codes "clarify") (entries_without (codes "exceptions") entries) in
    let absent = value_at_without (codes "clarify") (codes "exceptions") less refl ∙ once in
    let left : last ≡ entries_without (codes "clarify") (entries_without (codes "exceptions") less) =
    sym (without_absent (codes "clarify") (entries_without (codes "exceptions") less) (sym absent) ∙ without_swap (codes "exceptions") (codes "clarify") entries refl) in
    let file : Entries → List Exception → ShapeReading ExceptionsFile = λ table exceptions. shaped_by (codes "exceptions" ∷ []) exceptions_file_rows (exceptions_file_in exceptions) table span in
    let same : (exceptions : List Exception) → file entries exceptions ≡ file less exceptions = λ exceptions.
    ap (λ value. file_by span exceptions value last) empty
    ∙ ap (λ value. file_by span exceptions value last) (sym once)
    ∙ ap (λ rest. file_by span exceptions (value_at (codes "clarify") less) rest) left in
    then_same (file entries) (file less) (needed_at (codes "exceptions") span (option_map (exceptions_of lists) (value_at (codes "exceptions") entries))) same
    ∙ ap (λ value. shaped_then (file less) (needed_at (codes "exceptions") span (option_map (exceptions_of lists) value))) (sym (value_at_without (codes "exceptions") (codes "clarify") entries refl))
