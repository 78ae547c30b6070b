-- A table of two keys that have to be there.
use Rattle.std.proofs.Common.{◌≡◌, ◌∙◌, sym, ap, ℕ, false, List, [], ◌∷◌, ◌++◌, Ok}
use Rattle.std.specs.Prelude.{option_map}
use Rattle.std.specs.Str.{bytes_eq}
use Rattle.deny_text.specs.declared.span.Span.{Span}
use Rattle.toml_subset.specs.Data.{Entries, Toml}
use Rattle.toml_subset.specs.shapes.Shaped.{ShapeReading, TellsFaults, shaped_then, shaped_of}
use Rattle.toml_subset.specs.shapes.Shapes.{ShapeFault}
use Rattle.toml_subset.specs.declared.shapes.shape.DeserError.{DeserError}
use Rattle.toml_subset.specs.declared.shapes.shape.DeserError.TheVariants.{Faults, Memory}
use Rattle.toml_value.specs.Removal.{entries_without, names_in}
use Rattle.policy_toml.specs.HelperState.{HelperState, without_key, required_of, faults_at_end, unexpected_faults}
use Rattle.policy_toml.specs.rows.Rows.{required_value, needed_at, shaped_by}
use Rattle.policy_toml.proofs.rows.Keys.{value_at_without}
use Rattle.policy_toml.proofs.rows.RowLemmas.{required_is}

abbrev ended : {A B C : Type 0} → List ℕ → List ℕ → (A → B → C) → Entries → Span → A → B → ShapeReading C
ended first second make entries span x y = shaped_by (first ∷ second ∷ []) [] (λ _. make x y) entries span

abbrev then_second : {A B C : Type 0} → List ℕ → List ℕ → (Toml → ShapeReading B) → (A → B → C) → Entries → Span → A → ShapeReading C
then_second first second reads_second make entries span x =
    shaped_then (ended first second make entries span x) (required_value second reads_second entries span)

abbrev pub two_keys : {A B C : Type 0} → List ℕ → List ℕ → (Toml → ShapeReading A) → (Toml → ShapeReading B) → (A → B → C) → Entries → Span → ShapeReading C
two_keys first second reads_first reads_second make entries span =
    shaped_then (then_second first second reads_second make entries span) (required_value first reads_first entries span)

-- the second key behind the first
second_is : {B : Type 0} (first second : List ℕ) (reads : Toml → ShapeReading B) (state behind : HelperState) → bytes_eq first second ≡ false
    → state.faults ≡ [] → behind ≡ without_key first state → required_value second reads state.left state.span ≡ required_of second reads behind
second_is first second reads state behind apart none gone =
    ap (λ value. needed_at second state.span (option_map reads value)) (sym (value_at_without second first state.left apart))
    ∙ ap (λ (s : HelperState). required_value second reads s.left s.span) (sym gone)
    ∙ sym (required_is second reads behind (ap (λ (s : HelperState). s.faults) gone ∙ none))

pub both_read : {A B C : Type 0} (first second : List ℕ) (reads_first : Toml → ShapeReading A) (reads_second : Toml → ShapeReading B) (make : A → B → C)
    (state behind after : HelperState) (x : A) (y : B) → bytes_eq first second ≡ false → state.faults ≡ [] → required_of first reads_first state ≡ Ok x
    → behind ≡ without_key first state → required_of second reads_second behind ≡ Ok y → after ≡ without_key second behind
    → shaped_of (faults_at_end false after) (make x y) ≡ two_keys first second reads_first reads_second make state.left state.span
both_read first second reads_first reads_second make state behind after x y apart none read_first gone read_second gone_second =
    let end = unexpected_faults (names_in (entries_without second (entries_without first state.left))) state.span in
    ap (λ (s : HelperState). shaped_of (faults_at_end false s) (make x y)) (gone_second ∙ ap (without_key second) gone)
    ∙ ap (λ (faults : List ShapeFault). shaped_of (faults ++ end) (make x y)) none
    ∙ sym (ap (shaped_then (then_second first second reads_second make state.left state.span))
    (sym (required_is first reads_first state none) ∙ read_first)
    ∙ ap (shaped_then (ended first second make state.left state.span x))
    (second_is first second reads_second state behind apart none gone ∙ read_second))

tells_then : {A B : Type 0} (f : A → ShapeReading B) (read : ShapeReading A) (error : DeserError) → TellsFaults read error → TellsFaults (shaped_then f read) error
tells_then f read (Faults told) h = (ap (shaped_then f) h.0, h.1)
tells_then f read Memory h = h

same_tells : {A : Type 0} (read : ShapeReading A) (other : ShapeReading A) (error : DeserError) → read ≡ other → TellsFaults other error → TellsFaults read error
same_tells read other (Faults told) is h = (is ∙ h.0, h.1)
same_tells read other Memory is h = h

pub second_refused : {A B C : Type 0} (first second : List ℕ) (reads_first : Toml → ShapeReading A) (reads_second : Toml → ShapeReading B) (make : A → B → C)
    (state behind : HelperState) (x : A) (error : DeserError) → bytes_eq first second ≡ false → state.faults ≡ [] → required_of first reads_first state ≡ Ok x
    → behind ≡ without_key first state → TellsFaults (required_of second reads_second behind) error
    → TellsFaults (two_keys first second reads_first reads_second make state.left state.span) error
second_refused {A} {B} {C} first second reads_first reads_second make state behind x error apart none read_first gone told =
    let rest = then_second first second reads_second make state.left state.span in
    same_tells {A = C} (two_keys first second reads_first reads_second make state.left state.span) (rest x) error
    (ap (shaped_then rest) (sym (required_is first reads_first state none) ∙ read_first))
    (tells_then (ended first second make state.left state.span x) (required_value second reads_second state.left state.span) error
    (same_tells {A = B} (required_value second reads_second state.left state.span) (required_of second reads_second behind) error
    (second_is first second reads_second state behind apart none gone) told))
