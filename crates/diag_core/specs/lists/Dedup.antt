-- Lists of which all but the first of equal items are taken out, and what is reported of them.
use Rattle.std.specs.Prelude.{◌≡◌, ℕ, Bool, if◌then◌else◌, List, [], ◌∷◌, ◌++◌, codes, Result, Ok, Err, ⊤}
use Rattle.std.specs.List.{dedup}
use Rattle.std.specs.List.Sorted.{IsPermutation, IsSorted, IsStable}
use Rattle.std.specs.declared.alloc.AllocError.{AllocError}
use Rattle.std.specs.declared.cmp.Ordering.{Ordering}
use Rattle.deny_text.specs.declared.span.Span.{Span}
use Rattle.deny_text.specs.declared.span.Spanned.{Spanned}
use Rattle.diag_core.specs.Diagnostic.{plain_diagnostic}
use Rattle.diag_core.specs.Label.{label_at}
use Rattle.diag_core.specs.declared.diagnostic.Diagnostic.{Diagnostic}
use Rattle.diag_core.specs.declared.label.LabelStyle.TheVariants.{Secondary}
use Rattle.diag_core.specs.declared.severity.Severity.TheVariants.{Warning}

-- the order of spanned values, and whether two are equal
abbrev pub by_value : {T R : Type 0} → (T → T → R) → Spanned T → Spanned T → R
by_value test one other = test one.value other.value

-- the items in order
pub record Sorts {T : Type 0} (cmp : T → T → Ordering) (old new : List (Spanned T)) : Type 0 where
  pub same : IsPermutation old new
  pub sorted : IsSorted (by_value cmp) new

-- ---- what is reported

abbrev pub duplicates : ℕ → Span → Span → Diagnostic
duplicates file one other =
    record (plain_diagnostic Warning) {
      message = codes "duplicate items detected";
      labels = label_at Secondary file one [] ∷ label_at Secondary file other [] ∷ [];
    }

abbrev pub warning_where : {T : Type 0} → (T → T → Bool) → ℕ → Spanned T → Spanned T → List Diagnostic
warning_where eq file one other = if eq one.value other.value then duplicates file one.span other.span ∷ [] else []

-- one for each pair of equal neighbours, in order
abbrev pub warnings_behind : {T : Type 0} → (T → T → Bool) → ℕ → Spanned T → List (Spanned T) → List Diagnostic
warnings_behind eq file before [] = []
warnings_behind eq file before (item ∷ items) = warning_where eq file before item ++ warnings_behind eq file item items

abbrev pub warnings_of : {T : Type 0} → (T → T → Bool) → ℕ → List (Spanned T) → List Diagnostic
warnings_of eq file [] = []
warnings_of eq file (item ∷ items) = warnings_behind eq file item items

-- the first of these came, behind the others
abbrev pub GainsFront : List Diagnostic → List Diagnostic → List Diagnostic → Type 0
GainsFront old new all =
    (front : List Diagnostic) × (rest : List Diagnostic) × (front ++ rest ≡ all) × (new ≡ old ++ front)

-- ---- the call

-- the list was sorted, and then of equals the first is kept, and all is reported; or memory was wanting, and nothing
-- was taken out
abbrev pub EndsDedup : {T : Type 0} → (T → T → Bool) → ℕ → List (Spanned T) → List (Spanned T) → List Diagnostic
    → List Diagnostic
    → Result (Unit {0}) AllocError → Type 0
EndsDedup eq file sorted new before after (Ok done) =
    (new ≡ dedup (by_value eq) sorted) × (after ≡ before ++ warnings_of eq file sorted)
EndsDedup eq file sorted new before after (Err error) =
    (new ≡ sorted) × GainsFront before after (warnings_of eq file sorted)

-- items that tie are in the order in which they stood
abbrev pub StandsAsBefore : {T : Type 0} → (T → T → Ordering) → List (Spanned T) → List (Spanned T)
    → Result (Unit {0}) AllocError → Type 0
StandsAsBefore cmp old sorted (Ok done) = IsStable (by_value cmp) old sorted
StandsAsBefore cmp old sorted (Err error) = ⊤

pub record Dedups {T : Type 0} (cmp : T → T → Ordering) (eq : T → T → Bool) (file : ℕ) (old new : List (Spanned T))
    (before after : List Diagnostic) (result : Result (Unit {0}) AllocError) : Type 0 where
  pub sorted : List (Spanned T)
  pub sorts : Sorts cmp old sorted
  pub stable : StandsAsBefore cmp old sorted result
  pub ends : EndsDedup eq file sorted new before after result
