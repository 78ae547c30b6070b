-- What is read from a value that is in a text: each place that it keeps or tells lies in that text, between
-- characters.
use Rattle.std.specs.Prelude.{ℕ, List, Option, Some, None, Ok, Err, ⊤}
use Rattle.std.specs.List.{AllByRecursion}
use Rattle.deny_text.specs.declared.span.Spanned.{Spanned}
use Rattle.deny_text.specs.Spans.{LiesBetween}
use Rattle.toml_subset.specs.text_laws.Placed.{IsPlaced}
use Rattle.toml_subset.specs.shapes.Shaped.{ShapeReading}
use Rattle.toml_subset.specs.shapes.Shapes.{ShapeFault}
use Rattle.toml_subset.specs.Data.{Toml}

abbrev pub IsToldIn : List ℕ → ShapeFault → Type 0
IsToldIn text fault = LiesBetween text fault.span

-- the places that a thing keeps are in the text, or those at which its faults are reported
abbrev pub StaysIn : {A : Type 0} → (List ℕ → A → Type 0) → List ℕ → ShapeReading A → Type 0
StaysIn keeps text (Ok x) = keeps text x
StaysIn keeps text (Err faults) = AllByRecursion (IsToldIn text) faults

-- so it is with all values of one text
abbrev pub KeepsPlacesIn : {A : Type 0} → List ℕ → (List ℕ → A → Type 0) → (Toml → ShapeReading A) → Type 0
KeepsPlacesIn text keeps reads = (value : Toml) → IsPlaced text value → StaysIn keeps text (reads value)

abbrev pub KeepsPlaces : {A : Type 0} → (List ℕ → A → Type 0) → (Toml → ShapeReading A) → Type 0
KeepsPlaces keeps reads = (text : List ℕ) → KeepsPlacesIn text keeps reads

-- ---- what things keep

abbrev pub keeps_nothing : {A : Type 0} → List ℕ → A → Type 0
keeps_nothing text x = ⊤

abbrev pub keeps_its_span : {A : Type 0} → List ℕ → Spanned A → Type 0
keeps_its_span text x = LiesBetween text x.span

abbrev pub keeps_each : {A : Type 0} → (List ℕ → A → Type 0) → List ℕ → List A → Type 0
keeps_each keeps text xs = AllByRecursion (keeps text) xs

-- a thing that may be there
abbrev pub keeps_where : {A : Type 0} → (List ℕ → A → Type 0) → List ℕ → Option A → Type 0
keeps_where keeps text None = ⊤
keeps_where keeps text (Some x) = keeps text x
