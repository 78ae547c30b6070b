-- What may be wrong with the shape of a value, seen by its texts and its place.
use Rattle.std.specs.Prelude.{ℕ, List, [], ◌∷◌, ◌++◌, codes}
use Rattle.std.specs.List.{join_by, flat_map}
use Rattle.deny_text.specs.declared.span.Span.{Span}

pub data ShapeReason : Type 0 where
  -- what was wanted, and what was found
  wanted : List ℕ → List ℕ → ShapeReason
  missing : List ℕ → ShapeReason
  unexpected_keys : List (List ℕ) → ShapeReason
  unexpected_value : List (List ℕ) → ShapeReason
  custom : List ℕ → ShapeReason
  out_of_range : List ℕ → ShapeReason

pub record ShapeFault : Type 0 where
  pub reason : ShapeReason
  pub span : Span

-- one fault by itself
abbrev pub fault_alone : ShapeReason → Span → List ShapeFault
fault_alone reason span = record { reason = reason; span = span } ∷ []

-- names with commas between
abbrev pub names_text : List (List ℕ) → List ℕ
names_text names = join_by (λ name. name) (codes ", ") names

-- what is said of a fault
abbrev pub reason_text : ShapeReason → List ℕ
reason_text (wanted expected found) = codes "expected " ++ expected ++ codes ", found " ++ found
reason_text (missing name) = codes "missing field '" ++ name ++ codes "'"
reason_text (unexpected_keys names) = codes "unexpected keys: " ++ names_text names
reason_text (unexpected_value names) = codes "unexpected value, expected one of: " ++ names_text names
reason_text (custom text) = text
reason_text (out_of_range type) = codes "out of range of " ++ type

-- what is said of several faults: a line for each
abbrev pub faults_text : List ShapeFault → List ℕ
faults_text faults = flat_map (λ fault. reason_text fault.reason ++ 10 ∷ []) faults
