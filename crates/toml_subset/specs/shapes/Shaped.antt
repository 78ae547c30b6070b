-- What a type makes of a value: the value that was read, or what is wrong with it.
use Rattle.std.specs.Prelude.{◌≡◌, List, [], ◌∷◌, Option, Some, None, Result, Ok, Err, ⊤}
use Rattle.toml_subset.specs.shapes.Shapes.{ShapeFault}
use Rattle.toml_subset.specs.declared.shapes.shape.DeserError.{DeserError}
use Rattle.toml_subset.specs.declared.shapes.shape.DeserError.TheVariants.{Faults, Memory}

abbrev pub ShapeReading : Type 0 → Type 0
ShapeReading T = Result T (List ShapeFault)

abbrev pub shaped_map : {A B : Type 0} → (A → B) → ShapeReading A → ShapeReading B
shaped_map f (Ok x) = Ok (f x)
shaped_map f (Err faults) = Err faults

abbrev pub shaped_then : {A B : Type 0} → (A → ShapeReading B) → ShapeReading A → ShapeReading B
shaped_then f (Ok x) = f x
shaped_then f (Err faults) = Err faults

abbrev pub faults_in : {A : Type 0} → ShapeReading A → List ShapeFault
faults_in (Ok x) = []
faults_in (Err faults) = faults

-- the value, where nothing was wrong with it
abbrev pub shaped_of : {A : Type 0} → List ShapeFault → A → ShapeReading A
shaped_of [] x = Ok x
shaped_of (fault ∷ faults) x = Err (fault ∷ faults)

abbrev pub HasFaults : List ShapeFault → Type 0
HasFaults [] = ⊥
HasFaults (fault ∷ faults) = ⊤

-- the error tells these faults, or that memory was wanting
abbrev pub IsToldBy : DeserError → List ShapeFault → Type 0
IsToldBy (Faults told) faults = (told ≡ faults) × HasFaults told
IsToldBy Memory faults = ⊤

-- The error tells the faults of a reading, of which there is one at least. Memory may end anywhere.
abbrev pub TellsFaults : {A : Type 0} → ShapeReading A → DeserError → Type 0
TellsFaults read (Faults faults) = (read ≡ Err faults) × HasFaults faults
TellsFaults read Memory = ⊤

-- the answer is the reading: its value, or its faults
abbrev pub AnswersShape : {A : Type 0} → ShapeReading A → Result A DeserError → Type 0
AnswersShape read (Ok x) = read ≡ Ok x
AnswersShape read (Err error) = TellsFaults read error

-- the same of an answer that is seen by `view`
abbrev pub GivesBy : {A B : Type 0} → (B → A) → ShapeReading A → Result B DeserError → Type 0
GivesBy view read (Ok x) = read ≡ Ok (view x)
GivesBy view read (Err error) = TellsFaults read error

-- a fact of each answer but want of memory
abbrev pub OnAnswer : {A : Type 0} → Result A DeserError → Type 0 → Type 0
OnAnswer (Ok x) P = P
OnAnswer (Err (Faults faults)) P = P
OnAnswer (Err Memory) P = ⊤

-- a fact of an answer that tells faults
abbrev pub OnFaults : {A : Type 0} → Result A DeserError → Type 0 → Type 0
OnFaults (Ok x) P = ⊤
OnFaults (Err (Faults faults)) P = P
OnFaults (Err Memory) P = ⊤
