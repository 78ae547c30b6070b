-- Answers that are passed on.
use Rattle.std.proofs.Common.{◌≡◌, List, [], ◌∷◌, ◌++◌, Some, None, Ok, Err, Option, refl, ap, sym, ◌∙◌}
use Rattle.std.specs.Prelude.{IfOk}
use Rattle.std.specs.Result.{result_ok}
use Rattle.toml_subset.specs.shapes.Shaped.{ShapeReading, TellsFaults, AnswersShape, IsToldBy, HasFaults, shaped_map, shaped_then, faults_in}
use Rattle.toml_subset.specs.shapes.Shapes.{ShapeFault}
use Rattle.toml_subset.specs.declared.shapes.shape.DeserError.{DeserError}
use Rattle.toml_subset.specs.declared.shapes.shape.DeserError.TheVariants.{Faults, Memory}

-- faults that an error tells are those of a refused reading
pub tells : (A : Type 0) (faults : List ShapeFault) (error : DeserError) → IsToldBy error faults → TellsFaults {A = A} (Err faults) error
tells A faults (Faults told) h = (ap Err (sym h.0), h.1)
tells A faults Memory h = h

-- what refuses a reading refuses what is made of it
pub tells_map : {A B : Type 0} (f : A → B) (read : ShapeReading A) (error : DeserError) → TellsFaults read error → TellsFaults (shaped_map f read) error
tells_map f read (Faults told) h = (ap (shaped_map f) h.0, h.1)
tells_map f read Memory h = h

pub tells_then : {A B : Type 0} (f : A → ShapeReading B) (read : ShapeReading A) (error : DeserError) → TellsFaults read error → TellsFaults (shaped_then f read) error
tells_then f read (Faults told) h = (ap (shaped_then f) h.0, h.1)
tells_then f read Memory h = h

pub HasFaults-append : (before faults : List ShapeFault) → HasFaults faults → HasFaults (before ++ faults)
HasFaults-append [] faults h = h
HasFaults-append (fault ∷ before) faults h = tt

-- what is known of a reading that was refused
pub faults_in-refused : {A : Type 0} (read : ShapeReading A) (faults : List ShapeFault) → read ≡ Err faults → (result_ok read ≡ None) × (faults_in read ≡ faults)
faults_in-refused read faults e = (ap result_ok e, ap faults_in e)
