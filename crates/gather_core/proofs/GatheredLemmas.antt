-- Licences of crates, one after another.
use Rattle.std.proofs.Common.{◌≡◌, ◌∙◌, Bool, true, false, List, [], ◌∷◌, ◌++◌, map, Option, None, Some, refl, ap}
use Rattle.std.specs.Prelude.{unwrap_or}
use Rattle.diag_core.specs.declared.label.Coord.{Coord}
use Rattle.diag_core.specs.File.{File}
use Rattle.gather_license.specs.declared.settling.LicenseBasis.{LicenseBasis}
use Rattle.gather_license.specs.declared.settling.LicenseBasis.TheVariants.{Clarified, Field, Files}
use Rattle.gather_license.specs.Priority.{ExpressionSource, answer_in, answer_without_notes, override_source, priority_of}
use Rattle.gather_core.specs.declared.findings.license.LicenseInfo.{LicenseInfo}
use Rattle.gather_core.specs.declared.summary.KrateLicense.{KrateLicense}
use Rattle.gather_core.specs.Told.{answer_view, clarified_source, info_by, notes_of, no_place, source_view}
use Rattle.gather_core.specs.Turns.{IsTurn, TurnInput, info_in, located_in, points_in, basis_in}

-- ---- what is reported has priority

source_told : (overlay : Bool) → source_view (clarified_source overlay) ≡ override_source overlay
source_told true = refl
source_told false = refl

told_answer : (location : Option Coord) (place : Coord) (by : LicenseBasis) → answer_view (info_by location place by) (notes_of (answer_in by)) ≡ answer_in by
told_answer location place (Clarified held) = ap (λ (source : ExpressionSource). Some (answer_without_notes source held.expression)) (source_told held.overlay)
told_answer location place (Field expression) = refl
told_answer location place (Files seen None) = refl
told_answer location place (Files seen (Some joined)) = refl

pub priority_turn : (turn : TurnInput) (license : KrateLicense) (files : List File) → IsTurn turn license files
    → answer_view license.lic_info license.notes ≡ priority_of turn.scanner turn.clarifications turn.krate turn.known_reads
priority_turn turn license files is =
    ap (λ (info : LicenseInfo). answer_view info license.notes) is.info
    ∙ ap (answer_view (info_in turn)) is.noted
    ∙ told_answer (located_in turn).location (unwrap_or (points_in turn).expression no_place) (basis_in turn)

pub map_push : {A B : Type 0} (f : A → B) (xs : List A) (x : A) → map f (xs ++ x ∷ []) ≡ map f xs ++ f x ∷ []
map_push f [] x = refl
map_push f (y ∷ xs) x = ap (λ rest. f y ∷ rest) (map_push f xs x)
