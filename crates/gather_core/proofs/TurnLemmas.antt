-- What is reported of a crate at its turn.
use Rattle.std.proofs.Common.{◌≡◌, ◌∙◌, List, ◌++◌, map, Option, sym, ap, subst}
use Rattle.std.specs.List.{All}
use Rattle.std.specs.Prelude.{unwrap_or}
use Rattle.spdx_terms.specs.declared.error.ParseError.{ParseError}
use Rattle.diag_core.specs.declared.label.Coord.{Coord}
use Rattle.diag_core.specs.File.{File}
use Rattle.gather_license.specs.declared.settling.LicenseBasis.{LicenseBasis}
use Rattle.gather_license.specs.Priority.{answer_in}
use Rattle.gather_license.specs.Settled.{missing_of}
use Rattle.gather_core.specs.declared.findings.outcome.PlacedFindings.{PlacedFindings}
use Rattle.gather_core.specs.findings.Cuts.{LabelLies, labels_of, text_under}
use Rattle.gather_core.specs.declared.summary.KrateLicense.{KrateLicense}
use Rattle.gather_core.specs.declared.turn.TakenLicense.{TakenLicense}
use Rattle.gather_core.specs.Taken.{IsTaken}
use Rattle.gather_core.specs.Told.{info_by, notes_of, no_place}
use Rattle.gather_core.specs.Turns.{IsCutOut, IsTurn, TurnInput, faults_in, files_left, files_located, located_in, missing_findings, points_for, points_in, label_texts_for}

pub points_are : (turn : TurnInput) (faults : List ParseError) (taken : TakenLicense) (points : PlacedFindings) (old : List File) → faults ≡ faults_in turn.scanner turn.krate → IsTaken turn taken old
    → points ≡ points_for turn.krate faults taken.location old taken.by → points ≡ points_in turn
points_are turn faults taken points old faults_are is found =
    found
    ∙ ap (λ (faults : List ParseError). points_for turn.krate faults taken.location old taken.by) faults_are
    ∙ ap (λ (at : Option Coord). points_for turn.krate (faults_in turn.scanner turn.krate) at old taken.by) is.location
    ∙ ap (λ (files : List File). points_for turn.krate (faults_in turn.scanner turn.krate) (located_in turn).location files taken.by) is.table
    ∙ ap (λ (by : LicenseBasis). points_for turn.krate (faults_in turn.scanner turn.krate) (located_in turn).location (files_located turn) by) is.by

-- the labels of what is found cut out what they say
pub found_turn : (turn : TurnInput) (faults : List ParseError) (taken : TakenLicense) (points : PlacedFindings) (old new : List File) → faults ≡ faults_in turn.scanner turn.krate → IsTaken turn taken old
    → points ≡ points_for turn.krate faults taken.location old taken.by → All (LabelLies new) (labels_of points.findings)
    → map (text_under new) (labels_of points.findings) ≡ label_texts_for turn.krate faults taken.location taken.by → IsCutOut new turn
found_turn turn faults taken points old new faults_are is found lie cuts =
    let all_points = points_are turn faults taken points old faults_are is found in
    record {
      lie = subst (λ (points : PlacedFindings). All (LabelLies new) (labels_of points.findings)) all_points lie;
      cuts =
          ap (λ (points : PlacedFindings). map (text_under new) (labels_of points.findings)) (sym all_points) ∙ cuts
          ∙ ap (λ (faults : List ParseError). label_texts_for turn.krate faults taken.location taken.by) faults_are
          ∙ ap (λ (at : Option Coord). label_texts_for turn.krate (faults_in turn.scanner turn.krate) at taken.by) is.location
          ∙ ap (λ (by : LicenseBasis). label_texts_for turn.krate (faults_in turn.scanner turn.krate) (located_in turn).location by) is.by;
    }

pub told_turn : (turn : TurnInput) (license : KrateLicense) (faults : List ParseError) (taken : TakenLicense) (points : PlacedFindings) (old new : List File)
    → faults ≡ faults_in turn.scanner turn.krate → IsTaken turn taken old
    → points ≡ points_for turn.krate faults taken.location old taken.by → new ≡ files_left turn.krate faults taken.location old taken.by
    → license.lic_info ≡ info_by taken.location (unwrap_or points.expression no_place) taken.by → license.notes ≡ notes_of (answer_in taken.by)
    → license.diags ≡ missing_findings taken.missing ++ points.findings → license.exceptions ≡ taken.exceptions → license.reads ≡ taken.reads
    → license.kept ≡ taken.kept → IsTurn turn license new
told_turn turn license faults taken points old new faults_are is found files_are info notes diags exceptions reads kept =
    let all_points : points ≡ points_in turn = points_are turn faults taken points old faults_are is found in
    record {
      info =
          info
          ∙ ap (λ (at : Option Coord). info_by at (unwrap_or points.expression no_place) taken.by) is.location
          ∙ ap (λ (points : PlacedFindings). info_by (located_in turn).location (unwrap_or points.expression no_place) taken.by) all_points
          ∙ ap (λ (by : LicenseBasis). info_by (located_in turn).location (unwrap_or (points_in turn).expression no_place) by) is.by;
      noted = notes ∙ ap (λ (by : LicenseBasis). notes_of (answer_in by)) is.by;
      found =
          diags
          ∙ ap (λ (missing : List Coord). missing_findings missing ++ points.findings) is.missing
          ∙ ap (λ (points : PlacedFindings). missing_findings (missing_of turn.known_reads turn.clarifications) ++ points.findings) all_points;
      counted = exceptions ∙ is.counted;
      read = reads ∙ is.reads;
      kept = kept ∙ is.kept;
      table =
          files_are
          ∙ ap (λ (faults : List ParseError). files_left turn.krate faults taken.location old taken.by) faults_are
          ∙ ap (λ (at : Option Coord). files_left turn.krate (faults_in turn.scanner turn.krate) at old taken.by) is.location
          ∙ ap (λ (files : List File). files_left turn.krate (faults_in turn.scanner turn.krate) (located_in turn).location files taken.by) is.table
          ∙ ap (λ (by : LicenseBasis). files_left turn.krate (faults_in turn.scanner turn.krate) (located_in turn).location (files_located turn) by) is.by;
    }
