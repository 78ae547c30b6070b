use Rattle.std.proofs.Common.{◌≡◌, ◌∙◌, ◌++◌, List, refl, sym, ap, subst}
use Rattle.std.specs.List.{All}
use Rattle.diag_core.specs.declared.label.Coord.{Coord}
use Rattle.diag_core.specs.declared.pack.Diag.{Diag}
use Rattle.graph_core.specs.Krate.{CrateRecord, record_of}
use Rattle.gather_core.specs.findings.Cuts.{LabelLies, labels_of}
use Rattle.gather_core.proofs.findings.GrowLemmas.{grows_itself}
use Rattle.gather_core.proofs.findings.LabelLemmas.{lie-append}
use Rattle.gather_core.specs.declared.summary.KrateLicense.{KrateLicense}
use Rattle.gather_core.specs.Premises.{Grows, InfoStands}
use Rattle.gather_core.specs.Turns.{files_left, missing_findings, points_for, label_texts_for}
use Rattle.gather_core.proofs.PlacedLemmas.{by_grown, places_grown}
use Rattle.gather_core.proofs.ToldLemmas.{info_stands, missing_labels}
use Rattle.gather_core.proofs.TurnLemmas.{found_turn, told_turn}
use Rattle.gather_core.proofs.tell.tell.Goals as goal

pub returns-clause-turn : goal.returns-clause-turn
returns-clause-turn c = λ turn krate_is faults_are is.
    let taken = c.args.taken in
    let faults = c.args.faults.now in
    let old = c.args.files.now in
    let points = c.in_ok-points.points in
    let license : KrateLicense = record { krate = c.args.krate; lic_info = c.told_by-told.result.info; notes = c.told_by-told.result.notes; diags = c.in_ok-diags.diags; reads = taken.reads; exceptions = taken.exceptions; kept = taken.kept } in
    told_turn turn license faults taken points old c.find_points.new.files faults_are is
    (c.in_ok-points.ensures.points ∙ ap (λ (krate : CrateRecord). points_for krate faults taken.location old taken.by) (sym krate_is))
    (c.in_ok-points.ensures.files ∙ ap (λ (krate : CrateRecord). files_left krate faults taken.location old taken.by) (sym krate_is))
    c.told_by-told.ensures.info
    c.told_by-told.ensures.notes
    (c.in_ok-diags.ensures
    ∙ ap (λ (front : List Diag). front ++ points.findings) c.in_ok-missing.ensures
    ∙ ap (λ (missing : List Coord). missing_findings missing ++ points.findings) c.items.ensures)
    refl refl refl

pub returns-clause-found : goal.returns-clause-found
returns-clause-found c = λ turn krate_is faults_are is.
    let taken = c.args.taken in
    let faults = c.args.faults.now in
    let old = c.args.files.now in
    found_turn turn faults taken c.in_ok-points.points old c.find_points.new.files faults_are is
    (c.in_ok-points.ensures.points ∙ ap (λ (krate : CrateRecord). points_for krate faults taken.location old taken.by) (sym krate_is))
    c.in_ok-points.ensures.inside
    (c.in_ok-points.ensures.cuts ∙ ap (λ (krate : CrateRecord). label_texts_for krate faults taken.location taken.by) (sym krate_is))

pub returns-clause-placed : goal.returns-clause-placed
returns-clause-placed c = λ missing_lie held_stands words.
    let taken = c.args.taken in
    let krate = record_of c.args.krate.now in
    let old = c.args.files.now in
    let new = c.find_points.new.files in
    let points = c.in_ok-points.points in
    let grows : Grows old new = c.find_points.ensures.grows in
    let diags_are : c.in_ok-diags.diags ≡ missing_findings taken.missing ++ points.findings =
    c.in_ok-diags.ensures
    ∙ ap (λ (front : List Diag). front ++ points.findings) c.in_ok-missing.ensures
    ∙ ap (λ (missing : List Coord). missing_findings missing ++ points.findings) c.items.ensures in
    record {
      labels =
          subst (λ (diags : List Diag). All (LabelLies new) (labels_of diags)) (sym diags_are)
          (lie-append new (missing_findings taken.missing) points.findings
          (missing_labels new taken.missing (places_grown old new taken.missing grows missing_lie)) c.in_ok-points.ensures.inside);
      expression =
          subst (InfoStands new) (sym c.told_by-told.ensures.info)
          (info_stands new krate taken.location points.expression taken.by (by_grown old new taken.by grows held_stands) words c.in_ok-points.ensures.expression
          c.told_by-told.ensures.fits);
    }

-- the table grows
pub returns-in_err-missing-clause-grows : goal.returns-in_err-missing-clause-grows
returns-in_err-missing-clause-grows c = grows_itself c.args.files.now
