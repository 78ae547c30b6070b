use Rattle.std.proofs.Common.{◌∙◌, ap, length, option_copied}
use Rattle.graph_core.specs.Krate.{record_of}
use Rattle.gather_core.specs.findings.Findings.{MarksView, field_mark, field_place}
use Rattle.gather_core.specs.findings.Views.{seen_view}
use Rattle.gather_core.proofs.findings.GrowLemmas.{grows_one, grows_same}
use Rattle.gather_core.proofs.findings.MarkLemmas.{place_fits}
use Rattle.gather_core.proofs.findings.outcome.find_by_files.Goals as goal

pub field_findings-requires : goal.field_findings-requires
field_findings-requires c =
    let case = c.args.case.now in
    place_fits (record_of case.krate.now) case.folder.now (option_copied c.args.joined) (seen_view c.args.seen) c.args.files.now (length c.args.files.now)
    case.faults.now case.location c.field_place-place.result
    (c.field_place-place.ensures.place ∙ ap (λ (marks : MarksView). field_place case.location (field_mark marks)) c.in_ok-marks.ensures.marks)
    c.field_place-place.ensures.fits c.requires.located c.requires.faults

-- the files that were there are as they were
pub returns-in_err-marks-clause-grows : goal.returns-in_err-marks-clause-grows
returns-in_err-marks-clause-grows c = grows_same c.args.files.now c.synthesize.new.files c.in_err-marks.ensures.err

pub returns-in_err-findings-clause-grows : goal.returns-in_err-findings-clause-grows
returns-in_err-findings-clause-grows c = grows_one c.args.files.now c.synthesize.new.files _ c.in_ok-marks.ensures.files

pub returns-in_err-expression-clause-grows : goal.returns-in_err-expression-clause-grows
returns-in_err-expression-clause-grows c = grows_one c.args.files.now c.synthesize.new.files _ c.in_ok-marks.ensures.files

pub returns-clause-grows : goal.returns-clause-grows
returns-clause-grows c = grows_one c.args.files.now c.synthesize.new.files _ c.in_ok-marks.ensures.files
