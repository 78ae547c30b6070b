use Rattle.std.proofs.Common.{◌∙◌, [], None, ap, length}
use Rattle.graph_core.specs.Krate.{record_of}
use Rattle.gather_core.specs.findings.Findings.{field_mark}
use Rattle.gather_core.specs.findings.Pieces.{listed}
use Rattle.gather_core.proofs.findings.GrowLemmas.{grows_one, grows_same}
use Rattle.gather_core.proofs.findings.MarkLemmas.{mark_fits}
use Rattle.gather_core.proofs.findings.outcome.find_without_location.Goals as goal

pub field_findings-requires : goal.field_findings-requires
field_findings-requires c =
    mark_fits (record_of c.args.case.now.krate.now) c.args.case.now.folder.now None (listed []) (length c.args.files.now) c.args.case.now.faults.now c.field-mark.result
    (c.field-mark.ensures.mark ∙ ap field_mark c.in_ok-marks.ensures.marks) c.field-mark.ensures.fits c.requires.faults

-- the files that were there are as they were
pub returns-in_err-marks-clause-grows : goal.returns-in_err-marks-clause-grows
returns-in_err-marks-clause-grows c = grows_same c.args.files.now c.synthesize.new.files c.in_err-marks.ensures.err

pub returns-in_err-findings-clause-grows : goal.returns-in_err-findings-clause-grows
returns-in_err-findings-clause-grows c = grows_one c.args.files.now c.synthesize.new.files _ c.in_ok-marks.ensures.files

pub returns-clause-grows : goal.returns-clause-grows
returns-clause-grows c = grows_one c.args.files.now c.synthesize.new.files _ c.in_ok-marks.ensures.files
