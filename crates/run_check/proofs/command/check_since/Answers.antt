-- Each end of `check_since`: a refusal before what was found, findings that were not all printed, and the report.
use Rattle.std.proofs.Common.{Err, Ok, inl, sym, subst}
use Rattle.tree_core.specs.Faults.{Gained, GainedPrefix}
use Rattle.tree_core.specs.texts.Cause.{ReadCounts}
use Rattle.diag_print.specs.Findings.{HasReasonSince, PacksAreInside, printed_packs}
use Rattle.run_found.specs.Error.{cause_of}
use Rattle.run_found.specs.Hearing.{tree_seen}
use Rattle.run_found.specs.Written.{sink_seen}
use Rattle.run_command.specs.Given.{command_arguments_of}
use Rattle.run_check.specs.Given.{check_arguments_of, report_options}
use Rattle.run_check.specs.Report.{Reports}
use Rattle.run_check.specs.Script.{WritesCheck}
use Rattle.run_check.proofs.CarriedLemmas.{check_carried}
use Rattle.run_check.proofs.PlaceLemmas.{packs_inside}
use Rattle.run_check.proofs.ScriptLemmas.{found_refused, writes_behind}
use Rattle.run_check.proofs.StepLemmas.{print_counts}
use Rattle.run_check.proofs.command.check_since.Goals as goal

pub report_since-requires : goal.report_since-requires
report_since-requires g c = check_carried c.args.log_ctx c.args.args.now c.args.context.now c.requires

-- ---- what was written

-- the report is asked for by the options of `check` too

pub returns-in-Err-clause-written : goal.returns-in-Err-clause-written
returns-in-Err-clause-written g c =
    let tree = tree_seen (g.T.Tree.content c.args.tree.now) (g.T.Tree.content c.report_since.new.tree) (g.T.Tree.fault_count c.args.tree.now) (g.T.Tree.fault_count c.report_since.new.tree)
    (g.T.Tree.trace c.args.tree.now) (g.T.Tree.trace c.report_since.new.tree) in
    let err = sink_seen (g.S.Sink.written c.args.err.now) (g.S.Sink.written c.report_since.new.err) (g.S.Sink.fault_count c.args.err.now) (g.S.Sink.fault_count c.report_since.new.err) in
    inl (subst (λ part. Reports (command_arguments_of (g.C.Catalog.lists c.args.catalog.now) (g.I.Identifier.match_of c.args.identifier.now) c.args.log_ctx c.args.context.now
    (report_options c.args.args.now.lint_levels part)) tree err (Err c.in-Err.error)) (sym c.requires) c.in-Err.ensures.reports)

pub returns-in-Ok-print_packs-clause-written : goal.returns-in-Ok-print_packs-clause-written
returns-in-Ok-print_packs-clause-written g c =
    let given = check_arguments_of (g.C.Catalog.lists c.args.catalog.now) (g.I.Identifier.match_of c.args.identifier.now) c.args.log_ctx c.args.args.now c.args.context.now in
    let tree = tree_seen (g.T.Tree.content c.args.tree.now) (g.T.Tree.content c.report_since.new.tree) (g.T.Tree.fault_count c.args.tree.now) (g.T.Tree.fault_count c.report_since.new.tree)
    (g.T.Tree.trace c.args.tree.now) (g.T.Tree.trace c.report_since.new.tree) in
    let old = g.S.Sink.written c.args.err.now in
    let middle = g.S.Sink.written c.report_since.new.err in
    let new = g.S.Sink.written c.print_packs.new.sink in
    let before = g.S.Sink.fault_count c.args.err.now in
    let first = g.S.Sink.fault_count c.report_since.new.err in
    let report = c.in-Ok.report in
    let hears = subst (λ part. Reports (command_arguments_of (g.C.Catalog.lists c.args.catalog.now) (g.I.Identifier.match_of c.args.identifier.now) c.args.log_ctx c.args.context.now
    (report_options c.args.args.now.lint_levels part)) tree (sink_seen old middle before first) (Ok report)) (sym c.requires) c.in-Ok.ensures.reports in
    let found = subst (λ packs. Gained middle new (printed_packs c.args.log_ctx report.files packs)) c.items.ensures c.in-Ok-print_packs.ensures.ok in
    writes_behind given tree old middle before first report hears (printed_packs c.args.log_ctx report.files report.findings) new (g.S.Sink.fault_count c.print_packs.new.sink) found

pub returns-in-Err-print_packs-clause-written : goal.returns-in-Err-print_packs-clause-written
returns-in-Err-print_packs-clause-written g c =
    let given = check_arguments_of (g.C.Catalog.lists c.args.catalog.now) (g.I.Identifier.match_of c.args.identifier.now) c.args.log_ctx c.args.args.now c.args.context.now in
    let tree = tree_seen (g.T.Tree.content c.args.tree.now) (g.T.Tree.content c.report_since.new.tree) (g.T.Tree.fault_count c.args.tree.now) (g.T.Tree.fault_count c.report_since.new.tree)
    (g.T.Tree.trace c.args.tree.now) (g.T.Tree.trace c.report_since.new.tree) in
    let old = g.S.Sink.written c.args.err.now in
    let middle = g.S.Sink.written c.report_since.new.err in
    let new = g.S.Sink.written c.print_packs.new.sink in
    let before = g.S.Sink.fault_count c.args.err.now in
    let first = g.S.Sink.fault_count c.report_since.new.err in
    let after = g.S.Sink.fault_count c.print_packs.new.sink in
    let report = c.in-Ok.report in
    let refused = c.in-Err-print_packs.refused in
    let hears = subst (λ part. Reports (command_arguments_of (g.C.Catalog.lists c.args.catalog.now) (g.I.Identifier.match_of c.args.identifier.now) c.args.log_ctx c.args.context.now
    (report_options c.args.args.now.lint_levels part)) tree (sink_seen old middle before first) (Ok report)) (sym c.requires) c.in-Ok.ensures.reports in
    let front = subst (λ packs. GainedPrefix middle new (printed_packs c.args.log_ctx report.files packs)) c.items.ensures c.in-Err-print_packs.ensures.err in
    let reason = subst (λ begun. HasReasonSince begun after refused) c.faults-begun.ensures c.in-Err-print_packs.ensures.reason in
    subst (λ error. WritesCheck given tree (sink_seen old new before after) (Err error)) (sym c.from.ensures)
    (found_refused given tree old middle before first report hears new after refused front reason)

-- a finding that could not be printed comes of no read

pub returns-in-Err-print_packs-clause-counts : goal.returns-in-Err-print_packs-clause-counts
returns-in-Err-print_packs-clause-counts g c =
    let begun = g.T.Tree.fault_count c.args.tree.now in
    let after = g.T.Tree.fault_count c.report_since.new.tree in
    subst (λ error. ReadCounts begun begun after (cause_of error)) (sym c.from.ensures) (print_counts begun begun after c.in-Err-print_packs.refused)

-- each label of a finding lies in its file

pub print_packs-requires-clause-inside : goal.print_packs-requires-clause-inside
print_packs-requires-clause-inside g c =
    let report = c.in-Ok.report in
    subst (PacksAreInside report.files) (sym c.items.ensures) (packs_inside report.files report.findings c.in-Ok.ensures.labels)
