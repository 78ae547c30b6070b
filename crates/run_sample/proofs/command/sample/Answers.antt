-- Each end of `sample`: a refusal of the check, lines that were not all written, and the report.
use Rattle.std.proofs.Common.{subst}
use Rattle.tree_core.specs.Faults.{Gained}
use Rattle.run_found.specs.Error.{cause_of}
use Rattle.run_sample.specs.Lines.{sample_lines}
use Rattle.run_sample.specs.Sample.{LinesCut}
use Rattle.run_sample.proofs.SampleLemmas.{cut_by, cut_ends, cut_unfailed, nothing_by}
use Rattle.run_sample.proofs.command.sample.Goals as goal

pub returns-in-Err-clause-written : goal.returns-in-Err-clause-written
returns-in-Err-clause-written g c =
    nothing_by c.args.count (g.C.Catalog.lists c.args.catalog.now) (g.I.Identifier.match_of c.args.identifier.now) (g.O.Sink.written c.args.out.now) (g.O.Sink.fault_count c.args.out.now)
    (cause_of c.in-Err.refused) c.in-Err.ensures.unwritten

pub returns-in-Err-clause-complete : goal.returns-in-Err-clause-complete
returns-in-Err-clause-complete g c = c.in-Err.ensures.complete

pub returns-in-Err-write_lines-clause-written : goal.returns-in-Err-write_lines-clause-written
returns-in-Err-write_lines-clause-written g c =
    let old = g.O.Sink.written c.args.out.now in
    let new = g.O.Sink.written c.write_lines.new.out in
    let before = g.O.Sink.fault_count c.args.out.now in
    let after = g.O.Sink.fault_count c.write_lines.new.out in
    let cause = cause_of c.in-Err-write_lines.refused in
    cut_by c.args.count (g.C.Catalog.lists c.args.catalog.now) (g.I.Identifier.match_of c.args.identifier.now) c.in-Ok.report old new before after cause c.in-Ok.ensures.sampled
    (subst (λ crates. LinesCut crates old new before after cause) c.items.ensures c.in-Err-write_lines.ensures.err)

pub returns-in-Err-write_lines-clause-unfailed : goal.returns-in-Err-write_lines-clause-unfailed
returns-in-Err-write_lines-clause-unfailed g c =
    let old = g.O.Sink.written c.args.out.now in
    let new = g.O.Sink.written c.write_lines.new.out in
    let before = g.O.Sink.fault_count c.args.out.now in
    let after = g.O.Sink.fault_count c.write_lines.new.out in
    let cause = cause_of c.in-Err-write_lines.refused in
    cut_unfailed c.in-Ok.report old new before after cause (subst (λ crates. LinesCut crates old new before after cause) c.items.ensures c.in-Err-write_lines.ensures.err)

pub returns-in-Err-write_lines-clause-complete : goal.returns-in-Err-write_lines-clause-complete
returns-in-Err-write_lines-clause-complete g c hearing asked heard asks =
    let old = g.O.Sink.written c.args.out.now in
    let new = g.O.Sink.written c.write_lines.new.out in
    let before = g.O.Sink.fault_count c.args.out.now in
    let after = g.O.Sink.fault_count c.write_lines.new.out in
    let cause = cause_of c.in-Err-write_lines.refused in
    cut_ends c.in-Ok.report old new before after cause (subst (λ crates. LinesCut crates old new before after cause) c.items.ensures c.in-Err-write_lines.ensures.err)

pub returns-in-Ok-write_lines-clause-written : goal.returns-in-Ok-write_lines-clause-written
returns-in-Ok-write_lines-clause-written g c =
    subst (λ crates. Gained (g.O.Sink.written c.args.out.now) (g.O.Sink.written c.write_lines.new.out) (sample_lines crates)) c.items.ensures c.in-Ok-write_lines.ensures.ok

pub returns-in-Err-clause-built_in : goal.returns-in-Err-clause-built_in
returns-in-Err-clause-built_in g c = c.in-Err.ensures.built_in

pub returns-in-Err-write_lines-clause-built_in : goal.returns-in-Err-write_lines-clause-built_in
returns-in-Err-write_lines-clause-built_in g c some built_in =
    let old = g.O.Sink.written c.args.out.now in
    let new = g.O.Sink.written c.write_lines.new.out in
    let before = g.O.Sink.fault_count c.args.out.now in
    let after = g.O.Sink.fault_count c.write_lines.new.out in
    let cause = cause_of c.in-Err-write_lines.refused in
    cut_ends c.in-Ok.report old new before after cause (subst (λ crates. LinesCut crates old new before after cause) c.items.ensures c.in-Err-write_lines.ensures.err)
