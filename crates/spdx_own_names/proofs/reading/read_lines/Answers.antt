use Rattle.std.proofs.Common.{◌<◌, length, sym, ◌∙◌, eqb-true, arith, rules}
use Rattle.std.proofs.lemmas.Bool.Decides.{nat_tests}
use Rattle.spdx_terms.specs.catalog.TextWords.{is_line_end}
use Rattle.spdx_own_names.specs.ListsView.{lists_view}
use Rattle.spdx_own_names.proofs.CutLemmas.{cut_is, uncut}
use Rattle.spdx_own_names.proofs.ReadLemmas.{read_none, read_on, read_told, read_ended, read_unended}
use Rattle.spdx_own_names.proofs.reading.read_lines.Goals as goal

pub lines-init : goal.lines-init
lines-init c = (search rules, read_none c.args.names.now c.args.text.now (lists_view c.new-lists.result) c.new-lists.ensures)

pub lines-smaller : goal.lines-smaller
lines-smaller c = (cut_is is_line_end c.lines.rest.now c.in-Some.line.now c.in-Some.behind.now (sym c.in-Some.ensures)).shorter

pub lines-preserved : goal.lines-preserved
lines-preserved c = (
  search rules,
  read_on c.in-Some.line.now c.in-Some.behind.now c.lines.invariant.1 (cut_is is_line_end c.lines.rest.now c.in-Some.line.now c.in-Some.behind.now (sym c.in-Some.ensures)) (lists_view c.in-Ok.further)
      c.in-Ok.ensures.ok.0 c.in-Ok.ensures.ok.1,
)

pub returns-in-Err-clause-err : goal.returns-in-Err-clause-err
returns-in-Err-clause-err c =
    read_told c.in-Some.line.now c.in-Some.behind.now c.lines.invariant.1 (cut_is is_line_end c.lines.rest.now c.in-Some.line.now c.in-Some.behind.now (sym c.in-Some.ensures)) c.in-Err.error c.in-Err.ensures.err

pub returns-then-is_empty-clause-ok : goal.returns-then-is_empty-clause-ok
returns-then-is_empty-clause-ok c =
    read_ended c.lines.invariant.1 (uncut is_line_end c.lines.rest.now (sym c.in_default.ensures)) (eqb-true (length c.lines.rest.now) 0 (sym c.is_empty.ensures ∙ c.if-is_empty.true))

pub returns-else-is_empty-clause-err : goal.returns-else-is_empty-clause-err
returns-else-is_empty-clause-err c =
    let some : 0 < length c.lines.rest.now = grind (arith, nat_tests) in
    read_unended c.lines.invariant.1 (uncut is_line_end c.lines.rest.now (sym c.in_default.ensures)) some
