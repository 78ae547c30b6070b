use Rattle.std.proofs.Common.{◌++◌, ◌∙◌, ap}
use Rattle.run_list_text.specs.Marks.{is_next}
use Rattle.run_list_text.proofs.MarkLemmas.{front_then, walk_end, walk_step}
use Rattle.run_list_text.proofs.table.push_marks.Goals as goal

pub columns-preserved : goal.columns-preserved
columns-preserved c = (
  walk_step c.args.columns.now c.columns.column-index c.column-item.result c.columns-test.true c.column-item.is
      c.columns.rest.now c.columns.out.items _ c.is_next-is_marked.result c.rest_if-rest.result.now (c.is_next-is_marked.ensures ∙ ap (λ column. is_next c.columns.rest.now column) c.as_str.ensures)
      (c.in_ok-push_text.ensures.ok ∙ ap (λ mark. c.columns.out.items ++ mark) c.mark_if.ensures) c.rest_if-rest.ensures _ c.columns.invariant.0,
  front_then c.args.out.now.items c.columns.out.items c.push_text.new.out.items c.columns.invariant.1 c.in_ok-push_text.ensures.front,
)

pub returns-clause-ok : goal.returns-clause-ok
returns-clause-ok c = walk_end c.args.columns.now c.args.licenses.now c.requires c.columns.column-index c.columns-test.false c.columns.rest.now _ _ c.columns.invariant.0
