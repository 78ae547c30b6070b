-- what was appended, and the columns that are left beside the licences that are left, are the whole; what was there
-- stays in front
use Rattle.std.proofs.Common.{◌≡◌, ◌++◌, drop}
use Rattle.deny_text.specs.Fronts.{StandsInFront}
use Rattle.run_list_text.specs.Marks.{column_marks}
use Rattle.run_list_text.proofs.table.push_marks.Given as goal

abbrev pub invariant-columns : goal.invariant-columns
invariant-columns l =
    (l.out.items ++ column_marks (drop l.column-index l.columns) l.rest ≡ l.fn.out.items ++ column_marks l.columns l.licenses) × StandsInFront l.fn.out.items l.out.items
