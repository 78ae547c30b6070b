use Rattle.std.proofs.Common.{◌≡◌, drop}
use Rattle.std.specs.List.{find}
use Rattle.std.specs.Str.{bytes_eq}
use Rattle.diag_core.proofs.code_table.code_named.Given as goal

-- the rows that are left decide
abbrev pub invariant-rows : goal.invariant-rows
invariant-rows g l = find (λ row. bytes_eq row.name.now l.name) (drop l.row-index l.rows) ≡ find (λ row. bytes_eq row.name.now l.name) l.rows
