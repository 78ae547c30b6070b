use Rattle.std.proofs.Common.{◌∙◌, sym}
use Rattle.gather_core.proofs.findings.FieldLemmas.{fine_read}
use Rattle.gather_core.proofs.findings.field.read_both.Goals as goal

pub returns-in-None-clause-expression : goal.returns-in-None-clause-expression
returns-in-None-clause-expression g c =
    fine_read (g.C.Catalog.lists c.args.catalog.now) c.args.field.now c.in_ok-strict.strict.expression (sym c.is_empty.ensures ∙ c.if-is_empty.false)
    (sym c.in_ok-strict.ensures.fault ∙ c.in-None.is) c.in_ok-strict.ensures.expression
