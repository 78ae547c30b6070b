-- The text is asked for.
use Rattle.std.proofs.Common.{subst, sym, Bool, Some}
use Rattle.refusal_help.specs.Again.{AsksWhere}
use Rattle.refusal_help.proofs.again.text_where.Goals as goal

pub returns-then-is_asked-clause-asked : goal.returns-then-is_asked-clause-asked
returns-then-is_asked-clause-asked g c =
    subst (λ (is : Bool). AsksWhere is (Some c.args.path.now) (g.T.Tree.trace c.args.tree.now) (g.T.Tree.trace c.text_again.new.tree)) (sym c.if-is_asked.true) c.text_again.ensures.asked
