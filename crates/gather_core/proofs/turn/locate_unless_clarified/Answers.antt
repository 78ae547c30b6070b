use Rattle.std.proofs.Common.{◌≡◌, ◌∙◌, Bool, true, false, not, ◌&&◌, is_some, sym, ap, subst, rules}
use Rattle.std.specs.Option.{option_to_list}
use Rattle.std.specs.Prelude.{IfOk, OnErr}
use Rattle.graph_core.specs.Krate.{record_of}
use Rattle.gather_license.specs.Priority.{folder_of}
use Rattle.gather_core.proofs.findings.GrowLemmas.{grows_itself}
use Rattle.gather_core.specs.Calls.{IsByOwnReads, StarvesTaking}
use Rattle.gather_core.specs.Taken.{IsLocatedWhere, is_clarified}
use Rattle.gather_core.specs.Turns.{located_where}
use Rattle.gather_core.proofs.CallLemmas.{none_located}
use Rattle.gather_core.proofs.turn.locate_unless_clarified.Goals as goal

-- the manifest is not asked for
pub returns-then-is_clarified-clause-answered : goal.returns-then-is_clarified-clause-answered
returns-then-is_clarified-clause-answered g c =
    let krate = record_of c.args.krate.now in
    let on : c.is_clarified.result ≡ true = search rules in
    none_located _ _ _ (not (is_clarified c.args.by.now) && is_some krate.license) krate c.args.files.now (ap (λ b. not b && is_some krate.license) (sym c.is_clarified.ensures ∙ on))

pub returns-clause-answered : goal.returns-clause-answered
returns-clause-answered g c =
    let krate = record_of c.args.krate.now in
    let off : c.is_clarified.result ≡ false = search rules in
    subst (λ (asks : Bool). IfOk c.locate_field.result (λ located.
    IsByOwnReads (g.T.Tree.content c.args.tree.now) (g.T.Tree.content c.locate_field.new.tree) (g.T.Tree.fault_count c.args.tree.now) (g.T.Tree.fault_count c.locate_field.new.tree)
    (g.T.Tree.trace c.args.tree.now) (g.T.Tree.trace c.locate_field.new.tree) (folder_of krate) (option_to_list located.read)
    (λ known_reads manifest. IsLocatedWhere asks krate c.args.files.now manifest located c.locate_field.new.files)))
    (sym (ap (λ b. not b && is_some krate.license) (sym c.is_clarified.ensures ∙ off))) c.locate_field.ensures.answered

pub returns-clause-no_memory : goal.returns-clause-no_memory
returns-clause-no_memory g c =
    let krate = record_of c.args.krate.now in
    let off : c.is_clarified.result ≡ false = search rules in
    subst (λ (asks : Bool). OnErr c.locate_field.result
    (StarvesTaking (g.T.Tree.content c.args.tree.now) (g.T.Tree.content c.locate_field.new.tree) (g.T.Tree.fault_count c.args.tree.now) (g.T.Tree.fault_count c.locate_field.new.tree)
    (g.T.Tree.trace c.args.tree.now) (g.T.Tree.trace c.locate_field.new.tree) (folder_of krate)
    (λ known_reads manifest. option_to_list (located_where asks krate c.args.files.now manifest).read)))
    (sym (ap (λ b. not b && is_some krate.license) (sym c.is_clarified.ensures ∙ off))) c.locate_field.ensures.no_memory

pub returns-then-is_clarified-clause-grows : goal.returns-then-is_clarified-clause-grows
returns-then-is_clarified-clause-grows g c = grows_itself c.args.files.now
