use Rattle.std.proofs.Common.{sym, ap, subst}
use Rattle.spdx_core.specs.Expressions.{AreNodesKept}
use Rattle.spdx_core.specs.Machine.{machine_of}
use Rattle.spdx_core.proofs.ExpressionLemmas.{Made, finished, kept, read_is}
use Rattle.spdx_core.proofs.expression.Expression.parse_mode.Goals as goal

pub invariant_of-result : goal.invariant_of-result
invariant_of-result g c =
    let lists = g.C.Catalog.lists c.args.catalog.now in
    let made : Made c.args.mode lists c.args.text.now c.finish.new.self.nodes.items c.finish.new.self.terms.items =
    finished c.args.mode lists c.args.text.now (machine_of c.in_ok-reader.reader) c.finish.new.self.nodes.items c.finish.new.self.terms.items c.in_ok-reader.ensures.fine c.in_ok-reader.ensures.machine
    c.in_ok-finish.ensures.nodes (ap (λ v. v.items) c.in_ok-finish.ensures.terms) in
    subst (λ terms. AreNodesKept c.in_ok-text.text terms c.finish.new.self.nodes.items) (sym c.shrink_to_fit.ensures.items)
    (subst (λ text. AreNodesKept text c.finish.new.self.terms.items c.finish.new.self.nodes.items) (sym c.in_ok-text.ensures)
    (kept c.args.mode lists c.args.text.now c.finish.new.self.nodes.items c.finish.new.self.terms.items (g.met.C.Catalog.lawful c.args.catalog.now) c.utf8.text made))

pub returns : goal.returns
returns g c =
    let lists = g.C.Catalog.lists c.args.catalog.now in
    let made : Made c.args.mode lists c.args.text.now c.finish.new.self.nodes.items c.finish.new.self.terms.items =
    finished c.args.mode lists c.args.text.now (machine_of c.in_ok-reader.reader) c.finish.new.self.nodes.items c.finish.new.self.terms.items c.in_ok-reader.ensures.fine c.in_ok-reader.ensures.machine
    c.in_ok-finish.ensures.nodes (ap (λ v. v.items) c.in_ok-finish.ensures.terms) in
    read_is c.args.mode lists c.args.text.now c.in_ok-text.text c.finish.new.self.nodes.items c.shrink_to_fit.new.self.items c.in_ok-text.ensures
    (subst (Made c.args.mode lists c.args.text.now c.finish.new.self.nodes.items) (sym c.shrink_to_fit.ensures.items) made)
