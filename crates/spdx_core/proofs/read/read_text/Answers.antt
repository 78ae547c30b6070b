use Rattle.std.proofs.Common.{sym, subst, []}
use Rattle.spdx_terms.specs.declared.item.WantedItem.TheVariants.{Term as wants_term}
use Rattle.spdx_core.specs.Machine.{machine_of}
use Rattle.spdx_core.proofs.ReadText.{ReadsOn, reads_whole}
use Rattle.spdx_core.proofs.read.read_text.Goals as goal

pub items-init : goal.items-init
items-init g c =
    let lists = g.C.Catalog.lists c.args.catalog.now in
    subst (λ opened. ReadsOn c.args.mode lists c.args.text.now 0 wants_term opened (machine_of c.new.result)) (sym c.new-2.ensures)
    (subst (λ m. ReadsOn c.args.mode lists c.args.text.now 0 wants_term [] m) (sym c.new.ensures) (reads_whole c.args.mode lists c.args.text.now c.utf8.text))
