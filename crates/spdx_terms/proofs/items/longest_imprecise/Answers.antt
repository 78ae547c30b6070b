use Rattle.spdx_terms.proofs.items.longest_imprecise.Goals as goal
use Rattle.spdx_terms.proofs.ImpreciseLemmas.{longest_is, within_text}

pub returns-clause-found : goal.returns-clause-found
returns-clause-found g c = longest_is (g.C.Catalog.lists c.args.catalog.now) (g.met.C.Catalog.lawful c.args.catalog.now) c.args.text.now c.imprecise.result c.imprecise.ensures.found c.imprecise.ensures.none

pub returns-clause-within : goal.returns-clause-within
returns-clause-within g c = within_text (g.C.Catalog.lists c.args.catalog.now) c.args.text.now c.imprecise.result c.imprecise.ensures.found
