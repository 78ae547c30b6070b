use Rattle.std.proofs.Common.{ℕ, List, sym, subst}
use Rattle.spdx_terms.specs.catalog.Catalog.{BeginsNone, IsLongestImprecise}
use Rattle.spdx_own_names.specs.IndexView.{meanings_listed}
use Rattle.spdx_own_names.specs.Ordered.{AreInOrder}
use Rattle.spdx_own_names.specs.declared.meanings.Meaning.{Meaning}
use Rattle.spdx_own_names.proofs.OrderLemmas.{longest_begins, none_begins, none_weaker, some_weaker}
use Rattle.spdx_own_names.proofs.ordered.OrderedMeanings.longest.Goals as goal

pub returns-clause-found : goal.returns-clause-found
returns-clause-found c =
    let order : AreInOrder (meanings_listed c.self.inside.listed) c.deref.result.now c.self.inside.longest =
    subst (λ (ordered : List Meaning). AreInOrder (meanings_listed c.self.inside.listed) ordered c.self.inside.longest) (sym c.deref.ensures.value) c.self.invariant in
    some_weaker c.longest_upto.result _ _
    (λ found is. subst (λ (listed : List (List ℕ × List ℕ)). IsLongestImprecise listed c.args.text.now found.len found.name.now) c.self.view_is
    (longest_begins c.args.text.now c.smaller-most.result order c.smaller-most.ensures.other c.smaller-most.ensures.all found.len found.name.now is.0 is.1)) c.longest_upto.ensures.found

pub returns-clause-none : goal.returns-clause-none
returns-clause-none c =
    let order : AreInOrder (meanings_listed c.self.inside.listed) c.deref.result.now c.self.inside.longest =
    subst (λ (ordered : List Meaning). AreInOrder (meanings_listed c.self.inside.listed) ordered c.self.inside.longest) (sym c.deref.ensures.value) c.self.invariant in
    none_weaker c.longest_upto.result _ _
    (λ nothing. subst (λ (listed : List (List ℕ × List ℕ)). BeginsNone listed c.args.text.now) c.self.view_is
    (none_begins c.args.text.now c.smaller-most.result order c.smaller-most.ensures.other c.smaller-most.ensures.all nothing)) c.longest_upto.ensures.none
