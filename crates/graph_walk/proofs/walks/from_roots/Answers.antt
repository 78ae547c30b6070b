-- The roots are crates.
use Rattle.std.proofs.Common.{◌≡◌, ◌<◌, All, None, length, sym, ◌∙◌, ap, subst}
use Rattle.std.proofs.lemmas.List.{length-replicate}
use Rattle.graph_walk.specs.Search.{SearchView}
use Rattle.graph_walk.proofs.EndLemmas.{roots-within}
use Rattle.graph_walk.proofs.walks.from_roots.Goals as goal

pub put_all-requires-clause-within : goal.put_all-requires-clause-within
put_all-requires-clause-within c =
    let counted : length c.in_ok-search.search.best ≡ length c.args.standings.now =
    ap (λ (s : SearchView). length s.best) c.in_ok-search.ensures ∙ length-replicate (length c.args.standings.now) None in
    subst (λ n. All (λ place. place < n) c.deref.result.now) (sym counted)
    (subst (All (λ place. place < length c.args.standings.now)) (sym (c.deref.ensures.value ∙ c.in_ok-roots.ensures))
    (roots-within c.args.standings.now))
