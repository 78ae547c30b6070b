use Rattle.std.proofs.Common.{◌∙◌, sym}
use Rattle.std.proofs.lemmas.List.Folds.{Any-from_list_any, list_any-from_Any}
use Rattle.deny_text.proofs.search.contains.Goals as goal

pub returns : goal.returns
returns g c = (
  λ found. Any-from_list_any (λ item. g.T.PartialEq.eq item c.args.query.now) c.args.s.now (sym c.contains.ensures.value ∙ found),
  λ some. c.contains.ensures.value ∙ list_any-from_Any (λ item. g.T.PartialEq.eq item c.args.query.now) c.args.s.now some,
)
