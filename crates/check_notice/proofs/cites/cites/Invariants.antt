-- all terms are cited as the rest of them, behind what is cited
use Rattle.std.proofs.Common.{◌≡◌, map, drop}
use Rattle.check_notice.specs.Sources.{finder_sources}
use Rattle.check_notice.specs.Steps.{cites_by, lent_term, nothing_cited}
use Rattle.check_notice.proofs.cites.cites.Given as goal

abbrev pub invariant-terms : goal.invariant-terms
invariant-terms g l =
    let by = finder_sources g.I.Identifier.match_of g.I.TextLookup.text_of l.finder in
    cites_by by l.own (nothing_cited l.fn.numbers) (map lent_term l.terms) ≡ cites_by by l.own l.cited (map lent_term (drop l.term-index l.terms))
