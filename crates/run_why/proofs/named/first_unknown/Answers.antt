-- One more word.
use Rattle.std.proofs.Common.{◌∙◌, ap, map, sym}
use Rattle.graph_core.specs.Krate.{record_of}
use Rattle.run_why.specs.Named.{unknown_or}
use Rattle.run_why.proofs.NamedLemmas.{words_more}
use Rattle.run_why.proofs.named.first_unknown.Goals as goal

pub words-preserved : goal.words-preserved
words-preserved c =
    let crates = map record_of c.args.crates.now in
    let words = c.args.words.now in
    c.in_ok-unknown.ensures
    ∙ ap (λ before. unknown_or before c.word-item.result crates) c.words.invariant
    ∙ words_more words c.words.word-index c.word-item.result crates c.words-test.true (sym c.word-item.is)
