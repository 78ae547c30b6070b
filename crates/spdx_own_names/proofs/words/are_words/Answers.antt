use Rattle.std.proofs.Common.{sym, rules}
use Rattle.spdx_terms.specs.catalog.Words.{is_space}
use Rattle.spdx_own_names.proofs.CutLemmas.{cut_is, uncut}
use Rattle.spdx_own_names.proofs.WordLemmas.{words_end, words_on}
use Rattle.spdx_own_names.proofs.words.are_words.Goals as goal

pub pieces-smaller : goal.pieces-smaller
pieces-smaller c = (cut_is is_space c.pieces.rest.now c.in-Some.word.now c.in-Some.behind.now (sym c.in-Some.ensures)).shorter

pub pieces-preserved : goal.pieces-preserved
pieces-preserved c = (
  search rules,
  words_on c.args.text.now c.pieces.rest.now c.in-Some.word.now c.in-Some.behind.now c.pieces.all c.and_word-all.result c.pieces.invariant.1
      (cut_is is_space c.pieces.rest.now c.in-Some.word.now c.in-Some.behind.now (sym c.in-Some.ensures)) c.and_word-all.ensures,
)

pub returns : goal.returns
returns c = words_end c.args.text.now c.pieces.rest.now c.pieces.all c.and_word.result c.pieces.invariant.1 (uncut is_space c.pieces.rest.now (sym c.in_default.ensures)) c.and_word.ensures
