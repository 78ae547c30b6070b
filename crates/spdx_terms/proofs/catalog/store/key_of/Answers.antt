use Rattle.std.proofs.Common.{sym, subst}
use Rattle.std.specs.Prelude.{IsUtf8}
use Rattle.spdx_terms.proofs.catalog.SpelledLemmas.{words_text}
use Rattle.spdx_terms.proofs.catalog.store.key_of.Goals as goal

-- the words are a text
pub unreachable-requires : goal.unreachable-requires
unreachable-requires c =
    let is = c.in_ok-words.ensures in
    let never = c.in-Err.ensures.succeeds (subst IsUtf8 (sym is) (words_text c.args.text.now)) in absurd (cc)
