use Rattle.std.proofs.Common.{sym}
use Rattle.spdx_terms.specs.catalog.Words.{is_space}
use Rattle.spdx_own_names.proofs.CutLemmas.{before_cut, before_uncut}
use Rattle.spdx_own_names.proofs.words.first_word.Goals as goal

pub returns-in-Some : goal.returns-in-Some
returns-in-Some c = sym (before_cut is_space c.args.text.now _ _ (sym c.in-Some.ensures))

pub returns-in-None : goal.returns-in-None
returns-in-None c = sym (before_uncut is_space c.args.text.now (sym c.in-None.ensures))
