use Rattle.std.proofs.Common.{◌∙◌, ap}
use Rattle.std.specs.Str.{str_to_ascii_lowercase}
use Rattle.spdx_terms.specs.catalog.TextWords.{lower_of, words_with_spaces}
use Rattle.spdx_terms.proofs.catalog.LineLemmas.{grown, lower_more}
use Rattle.spdx_terms.proofs.catalog.text_words.push_line.Goals as goal

pub left-preserved : goal.left-preserved
left-preserved c =
    grown _ _ _ _ _ _ (ap str_to_ascii_lowercase c.in_ok-push_run.ensures ∙ lower_more c.left.words.items c.in-Some.run'.now)
    (ap (λ runs. words_with_spaces (lower_of runs)) c.in-Some.ensures.run) c.left.invariant
