use Rattle.std.proofs.Common.{◌≡◌, ◌++◌, length}
use Rattle.std.specs.Str.{str_to_ascii_lowercase}
use Rattle.spdx_terms.specs.catalog.TextWords.{lower_of, runs_of, words_with_spaces}
use Rattle.spdx_terms.proofs.catalog.text_words.push_line.Given as goal

-- the words so far, and those of what is left
abbrev pub invariant-left : goal.invariant-left
invariant-left l = str_to_ascii_lowercase l.words.items ++ words_with_spaces (lower_of (runs_of l.left)) ≡ str_to_ascii_lowercase l.initial.words.items ++ words_with_spaces (lower_of (runs_of l.line))

abbrev pub decreases-left : goal.decreases-left
decreases-left l = length l.left
