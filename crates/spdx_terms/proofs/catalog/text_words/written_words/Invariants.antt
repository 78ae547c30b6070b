use Rattle.std.proofs.Common.{◌≡◌, ◌++◌, length, drop}
use Rattle.std.specs.Str.{str_to_ascii_lowercase}
use Rattle.std.specs.List.{flat_map, slice_split}
use Rattle.spdx_terms.specs.catalog.TextWords.{is_line_end, line_words, words_with_spaces, words_of}
use Rattle.spdx_terms.proofs.catalog.text_words.written_words.Given as goal

-- the words so far, and those of the lines that are left
abbrev pub invariant-lines : goal.invariant-lines
invariant-lines l = str_to_ascii_lowercase l.words.items ++ words_with_spaces (flat_map line_words (drop (length l.yielded) (slice_split is_line_end l.text))) ≡ words_with_spaces (words_of l.text)
