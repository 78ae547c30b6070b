-- the pieces so far are words, and those that are left
use Rattle.std.proofs.Common.{◌≡◌, ◌&&◌, length}
use denote.Text.{Utf8}
use denote.Shadow.{shadow}
use Rattle.std.specs.List.{list_all, slice_split}
use Rattle.spdx_terms.specs.catalog.Words.{is_space, is_word}
use Rattle.spdx_own_names.proofs.words.are_words.Given as goal

abbrev pub invariant-pieces : goal.invariant-pieces
invariant-pieces l = shadow (Utf8 l.rest) × (list_all is_word (slice_split is_space l.text) ≡ (l.all && list_all is_word (slice_split is_space l.rest)))

abbrev pub decreases-pieces : goal.decreases-pieces
decreases-pieces l = length l.rest
