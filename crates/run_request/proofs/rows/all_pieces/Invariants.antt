use Rattle.std.proofs.Common.{◌≡◌, ◌++◌, drop, map}
use Rattle.std.specs.List.{flat_map, slice_split}
use Rattle.run_request.specs.Reading.{is_comma}
use Rattle.run_request.proofs.rows.all_pieces.Given as goal

-- the pieces so far, and those of the words that are left
abbrev pub invariant-words : goal.invariant-words
invariant-words l =
    l.texts ++ flat_map (slice_split is_comma) (map (λ word. word.now) (drop l.word-index l.words))
    ≡ flat_map (slice_split is_comma) (map (λ word. word.now) l.words)
