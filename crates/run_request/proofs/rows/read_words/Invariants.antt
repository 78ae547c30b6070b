use Rattle.std.proofs.Common.{◌≡◌, ◌++◌, drop, map, Ok}
use Rattle.run_request.specs.Reading.{and_then, words_read}
use Rattle.run_request.proofs.rows.read_words.Given as goal

-- the values so far, and those of the words that are left
abbrev pub invariant-words : goal.invariant-words
invariant-words g l =
    and_then (λ values. Ok (l.values ++ values)) (words_read g.T.FromWord.read l.option (map (λ word. word.now) (drop l.word-index l.words)))
    ≡ words_read g.T.FromWord.read l.option (map (λ word. word.now) l.words)
