use Rattle.std.proofs.Common.{◌≡◌, take, map}
use Rattle.run_request.proofs.rows.copied.Given as goal

abbrev pub invariant-words : goal.invariant-words
invariant-words l = l.texts ≡ map (λ word. word.now) (take l.word-index l.words)
