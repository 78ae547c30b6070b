use Rattle.std.proofs.Common.{◌≡◌, ◌++◌, take, map}
use Rattle.run_request.specs.Given.{texts}
use Rattle.run_request.proofs.words.push_words.Given as goal

abbrev pub invariant-words : goal.invariant-words
invariant-words l = map (λ word. word.now) l.kept.items ≡ map (λ word. word.now) l.initial.kept.items ++ texts (take l.word-index l.words)
