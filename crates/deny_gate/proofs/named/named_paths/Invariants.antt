-- The paths of the words so far are there.
use Rattle.std.proofs.Common.{◌≡◌, take}
use Rattle.std.specs.List.{flat_map}
use Rattle.run_request.specs.Given.{texts}
use Rattle.deny_gate.specs.Named.{paths_in}
use Rattle.deny_gate.proofs.named.named_paths.Given as goal

abbrev pub invariant-words : goal.invariant-words
invariant-words l = l.named.items ≡ flat_map (paths_in l.folder) (texts (take l.word-index l.words))
