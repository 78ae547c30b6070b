use Rattle.std.proofs.Common.{◌≡◌, map, take}
use Rattle.graph_core.proofs.selection.exclude.refs_of.Given as goal

-- references to the specs so far
abbrev pub invariant-specs : goal.invariant-specs
invariant-specs l = map (λ spec. spec.now) l.refs.items ≡ take l.spec-index l.specs
