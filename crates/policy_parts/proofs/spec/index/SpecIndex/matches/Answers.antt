use Rattle.std.proofs.Common.{map, ap, ◌∙◌, ◌++◌, List, ℕ}
use Rattle.std.specs.List.{filter}
use Rattle.policy_parts.specs.spec.Index.{matches_at}
use Rattle.graph_core.specs.Krate.{record_of}
use Rattle.policy_parts.proofs.spec.IndexLemmas.{all_walked}
use Rattle.policy_parts.proofs.spec.index.SpecIndex.matches.Goals as goal

pub places-init : goal.places-init
places-init g c =
    ap (λ (found : List ℕ). found ++ filter (matches_at (map g.S.HasSpec.spec_of c.args.items.now) (record_of c.args.krate.now)) c.candidates-left.result) c.new-found.ensures ∙ all_walked (record_of c.args.krate.now) (map g.S.HasSpec.spec_of c.args.items.now) c.args.self.now c.candidates-left.result c.requires c.candidates-left.ensures
