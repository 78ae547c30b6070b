use Rattle.graph_walk.proofs.OneLemmas.{shortest-is-one}
use Rattle.graph_walk.proofs.walks.shortest_is_one.Goals as goal

pub returns : goal.returns
returns c = shortest-is-one
