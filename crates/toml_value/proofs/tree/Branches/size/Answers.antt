use Rattle.std.proofs.Common.{arith}
use Rattle.toml_value.proofs.LevelLemmas.{sized}
use Rattle.toml_value.proofs.tree.Branches.size.Goals as goal

pub returns : goal.returns
returns c =
    let table = c.args.self.now in
    let all = sized table c.requires in
    omega (arith, table.nodes.ok.0, c.len.ensures)
