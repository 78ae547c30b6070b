use Rattle.std.proofs.Common.{◌+◌, ◌≤◌, subst, sym}
use Rattle.toml_subset.specs.Data.{depth_limit}
use Rattle.toml_subset.specs.Reading.{value_at}
use Rattle.toml_value.specs.StackViews.{TakesTurn}
use Rattle.toml_value.proofs.values.deeper.Goals as goal

pub first_turn-requires-clause-shallow : goal.first_turn-requires-clause-shallow
first_turn-requires-clause-shallow c = subst (λ n. n ≤ depth_limit) (sym c.inside-above.ensures) c.requires.room

pub returns-clause-turn : goal.returns-clause-turn
returns-clause-turn c =
    subst (λ n. TakesTurn c.args.text.now (c.args.place + 1) n (value_at c.args.text.now n c.args.place) c.first_turn.result) c.inside-above.ensures c.first_turn.ensures
