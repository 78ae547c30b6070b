use Rattle.std.proofs.Common.{ap₂, sym, ◌∙◌}
use Rattle.deny_text.specs.Path.{path_order}
use Rattle.deny_text.proofs.PathLemmas.{order_from_slash}
use Rattle.deny_text.proofs.path.compare.Goals as goal

pub returns-in-Some : goal.returns-in-Some
returns-in-Some c =
    c.compare_components.ensures
    ∙ ap₂ path_order c.split_at.ensures.back c.split_at-in-Some.ensures.back
    ∙ sym (order_from_slash c.args.x.now c.args.y.now c.in-Some.place c.in-Some.ensures)
