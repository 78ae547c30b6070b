use Rattle.std.proofs.Common.{◌≡◌, ◌+◌, refl, ap, sym, subst, ◌∙◌}
use Rattle.toml_subset.specs.Reading.{ValueFound, value_at}
use Rattle.toml_subset.proofs.frames.Turns.{scalar_turn}
use Rattle.toml_subset.specs.frames.Frames.{read, IsValueStep}
use Rattle.toml_subset.specs.frames.Scalars.{scalar_content}
use Rattle.toml_value.specs.StackViews.{value_found}
use Rattle.toml_value.proofs.values.scalar_turn.Goals as goal

pub returns-in-Ok : goal.returns-in-Ok
returns-in-Ok c =
    let text = c.args.text.now in
    let above = c.args.above in
    let i = c.args.place in
    let v : ValueFound = (c.in-Ok.span, scalar_content c.in-Ok.scalar, c.in-Ok.next) in
    let value = c.new.ensures in
    let seen : value_found (c.new.result, c.in-Ok.next) ≡ v =
    ap (λ x. (x.span, x.content, c.in-Ok.next)) value ∙ ap (λ content. (c.in-Ok.span, content, c.in-Ok.next)) c.inner_of.ensures in
    subst (λ found. IsValueStep text (i + 1) above (value_at text above i) (read found)) (sym seen)
    (scalar_turn text above i c.in-Ok.scalar v c.requires.shallow c.requires.scalar c.in-Ok.ensures refl)
