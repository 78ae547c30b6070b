use Rattle.std.proofs.Common.{◌≡◌, ◌+◌, ◌-◌, take, drop, sym, ◌∙◌, subst, arith}
use Rattle.std.specs.Option.{SomeIff}
use Rattle.std.specs.Prelude.{IsTrue}
use Rattle.toml_subset.specs.Numbers.{count}
use Rattle.toml_subset.specs.Strings.{is_scalar}
use Rattle.toml_subset.proofs.Escapes.{scalar_found, scalar_missing}
use Rattle.toml_subset.proofs.strings.scalar_at.Goals as goal

pub returns-then-digits_at-digits : goal.returns-then-digits_at-digits
returns-then-digits_at-digits c =
    let s = drop c.args.place c.args.text.now in
    let size : c.args.place + c.args.digits - c.args.place ≡ c.args.digits = omega arith in
    let answer = subst (λ n. SomeIff c.scalar.result (IsTrue (is_scalar (count 16 (take n s)))) (count 16 (take n s))) size c.scalar.ensures in
    scalar_found c.args.digits s c.scalar.result (sym c.digits_at.ensures.found ∙ c.if-digits_at-digits.true) answer

pub returns-else-digits_at-digits : goal.returns-else-digits_at-digits
returns-else-digits_at-digits c =
    scalar_missing c.args.digits (drop c.args.place c.args.text.now) (λ e. c.if-digits_at-digits.false (c.digits_at.ensures.found ∙ e))
