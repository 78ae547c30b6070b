use Rattle.std.proofs.Common.{◌≡◌, ◌+◌, drop, false, sym, ◌∙◌, arith}
use Rattle.toml_subset.specs.Numbers.{is_digit_in}
use Rattle.toml_subset.specs.Places.{passes_at}
use Rattle.toml_subset.proofs.PlainRuns.{run_over, passes_is, prefix_take}
use Rattle.toml_subset.proofs.strings.digits_at.Goals as goal

pub returns-else-is_digit_in-clause-found : goal.returns-else-is_digit_in-clause-found
returns-else-is_digit_in-clause-found c =
    let text = c.args.text.now in
    let k = c.args.place + c.digits.found in
    let other : passes_at (is_digit_in 16) text k ≡ false =
    passes_is (is_digit_in 16) text k c.if-place-found.true ∙ sym c.is_digit_in.ensures ∙ c.if-is_digit_in.false in
    let none = run_over (is_digit_in 16) text k other in
    let most = prefix_take (is_digit_in 16) c.args.most (drop c.args.place text) in
    let so_far = c.digits.invariant.2 in
    omega arith

pub returns-after-digits-clause-found : goal.returns-after-digits-clause-found
returns-after-digits-clause-found c =
    let most = prefix_take (is_digit_in 16) c.args.most (drop c.args.place c.args.text.now) in
    let so_far = c.digits.invariant.2 in
    omega arith
