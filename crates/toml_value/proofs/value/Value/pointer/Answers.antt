use Rattle.std.proofs.Common.{◌≡◌, ◌≢◌, length, None, sym, arith}
use Rattle.std.proofs.lemmas.Bool.Decides.{nat_tests}
use Rattle.std.proofs.lemmas.Str.Pattern.{strip_prefix_char}
use Rattle.toml_value.specs.Views.{value_view}
use Rattle.toml_value.proofs.Paths.{pointed_nowhere}
use Rattle.toml_value.proofs.value.Value.pointer.Goals as goal

pub returns-in_err-strip_prefix : goal.returns-in_err-strip_prefix
returns-in_err-strip_prefix c =
    let path = c.args.path.now in
    let gone : c.from_residual.result ≡ None = grind arith in
    let other = rw c.in_err-strip_prefix.was at (strip_prefix_char 47 path c.strip_prefix.result c.strip_prefix.ensures.cases (omega arith)) in
    let some : length path ≢ 0 = grind (arith, nat_tests) in
    rw gone (sym (pointed_nowhere path (value_view c.args.self.now) some other))
