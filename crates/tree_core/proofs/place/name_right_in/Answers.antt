use Rattle.std.proofs.Common.{◌≡◌, ◌<◌, ◌-◌, true, false, length, take, arith}
use Rattle.std.specs.Ordering.{is_eq}
use Rattle.std.proofs.lemmas.Grind.{common_steps}
use Rattle.tree_core.specs.Content.{names_cmp}
use Rattle.tree_core.proofs.PlaceLemmas.{right_in, not_right_in}
use Rattle.tree_core.proofs.place.name_right_in.Goals as goal

pub returns-then-is_eq-clause-some : goal.returns-then-is_eq-clause-some
returns-then-is_eq-clause-some c =
    let names = c.args.names.now in
    let some : 0 < length names = grind (arith, common_steps) in
    let ties : is_eq (names_cmp (take (length names - 1) names) c.args.folder.now) ≡ true = grind (arith, common_steps) in
    let h = right_in names c.args.folder.now c.index-names-last.result some ties in
    cc

pub returns-clause-none : goal.returns-clause-none
returns-clause-none c =
    let names = c.args.names.now in
    let differs : is_eq (names_cmp (take (length names - 1) names) c.args.folder.now) ≡ false = grind (arith, common_steps) in
    not_right_in names c.args.folder.now differs
