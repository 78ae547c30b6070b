use Rattle.std.proofs.Common.{map, refl}
use Rattle.check_core.specs.unused.Unused.{unused_license}
use Rattle.check_core.proofs.unused.UnusedLemmas.{if_hit, pushed, unless_hit}
use Rattle.check_core.proofs.unused.unused.push_license.Goals as goal

pub returns-then-is_hit : goal.returns-then-is_hit
returns-then-is_hit c = if_hit c.args.pack.now (map (unused_license c.args.severity c.args.file)) c.args.licensee.now c.args.is_hit c.if-is_hit.true refl

pub returns : goal.returns
returns c =
    unless_hit c.args.pack.now c.push.new.self (map (unused_license c.args.severity c.args.file)) c.args.licensee.now c.args.is_hit c.if-is_hit.false
    (pushed c.args.pack.now c.push.new.self c.in_ok-told.told (unused_license c.args.severity c.args.file c.args.licensee.now) c.in_ok-push.ensures.ok c.in_ok-told.ensures)
