use Rattle.std.proofs.Common.{refl}
use Rattle.check_core.specs.unused.Unused.{own_findings}
use Rattle.check_core.proofs.unused.UnusedLemmas.{if_hit, unless_hit}
use Rattle.check_core.proofs.unused.unused.push_exception.Goals as goal

pub returns-then-is_hit : goal.returns-then-is_hit
returns-then-is_hit c = if_hit c.args.pack.now (own_findings c.args.severity c.args.file) c.args.exception.now c.args.is_hit c.if-is_hit.true refl

pub returns : goal.returns
returns c =
    unless_hit c.args.pack.now c.push_own.new.pack (own_findings c.args.severity c.args.file) c.args.exception.now c.args.is_hit c.if-is_hit.false c.in_ok-push_own.ensures
