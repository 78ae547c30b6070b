use Rattle.std.proofs.Common.{◌∙◌, ap, Bool, List}
use Rattle.check_core.specs.unused.Flags.{flag_at, with_more}
use Rattle.check_core.specs.unused.Unused.{exception_findings, license_findings}
use Rattle.check_core.proofs.unused.UnusedLemmas.{both_told}
use Rattle.check_core.proofs.unused.unused.pack_of.Goals as goal

pub returns : goal.returns
returns g c =
    let policy = c.args.policy.now in
    let encountered = c.args.encountered.now in
    let first = c.push_unused_licenses.new.pack in
    both_told c.new-pack.result first c.push_unused_exceptions.new.pack (license_findings policy (flag_at encountered.allowed))
    (exception_findings policy (flag_at encountered.exceptions)) c.new-pack.ensures
    (c.in_ok-push_unused_licenses.ensures ∙ ap (λ (flags : List Bool). with_more c.new-pack.result (license_findings policy (flag_at flags))) c.allowed.ensures)
    (c.in_ok-push_unused_exceptions.ensures ∙ ap (λ (flags : List Bool). with_more first (exception_findings policy (flag_at flags))) c.exceptions.ensures)
