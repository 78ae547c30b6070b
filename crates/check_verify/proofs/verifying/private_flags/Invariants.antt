use Rattle.std.proofs.Common.{take}
use Rattle.std.specs.List.{AllZip}
use Rattle.policy_core.specs.valid.View.{policy_of}
use Rattle.check_verify.specs.Verified.{IsFlagged}
use Rattle.check_verify.proofs.verifying.private_flags.Given as goal

abbrev pub invariant-crates : goal.invariant-crates
invariant-crates g l = AllZip (IsFlagged (policy_of l.policy)) (take l.license-index l.licenses) l.flags.items
