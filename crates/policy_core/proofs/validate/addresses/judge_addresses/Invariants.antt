-- the addresses that are kept so far, and what was reported
use Rattle.std.proofs.Common.{◌≡◌, ◌++◌, take}
use Rattle.policy_core.specs.validate.Valid.{address_judged, kept_by, findings_by_each}
use Rattle.policy_core.proofs.validate.addresses.judge_addresses.Given as goal

abbrev pub invariant-strings : goal.invariant-strings
invariant-strings l = record {
  kept : l.kept ≡ kept_by (address_judged l.file) (take l.string-index l.strings);
  told : l.found ≡ l.fn.found ++ findings_by_each (address_judged l.file) (take l.string-index l.strings);
}
