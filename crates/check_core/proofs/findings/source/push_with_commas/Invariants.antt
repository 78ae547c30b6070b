-- Each text so far is behind the first.
use Rattle.std.proofs.Common.{◌≡◌, ◌++◌, string_bytes, take}
use Rattle.std.specs.List.{flat_map}
use Rattle.check_core.specs.findings.Sources.{behind_comma}
use Rattle.check_core.proofs.findings.source.push_with_commas.Given as goal

abbrev pub invariant-rest : goal.invariant-rest
invariant-rest l = string_bytes l.out ≡ string_bytes l.initial.out ++ flat_map behind_comma (take l.text-index l.rest)
