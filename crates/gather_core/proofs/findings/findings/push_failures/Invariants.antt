use Rattle.std.proofs.Common.{◌≡◌, ◌++◌, map, take}
use Rattle.std.specs.List.{zip}
use Rattle.gather_core.specs.findings.Findings.{failure}
use Rattle.gather_core.specs.findings.Views.{lent_text}
use Rattle.gather_core.proofs.findings.findings.push_failures.Given as goal

abbrev pub invariant-words : goal.invariant-words
invariant-words l = l.diags ≡ l.fn.diags ++ map (failure l.file) (zip (map lent_text (take l.place l.words)) l.spans)
