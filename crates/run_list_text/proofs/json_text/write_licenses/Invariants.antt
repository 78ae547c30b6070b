use Rattle.std.proofs.Common.{take}
use Rattle.diag_print.specs.JsonTokens.{Adds}
use Rattle.diag_print.proofs.JsonLemmas.{each_tokens}
use Rattle.run_list_text.specs.Grouped.{entry_data, entry_of}
use Rattle.run_list_text.proofs.json_text.write_licenses.Given as goal

-- the licences so far were written
abbrev pub invariant-groups : goal.invariant-groups
invariant-groups l = Adds l.initial.out l.out (each_tokens (λ group. entry_data (entry_of group)) (take l.group-index l.groups))
