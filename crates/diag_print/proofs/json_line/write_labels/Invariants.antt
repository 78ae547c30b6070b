use Rattle.std.proofs.Common.{take}
use Rattle.diag_print.specs.Json.{label_data}
use Rattle.diag_print.specs.JsonTokens.{Adds}
use Rattle.diag_print.proofs.JsonLemmas.{each_tokens}
use Rattle.diag_print.proofs.json_line.write_labels.Given as goal

-- the labels so far were written
abbrev pub invariant-labels : goal.invariant-labels
invariant-labels l = Adds l.initial.out l.out (each_tokens (label_data l.files) (take l.label-index l.labels))
