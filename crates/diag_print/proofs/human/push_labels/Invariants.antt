use Rattle.std.proofs.Common.{◌≡◌, ◌++◌, string_bytes, take}
use Rattle.std.specs.List.{flat_map}
use Rattle.diag_print.specs.Human.{label_line}
use Rattle.diag_print.proofs.human.push_labels.Given as goal

-- a line was written for each label so far
abbrev pub invariant-labels : goal.invariant-labels
invariant-labels l = string_bytes l.out ≡ string_bytes l.initial.out ++ flat_map (label_line l.files) (take l.label-index l.labels)
