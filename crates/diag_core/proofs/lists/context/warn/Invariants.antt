-- What was reported so far, and what the pairs from here on tell, are all that is reported.
use Rattle.std.proofs.Common.{◌≡◌, ◌-◌, ◌++◌, List, drop}
use Rattle.diag_core.specs.declared.diagnostic.Diagnostic.{Diagnostic}
use Rattle.diag_core.specs.lists.Dedup.{warnings_of}
use Rattle.diag_core.proofs.lists.context.warn.Given as goal

abbrev pub invariant-pairs : goal.invariant-pairs
invariant-pairs g l =
    (told : List Diagnostic) × (l.diagnostics ≡ l.fn.diagnostics ++ told)
    × (told ++ warnings_of g.T.PartialEq.eq l.file (drop (l.place - 1) l.items) ≡ warnings_of g.T.PartialEq.eq l.file l.items)
