use Rattle.std.proofs.Common.{take}
use Rattle.serde_json.specs.Data.{string}
use Rattle.diag_print.specs.JsonTokens.{Adds}
use Rattle.diag_print.proofs.JsonLemmas.{each_tokens}
use Rattle.diag_print.proofs.json_line.write_notes.Given as goal

-- the notes so far were written
abbrev pub invariant-notes : goal.invariant-notes
invariant-notes l = Adds l.initial.out l.out (each_tokens string (take l.note-index l.notes))
