-- Labels.
use Rattle.std.specs.Prelude.{ℕ, List}
use Rattle.std.specs.Global.{Global}
use Rattle.deny_text.specs.declared.span.Span.{Span}
use Rattle.diag_core.specs.declared.label.Label.{Label}
use Rattle.diag_core.specs.declared.label.LabelStyle.{LabelStyle}

-- the heap that a value takes memory from; there is one, so it tells nothing
abbrev pub heap : Global
heap = record { memory = record { seal = tt } }

-- the label with this style, at these bytes of the file, with this text
abbrev pub label_at : LabelStyle → ℕ → Span → List ℕ → Label
label_at style file span message =
    record { style = style; file_id = file; range = span; message = message; alloc = heap }
