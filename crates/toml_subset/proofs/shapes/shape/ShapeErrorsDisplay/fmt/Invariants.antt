use Rattle.std.proofs.Common.{[], ◌∷◌, ◌++◌, take}
use Rattle.std.specs.Fmt.{HasWritten, IsPlainFormatter}
use Rattle.std.specs.List.{flat_map}
use Rattle.toml_subset.specs.shapes.ShapeViews.{reason_of}
use Rattle.toml_subset.specs.shapes.Shapes.{reason_text}
use Rattle.toml_subset.proofs.shapes.shape.ShapeErrorsDisplay.fmt.Given as goal

-- a line for each fault so far
abbrev pub invariant-errors : goal.invariant-errors
invariant-errors g l =
    IsPlainFormatter l.initial.f → HasWritten g.W.Write.write_str_gives l.initial.f
    (flat_map (λ error. reason_text (reason_of error.kind) ++ 10 ∷ []) (take l.error-index l.error-items)) l.f
