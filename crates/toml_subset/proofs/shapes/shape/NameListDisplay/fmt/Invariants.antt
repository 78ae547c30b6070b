use Rattle.std.proofs.Common.{◌++◌, codes, take}
use Rattle.std.specs.Fmt.{HasWritten, IsPlainFormatter}
use Rattle.std.specs.List.{flat_map}
use Rattle.toml_subset.proofs.shapes.shape.NameListDisplay.fmt.Given as goal

-- each name behind a comma
abbrev pub invariant-others : goal.invariant-others
invariant-others g l =
    IsPlainFormatter l.initial.f → HasWritten g.W.Write.write_str_gives l.initial.f (flat_map (λ name. codes ", " ++ name) (take l.name-index l.others)) l.f
