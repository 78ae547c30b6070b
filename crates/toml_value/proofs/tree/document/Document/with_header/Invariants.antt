use Rattle.std.proofs.Common.{◌≡◌, ◌∷◌, length}
use Rattle.toml_subset.specs.frames.Levels.{into_header, into_parts}
use Rattle.toml_value.specs.LevelViews.{cursor_view, IsShallowCursor}
use Rattle.toml_value.proofs.tree.document.Document.with_header.Given as goal

-- what the parts that are left lead to, the whole header leads to
abbrev pub invariant-parts : goal.invariant-parts
invariant-parts l =
    (into_header l.fn.last l.fn.keys (cursor_view l.fn.self) ≡ into_parts l.fn.last (l.key ∷ l.parts) (cursor_view l.document))
    × IsShallowCursor (cursor_view l.document)

abbrev pub decreases-parts : goal.decreases-parts
decreases-parts l = length l.parts
