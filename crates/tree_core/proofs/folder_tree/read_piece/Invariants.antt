use Rattle.std.specs.Io.KnownBytes.{Keeps}
use Rattle.tree_core.proofs.folder_tree.read_piece.Given as goal

-- what was interrupted read nothing
abbrev pub invariant-tries : goal.invariant-tries
invariant-tries g l = Keeps (g.F.Read.remaining l.initial.file) (g.F.Read.remaining l.file)
