use Rattle.std.proofs.Common.{◌≤◌, ◌<◌, vec_len}
use Rattle.std.specs.Io.KnownBytes.{Consumes}
use Rattle.tree_core.proofs.folder_tree.read_to_limit.Given as goal

-- the bytes so far are within the limit, and are those that the reader has lost; the next read asks for some
abbrev pub invariant-pieces : goal.invariant-pieces
invariant-pieces g l = (0 < vec_len l.piece) × (vec_len l.bytes ≤ l.limit) × Consumes (g.F.Read.remaining l.fn.file) (g.F.Read.remaining l.file) l.bytes.items
