use Rattle.std.specs.Io.KnownBytes.{Keeps}
use Rattle.tree_core.proofs.std_sink.write_some.Given as goal

-- what was interrupted wrote nothing
abbrev pub invariant-tries : goal.invariant-tries
invariant-tries g l = Keeps (g.W.Write.contents l.initial.writer) (g.W.Write.contents l.writer)
