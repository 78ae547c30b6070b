use Rattle.std.proofs.Common.{map, take}
use Rattle.std.specs.String.{string_bytes}
use Rattle.licence_hash.specs.Told.{AreLater, AreTold, sink_faults}
use Rattle.licence_hash.proofs.told.tell_all.Given as goal

abbrev pub invariant-paths : goal.invariant-paths
invariant-paths g l = record {
  told : AreTold (map (λ path. string_bytes path) (take l.path-index l.paths)) (g.T.Tree.trace l.fn.tree) (g.T.Tree.trace l.tree)
      (record { out = g.O.Sink.written l.fn.out; err = g.E.Sink.written l.fn.err })
      (record { out = g.O.Sink.written l.out; err = g.E.Sink.written l.err }) l.all;
  later : AreLater (sink_faults g.O.Sink.fault_count g.E.Sink.fault_count l.fn.out l.fn.err l.out l.err);
}
