-- The paths so far are looked up.
use Rattle.std.proofs.Common.{◌≡◌, take}
use Rattle.std.specs.List.{fold}
use Rattle.gather_license.specs.files.Calls.{GoesBy}
use Rattle.gather_license.specs.files.Steps.{with_path}
use Rattle.gather_license.specs.files.View.{paths_read}
use Rattle.gather_license.proofs.files.pack.LicensePack.look_up_all.Given as goal

abbrev pub invariant-paths : goal.invariant-paths
invariant-paths g l = record {
  goes_by : GoesBy (g.T.Tree.content l.fn.tree) (g.T.Tree.content l.tree) (g.T.Tree.fault_count l.fn.tree) (g.T.Tree.fault_count l.tree) (g.T.Tree.trace l.fn.tree) (g.T.Tree.trace l.tree) l.fn.self l.pack;
  read : paths_read l.pack.reads ≡ fold with_path (paths_read l.fn.self.reads) (take l.path-index l.paths);
}
