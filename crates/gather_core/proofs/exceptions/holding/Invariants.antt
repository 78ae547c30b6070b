-- The places so far: those that hold, and what was looked at.
use Rattle.std.proofs.Common.{◌≡◌, take}
use Rattle.std.specs.List.{fold}
use Rattle.gather_license.specs.files.Calls.{GoesBy}
use Rattle.gather_license.specs.files.KnownReads.{FolderReads}
use Rattle.gather_license.specs.files.Steps.{Agrees, with_path}
use Rattle.gather_license.specs.files.View.{paths_read}
use Rattle.gather_core.specs.Exceptions.{holding_at, looked_at}
use Rattle.gather_core.proofs.exceptions.holding.Given as goal

abbrev pub invariant-places : goal.invariant-places
invariant-places g l =
    let so_far = take l.place-index l.places in
    record {
      goes_by : GoesBy (g.T.Tree.content l.fn.tree) (g.T.Tree.content l.tree) (g.T.Tree.fault_count l.fn.tree) (g.T.Tree.fault_count l.tree) (g.T.Tree.trace l.fn.tree) (g.T.Tree.trace l.tree) l.fn.pack l.pack;
      held : (known_reads : FolderReads) → Agrees known_reads l.pack → l.counted ≡ holding_at known_reads l.entries so_far;
      looked : (known_reads : FolderReads) → Agrees known_reads l.pack → paths_read l.pack.reads ≡ fold with_path (paths_read l.fn.pack.reads) (looked_at known_reads l.entries so_far);
    }
