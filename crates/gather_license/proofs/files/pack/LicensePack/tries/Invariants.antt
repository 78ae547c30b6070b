-- The whole clarification holds, and is looked up, as the rest of it after what was looked up.
use Rattle.std.proofs.Common.{◌≡◌, map, drop}
use Rattle.std.specs.List.{fold}
use Rattle.gather_license.specs.files.Calls.{GoesBy}
use Rattle.gather_license.specs.files.KnownReads.{FolderReads, holds, looked_of, missing_from}
use Rattle.gather_license.specs.files.Steps.{Agrees, with_path}
use Rattle.gather_license.specs.files.View.{paths_read}
use Rattle.gather_license.proofs.files.pack.LicensePack.tries.Given as goal

abbrev pub invariant-files : goal.invariant-files
invariant-files g l =
    let named = map g.F.NamedFile.named l.files in
    let rest = map g.F.NamedFile.named (drop l.place l.files) in
    record {
      goes_by : GoesBy (g.T.Tree.content l.fn.tree) (g.T.Tree.content l.tree) (g.T.Tree.fault_count l.fn.tree) (g.T.Tree.fault_count l.tree) (g.T.Tree.trace l.fn.tree) (g.T.Tree.trace l.tree) l.fn.self l.pack;
      holds_rest : (known_reads : FolderReads) → Agrees known_reads l.pack → holds known_reads named ≡ holds known_reads rest;
      looks_rest : (known_reads : FolderReads) → Agrees known_reads l.pack → fold with_path (paths_read l.fn.self.reads) (looked_of known_reads named) ≡ fold with_path (paths_read l.pack.reads) (looked_of known_reads rest);
      missing_rest : (known_reads : FolderReads) → Agrees known_reads l.pack → missing_from known_reads 0 named ≡ missing_from known_reads l.place rest;
    }
