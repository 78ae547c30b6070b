-- All the clarifications are tried as the rest of them, with the pack that is there.
use Rattle.std.proofs.Common.{◌≡◌, ◌++◌, map, drop}
use Rattle.std.specs.Prelude.{option_map}
use Rattle.gather_license.specs.files.Calls.{GoesBy}
use Rattle.gather_license.specs.files.KnownReads.{FolderReads}
use Rattle.gather_license.specs.files.Steps.{Agrees}
use Rattle.gather_license.specs.files.View.{paths_read}
use Rattle.gather_license.specs.Clarification.{lent_clarification, held_in}
use Rattle.gather_license.specs.Priority.{holding_clarification}
use Rattle.gather_license.specs.Settled.{missing_of}
use Rattle.gather_license.proofs.TriedLemmas.{looks}
use Rattle.gather_license.proofs.settle.try_all.Given as goal

abbrev pub invariant-all : goal.invariant-all
invariant-all g l =
    let all = map lent_clarification l.clarifications in
    let rest = map lent_clarification (drop l.clarification-index l.clarifications) in
    record {
      goes_by : GoesBy (g.T.Tree.content l.fn.tree) (g.T.Tree.content l.tree) (g.T.Tree.fault_count l.fn.tree) (g.T.Tree.fault_count l.tree) (g.T.Tree.trace l.fn.tree) (g.T.Tree.trace l.tree) l.fn.pack l.pack;
      looks_rest : (known_reads : FolderReads) → Agrees known_reads l.pack → looks known_reads (paths_read l.fn.pack.reads) all ≡ looks known_reads (paths_read l.pack.reads) rest;
      held_rest : (known_reads : FolderReads) → Agrees known_reads l.pack → option_map held_in (holding_clarification known_reads all) ≡ option_map held_in (holding_clarification known_reads rest);
      missing_rest : (known_reads : FolderReads) → Agrees known_reads l.pack → missing_of known_reads all ≡ l.missing ++ missing_of known_reads rest;
    }
