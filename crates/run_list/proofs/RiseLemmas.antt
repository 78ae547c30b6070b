-- The failed reads that a listing answers rise.
use Rattle.std.proofs.Common.{◌≡◌, ◌∙◌, refl, sym, ap, ap₂, subst, List, [], ◌∷◌, ◌++◌, Result, Ok, Err, IfOk}
use Rattle.std.specs.List.{AllZip}
use Rattle.tree_core.specs.declared.reads.ReadRecord.{ReadRecord}
use Rattle.tree_core.specs.file_reads.Read.{records_of_reads}
use Rattle.tree_core.specs.file_reads.Rising.{RiseInOrder}
use Rattle.tree_core.proofs.file_reads.ReadLemmas.{records_in-append}
use Rattle.gather_core.specs.Calls.{ReadsOfCrate, reads_of_all}
use Rattle.run_found.specs.declared.error.Error.{Error}
use Rattle.run_found.specs.declared.reads.CrateRead.{CrateRead}
use Rattle.run_found.specs.Hearing.{TreeSeen}
use Rattle.run_found.specs.Written.{SinkSeen}
use Rattle.run_command.proofs.RiseLemmas.{reads_rise_between}
use Rattle.run_list.specs.Command.{FailedReadsRise, reads_in}
use Rattle.run_list.specs.Given.{ListArguments}
use Rattle.run_list.specs.Listed.{IsReadOf}
use Rattle.run_list.specs.Listing.{Lists}

-- the reads that are answered
reads_listed : (crates : List ReadsOfCrate) (reads : List CrateRead) → AllZip IsReadOf crates reads → records_of_reads (reads_of_all crates) ≡ reads_in reads
reads_listed [] [] listed = refl
reads_listed [] (read ∷ reads) listed = absurd listed
reads_listed (one ∷ crates) [] listed = absurd listed
reads_listed (one ∷ crates) (read ∷ reads) listed =
    records_in-append one.reads (reads_of_all crates)
    ∙ ap₂ (λ (front back : List ReadRecord). front ++ back) (sym listed.0.reads) (reads_listed crates reads listed.1)

module _ (given : ListArguments) (tree : TreeSeen) (err out : SinkSeen) where
  pub lists_rise : (answer : Result (List CrateRead) Error) → Lists given tree err out answer → IfOk answer (FailedReadsRise tree)
  lists_rise (Ok reads) lists =
      let hears = lists.hears in
      let own = hears.is_so in
      subst (λ (all : List ReadRecord). RiseInOrder tree.count_before all tree.count_after)
      (reads_listed hears.hearing.crates lists.value.reads own.answered ∙ ap reads_in (sym lists.is_answer))
      (reads_rise_between given.command tree hears.hearing hears.heard own.settled.due own.settled.records)
  lists_rise (Err error) lists = tt
