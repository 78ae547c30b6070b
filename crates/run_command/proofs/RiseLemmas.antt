-- The failed reads of a command's crates rise one after another, between the tree's counts at the start and at the end.
use Rattle.std.proofs.Common.{◌≡◌, ◌∙◌, sym, ap, subst, ◌≤◌, [], ◌++◌, arith}
use Rattle.tree_core.specs.Trace.{faults_after}
use Rattle.tree_core.proofs.MadeLemmas.{faults_after-append, faults_after-later}
use Rattle.tree_core.specs.file_reads.Read.{AreReads, records_of_reads}
use Rattle.tree_core.specs.file_reads.Rising.{RiseInOrder}
use Rattle.tree_core.proofs.file_reads.ReadLemmas.{reads_rise}
use Rattle.tree_core.proofs.file_reads.RisingLemmas.{rises_widen}
use Rattle.gather_core.specs.Calls.{calls_of_all, reads_of_all}
use Rattle.gather_core.proofs.TurnCalls.{counts_of_all}
use Rattle.run_found.specs.Found.{count_metadata, policy_calls}
use Rattle.run_found.specs.Hearing.{RequestHearing, TreeSeen, read_calls}
use Rattle.run_command.specs.Found.{HearsAllDue, IsHeard, metadata_due}
use Rattle.run_command.specs.Given.{CommandArguments}
use Rattle.run_command.proofs.FoundLemmas.{count_is}

module _ (given : CommandArguments) (tree : TreeSeen) (hearing : RequestHearing) (heard : IsHeard given tree hearing) (due : HearsAllDue given hearing)
    (records : AreReads (count_metadata given.request hearing) (reads_of_all hearing.crates)) where
  pub reads_rise_between : RiseInOrder tree.count_before (records_of_reads (reads_of_all hearing.crates)) tree.count_after
  reads_rise_between =
      let before = policy_calls given.request hearing ++ read_calls (metadata_due given hearing) hearing.metadata in
      let crates = calls_of_all hearing.crates in
      let reads = records_of_reads (reads_of_all hearing.crates) in
      let low = count_metadata given.request hearing in
      let low_is : faults_after tree.count_before before ≡ low = ap (λ n. faults_after n before) (sym heard.begun) ∙ count_is given hearing due in
      let high = faults_after low crates in
      let high_is : tree.count_after ≡ high = heard.made.counts ∙ faults_after-append tree.count_before before crates ∙ ap (λ n. faults_after n crates) low_is in
      let rises : RiseInOrder low reads high = subst (RiseInOrder low reads) (sym (counts_of_all low hearing.crates)) (reads_rise [] low (reads_of_all hearing.crates) records) in
      let first : tree.count_before ≤ low = subst (λ n. tree.count_before ≤ n) low_is (faults_after-later tree.count_before before) in
      subst (RiseInOrder tree.count_before reads) (sym high_is) (rises_widen tree.count_before low high high reads first rises (omega arith))
