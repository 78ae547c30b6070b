-- The report of a check, from the licences that were settled and the verdicts on them.
use Rattle.std.proofs.Common.{◌≡◌, ◌∙◌, refl, sym, ap, subst, ℕ, ℤ, List, map, Option, Some, None, Ok}
use Rattle.std.specs.Prelude.{All}
use Rattle.tree_core.specs.Call.{Call}
use Rattle.tree_core.specs.Content.{Content}
use Rattle.diag_core.specs.File.{File}
use Rattle.graph_core.specs.Metadata.{AreRising, Graph, ids_of}
use Rattle.graph_core.specs.selection.Choice.{Choice}
use Rattle.graph_core.specs.selection.Listed.{IsChosen, IsListOf, ReachedCrates, selected_in}
use Rattle.graph_core.specs.selection.Walks.{Selected}
use Rattle.graph_core.proofs.selection.SelectedLemmas.{selected-lists}
use Rattle.graph_metadata.proofs.RisingLemmas.{graph-rising}
use Rattle.graph_workspace.specs.Krates.{sparse_dir}
use Rattle.policy_core.specs.Policy.{PolicyFound}
use Rattle.policy_core.specs.valid.View.{policy_of}
use Rattle.policy_core.specs.declared.valid.policy.ValidConfig.{ValidConfig}
use Rattle.gather_core.specs.Calls.{CrateTurn}
use Rattle.gather_core.specs.Gathered.{include_of, krate_of}
use Rattle.gather_core.specs.Rules.{rules_of}
use Rattle.gather_core.specs.declared.summary.KrateLicense.{KrateLicense}
use Rattle.gather_core.proofs.CrateTurns.{krates_told, own_turns}
use Rattle.spdx_core.specs.declared.certificates.verdict.Verdict.{Verdict}
use Rattle.check_core.specs.Check.{AreVerdicts, findings_of}
use Rattle.check_core.specs.Labels.{VerdictPoints}
use Rattle.check_core.specs.Summary.{gathered_of_licenses}
use Rattle.run_overrides.specs.Levels.{packs_at}
use Rattle.run_found.specs.Found.{files_loaded}
use Rattle.run_found.specs.declared.error.Error.TheVariants.{Memory}
use Rattle.run_found.specs.Hearing.{RequestHearing, TreeSeen, crates_heard, tree_seen}
use Rattle.run_found.specs.Written.{SinkSeen}
use Rattle.run_found.proofs.ByteLemmas.{bytes_of_graph}
use Rattle.run_command.specs.declared.crates.CratesFound.{CratesFound}
use Rattle.run_command.specs.Crates.{HasCrates}
use Rattle.run_command.specs.Found.{at_threshold, choice_in, scanner_of_given, turns_in}
use Rattle.run_command.specs.Given.{CommandArguments}
use Rattle.run_command.specs.Settled.{HearsSo, IsSettled}
use Rattle.run_command.specs.Stops.{Stops}
use Rattle.run_command.proofs.SettledLemmas.{hears, hears_so, is_settled, settled_stops}
use Rattle.run_command.proofs.TurnLemmas.{own_files}
use Rattle.run_check.specs.declared.check.CheckedCrates.{CheckedCrates}
use Rattle.run_check.specs.declared.judged.JudgedCrates.{JudgedCrates}
use Rattle.run_check.specs.declared.report.Report.{Report}
use Rattle.run_check.specs.Found.{all_gathered}
use Rattle.run_check.specs.Judged.{IsJudged, Judges}
use Rattle.run_check.specs.Report.{IsReport, Reports, TellsFindings, verdicts_in}
use Rattle.run_check.specs.Steps.{IsCheckOf, IsCheckedOn, checked_by, report_with}
use Rattle.run_check.proofs.OrderAlike.{lists_alike}
use Rattle.run_check.proofs.GatheredLemmas.{all_looked, labels_cut, reported_by, sources_told, turns_told, verdicts_reported}

-- the least score of a text leaves the policy's file
file_at : (threshold : Option ℤ) (policy : ValidConfig) → (at_threshold threshold policy).file_id ≡ policy.file_id
file_at None policy = refl
file_at (Some threshold) policy = refl

-- ---- by what was read

module _ (given : CommandArguments) (hearing : RequestHearing) (policy : ValidConfig) (licenses : List KrateLicense) (last : List File) (settled : IsSettled given hearing policy licenses last) where
  file_is : policy.file_id ≡ 0
  file_is =
      ap (λ (one : ValidConfig). one.file_id) settled.ordered.rest
      ∙ file_at given.options.threshold settled.asked.policy.licenses
      ∙ ap (λ (one : PolicyFound). one.licenses.file_id) settled.asks.policy.is.is

  module _ (verdicts : List Verdict) (are : AreVerdicts (policy_of policy) (gathered_of_licenses licenses) verdicts) (points : All (VerdictPoints last (policy_of policy)) (gathered_of_licenses licenses)) where
    -- the report as it is made of the verdicts
    abbrev made : Report
    made = report_with (checked_by given.options.levels policy licenses verdicts) last

    abbrev turns : List CrateTurn
    turns = turns_in given hearing policy

    told_verdicts : verdicts_in made ≡ verdicts
    told_verdicts = verdicts_reported (policy_of policy) licenses verdicts are

    verdicts_are : AreVerdicts (policy_of policy) (gathered_of_licenses licenses) (verdicts_in made)
    verdicts_are = subst (AreVerdicts (policy_of policy) (gathered_of_licenses licenses)) (sym told_verdicts) are

    looked_are : all_gathered turns ≡ gathered_of_licenses licenses
    looked_are = all_looked turns licenses last settled.turns.each

    findings_are : TellsFindings given.options.levels (files_loaded given.request hearing) turns made
    findings_are = record {
      are = subst (λ looked. AreVerdicts (policy_of policy) looked (verdicts_in made)) (sym looked_are) verdicts_are;
      findings =
          ap (packs_at given.options.levels)
          (sym (ap (λ looked. findings_of policy looked (verdicts_in made)) looked_are ∙ ap (findings_of policy (gathered_of_licenses licenses)) told_verdicts));
      files = settled.turns.left;
      cuts = labels_cut turns licenses last settled.turns.each;
      terms = subst (All (VerdictPoints last (policy_of policy))) (sym looked_are) points;
    }

    pub made_is : IsReport given hearing made
    made_is = record {
      verdicts = record {
        licenses = licenses;
        settled = settled;
        files = own_files (scanner_of_given given policy) policy (files_loaded given.request hearing) hearing.crates licenses last settled.turns.each;
        gives = record {
          file = file_is;
          verdicts = reported_by given policy (files_loaded given.request hearing) hearing.crates licenses last verdicts settled.turns.each are;
          stats = refl;
        };
      };
      own = own_turns (files_loaded given.request hearing) turns licenses last settled.turns;
      sources = sources_told (policy_of policy) turns licenses last verdicts settled.turns.each are;
      turns = turns_told (policy_of policy) turns licenses last verdicts settled.turns.each are;
      tells = findings_are;
    }

  pub is_reported : (checked : CheckedCrates) → IsCheckOf given.options.levels policy licenses checked → All (VerdictPoints last (policy_of policy)) (gathered_of_licenses licenses)
      → IsReport given hearing (report_with checked last)
  is_reported checked check points = subst (λ one. IsReport given hearing (report_with one last)) (sym check.is) (made_is check.verdicts check.are points)

-- ---- over a tree

-- the crates that are selected of those that are reached are those that had their turns
module _ (given : CommandArguments) (hearing : RequestHearing) (policy : ValidConfig) (licenses : List KrateLicense) (last : List File) (settled : IsSettled given hearing policy licenses last) (graph : Graph)
    (rising : AreRising (ids_of graph)) (choice : Choice) (chosen : ReachedCrates) (is : IsChosen graph choice chosen) (selected : IsListOf graph (Selected graph choice (include_of policy)) (map krate_of licenses)) where
  pub crates_are : selected_in (include_of policy) chosen ≡ crates_heard hearing
  crates_are =
      lists_alike graph rising (Selected graph choice (include_of policy)) (selected_in (include_of policy) chosen) (map krate_of licenses) (selected-lists graph choice chosen is (include_of policy)) selected
      ∙ sym (krates_told (scanner_of_given given policy) (rules_of policy) (files_loaded given.request hearing) hearing.crates licenses last settled.turns)

module _ (given : CommandArguments) (carried : given.options.unsupported ≡ None) (told middle tells : Option Content) (begun mid after : ℕ) (old between more : List Call) (err : SinkSeen) (files : List File)
    (found : CratesFound) (has : HasCrates given (tree_seen told middle begun mid old between) err files found) where
  pub judged_ends : (last : List File) (checked : CheckedCrates)
      → IsCheckedOn (scanner_of_given given found.policy) given.options.levels found.policy (tree_seen middle tells mid after between more) files last has.graph (choice_in given has.policy) checked
      → Judges given (tree_seen told tells begun after old more) err (Ok (record { report = report_with checked last; krates = found.krates }))
  judged_ends last checked done =
      let hearing = hears given told middle tells begun mid after old between more err files found has done.gathered.crates in
      let settled = is_settled given told middle tells begun mid after old between more err files found has carried last done.licenses done.gathered in
      let at = bytes_of_graph given.request hearing has.graph has.graph_is in
      hears_so given told middle tells begun mid after old between more err files found has carried last done.licenses done.gathered (λ hearing. IsJudged given hearing (record { report = report_with checked last; krates = found.krates }))
      (record {
        report = is_reported given hearing found.policy done.licenses last settled checked done.check done.points;
        crates =
            ap (λ (policy : ValidConfig). selected_in (include_of policy) found.krates) (ap (λ (one : CheckedCrates). one.policy) done.check.is)
            ∙ crates_are given hearing found.policy done.licenses last settled has.graph (graph-rising at.text sparse_dir has.graph at.tells) (choice_in given has.policy) found.krates has.chosen done.gathered.selected;
      })

-- the report is the one that is asked for, whatever crates are beside it
pub reports_of_judges : (given : CommandArguments) (tree : TreeSeen) (err : SinkSeen) (judged : JudgedCrates) → Judges given tree err (Ok judged) → Reports given tree err (Ok judged.report)
reports_of_judges given tree err judged judges = record {
  hearing = judges.hearing;
  heard = judges.heard;
  written = judges.written;
  is_so = judges.is_so.report;
}

-- memory was wanting once there was a report
pub reported_stops : (given : CommandArguments) (tree : TreeSeen) (err : SinkSeen) (report : Report) → HearsSo given tree err (λ hearing. IsReport given hearing report) → Stops given tree err Memory
reported_stops given tree err report hears =
    let verdicts = hears.is_so.verdicts in
    settled_stops given tree err hears.hearing hears.heard hears.written report.policy verdicts.licenses report.files verdicts.settled
