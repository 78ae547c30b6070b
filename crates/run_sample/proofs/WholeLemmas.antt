-- With the built-in catalogue the sample is checked: its files ask for that, so no refusal comes of them.
use Rattle.std.proofs.Common.{◌≡◌, ◌∙◌, ◌⊎◌, inl, inr, refl, sym, ap, subst, ℕ, ◌≤◌, ◌^◌, List, [], ◌∷◌, Result, Ok, Err, arith}
use Rattle.std.proofs.lemmas.List.Elements.{recursion_from_All}
use Rattle.std.specs.List.{AllByRecursion}
use Rattle.tree_core.specs.Call as call
use Rattle.tree_core.specs.Call.{CallKind, CallAnswer, Call}
use Rattle.tree_core.specs.Content.{Content}
use Rattle.tree_core.specs.Trace.{IsUnlessLost, Says, content_answer, fault_behind, faults_after}
use Rattle.tree_core.proofs.MadeLemmas.{faults_after-later}
use Rattle.spdx_terms.specs.catalog.Catalog.{CatalogLists}
use Rattle.spdx_terms.specs.catalog.Table.{table_lists}
use Rattle.spdx_terms.specs.declared.catalog.identifier.Match.{Match}
use Rattle.tree_core.specs.texts.Cause.{Cause, no_memory, failed_read, refused_write}
use Rattle.tree_core.specs.texts.Cause as causes
use Rattle.run_found.specs.declared.error.Error.{Error}
use Rattle.run_found.specs.declared.error.Error.TheVariants.{Memory, NotCarried, ManifestPath, ManifestRead, CatalogRead, CatalogSyntax, StoreRead, ConfigRead, ConfigSyntax, ConfigShape, ConfigInvalid, OverrideTwice, MetadataRead, MetadataSyntax, MetadataShape, NoRoots, NoSuchCrate, NotAccepted, NoText, RecordRead, RecordSyntax, BillText, BillRead, BillSyntax, WriteFault}
use Rattle.run_found.specs.Error.{cause_of}
use Rattle.run_found.specs.Hearing.{RequestHearing, TellsContent, TreeSeen}
use Rattle.run_check.specs.declared.report.Report.{Report}
use Rattle.run_check.specs.Script.{CutsFindings, WritesCheck}
use Rattle.run_command.specs.Found.{IsHeard, calls_of, choice_in}
use Rattle.run_command.specs.Given.{CommandArguments}
use Rattle.run_command.specs.Stops.{IsRefusal, IsRefusedBy, Refuses, RefusesSelection}
use Rattle.run_command.proofs.HeardAlike.{finds_alike}
use Rattle.run_found.specs.Found.{PolicyAndGraph}
use Rattle.run_found.specs.Written.{SinkSeen}
use Rattle.graph_metadata.specs.Records.{graph_of}
use Rattle.graph_core.specs.selection.Roots.{HasRoot}
use Rattle.run_sample.specs.Files.{sample_content}
use Rattle.run_sample.specs.Request.{sample_request}
use Rattle.run_sample.specs.Sample.{EndsSampled, IsSampleTree, IsWholeSample, MayEndSample}
use Rattle.run_sample.proofs.HearingLemmas.{sample_found, sample_heard, sample_hearing, sample_input, sample_root}
use Rattle.run_sample.proofs.RowLemmas.{sample_rows}

-- ---- calls without a failure

-- the answer of a call is what the content has, or memory was wanting
abbrev IsFair : Content → Call → Type 0
IsFair content one = (one.answer ≡ call.no_memory) ⊎ TellsContent content one

fair_one : (there answer : CallAnswer) (calls : List Call) → IsUnlessLost there answer → faults_after (fault_behind 0 answer) calls ≡ 0
    → ((answer ≡ call.no_memory) ⊎ (answer ≡ there)) × (faults_after 0 calls ≡ 0)
fair_one there (call.bytes items) calls says none = (inr says, none)
fair_one there (call.entries items) calls says none = (inr says, none)
fair_one there (call.told answer) calls says none = (inr says, none)
fair_one there call.absent calls says none = (inr says, none)
fair_one there call.wrong_kind calls says none = (inr says, none)
fair_one there call.failed calls says none = let later : 1 ≤ faults_after 1 calls = faults_after-later 1 calls in absurd (omega (arith, later, none))
fair_one there call.no_memory calls says none = (inl refl, none)

all_fair : (content : Content) (calls : List Call) → AllByRecursion (Says content) calls → faults_after 0 calls ≡ 0 → AllByRecursion (IsFair content) calls
all_fair content [] says none = tt
all_fair content (one ∷ calls) says none =
    let first = fair_one (content_answer content one.asked one.path) one.answer calls says.0 none in (first.0, all_fair content calls says.1 first.1)

-- what the first calls are answered is what the content has, and the second ones too where memory was not wanting
abbrev AreToldBy : Content → List Call → List Call → Type 0
AreToldBy content X Y = AllByRecursion (TellsContent content) X × AllByRecursion (IsFair content) Y

told_step : (content : Content) (asked : CallKind) (path : List ℕ) (one other : CallAnswer) (X Y : List Call)
    → AreToldBy content (record { asked = asked; path = path; answer = one } ∷ X) (record { asked = asked; path = path; answer = other } ∷ Y)
    → ((one ≡ other) ⊎ (other ≡ call.no_memory)) × AreToldBy content X Y
told_step content asked path one other X Y both = (answered both.0.0 both.1.0, (both.0.1, both.1.1))
  where
    answered : TellsContent content (record { asked = asked; path = path; answer = one }) → IsFair content (record { asked = asked; path = path; answer = other }) → (one ≡ other) ⊎ (other ≡ call.no_memory)
    answered tells (inl lost) = inr lost
    answered tells (inr own) = inl (tells ∙ sym own)

-- ---- no refusal

-- where a root is left
selection_apart : (given : CommandArguments) (found : PolicyAndGraph) → HasRoot found.graph (choice_in given found.policy) → (error : Error) → RefusesSelection given found error → ⊥
selection_apart given found root Memory refuses = refuses
selection_apart given found root (NotCarried what) refuses = refuses
selection_apart given found root (ManifestPath path) refuses = refuses
selection_apart given found root (ManifestRead before after) refuses = refuses
selection_apart given found root (CatalogRead fault) refuses = refuses
selection_apart given found root (CatalogSyntax line) refuses = refuses
selection_apart given found root (StoreRead fault) refuses = refuses
selection_apart given found root (ConfigRead fault) refuses = refuses
selection_apart given found root (ConfigSyntax fault) refuses = refuses
selection_apart given found root (ConfigShape faults) refuses = refuses
selection_apart given found root (ConfigInvalid told) refuses = refuses
selection_apart given found root (OverrideTwice name first second) refuses = refuses
selection_apart given found root (MetadataRead fault) refuses = refuses
selection_apart given found root MetadataSyntax refuses = refuses
selection_apart given found root (MetadataShape fault) refuses = refuses
selection_apart given found root (NoRoots base excluded unpublished) refuses = refuses.none root
selection_apart given found root (NoSuchCrate word) refuses = refuses
selection_apart given found root (NotAccepted id reads) refuses = refuses
selection_apart given found root (NoText id key reads own) refuses = refuses
selection_apart given found root (RecordRead path fault) refuses = refuses
selection_apart given found root RecordSyntax refuses = refuses
selection_apart given found root (BillText id) refuses = refuses
selection_apart given found root (BillRead fault reads) refuses = refuses
selection_apart given found root BillSyntax refuses = refuses
selection_apart given found root (WriteFault before after) refuses = refuses

module _ (match_of : List ℕ → Match) (n : ℕ) (small : n ≤ 2 ^ 32) (some : 1 ≤ n) (tree : TreeSeen) (sample : IsSampleTree n tree) where
  abbrev given : CommandArguments
  given = sample_request table_lists match_of

  not_refused : (own : RequestHearing) (error : Error) → IsHeard given tree own → IsRefusal given own error → ⊥
  not_refused own error ran refusal =
      let content = sample_content n in
      let says = recursion_from_All (Says content) (calls_of given own) (ran.made.says content sample.told) in
      let counts = ap (λ count. faults_after count (calls_of given own)) (sym sample.begun) ∙ sym ran.made.counts ∙ sample.unfailed in
      let heard = sample_heard match_of n small some in
      let tells = recursion_from_All (TellsContent content) (calls_of given (sample_hearing n)) heard.tells in
      let alike = (finds_alike (AreToldBy content) (told_step content) given (sample_hearing n) own (sym (ran.begun ∙ sample.begun)) heard.due refusal.due
      (tells, all_fair content (calls_of given own) says counts)).input in
      selection_apart given (record { policy = sample_found; graph = graph_of (sample_rows n) }) (sample_root match_of n small some) error
      (subst (λ found. Refuses given found error) (sym alike ∙ sample_input match_of n small some) refusal.refused)

  by_cause : (own : RequestHearing) (error : Error) (cause : Cause) → IsRefusedBy given tree own error cause → MayEndSample cause
  by_cause own error no_memory refused = tt
  by_cause own error causes.told refused = absurd (not_refused own error refused.0 refused.1)
  by_cause own error (failed_read first last) refused = absurd (not_refused own error refused.0 refused.1)
  by_cause own error (refused_write first last) refused = tt

  by_cut : (err : SinkSeen) (cause : Cause) → CutsFindings given tree err cause → MayEndSample cause
  by_cut err no_memory cut = tt
  by_cut err causes.told cut = cut
  by_cut err (failed_read first last) cut = cut
  by_cut err (refused_write first last) cut = tt

  ends_by : (err : SinkSeen) (answer : Result Report Error) → WritesCheck given tree err answer → EndsSampled answer
  ends_by err (Ok report) writes = tt
  ends_by err (Err error) (inl stops) = by_cause stops.hearing error (cause_of error) stops.refused
  ends_by err (Err error) (inr cut) = by_cut err (cause_of error) cut

-- a check of the sample with the built-in catalogue
pub built_in_by : (n : ℕ) → n ≤ 2 ^ 32 → (lists : CatalogLists) (match_of : List ℕ → Match) (tree : TreeSeen) (err : SinkSeen) (answer : Result Report Error) → IsSampleTree n tree
    → WritesCheck (sample_request lists match_of) tree err answer → IsWholeSample n lists answer
built_in_by n small lists match_of tree err answer sample writes some built_in =
    ends_by match_of n small some tree sample err answer (subst (λ known. WritesCheck (sample_request known match_of) tree err answer) built_in writes)
