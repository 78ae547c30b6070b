-- Metadata that is read alone, and the crates that are chosen from it behind.
use Rattle.std.proofs.Common.{◌≡◌, ◌∙◌, ◌⊎◌, inl, inr, refl, sym, ap, subst, ℕ, List, Result, Ok, Err, IfOk, IfErr}
use Rattle.tree_core.specs.Call.{Call}
use Rattle.tree_core.specs.texts.Cause as cause
use Rattle.tree_core.specs.texts.Cause.{Cause, ReadCounts}
use Rattle.tree_core.specs.declared.texts.fault.ReadFault.TheVariants.{Failed, Absent, Folder, NotUtf8}
use Rattle.graph_core.specs.Metadata.{Graph}
use Rattle.graph_core.specs.declared.selection.selection.BuildError.{BuildError}
use Rattle.graph_core.specs.declared.selection.selection.BuildError.TheVariants as build
use Rattle.graph_core.specs.selection.Choice.{Choice, choice_of}
use Rattle.graph_core.specs.selection.Listed.{ReachedCrates, IsChosen}
use Rattle.graph_core.specs.selection.Roots as roots
use Rattle.graph_core.specs.selection.Roots.{HasRoot, LacksRoots}
use Rattle.graph_workspace.specs.Krates.{AreOf, AreReached, AreRootless, GathersBy, ReadsGraphBy, error_of_build}
use Rattle.graph_workspace.specs.declared.error.KratesError.{KratesError}
use Rattle.graph_workspace.specs.declared.error.KratesError.TheVariants as krates
use Rattle.graph_workspace.proofs.KratesLemmas.{gathered_by, graph_refused}
use Rattle.diag_core.specs.File.{File}
use Rattle.run_context.specs.Asked.{IsMetadataAsked, LeavesOut}
use Rattle.run_context.specs.declared.gather.AskedMetadata.{AskedMetadata}
use Rattle.run_request.specs.declared.context.KrateContext.{KrateContext}
use Rattle.run_found.specs.declared.error.Error.{Error}
use Rattle.run_found.specs.declared.error.Error.TheVariants.{Memory}
use Rattle.run_found.specs.Error.{cause_of, error_of_krates}
use Rattle.run_found.specs.Hearing.{RequestHearing, TreeSeen}
use Rattle.run_found.specs.Written.{SinkSeen}
use Rattle.run_command.specs.declared.crates.CratesFound.{CratesFound}
use Rattle.run_command.specs.declared.crates.MetadataFound.{MetadataFound}
use Rattle.run_command.specs.Crates.{ChoosesCrates, FindsChosen, FindsCrates, HasMetadata, IsTold, hearing_up_to}
use Rattle.run_command.specs.Found.{PutsInOrder, choice_in, input_of, load_heard}
use Rattle.run_command.specs.Given.{CommandArguments}
use Rattle.run_command.specs.Stops.{Refuses, Stops, at_metadata}
use Rattle.run_command.proofs.FoundLemmas.{asked-once, input-graph}
use Rattle.run_command.proofs.StopLemmas.{all_of, given_up, refused_first, up_without}

-- ---- what is read of it

module _ (choice : Choice) (begun after : ℕ) (old new : List Call) (path : List ℕ) where
  -- a refusal of the metadata is one of the crates
  refused_by : (error : KratesError) → ReadsGraphBy begun after old new path (Err error) → GathersBy choice begun after old new path (Err error)
  refused_by krates.Memory reads = reads
  refused_by (krates.NotCarried what) reads =
      gathered_by choice begun after old new path reads.heard (Err (krates.NotCarried what)) reads.read (graph_refused choice reads.heard (krates.NotCarried what) reads.told)
  refused_by (krates.MetadataRead fault) reads =
      gathered_by choice begun after old new path reads.heard (Err (krates.MetadataRead fault)) reads.read (graph_refused choice reads.heard (krates.MetadataRead fault) reads.told)
  refused_by krates.MetadataSyntax reads =
      gathered_by choice begun after old new path reads.heard (Err krates.MetadataSyntax) reads.read (graph_refused choice reads.heard krates.MetadataSyntax reads.told)
  refused_by (krates.MetadataShape fault) reads =
      gathered_by choice begun after old new path reads.heard (Err (krates.MetadataShape fault)) reads.read (graph_refused choice reads.heard (krates.MetadataShape fault) reads.told)
  refused_by (krates.NoRoots base excluded unpublished) reads =
      gathered_by choice begun after old new path reads.heard (Err (krates.NoRoots base excluded unpublished)) reads.read
      (graph_refused choice reads.heard (krates.NoRoots base excluded unpublished) reads.told)

  memory_of : (error : KratesError) → ◌≡◌ {A = Result AskedMetadata KratesError} (Err error) (Err krates.Memory) → krates.Memory ≡ error
  memory_of error e = cc

  pub none_gathered : (error : KratesError)
      → ((◌≡◌ {A = Result AskedMetadata KratesError} (Err error) (Err krates.Memory)) × (new ≡ old)) ⊎ ReadsGraphBy begun after old new path (Err error)
      → ((◌≡◌ {A = Result ReachedCrates KratesError} (Err error) (Err krates.Memory)) × (new ≡ old)) ⊎ GathersBy choice begun after old new path (Err error)
  none_gathered error (inl none) = inl (ap Err (sym (memory_of error none.0)), none.1)
  none_gathered error (inr reads) = inr (refused_by error reads)

-- metadata comes of what was read
pub metadata_read : (context : KrateContext) (policy : LeavesOut) (begun after : ℕ) (old new : List Call) (path : List ℕ) (asked : AskedMetadata)
    → ((◌≡◌ {A = Result AskedMetadata KratesError} (Ok asked) (Err krates.Memory)) × (new ≡ old)) ⊎ IsMetadataAsked context policy begun after old new path asked
    → IsMetadataAsked context policy begun after old new path asked
metadata_read context policy begun after old new path asked (inl none) = absurd (apart none.0)
  where
    apart : ◌≡◌ {A = Result AskedMetadata KratesError} (Ok asked) (Err krates.Memory) → ⊥
    apart e = absurd (cc)
metadata_read context policy begun after old new path asked (inr reads) = reads

-- ---- the crates of a graph

same_graph : (x y : Graph) → ◌≡◌ {A = Result Graph KratesError} (Ok x) (Ok y) → x ≡ y
same_graph x y e = cc

apart_from : (graph : Graph) (error : KratesError) → ◌≡◌ {A = Result Graph KratesError} (Ok graph) (Err error) → ⊥
apart_from graph error e = absurd (cc)

-- the refusal of the selection
pub build_ends : (choice : Choice) (graph : Graph) (error : BuildError) → roots.IsRootsCause graph choice error → AreOf choice (Ok graph) (Err (error_of_build error))
build_ends choice graph build.Memory cause = tt
build_ends choice graph (build.NoRoots base excluded unpublished) cause = record { graph = graph; tells = refl; lacks = cause }

-- no call causes it
pub refusal_told : (choice : Choice) (graph : Graph) (error : KratesError) → AreOf choice (Ok graph) (Err error) → IsTold (cause_of (error_of_krates error))
refusal_told choice graph krates.Memory are = tt
refusal_told choice graph (krates.NotCarried what) are = tt
refusal_told choice graph (krates.MetadataRead (Failed before after)) are = absurd (apart_from graph (krates.MetadataRead (Failed before after)) are)
refusal_told choice graph (krates.MetadataRead Absent) are = tt
refusal_told choice graph (krates.MetadataRead Folder) are = tt
refusal_told choice graph (krates.MetadataRead (NotUtf8 place)) are = tt
refusal_told choice graph krates.MetadataSyntax are = tt
refusal_told choice graph (krates.MetadataShape fault) are = tt
refusal_told choice graph (krates.NoRoots base excluded unpublished) are = tt

module _ (given : CommandArguments) (tree : TreeSeen) (err : SinkSeen) (files : List File) (found : MetadataFound) (has : HasMetadata given tree err files found) where
  abbrev hearing : RequestHearing
  hearing = hearing_up_to tree has.heard has.answer

  abbrev choice : Choice
  choice = choice_of found.asked.selection

  input_is : input_of given hearing ≡ Ok (record { policy = has.policy; graph = found.asked.metadata })
  input_is = input-graph given hearing has.policy (asked-once given hearing has.policy has.policy_is has.once) (Ok found.asked.metadata) has.graph_is

  pub crates_chosen : (chosen : ReachedCrates) → AreReached choice (Ok found.asked.metadata) chosen → (crates : CratesFound) → crates.policy ≡ found.policy → crates.krates ≡ chosen
      → ChoosesCrates given tree err files found crates
  crates_chosen chosen reached crates policy_is krates_are =
      let same : found.asked.metadata ≡ reached.graph = same_graph found.asked.metadata reached.graph reached.tells in
      record {
        has = record {
          heard = has.heard;
          answer = has.answer;
          made = has.made;
          due = has.due;
          policy = has.policy;
          policy_is = has.policy_is;
          once = has.once;
          ordered = subst (PutsInOrder given has.policy) (sym policy_is) has.ordered;
          graph = reached.graph;
          graph_is = has.graph_is ∙ ap Ok same;
          root = subst (HasRoot reached.graph) has.choice_is reached.rooted;
          chosen = subst (λ own. IsChosen reached.graph own crates.krates) has.choice_is (subst (IsChosen reached.graph choice) (sym krates_are) reached.reached);
          files_are = has.files_are;
          written = has.written;
        };
        graph = sym same;
        choice = has.choice_is;
      }

  rootless : (base excluded unpublished : ℕ) → AreRootless choice (Ok found.asked.metadata) base excluded unpublished
      → Refuses given (input_of given hearing) (error_of_krates (krates.NoRoots base excluded unpublished))
  rootless base excluded unpublished none =
      let same = sym (same_graph found.asked.metadata none.graph none.tells) in
      let lacks = subst (λ own. LacksRoots none.graph own base excluded unpublished) has.choice_is none.lacks in
      let lacks_it = subst (λ own. LacksRoots own (choice_in given has.policy) base excluded unpublished) same lacks in
      subst (λ own. Refuses given own (error_of_krates (krates.NoRoots base excluded unpublished))) (sym input_is) lacks_it

  pub crates_refused : (error : KratesError) → AreOf choice (Ok found.asked.metadata) (Err error) → Stops given tree err (error_of_krates error)
  crates_refused krates.Memory are = record {
    hearing = hearing;
    refused = given_up given tree hearing Memory (up_without given tree hearing refl has.made (at_metadata has.due.policy refl refl)) tt;
    written = all_of err.old err.new (load_heard given hearing) has.written;
  }
  crates_refused (krates.NotCarried what) are = absurd (apart_from found.asked.metadata (krates.NotCarried what) are)
  crates_refused (krates.MetadataRead fault) are = absurd (apart_from found.asked.metadata (krates.MetadataRead fault) are)
  crates_refused krates.MetadataSyntax are = absurd (apart_from found.asked.metadata krates.MetadataSyntax are)
  crates_refused (krates.MetadataShape fault) are = absurd (apart_from found.asked.metadata (krates.MetadataShape fault) are)
  crates_refused (krates.NoRoots base excluded unpublished) are = record {
    hearing = hearing;
    refused = refused_first given tree hearing (error_of_krates (krates.NoRoots base excluded unpublished)) (record { begun = refl; made = has.made })
        (record { due = has.due; crates = refl; refused = rootless base excluded unpublished are }) (λ free. free);
    written = has.written;
  }

-- ---- what comes of the crates that are chosen

pub chosen_found : (given : CommandArguments) (tree : TreeSeen) (err : SinkSeen) (files : List File) (found : MetadataFound) (result : Result CratesFound Error)
    → FindsChosen given tree err files found result → FindsCrates given tree err files result
chosen_found given tree err files found (Ok crates) chosen = chosen.has
chosen_found given tree err files found (Err error) stops = stops

-- a part is as it was, and so is what holds of it
pub kept : {X V : Type 0} (of : X → V) (Holds : V → Type 0) (value : V) (result : Result X Error) → IfOk result (λ x. of x ≡ value) → Holds value → IfOk result (λ x. Holds (of x))
kept of Holds value (Ok x) same holds = subst Holds (sym same) holds
kept of Holds value (Err error) same holds = tt

told_counts : (cause : Cause) → IsTold cause → (begun before after : ℕ) → ReadCounts begun before after cause
told_counts cause.no_memory is begun before after = tt
told_counts cause.told is begun before after = tt
told_counts (cause.failed_read first last) is begun before after = absurd is
told_counts (cause.refused_write first last) is begun before after = absurd is

-- a refusal that no call causes has no counts of a read
pub counts_told : {X : Type 0} (result : Result X Error) → IfErr result (λ error. IsTold (cause_of error)) → (begun before after : ℕ)
    → IfErr result (λ error. ReadCounts begun before after (cause_of error))
counts_told (Ok x) is begun before after = tt
counts_told (Err error) is begun before after = told_counts (cause_of error) is begun before after
