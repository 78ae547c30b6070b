-- A command that is refused before it does its own: no policy is found, a code or a level is there twice, or there are
-- no crates.
use Rattle.std.proofs.Common.{◌≡◌, ◌∙◌, refl, sym, ap, subst, ℕ, ℤ, true, List, [], ◌++◌, append-nil, length, Option, Some, None, Result, Ok, Err}
use Rattle.tree_core.specs.Call.{CallAnswer, Call}
use Rattle.tree_core.specs.Content.{Content}
use Rattle.tree_core.specs.Faults.{Gained, GainedPrefix}
use Rattle.tree_core.specs.Hearing.{Made, MadeSome}
use Rattle.tree_core.specs.Trace.{fault_behind}
use Rattle.tree_core.proofs.MadeLemmas.{made_as, made_joined, made_these, some_made}
use Rattle.graph_core.specs.Metadata.{Graph}
use Rattle.std.specs.List.{filter_map}
use Rattle.graph_core.specs.selection.Choice.{Choice, choice_of, spec_read}
use Rattle.tree_core.specs.texts.Cause.{Cause, no_memory, told, failed_read, refused_write}
use Rattle.tree_core.specs.texts.Heard.{text_answered}
use Rattle.tree_core.specs.declared.texts.fault.ReadFault.{ReadFault}
use Rattle.tree_core.specs.declared.texts.fault.ReadFault.TheVariants.{Failed, Absent, Folder, NotUtf8}
use Rattle.graph_core.specs.selection.Roots.{LacksRoots}
use Rattle.graph_workspace.specs.Krates.{IsCarried, graph_in}
use Rattle.graph_workspace.specs.declared.error.KratesError.{KratesError}
use Rattle.graph_workspace.specs.declared.error.KratesError.TheVariants as krates
use Rattle.policy_parts.specs.declared.graph.GraphConfig.{GraphConfig}
use Rattle.policy_core.specs.declared.valid.policy.ValidConfig.{ValidConfig}
use Rattle.diag_core.specs.File.{File}
use Rattle.gather_core.specs.Calls.{ReadsOfCrate, calls_of_all}
use Rattle.policy_core.specs.Policy.{PolicyFound}
use Rattle.policy_core.specs.declared.load.LoadedPolicy.{LoadedPolicy}
use Rattle.policy_load.specs.Answer.{IsPolicyOf}
use Rattle.policy_core.specs.validate.Order.{PutsPolicyInOrder}
use Rattle.run_context.specs.Asked.{IsMetadataAsked, choice_asked}
use Rattle.run_context.specs.declared.gather.AskedMetadata.{AskedMetadata}
use Rattle.run_overrides.specs.Overrides.{IsFirstTold}
use Rattle.run_overrides.specs.Twice.{first_twice}
use Rattle.run_overrides.specs.declared.error.OverrideError.{OverrideError}
use Rattle.run_overrides.specs.declared.error.OverrideError.TheVariants as overrides
use Rattle.run_found.specs.declared.error.Error.{Error}
use Rattle.run_found.specs.declared.error.Error.TheVariants.{Memory, OverrideTwice}
use Rattle.run_found.specs.declared.policy.PolicyRefusal.{PolicyRefusal}
use Rattle.run_found.specs.Error.{cause_of, error_of_krates, error_of_override, error_of_policy}
use Rattle.run_found.specs.Finds.{FindsBy, FindsInPart, FindsLoaded, FindsPolicy, FindsRefusal, HearsPolicy, PolicyHeard, policy_hearing, hearing_of}
use Rattle.run_found.specs.Found.{count_exceptions, count_metadata, graph_heard, metadata_heard, or_krates_error, policy_calls}
use Rattle.run_found.specs.Gathering.{HasNoCrates, NoCratesBy}
use Rattle.run_found.specs.Hearing.{IsReadWhereDue, MadeOn, RequestHearing, TreeSeen, is_heard, read_calls, tree_seen, text_by}
use Rattle.run_found.specs.Written.{SinkSeen, TextWritten}
use Rattle.run_found.proofs.CallLemmas.{heard_where, text_heard_by}
use Rattle.run_found.proofs.FoundLemmas.{count-behind}
use Rattle.run_found.proofs.StepLemmas.{IsFree}
use Rattle.run_command.specs.declared.crates.MetadataFound.{MetadataFound}
use Rattle.run_command.specs.Crates.{HasMetadata}
use Rattle.run_command.specs.Found.{HearsAllDue, IsHeard, at_threshold, calls_of, choice_in, input_of, left_by, load_heard, metadata_due, policy_asked}
use Rattle.run_command.specs.Given.{CommandArguments}
use Rattle.run_command.specs.Stops.{IsGivenUp, IsRefusal, IsRefusedBy, Refuses, Stops, StopsAt, at_metadata, at_policy}
use Rattle.run_command.proofs.FoundLemmas.{asked-once, asked-refused, asked-twice, calls-unread, input-graph, input-refused, metadata-is, metadata-refused}

-- all of a text is a prefix of it
pub all_of : (old new : Option (List ℕ)) (text : List ℕ) → Gained old new text → GainedPrefix old new text
all_of old new text gained = record { front = text; rest = []; parts = sym (append-nil text); gained = gained }

-- ---- refusals by their cause

module _ (given : CommandArguments) (tree : TreeSeen) (hearing : RequestHearing) (error : Error) where
  refused_as : (cause : Cause) → IsGivenUp given tree hearing → IsFree cause → IsRefusedBy given tree hearing error cause
  refused_as no_memory up free = up
  refused_as told up free = absurd free
  refused_as (failed_read before after) up free = absurd free
  refused_as (refused_write before after) up free = up

  -- the command was given up
  pub given_up : IsGivenUp given tree hearing → IsFree (cause_of error) → IsRefusedBy given tree hearing error (cause_of error)
  given_up up free = refused_as (cause_of error) up free

  -- it is no refused write, and not for want of memory
  told_as : (cause : Cause) → IsHeard given tree hearing → IsRefusal given hearing error → (IsFree cause → ⊥) → IsRefusedBy given tree hearing error cause
  told_as no_memory heard refusal bound = absurd (bound tt)
  told_as told heard refusal bound = (heard, refusal)
  told_as (failed_read before after) heard refusal bound = (heard, refusal)
  told_as (refused_write before after) heard refusal bound = absurd (bound tt)

  pub refused_first : IsHeard given tree hearing → IsRefusal given hearing error → (IsFree (cause_of error) → ⊥) → IsRefusedBy given tree hearing error (cause_of error)
  refused_first heard refusal bound = told_as (cause_of error) heard refusal bound

-- calls were made, however a command is refused
pub stops_made : (given : CommandArguments) (tree : TreeSeen) (err : SinkSeen) (error : Error) → Stops given tree err error
    → MadeSome tree.told tree.tells tree.count_before tree.count_after tree.calls_before tree.calls_after
stops_made given tree err error stops = some_by (cause_of error) stops.refused
  where
    some_by : (cause : Cause) → IsRefusedBy given tree stops.hearing error cause → MadeSome tree.told tree.tells tree.count_before tree.count_after tree.calls_before tree.calls_after
    some_by no_memory up = some_made up.made
    some_by told refused = some_made refused.0.made
    some_by (failed_read before after) refused = some_made refused.0.made
    some_by (refused_write before after) up = some_made up.made

-- the calls of what was read up to some place were made, and no other
pub up_without : (given : CommandArguments) (tree : TreeSeen) (hearing : RequestHearing) → hearing.begun ≡ tree.count_before → MadeOn tree (calls_of given hearing) → StopsAt given hearing [] → IsGivenUp given tree hearing
up_without given tree hearing begun made stops = record {
  begun = begun;
  lost = [];
  made = subst (MadeOn tree) (sym (append-nil (calls_of given hearing))) made;
  stops = stops;
}

-- the first refusal
pub first_of : (given : CommandArguments) (hearing : RequestHearing) (error : Error) → HearsAllDue given hearing → hearing.crates ≡ [] → input_of given hearing ≡ Err error → IsRefusal given hearing error
first_of given hearing error due none is =
    record { due = due; crates = none; refused = subst (λ found. Refuses given found error) (sym is) refl }

-- ---- no policy was found

module _ (given : CommandArguments) (tree : TreeSeen) (err : SinkSeen) where
  -- the calls up to the policy, and no other
  alone_calls : (heard : PolicyHeard) → calls_of given (policy_hearing tree heard) ≡ policy_calls given.request (policy_hearing tree heard)
  alone_calls heard = calls-unread given (policy_hearing tree heard) refl refl

  alone_heard : (heard : PolicyHeard) → MadeOn tree (policy_calls given.request (policy_hearing tree heard)) → IsHeard given tree (policy_hearing tree heard)
  alone_heard heard made = record { begun = refl; made = made_as (sym (alone_calls heard)) made }

  part_ends : (error : Error) → IsFree (cause_of error) → FindsInPart given.request tree err.old err.new err.before err.after (cause_of error) → Stops given tree err error
  part_ends error free part = record {
    hearing = policy_hearing tree part.heard;
    refused = given_up given tree (policy_hearing tree part.heard) error
        (up_without given tree (policy_hearing tree part.heard) refl (made_as (sym (alone_calls part.heard)) part.made) (at_policy part.stops refl refl refl)) free;
    written = part.written;
  }

  -- a refusal of what is found up to the policy
  alone_due : (heard : PolicyHeard) (error : Error) → HearsPolicy given.request (policy_hearing tree heard) → policy_asked given (policy_hearing tree heard) ≡ Err error → HearsAllDue given (policy_hearing tree heard)
  alone_due heard error due asked =
      record { policy = due; metadata = subst (λ own. IsReadWhereDue own None) (sym (metadata-refused given (policy_hearing tree heard) error asked)) refl }

  alone_refused : (heard : PolicyHeard) (error : Error) → MadeOn tree (policy_calls given.request (policy_hearing tree heard)) → HearsPolicy given.request (policy_hearing tree heard) → policy_asked given (policy_hearing tree heard) ≡ Err error
      → (IsFree (cause_of error) → ⊥) → IsRefusedBy given tree (policy_hearing tree heard) error (cause_of error)
  alone_refused heard error made due asked bound =
      refused_first given tree (policy_hearing tree heard) error (alone_heard heard made)
      (first_of given (policy_hearing tree heard) error (alone_due heard error due asked) refl (input-refused given (policy_hearing tree heard) error asked)) bound

  refusal_ends : (refused : PolicyRefusal) → (IsFree (cause_of (error_of_policy refused)) → ⊥) → FindsRefusal given.request tree err.old err.new err.before err.after refused → Stops given tree err (error_of_policy refused)
  refusal_ends refused bound finds = record {
    hearing = policy_hearing tree finds.heard;
    refused = alone_refused finds.heard (error_of_policy refused) finds.made finds.due (asked-refused given (policy_hearing tree finds.heard) (error_of_policy refused) finds.is) bound;
    written = finds.written;
  }

  by_cause : (refused : PolicyRefusal) (cause : Cause) → cause_of (error_of_policy refused) ≡ cause → FindsBy given.request tree err.old err.new err.before err.after refused cause → Stops given tree err (error_of_policy refused)
  by_cause refused no_memory is finds =
      part_ends (error_of_policy refused) (subst IsFree (sym is) tt) (subst (FindsInPart given.request tree err.old err.new err.before err.after) (sym is) finds)
  by_cause refused (refused_write first last) is finds =
      part_ends (error_of_policy refused) (subst IsFree (sym is) tt) (subst (FindsInPart given.request tree err.old err.new err.before err.after) (sym is) finds)
  by_cause refused told is finds = refusal_ends refused (λ free. subst IsFree is free) finds
  by_cause refused (failed_read first last) is finds = refusal_ends refused (λ free. subst IsFree is free) finds

  pub policy_ends : (files : List File) (refused : PolicyRefusal) → FindsPolicy given.request tree err.old err.new err.before err.after files (Err refused) → Stops given tree err (error_of_policy refused)
  policy_ends files refused finds = by_cause refused (cause_of (error_of_policy refused)) refl finds

  -- ---- a code or a level is there twice

  module _ (files : List File) (policy : LoadedPolicy) (finds : FindsLoaded given.request tree err.old err.new files policy) where
    pub twice_ends : (refused : OverrideError) → IsFirstTold (first_twice given.options.levels) refused → Stops given tree err (error_of_override refused)
    twice_ends overrides.Memory told_first = record {
      hearing = policy_hearing tree finds.heard;
      refused = given_up given tree (policy_hearing tree finds.heard) Memory
          (up_without given tree (policy_hearing tree finds.heard) refl (alone_heard finds.heard finds.made).made (at_metadata finds.due refl refl)) tt;
      written = all_of err.old err.new (load_heard given (policy_hearing tree finds.heard)) finds.written;
    }
    twice_ends (overrides.OverrideTwice name first second) told_first = record {
      hearing = policy_hearing tree finds.heard;
      refused = alone_refused finds.heard (OverrideTwice name first second) finds.made finds.due
          (asked-twice given (policy_hearing tree finds.heard) finds.found finds.is (record { name = name; first = first; second = second }) told_first) (λ free. free);
      written = finds.written;
    }

-- ---- behind the policy

-- what is read up to the policy is read behind it too
due_behind : (given : CommandArguments) (begun : ℕ) (heard : PolicyHeard) (metadata : Option CallAnswer) (crates : List ReadsOfCrate) → HearsPolicy given.request (hearing_of begun heard None [])
    → HearsPolicy given.request (hearing_of begun heard metadata crates)
due_behind given begun heard metadata crates due =
    record { looks = record { sought = due.looks.sought; looks = due.looks.looks }; policy = due.policy; exceptions = due.exceptions }

-- what is left out by the policy that was answered is what is left out by the one that was found
same_choice : (given : CommandArguments) (found : PolicyFound) (loaded : LoadedPolicy) → IsPolicyOf found loaded
    → choice_asked given.request.context (left_by given.options.with_flags loaded.graph) ≡ choice_in given found
same_choice given found loaded is = ap (λ (graph : GraphConfig). choice_asked given.request.context (left_by given.options.with_flags graph)) is.graph

-- its lists are in order, whatever the least score is
in_order_at : (threshold : Option ℤ) (written sorted : ValidConfig) → PutsPolicyInOrder written sorted → PutsPolicyInOrder (at_threshold threshold written) (at_threshold threshold sorted)
in_order_at None written sorted order = order
in_order_at (Some threshold) written sorted order =
    record {
      rest = ap (at_threshold (Some threshold)) order.rest;
      allowed = order.allowed;
      exceptions = order.exceptions;
      clarifications = order.clarifications;
    }

module _ (given : CommandArguments) (once : first_twice given.options.levels ≡ None) (path : List ℕ) (at : given.request.context.metadata_path ≡ Some path)
    (begun mid after : ℕ) (told_first middle tells : Option Content) (old between more : List Call) (err : SinkSeen) (files : List File) (policy : LoadedPolicy)
    (finds : FindsLoaded given.request (tree_seen told_first middle begun mid old between) err.old err.new files policy) where
  abbrev whole : TreeSeen
  whole = tree_seen told_first tells begun after old more

  abbrev behind : TreeSeen
  behind = tree_seen middle tells mid after between more

  abbrev hears : Option CallAnswer → RequestHearing
  hears metadata = hearing_of begun finds.heard metadata []

  abbrev choice : Choice
  choice = choice_asked given.request.context (left_by given.options.with_flags policy.graph)

  asked_at : (metadata : Option CallAnswer) → policy_asked given (hears metadata) ≡ Ok finds.found
  asked_at metadata = asked-once given (hears metadata) finds.found finds.is once

  metadata_at : (metadata : Option CallAnswer) → metadata_due given (hears metadata) ≡ Some path
  metadata_at metadata = metadata-is given (hears metadata) finds.found (asked_at metadata) ∙ at

  -- the calls, with that of the metadata
  calls_at : (metadata : Option CallAnswer) → calls_of given (hears metadata) ≡ policy_calls given.request (hears metadata) ++ read_calls (Some path) metadata
  calls_at metadata =
      let before = policy_calls given.request (hears metadata) in
      ap (λ due. before ++ read_calls due metadata ++ calls_of_all []) (metadata_at metadata)
      ∙ append-nil (before ++ read_calls (Some path) metadata)

  made_first : (metadata : Option CallAnswer) → Made told_first middle begun mid old between (policy_calls given.request (hears metadata))
  made_first metadata = finds.made

  made_all : (metadata : Option CallAnswer) → MadeOn behind (read_calls (Some path) metadata) → MadeOn whole (calls_of given (hears metadata))
  made_all metadata then = made_as (sym (calls_at metadata)) (made_joined (made_first metadata) then)

  policy_due_at : (metadata : Option CallAnswer) → HearsPolicy given.request (hears metadata)
  policy_due_at metadata = due_behind given begun finds.heard metadata [] finds.due

  due_at : (answer : CallAnswer) → is_heard (Some answer) ≡ true → HearsAllDue given (hears (Some answer))
  due_at answer heard_by = record {
    policy = policy_due_at (Some answer);
    metadata = subst (λ due. IsReadWhereDue due (Some answer)) (sym (metadata_at (Some answer))) heard_by;
  }

  -- the count behind the policy's reads
  mid_is : count_exceptions given.request (hears None) ≡ mid
  mid_is = sym (count-behind given.request (hears None) (policy_due_at None)) ∙ sym (made_first None).counts

  count_at : (answer : CallAnswer) → count_metadata given.request (hears (Some answer)) ≡ fault_behind mid answer
  count_at answer = ap (λ n. fault_behind n answer) mid_is

  metadata_text : (answer : CallAnswer) (heard : Result (List ℕ) ReadFault) → text_answered begun (fault_behind mid answer) answer ≡ Some heard → metadata_heard given.request (hears (Some answer)) ≡ heard
  metadata_text answer heard is = ap (λ n. text_by begun n (Some answer)) (count_at answer) ∙ text_heard_by answer begun (fault_behind mid answer) heard is

  drawn_at : (answer : CallAnswer) (heard : Result (List ℕ) ReadFault) (graph : Graph) → text_answered begun (fault_behind mid answer) answer ≡ Some heard → graph_in heard ≡ Ok graph
      → graph_heard (metadata_heard given.request (hears (Some answer))) ≡ Ok graph
  drawn_at answer heard graph hears_it tells_graph = ap graph_heard (metadata_text answer heard hears_it) ∙ ap or_krates_error tells_graph

  -- a refusal behind the policy
  behind_stops : (metadata : Option CallAnswer) (error : Error) → IsRefusedBy given whole (hears metadata) error (cause_of error)
      → TextWritten (load_heard given (hears metadata)) err.old err.new err.before err.after (cause_of error) → Stops given whole err error
  behind_stops metadata error refused written = record { hearing = hears metadata; refused = refused; written = written }

  -- ---- no crates

  no_crates : (error : KratesError) (none : HasNoCrates choice behind begun path error) → (IsFree (cause_of (error_of_krates error)) → ⊥)
      → TextWritten (load_heard given (hears (Some none.answer))) err.old err.new err.before err.after (cause_of (error_of_krates error))
      → ((due : HearsAllDue given (hears (Some none.answer))) → IsRefusal given (hears (Some none.answer)) (error_of_krates error))
      → Stops given whole err (error_of_krates error)
  no_crates error none bound written refusal_by =
      behind_stops (Some none.answer) (error_of_krates error)
      (refused_first given whole (hears (Some none.answer)) (error_of_krates error)
      (record { begun = refl; made = made_all (Some none.answer) none.made })
      (refusal_by (due_at none.answer (heard_where none.answer begun (fault_behind mid none.answer) none.heard none.hears))) bound)
      written

  -- the metadata tells of no graph
  no_graph : (error : KratesError) (none : HasNoCrates choice behind begun path error) → graph_in none.heard ≡ Err error
      → (due : HearsAllDue given (hears (Some none.answer))) → IsRefusal given (hears (Some none.answer)) (error_of_krates error)
  no_graph error none refused due =
      let hearing = hears (Some none.answer) in
      first_of given hearing (error_of_krates error) due refl
      (input-graph given hearing finds.found (asked_at (Some none.answer)) (Err (error_of_krates error))
      (ap graph_heard (metadata_text none.answer none.heard none.hears) ∙ ap or_krates_error refused))

  -- no root is left of it
  no_roots : (base excluded unpublished : ℕ) (none : HasNoCrates choice behind begun path (krates.NoRoots base excluded unpublished))
      → (due : HearsAllDue given (hears (Some none.answer))) → IsRefusal given (hears (Some none.answer)) (error_of_krates (krates.NoRoots base excluded unpublished))
  no_roots base excluded unpublished none due =
      let hearing = hears (Some none.answer) in
      let rootless = none.from in
      let error = error_of_krates (krates.NoRoots base excluded unpublished) in
      let input_is = input-graph given hearing finds.found (asked_at (Some none.answer)) (Ok rootless.graph) (drawn_at none.answer none.heard rootless.graph none.hears rootless.tells) in
      let lacks = subst (λ own. LacksRoots rootless.graph own base excluded unpublished) (same_choice given finds.found policy finds.valid) rootless.lacks in
      record { due = due; crates = refl; refused = subst (λ own. Refuses given own error) (sym input_is) lacks }

  pub krates_ends : (error : KratesError) → IsCarried error → NoCratesBy choice behind begun path error → Stops given whole err (error_of_krates error)
  krates_ends krates.Memory carried_by read =
      behind_stops read.0 Memory
      (given_up given whole (hears read.0) Memory (up_without given whole (hears read.0) refl (made_all read.0 read.1) (at_metadata (policy_due_at read.0) refl refl)) tt)
      (all_of err.old err.new (load_heard given (hears read.0)) finds.written)
  krates_ends (krates.NotCarried what) carried_by none = absurd carried_by
  krates_ends (krates.MetadataRead (Failed first last)) carried_by none =
      no_crates (krates.MetadataRead (Failed first last)) none (λ free. free) finds.written (no_graph (krates.MetadataRead (Failed first last)) none none.from)
  krates_ends (krates.MetadataRead Absent) carried_by none = no_crates (krates.MetadataRead Absent) none (λ free. free) finds.written (no_graph (krates.MetadataRead Absent) none none.from)
  krates_ends (krates.MetadataRead Folder) carried_by none = no_crates (krates.MetadataRead Folder) none (λ free. free) finds.written (no_graph (krates.MetadataRead Folder) none none.from)
  krates_ends (krates.MetadataRead (NotUtf8 place)) carried_by none =
      no_crates (krates.MetadataRead (NotUtf8 place)) none (λ free. free) finds.written (no_graph (krates.MetadataRead (NotUtf8 place)) none none.from)
  krates_ends krates.MetadataSyntax carried_by none = no_crates krates.MetadataSyntax none (λ free. free) finds.written (no_graph krates.MetadataSyntax none none.from)
  krates_ends (krates.MetadataShape fault) carried_by none = no_crates (krates.MetadataShape fault) none (λ free. free) finds.written (no_graph (krates.MetadataShape fault) none none.from)
  krates_ends (krates.NoRoots base excluded unpublished) carried_by none =
      no_crates (krates.NoRoots base excluded unpublished) none (λ free. free) finds.written (no_roots base excluded unpublished none)

  -- ---- the metadata alone

  module _ (made : MadeSome middle tells mid after between more) (asked : AskedMetadata)
      (reads : IsMetadataAsked given.request.context (left_by given.options.with_flags policy.graph) begun after between more path asked) where
    pub metadata_are : (found : MetadataFound) → found.policy ≡ at_threshold given.options.threshold policy.licenses → found.asked ≡ asked → HasMetadata given whole err files found
    metadata_are found policy_is asked_is =
        let text = reads.read in
        let answer = text.read.answer in
        let own_made = made_these made text.read.made in
        let answered = subst (λ n. text_answered begun n answer ≡ Some text.heard) own_made.counts text.read.hears in
        record {
          heard = finds.heard;
          answer = answer;
          made = made_all (Some answer) own_made;
          due = due_at answer (heard_where answer begun (fault_behind mid answer) text.heard answered);
          policy = finds.found;
          policy_is = finds.is;
          once = once;
          ordered = subst (PutsPolicyInOrder (at_threshold given.options.threshold finds.found.licenses)) (sym policy_is)
              (in_order_at given.options.threshold finds.found.licenses policy.licenses finds.valid.licenses);
          graph_is = subst (λ (own : AskedMetadata). graph_heard (metadata_heard given.request (hears (Some answer))) ≡ Ok own.metadata) (sym asked_is)
              (drawn_at answer text.heard asked.metadata answered text.told);
          choice_is = subst (λ (own : AskedMetadata). choice_of own.selection ≡ choice_in given finds.found) (sym asked_is)
              (reads.choice ∙ same_choice given finds.found policy finds.valid);
          own = subst (λ (own : AskedMetadata). own.own_specs ≡ length (filter_map spec_read given.request.context.exclude)) (sym asked_is) reads.own;
          files_are = finds.files_are;
          written = finds.written;
        }
