-- What comes before a command: which calls it made, and that lawful input comes to its command.
use Rattle.std.proofs.Common.{◌≡◌, ◌∙◌, inl, inr, refl, sym, ap, subst, ℕ, true, List, [], ◌∷◌, ◌++◌, append-nil, append_assoc, Option, Some, None, Result, Ok, Err}
use Rattle.std.proofs.lemmas.List.{append_cancel_left}
use Rattle.std.proofs.lemmas.List.Elements.{recursion_from_All}
use Rattle.tree_core.specs.Call as call
use Rattle.tree_core.specs.Call.{CallAnswer, Call}
use Rattle.tree_core.specs.Content.{Content}
use Rattle.tree_core.specs.Faults.{Rose}
use Rattle.tree_core.specs.Hearing.{MadeSome}
use Rattle.tree_core.specs.Trace.{Says}
use Rattle.tree_core.proofs.MadeLemmas.{made_as, made_joined, some_joined, some_made}
use Rattle.tree_core.specs.texts.Cause.{Cause, no_memory, failed_read, refused_write}
use Rattle.tree_core.specs.texts.Cause as causes
use Rattle.graph_workspace.specs.declared.error.UnsupportedPart.{UnsupportedPart}
use Rattle.run_found.specs.declared.error.Error.{Error}
use Rattle.run_found.specs.declared.error.Error.TheVariants.{Memory, NotCarried}
use Rattle.run_found.specs.Error.{MayEndLawful, cause_of}
use Rattle.run_found.specs.Hearing.{HasMade, MadeOn, RequestHearing, TellsContent, TreeSeen}
use Rattle.run_found.specs.Written.{SinkSeen}
use Rattle.run_found.specs.own_names.Found.{AnswersBy, FindsLists}
use Rattle.run_found.specs.own_names.Given.{ListsGiven}
use Rattle.run_found.specs.own_names.Heard.{ListsHearing, given_heard, lists_calls}
use Rattle.run_command.specs.Found.{IsHeard, calls_of}
use Rattle.run_command.specs.Given.{CommandArguments, CommandRequest, command_by, handed_in}
use Rattle.run_command.specs.Lawful.{CommandHearing, IsLawful, IsLawfulOver, IsLawfulRun, IsRunHeard, run_calls, there_call}
use Rattle.run_command.specs.Manifest.{AnswersLook, IsLookedWhereDue, LooksAtManifest, is_manifest, look_by, look_in, manifest_call, manifest_calls, manifest_due, manifest_found, unlooked}
use Rattle.run_command.specs.Prelude.{ComesTo, IsUntouched, RunsBy, came, from_there, lists_had, no_lists, no_manifest, stopped, unsupported, up_to}
use Rattle.run_command.specs.Stops.{IsRefusal, PolicyAndCrates}
use Rattle.run_command.proofs.AlikeLemmas.{IsAlike, IsSameContent, IsSameTrace, content_alike, trace_alike}
use Rattle.run_command.proofs.LawfulLemmas.{NoRefusal, free_read, free_told}
use Rattle.run_command.proofs.ManifestLemmas.{IsThere, due_named, found_named, is_there, looked_count, looked_made}
use Rattle.run_command.proofs.OwnLemmas.{found_count, lists_same}

-- ---- its calls

ok_apart : {X : Type 0} {value : X} {error : Error} → ◌≡◌ {A = Result X Error} (Ok value) (Err error) → ⊥
ok_apart e = absurd (cc)

none_apart : {X : Type 0} {value : X} → Some value ≡ None → ⊥
none_apart e = absurd (cc)

-- calls were made on the way to a command
pub comes_made : (given : CommandRequest) (tree : TreeSeen) (answer : Result ListsGiven Error) → ComesTo given tree answer
    → MadeSome tree.told tree.tells tree.count_before tree.count_after tree.calls_before tree.calls_after
comes_made given tree answer (unsupported what is same untouched) = some_made untouched
comes_made given tree answer (no_manifest carried error looked same) = some_made looked.made
comes_made given tree answer (no_lists carried told count calls looked error finds same) = some_joined (some_made looked.made) (some_made finds.made)
comes_made given tree answer (lists_had carried told count calls looked lists finds same) = some_joined (some_made looked.made) (some_made finds.made)

-- the manifest was there
looked_there : (path : List ℕ) (tree : TreeSeen) (answer : Option CallAnswer) → AnswersLook tree.count_before tree.count_after path answer (Ok tt) → IsThere path answer
looked_there path tree answer (inl lost) = absurd (ok_apart lost)
looked_there path tree answer (inr (looked, found)) = is_there path tree.count_before tree.count_after answer looked found

-- what came before a command that was come to: the look, and what is read of names and texts
pub record CameBy (given : CommandRequest) (tree : TreeSeen) (lists : ListsGiven) : Type 0 where
  pub carried : given.command.options.unsupported ≡ None
  pub named : is_manifest given.command.request.context.manifest_path ≡ true
  pub hearing : ListsHearing
  pub begun : hearing.begun ≡ tree.count_before
  pub heard : given_heard (handed_in given) given.own hearing ≡ Some (Ok lists)
  pub made : MadeOn tree (there_call given ∷ lists_calls (handed_in given) given.own hearing)
  pub still : tree.count_after ≡ tree.count_before

pub comes_by : (given : CommandRequest) (tree : TreeSeen) (lists : ListsGiven) → ComesTo given tree (Ok lists) → CameBy given tree lists
comes_by given tree lists (unsupported what is same untouched) = absurd (ok_apart same)
comes_by given tree lists (no_manifest carried error looked same) = absurd (ok_apart same)
comes_by given tree lists (no_lists carried told count calls looked error finds same) = absurd (ok_apart same)
comes_by given tree lists (lists_had carried told count calls looked own finds same) =
    let path = given.command.request.context.manifest_path in
    let front = up_to tree told count calls in
    let there = looked_there path front looked.answer looked.answers in
    let quiet : count ≡ tree.count_before = looked_count path front looked in
    record {
      carried = carried;
      named = there.named;
      hearing = finds.hearing;
      begun = finds.begun ∙ quiet;
      heard = subst (λ one. given_heard (handed_in given) given.own finds.hearing ≡ Some (Ok one)) (same_lists same) finds.answers;
      made = made_joined (looked_made path front looked) finds.made;
      still = found_count (handed_in given) given.own (from_there tree told count calls) own finds ∙ quiet;
    }
  where
    same_lists : ◌≡◌ {A = Result ListsGiven Error} (Ok lists) (Ok own) → own ≡ lists
    same_lists e = cc

-- all of the request is carried, and no call failed
pub comes_carried : (given : CommandRequest) (tree : TreeSeen) (lists : ListsGiven) → ComesTo given tree (Ok lists) → given.command.options.unsupported ≡ None
comes_carried given tree lists comes = (comes_by given tree lists comes).carried

pub comes_still : (given : CommandRequest) (tree : TreeSeen) (lists : ListsGiven) → ComesTo given tree (Ok lists) → tree.count_after ≡ tree.count_before
comes_still given tree lists comes = (comes_by given tree lists comes).still

-- a part that is not carried is the refusal, and no call is made
pub runs_unsupported : {X : Type 0} (given : CommandRequest) (IsDone : ListsGiven → CommandArguments → TreeSeen → Result X Error → Type 0) (tree : TreeSeen) (err out : SinkSeen) (answer : Result X Error) (what : UnsupportedPart)
    → given.command.options.unsupported ≡ Some what → RunsBy given IsDone tree err out answer → (answer ≡ Err (NotCarried what)) × IsUntouched tree
runs_unsupported {X} given IsDone tree err out answer what is (stopped error comes same silent silent_out) = by_comes comes
  where
    refused_with : {own : UnsupportedPart} {refusal : Error} → own ≡ what → ◌≡◌ {A = Result ListsGiven Error} (Err refusal) (Err (NotCarried own)) → ◌≡◌ {A = Result X Error} (Err refusal) (Err (NotCarried what))
    refused_with own_is e = cc

    same_what : {own : UnsupportedPart} → ◌≡◌ {A = Option UnsupportedPart} (Some own) (Some what) → own ≡ what
    same_what e = cc

    by_comes : ComesTo given tree (Err error) → (answer ≡ Err (NotCarried what)) × IsUntouched tree
    by_comes (unsupported own own_is refused untouched) = (same ∙ refused_with (same_what (sym own_is ∙ is)) refused, untouched)
    by_comes (no_manifest carried own looked refused) = absurd (none_apart (sym is ∙ carried))
    by_comes (no_lists carried told count calls looked own finds refused) = absurd (none_apart (sym is ∙ carried))
    by_comes (lists_had carried told count calls looked own finds refused) = absurd (none_apart (sym is ∙ carried))
runs_unsupported {X} given IsDone tree err out answer what is (came told count calls lists comes is_done) =
    absurd (none_apart (sym is ∙ comes_carried given (up_to tree told count calls) lists comes))

-- what was read on a tree that came to its command, and then by the command
pub run_heard : (given : CommandRequest) (tree : TreeSeen) (told : Option Content) (count : ℕ) (calls : List Call) (lists : ListsGiven) (comes : ComesTo given (up_to tree told count calls) (Ok lists)) (own : RequestHearing)
    → IsHeard (command_by given.command lists) (from_there tree told count calls) own
    → IsRunHeard given tree (record { lists = (comes_by given (up_to tree told count calls) lists comes).hearing; found = own }) lists
run_heard given tree told count calls lists comes own heard =
    let by = comes_by given (up_to tree told count calls) lists comes in
    record {
      begun = record { lists = by.begun; found = heard.begun ∙ by.still };
      comes = record { named = by.named; heard = by.heard };
      made = made_joined by.made heard.made;
    }

-- ---- lawful input comes to its command

-- the calls of a lawful run, and those that a tree was asked, are answered alike
module _ (Same : List Call → List Call → Type 0) (alike : IsAlike Same) (given : CommandRequest) (carried : given.command.options.unsupported ≡ None)
    (named : is_manifest given.command.request.context.manifest_path ≡ true) (lawful : ListsHearing) (had : ListsGiven)
    (heard : given_heard (handed_in given) given.own lawful ≡ Some (Ok had)) (more : List Call) where
  abbrev path : List ℕ
  path = given.command.request.context.manifest_path

  abbrev own_lists : List Call
  own_lists = lists_calls (handed_in given) given.own lawful ++ more

  look_same : (answer : Option CallAnswer) (rest : List Call) → (look_in answer ≡ unlooked → ⊥) → Same (there_call given ∷ own_lists) (manifest_calls (Some path) answer ++ rest)
      → (answer ≡ Some (call.told true)) × Same own_lists rest
  look_same None rest looked same = absurd (looked refl)
  look_same (Some answer) rest looked same =
      let first = alike (there_call given) (manifest_call path answer) own_lists rest same refl refl (λ e. looked (ap look_by e)) in
      (ap Some (sym first.0), first.1)

  -- the look was due, and reported something
  looked_same : (answer : Option CallAnswer) (rest : List Call) → IsLookedWhereDue (manifest_due None path) answer → Same (there_call given ∷ own_lists) (manifest_calls (manifest_due None path) answer ++ rest)
      → (answer ≡ Some (call.told true)) × Same own_lists rest
  looked_same answer rest looked same =
      let due = due_named path named in
      look_same answer rest (subst (λ one. IsLookedWhereDue one answer) due looked) (subst (λ one. Same (there_call given ∷ own_lists) (manifest_calls one answer ++ rest)) due same)

  -- no manifest is not reported
  found_apart : (begun after : ℕ) (answer : Option CallAnswer) (error : Error) → answer ≡ Some (call.told true) → manifest_found begun after path answer ≡ Err error → ⊥
  found_apart begun after answer error there found = ok_apart (sym (found_named path named begun after (Some (call.told true))) ∙ ap (manifest_found begun after path) (sym there) ∙ found)

  look_lawful : (tree : TreeSeen) (error : Error) (looked : LooksAtManifest path tree (Err error)) → Same (there_call given ∷ own_lists) (manifest_calls (manifest_due None path) looked.answer ++ []) → error ≡ Memory
  look_lawful tree error looked same = by_answer looked.answers
    where
      memory_of : ◌≡◌ {A = Result (Unit {0}) Error} (Err error) (Err Memory) → error ≡ Memory
      memory_of e = cc

      by_answer : AnswersLook tree.count_before tree.count_after path looked.answer (Err error) → error ≡ Memory
      by_answer (inl lost) = memory_of lost
      by_answer (inr (own, found)) = absurd (found_apart tree.count_before tree.count_after looked.answer error (looked_same looked.answer [] own same).0 found)

  -- behind a look that reported of the manifest, the calls for names and texts are alike
  behind_look : (tree : TreeSeen) (looked : LooksAtManifest path tree (Ok tt)) (rest : List Call) → Same (there_call given ∷ own_lists) (manifest_calls (manifest_due None path) looked.answer ++ rest) → Same own_lists rest
  behind_look tree looked rest same = by_answer looked.answers
    where
      by_answer : AnswersLook tree.count_before tree.count_after path looked.answer (Ok tt) → Same own_lists rest
      by_answer (inl lost) = absurd (ok_apart lost)
      by_answer (inr (own, found)) = (looked_same looked.answer rest own same).1

  -- names and texts are refused for want of memory alone
  lists_lawful : (tree : TreeSeen) (error : Error) (finds : FindsLists (handed_in given) given.own tree (Err error)) → Same own_lists (lists_calls (handed_in given) given.own finds.hearing ++ [])
      → MayEndLawful (cause_of error)
  lists_lawful tree error finds same = by_cause (cause_of error) finds.answers
    where
      apart : given_heard (handed_in given) given.own finds.hearing ≡ Some (Err error) → ⊥
      apart is =
          both_apart (sym is ∙ (lists_same Same alike (handed_in given) given.own lawful finds.hearing had more [] heard (λ none. none_apart (sym is ∙ none)) same).0)
        where
          both_apart : ◌≡◌ {A = Option (Result ListsGiven Error)} (Some (Err error)) (Some (Ok had)) → ⊥
          both_apart e = absurd (cc)

      by_cause : (cause : Cause) → AnswersBy cause (given_heard (handed_in given) given.own finds.hearing) error → MayEndLawful cause
      by_cause no_memory is = tt
      by_cause causes.told is = absurd (apart is)
      by_cause (failed_read first last) is = absurd (apart is)
      by_cause (refused_write first last) is = absurd (apart is)

  -- what comes before a command is refused for want of memory alone
  pub refused_before : (tree : TreeSeen) (error : Error) → ComesTo given tree (Err error) → ((calls : List Call) → MadeOn tree calls → Same (there_call given ∷ own_lists) calls) → MayEndLawful (cause_of error)
  refused_before tree error (unsupported what is same untouched) alikes = absurd (none_apart (sym is ∙ carried))
  refused_before tree error (no_manifest all own looked same) alikes =
      let calls = manifest_calls (manifest_due None path) looked.answer in
      let wanting : own ≡ Memory = look_lawful tree own looked (alikes (calls ++ []) (made_as (sym (append-nil calls)) looked.made)) in
      subst (λ one. MayEndLawful (cause_of one)) (sym (same_error same ∙ wanting)) tt
    where
      same_error : ◌≡◌ {A = Result ListsGiven Error} (Err error) (Err own) → error ≡ own
      same_error e = cc
  refused_before tree error (no_lists all told count calls looked own finds same) alikes =
      let texts = lists_calls (handed_in given) given.own finds.hearing in
      let first = manifest_calls (manifest_due None path) looked.answer in
      let both = alikes (first ++ (texts ++ [])) (made_as (ap (λ one. first ++ one) (sym (append-nil texts))) (made_joined looked.made finds.made)) in
      subst (λ one. MayEndLawful (cause_of one)) (sym (same_error same))
      (lists_lawful (from_there tree told count calls) own finds (behind_look (up_to tree told count calls) looked (texts ++ []) both))
    where
      same_error : ◌≡◌ {A = Result ListsGiven Error} (Err error) (Err own) → error ≡ own
      same_error e = cc
  refused_before tree error (lists_had all told count calls looked own finds same) alikes = absurd (ok_apart (sym same))

  -- where it comes to a command, that has the lawful names and texts, and the calls behind are alike
  pub came_alike : (tree : TreeSeen) (lists : ListsGiven) (by : CameBy given tree lists) (rest : List Call) → Same (there_call given ∷ own_lists) (there_call given ∷ (lists_calls (handed_in given) given.own by.hearing ++ rest))
      → (lists ≡ had) × Same more rest
  came_alike tree lists by rest same =
      let behind = alike (there_call given) (there_call given) own_lists (lists_calls (handed_in given) given.own by.hearing ++ rest) same refl refl told_apart in
      let both = lists_same Same alike (handed_in given) given.own lawful by.hearing had more rest heard (λ none. none_apart (sym by.heard ∙ none)) behind.1 in
      (same_had (sym by.heard ∙ both.0), both.1)
    where
      told_apart : call.told true ≡ call.no_memory → ⊥
      told_apart e = absurd (cc)

      same_had : ◌≡◌ {A = Option (Result ListsGiven Error)} (Some (Ok lists)) (Some (Ok had)) → lists ≡ had
      same_had e = cc

-- ---- how a lawful run ends

-- What is so of a refusal for want of memory, and of what the command answers by the lawful names and texts where nothing that it hears is
-- refused, is so of the answer.
module _ {X : Type 0} (given : CommandRequest) (IsDone : ListsGiven → CommandArguments → TreeSeen → Result X Error → Type 0) (tree : TreeSeen) (err out : SinkSeen) (answer : Result X Error)
    (makes : (lists : ListsGiven) (own : CommandArguments) (rest : TreeSeen) → IsDone lists own rest answer → HasMade rest) where
  -- calls were made, and nothing else came of the run
  pub runs_made : RunsBy given IsDone tree err out answer → HasMade tree
  runs_made (stopped error comes is silent silent_out) = comes_made given tree (Err error) comes
  runs_made (came told count calls lists comes is_done) =
      some_joined (comes_made given (up_to tree told count calls) (Ok lists) comes) (makes lists (command_by given.command lists) (from_there tree told count calls) is_done)

  module _ (EndsSo : Result X Error → Type 0) (wanting : (error : Error) → MayEndLawful (cause_of error) → EndsSo (Err error)) (had : ListsGiven)
      (done : (rest : TreeSeen) → NoRefusal (command_by given.command had) rest → IsDone had (command_by given.command had) rest answer → EndsSo answer) where
    abbrev own : CommandArguments
    own = command_by given.command had

    module _ (Same : List Call → List Call → Type 0) (alike : IsAlike Same) (hearing : CommandHearing) (asked : PolicyAndCrates) (lawful : IsLawful given hearing had asked) (more : List Call)
        (alikes : (calls : List Call) → MadeOn tree calls → Same (there_call given ∷ (lists_calls (handed_in given) given.own hearing.lists ++ more)) calls)
        (free : (one : RequestHearing) (error : Error) → one.begun ≡ tree.count_before → Same more (calls_of own one) → IsRefusal own one error → ⊥) where
      -- the calls behind names and texts are alike
      alike_behind : (told : Option Content) (count : ℕ) (calls : List Call) (lists : ListsGiven) → CameBy given (up_to tree told count calls) lists → (rest : List Call)
          → MadeOn (from_there tree told count calls) rest → (lists ≡ had) × Same more rest
      alike_behind told count calls lists by rest made =
          came_alike Same alike given lawful.asks.carried lawful.comes.named hearing.lists had lawful.comes.heard more (up_to tree told count calls) lists by rest
          (alikes (there_call given ∷ (lists_calls (handed_in given) given.own by.hearing ++ rest)) (made_joined by.made made))

      free_behind : (told : Option Content) (count : ℕ) (calls : List Call) (lists : ListsGiven) → CameBy given (up_to tree told count calls) lists
          → NoRefusal own (from_there tree told count calls)
      free_behind told count calls lists by one error ran refusal =
          free one error (ran.begun ∙ by.still) (alike_behind told count calls lists by (calls_of own one) ran.made).1 refusal

      lawful_by : RunsBy given IsDone tree err out answer → EndsSo answer
      lawful_by (stopped error comes is silent silent_out) =
          subst EndsSo (sym is)
          (wanting error (refused_before Same alike given lawful.asks.carried lawful.comes.named hearing.lists had lawful.comes.heard more tree error comes alikes))
      lawful_by (came told count calls lists comes is_done) =
          let rest = from_there tree told count calls in
          let by = comes_by given (up_to tree told count calls) lists comes in
          let made = makes lists (command_by given.command lists) rest is_done in
          done rest (free_behind told count calls lists by)
          (subst (λ one. IsDone one (command_by given.command one) rest answer) (alike_behind told count calls lists by made.calls made.made).0 is_done)

    -- by what was read
    pub lawful_run : (hearing : CommandHearing) (behind : List Call) (asked : PolicyAndCrates) → IsLawfulRun given tree hearing had behind asked → RunsBy given IsDone tree err out answer → EndsSo answer
    lawful_run hearing behind asked is =
        lawful_by IsSameTrace trace_alike hearing asked is.lawful (calls_of own hearing.found ++ behind) alikes
        (λ one error begun same refusal. free_read own hearing.found one asked (begun ∙ sym is.begun.found) is.lawful.due is.lawful.asks error refusal behind (sym same))
      where
        alikes : (calls : List Call) → MadeOn tree calls → there_call given ∷ (lists_calls (handed_in given) given.own hearing.lists ++ (calls_of own hearing.found ++ behind)) ≡ calls
        alikes calls made =
            ap (λ one. there_call given ∷ one) (sym (append_assoc (lists_calls (handed_in given) given.own hearing.lists) (calls_of own hearing.found) behind))
            ∙ append_cancel_left tree.calls_before (run_calls given hearing had ++ behind) calls (sym is.made.traced ∙ made.traced)

    -- and by a content, where the tree tells it
    pub lawful_over : (content : Content) → tree.told ≡ Some content → ¬ (Rose tree.count_before tree.count_after) → (hearing : CommandHearing) (asked : PolicyAndCrates)
        → IsLawfulOver given content tree.count_before hearing had asked → RunsBy given IsDone tree err out answer → EndsSo answer
    lawful_over content told still hearing asked is =
        lawful_by (IsSameContent content tree.count_before tree.count_after) (content_alike content tree.count_before tree.count_after still) hearing asked is.lawful (calls_of own hearing.found)
        (λ calls made. record {
          tells = recursion_from_All (TellsContent content) (run_calls given hearing had) is.tells;
          says = recursion_from_All (Says content) calls (made.says content told);
          counts = made.counts;
        })
        (λ one error begun same refusal.
        free_told own hearing.found one asked (begun ∙ sym is.begun.found) is.lawful.due is.lawful.asks error refusal content tree.count_before tree.count_after still same)
