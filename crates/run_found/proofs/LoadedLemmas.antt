-- What is read behind the two searches: of the policy's file, and of the exceptions file.
use Rattle.std.proofs.Common.{◌≡◌, ◌∙◌, ◌⊎◌, inl, inr, refl, sym, ap, subst, ℕ, List, [], ◌∷◌, ◌++◌, append-nil, append_assoc, Option, Some, None, Result, Ok}
use Rattle.tree_core.specs.Call.{CallAnswer, Call}
use Rattle.tree_core.specs.Content.{Content}
use Rattle.tree_core.specs.Hearing.{MadeSome}
use Rattle.tree_core.specs.Trace.{fault_behind, faults_after}
use Rattle.tree_core.proofs.MadeLemmas.{faults_after-append, made_as, made_joined, made_these}
use Rattle.tree_core.specs.texts.Heard.{read_of}
use Rattle.tree_core.specs.declared.texts.fault.ReadFault.{ReadFault}
use Rattle.tree_core.specs.texts.Search.{candidates}
use Rattle.tree_core.specs.declared.texts.search.SoughtFile.TheVariants.{Exceptions}
use Rattle.policy_core.specs.text.Config.{config_of_text}
use Rattle.policy_core.specs.text.Text.{config_text_of}
use Rattle.policy_core.specs.declared.text.text.ConfigText.{ConfigText}
use Rattle.policy_load.specs.Answer.{MayReadBoth, ReadsBehind}
use Rattle.policy_load.specs.Heard.{IsPolicyRead, LoadHeard, MayReadPolicy}
use Rattle.policy_load.specs.Load.{load_by_text, load_of, with_policy}
use Rattle.policy_load.specs.declared.loading.PolicyPaths.{PolicyPaths}
use Rattle.run_found.specs.Finds.{HearsPolicy, PolicyHeard, StopsBeforePolicy, policy_hearing, at_exceptions, at_policy}
use Rattle.run_found.specs.Found.{LooksEnd, policy_calls, config_in, count_looked, count_policy, count_sought, due_behind, due_by_text, exceptions_due, exceptions_in, load_at, load_heard, path_by, paths_found, paths_looked, paths_sought, policy_due}
use Rattle.run_found.specs.Given.{RequestArguments}
use Rattle.run_found.specs.Hearing.{IsReadWhereDue, MadeOn, RequestHearing, TreeSeen, count_behind, look_calls, looks_by, read_calls, tree_seen, text_by}
use Rattle.run_found.proofs.CallLemmas.{counts_due, heard_where, looks_found, no_read, text_heard_by}
use Rattle.run_found.proofs.FoundLemmas.{calls-due, exceptions-is, looked-at, paths-are, policy-is}
use Rattle.run_found.proofs.LoadCalls.{CountsFurther, LoadsAlike, ReadsDue, may_further, reads_behind, text_anyhow}
use Rattle.run_found.proofs.SearchLemmas.{Searched, found-apart, path_found}

-- ---- the policy's read

-- it was made where it was due, and this was read by it
pub record PolicyRead (begun first mid : ℕ) (between inner : List Call) (path : Option (List ℕ)) (told : Result (List ℕ) ReadFault) : Type 0 where
  pub answer : Option CallAnswer
  pub due_read : IsReadWhereDue path answer
  pub made : inner ≡ between ++ read_calls path answer
  pub text : text_by begun mid answer ≡ told
  pub count : mid ≡ count_behind first answer

policy_read : (begun first mid : ℕ) (between inner : List Call) (path : Option (List ℕ)) (told : Result (List ℕ) ReadFault) → IsPolicyRead begun mid between inner path told
    → ((own : List Call) → inner ≡ between ++ own → mid ≡ faults_after first own) → PolicyRead begun first mid between inner path told
policy_read begun first mid between inner None told is counts =
    let made = is.1 ∙ sym (append-nil between) in
    record { answer = None; due_read = refl; made = made; text = sym is.0; count = counts [] made }
policy_read begun first mid between inner (Some path) told read counts = record {
  answer = Some read.answer;
  due_read = heard_where read.answer begun mid told read.hears;
  made = read.made;
  text = text_heard_by read.answer begun mid told read.hears;
  count = counts (read_of path read.answer ∷ []) read.made;
}

-- it was made where it was due, and a text was read by it, whatever the counts are
record PolicyReadAnyhow (begun : ℕ) (between inner : List Call) (path : Option (List ℕ)) (told : Result (List ℕ) ReadFault) : Type 0 where
  pub answer : Option CallAnswer
  pub due_read : IsReadWhereDue path answer
  pub made : inner ≡ between ++ read_calls path answer
  pub text : (other : ℕ) → text_by begun other answer ≡ told

policy_anyhow : (begun mid : ℕ) (between inner : List Call) (path : Option (List ℕ)) (told : Result (List ℕ) ReadFault) (text : ConfigText) → IsPolicyRead begun mid between inner path told
    → config_text_of told ≡ Ok text → PolicyReadAnyhow begun between inner path told
policy_anyhow begun mid between inner None told text is by =
    record { answer = None; due_read = refl; made = is.1 ∙ sym (append-nil between); text = λ other. sym is.0 }
policy_anyhow begun mid between inner (Some path) told text read by = record {
  answer = Some read.answer;
  due_read = heard_where read.answer begun mid told read.hears;
  made = read.made;
  text = λ other. text_anyhow read.answer begun mid other told text read.hears by;
}

-- it may have been made
record MayReadIt (path : Option (List ℕ)) (between more : List Call) : Type 0 where
  pub answer : Option CallAnswer
  pub made : more ≡ between ++ read_calls path answer

may_read : (path : Option (List ℕ)) (between more : List Call) → MayReadPolicy between more path → MayReadIt path between more
may_read None between more is = record { answer = None; made = is ∙ sym (append-nil between) }
may_read (Some path) between more (inl is) = record { answer = None; made = is ∙ sym (append-nil between) }
may_read (Some path) between more (inr is) = record { answer = Some is.0; made = is.1 }

-- ---- behind the searches

module _ (given : RequestArguments) (paths : PolicyPaths) (old between : List Call) (found : Searched given paths old between) where
  abbrev pub manifest_looks : List (List ℕ)
  manifest_looks = candidates Exceptions given.context.manifest_path

  -- the calls of the searches
  abbrev pub search_calls : List Call
  search_calls = look_calls (paths_sought given) found.sought ++ look_calls (candidates Exceptions given.context.manifest_path) found.looks

  -- what is read, with these answers behind them
  abbrev pub heard_with : Option CallAnswer → Option CallAnswer → PolicyHeard
  heard_with policy exceptions = record { sought = found.sought; looks = found.looks; policy = policy; exceptions = exceptions }

  module _ (tree : TreeSeen) (policy exceptions : Option CallAnswer) where
    abbrev own : RequestHearing
    own = policy_hearing tree (heard_with policy exceptions)

    own_config : config_in given own ≡ Ok paths.policy
    own_config = found.config tree.count_before (count_sought given own)

    pub own_looked : paths_looked given (policy_hearing tree (heard_with policy exceptions)) ≡ manifest_looks
    own_looked = looked-at given own paths.policy own_config

    own_by : looks_by (paths_looked given own) found.looks ≡ looks_found paths.exceptions
    own_by = ap (λ those. looks_by those found.looks) own_looked ∙ found.by

    own_exceptions : exceptions_in given own ≡ Ok paths.exceptions
    own_exceptions = ap (path_by tree.count_before (count_looked given own)) own_by ∙ path_found tree.count_before (count_looked given own) paths.exceptions

    -- the paths are those that were found
    pub own_paths : paths_found given (policy_hearing tree (heard_with policy exceptions)) ≡ Ok paths
    own_paths = paths-are given own paths.policy own_config paths.exceptions own_exceptions

    pub own_ended : LooksEnd given (policy_hearing tree (heard_with policy exceptions))
    own_ended = record { sought = found.ended; looks = λ e. found-apart paths.exceptions (sym own_by ∙ e) }

    pub own_count : count_looked given (policy_hearing tree (heard_with policy exceptions)) ≡ faults_after tree.count_before search_calls
    own_count =
        ap (λ those. faults_after (count_sought given own) (look_calls those found.looks)) own_looked
        ∙ sym (faults_after-append tree.count_before (look_calls (paths_sought given) found.sought) (look_calls manifest_looks found.looks))

    -- all calls, with those of the load
    pub own_calls : (due : Option (List ℕ)) → exceptions_due given (policy_hearing tree (heard_with policy exceptions)) ≡ due
        → policy_calls given (policy_hearing tree (heard_with policy exceptions)) ≡ search_calls ++ (read_calls paths.policy policy ++ read_calls due exceptions)
    own_calls due is =
        let load = read_calls paths.policy policy in
        let further = read_calls due exceptions in
        calls-due given own manifest_looks paths.policy due own_looked (policy-is given own paths own_paths) is
        ∙ append_assoc search_calls load further

-- ---- a load that came to its end

-- A load came to its end over a tree: this is read of the policy's files, and it loads to the same.
pub record LoadEnded (given : RequestArguments) (tree : TreeSeen) (paths : PolicyPaths) (heard : LoadHeard) : Type 0 where
  pub hears : PolicyHeard
  pub paths_are : paths_found given (policy_hearing tree hears) ≡ Ok paths
  pub loads : load_at given (policy_hearing tree hears) paths ≡ load_of given.lists [] paths heard
  pub made : MadeOn tree (policy_calls given (policy_hearing tree hears))
  pub due : HearsPolicy given (policy_hearing tree hears)
  pub stops : StopsBeforePolicy given (policy_hearing tree hears)

module _ (given : RequestArguments) (paths : PolicyPaths) (old between more : List Call) (found : Searched given paths old between) (begun first after : ℕ) (told middle tells : Option Content)
    (looked : MadeSome told middle begun first old between) (loaded : MadeSome middle tells first after between more)
    (heard : LoadHeard) (mid : ℕ) (inner : List Call) (read : IsPolicyRead begun mid between inner paths.policy heard.policy)
    (counts : (own : List Call) → inner ≡ between ++ own → mid ≡ faults_after first own)
    (behind : ReadsBehind given.lists [] paths mid after inner more heard.exceptions (config_text_of heard.policy)) where
  abbrev whole : TreeSeen
  whole = tree_seen told tells begun after old more

  abbrev policy : PolicyRead begun first mid between inner paths.policy heard.policy
  policy = policy_read begun first mid between inner paths.policy heard.policy read counts

  abbrev due_further : Option (List ℕ)
  due_further = due_by_text given.lists paths (config_text_of heard.policy)

  first_is : first ≡ faults_after begun (search_calls given paths old between found)
  first_is = (made_these looked found.made).counts

  further_counts : CountsFurther mid after inner more
  further_counts path answer is =
      let one = read_of path answer ∷ [] in
      let calls = read_calls paths.policy policy.answer in
      (made_these loaded (traced calls one (is ∙ ap (λ those. those ++ one) policy.made))).counts
      ∙ faults_after-append first calls one
      ∙ ap (λ n. fault_behind n answer) (counts_due paths.policy policy.answer first policy.due_read ∙ sym policy.count)
    where
      traced : (calls one : List Call) → more ≡ between ++ calls ++ one → more ≡ between ++ (calls ++ one)
      traced calls one is = is ∙ append_assoc between calls one

  abbrev reads : ReadsDue (due_by_text given.lists paths (config_text_of heard.policy)) mid inner more (LoadsAlike given.lists paths heard.exceptions (config_text_of heard.policy))
  reads = reads_behind given.lists paths mid after inner more further_counts heard.exceptions (config_text_of heard.policy) behind

  load_made : more ≡ between ++ (read_calls paths.policy policy.answer ++ read_calls due_further reads.answer)
  load_made =
      reads.made ∙ ap (λ those. those ++ read_calls due_further reads.answer) policy.made
      ∙ append_assoc between (read_calls paths.policy policy.answer) (read_calls due_further reads.answer)

  -- what is read up to the policy
  abbrev load_hears : PolicyHeard
  load_hears = heard_with given paths old between found policy.answer reads.answer

  abbrev own_load : RequestHearing
  own_load = policy_hearing whole load_hears

  load_paths : paths_found given own_load ≡ Ok paths
  load_paths = own_paths given paths old between found whole policy.answer reads.answer

  policy_count : count_policy given own_load ≡ mid
  policy_count =
      ap (λ n. count_behind n policy.answer) (own_count given paths old between found whole policy.answer reads.answer ∙ sym first_is) ∙ sym policy.count

  policy_text : (load_heard given own_load).policy ≡ heard.policy
  policy_text = ap (λ n. text_by begun n policy.answer) policy_count ∙ policy.text

  exceptions_text : (load_heard given own_load).exceptions ≡ text_by mid (count_behind mid reads.answer) reads.answer
  exceptions_text = ap (λ n. text_by n (count_behind n reads.answer) reads.answer) policy_count

  exceptions_are : exceptions_due given own_load ≡ due_further
  exceptions_are = exceptions-is given own_load paths load_paths ∙ ap (λ text. due_by_text given.lists paths (config_text_of text)) policy_text

  -- the load comes to the same
  load_same : load_at given own_load paths ≡ load_of given.lists [] paths heard
  load_same =
      ap (λ text. load_by_text given.lists [] paths (load_heard given own_load).exceptions (config_text_of text)) policy_text
      ∙ ap (λ text. load_by_text given.lists [] paths text (config_text_of heard.policy)) exceptions_text
      ∙ reads.same

  policy_where_due : IsReadWhereDue (policy_due given own_load) policy.answer
  policy_where_due = subst (λ due. IsReadWhereDue due policy.answer) (sym (policy-is given own_load paths load_paths)) policy.due_read

  load_looked : LooksEnd given own_load
  load_looked = own_ended given paths old between found whole policy.answer reads.answer

  pub load_ended : LoadEnded given (tree_seen told tells begun after old more) paths heard
  load_ended = record {
    hears = load_hears;
    paths_are = load_paths;
    loads = load_same;
    made =
        made_as (sym (own_calls given paths old between found whole policy.answer reads.answer due_further exceptions_are))
        (made_joined (made_these looked found.made) (made_these loaded load_made));
    due = record {
      looks = load_looked;
      policy = policy_where_due;
      exceptions = subst (λ due. IsReadWhereDue due reads.answer) (sym exceptions_are) reads.due_read;
    };
    stops = at_exceptions load_looked policy_where_due;
  }

-- ---- a load that was given up

-- the calls are those that were due, up to some place
pub record LoadsInPart (given : RequestArguments) (tree : TreeSeen) : Type 0 where
  pub heard : PolicyHeard
  pub made : MadeOn tree (policy_calls given (policy_hearing tree heard))
  pub stops : StopsBeforePolicy given (policy_hearing tree heard)

module _ (given : RequestArguments) (paths : PolicyPaths) (old between more : List Call) (found : Searched given paths old between) (begun first after : ℕ) (told middle tells : Option Content)
    (looked : MadeSome told middle begun first old between) (loaded : MadeSome middle tells first after between more) where
  abbrev part : TreeSeen
  part = tree_seen told tells begun after old more

  in_part : (policy exceptions : Option CallAnswer) (due : Option (List ℕ)) → exceptions_due given (policy_hearing part (heard_with given paths old between found policy exceptions)) ≡ due
      → more ≡ between ++ (read_calls paths.policy policy ++ read_calls due exceptions)
      → MadeOn part (policy_calls given (policy_hearing part (heard_with given paths old between found policy exceptions)))
  in_part policy exceptions due is made =
      made_as (sym (own_calls given paths old between found part policy exceptions due is)) (made_joined (made_these looked found.made) (made_these loaded made))

  -- the policy's file may have been read
  policy_part : MayReadPolicy between more paths.policy → LoadsInPart given part
  policy_part may =
      let read = may_read paths.policy between more may in
      let due = exceptions_due given (policy_hearing part (heard_with given paths old between found read.answer None)) in
      record {
        heard = heard_with given paths old between found read.answer None;
        made = in_part read.answer None due refl
            (read.made ∙ ap (λ calls. between ++ calls) (sym (append-nil (read_calls paths.policy read.answer)) ∙ ap (λ calls. read_calls paths.policy read.answer ++ calls) (sym (no_read due))));
        stops = at_policy (own_ended given paths old between found part read.answer None) refl;
      }

  -- and behind it the exceptions file
  both_part : MayReadBoth given.lists begun between more [] paths → LoadsInPart given part
  both_part both =
      let read = policy_anyhow begun both.mid between both.between paths.policy both.heard both.text both.policy both.is in
      let due = due_behind (with_policy [] paths both.text) paths.exceptions (config_of_text given.lists both.text.text) in
      let may = may_further (with_policy [] paths both.text) paths.exceptions (config_of_text given.lists both.text.text) both.between more both.further in
      let hearing = policy_hearing part (heard_with given paths old between found read.answer may.answer) in
      let own = own_paths given paths old between found part read.answer may.answer in
      let due_is : exceptions_due given hearing ≡ due =
      exceptions-is given hearing paths own
      ∙ ap (λ text. due_by_text given.lists paths (config_text_of text)) (read.text (count_policy given hearing))
      ∙ ap (due_by_text given.lists paths) both.is in
      record {
        heard = heard_with given paths old between found read.answer may.answer;
        made = in_part read.answer may.answer due due_is
            (may.made ∙ ap (λ calls. calls ++ read_calls due may.answer) read.made ∙ append_assoc between (read_calls paths.policy read.answer) (read_calls due may.answer));
        stops = at_exceptions (own_ended given paths old between found part read.answer may.answer)
            (subst (λ one. IsReadWhereDue one read.answer) (sym (policy-is given hearing paths own)) read.due_read);
      }

  pub cut_part : MayReadPolicy between more paths.policy ⊎ MayReadBoth given.lists begun between more [] paths → LoadsInPart given part
  cut_part (inl policy) = policy_part policy
  cut_part (inr both) = both_part both
