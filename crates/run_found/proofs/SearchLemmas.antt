-- The two searches of a request, by what their looks were answered.
use Rattle.std.proofs.Common.{◌≡◌, ◌∙◌, inl, inr, refl, sym, ap, ap₂, subst, ℕ, List, [], ◌++◌, append-nil, append_assoc, Option, Some, None, Result, Ok, Err}
use Rattle.tree_core.specs.Call.{CallAnswer, Call}
use Rattle.tree_core.specs.Content.{Content}
use Rattle.tree_core.specs.Faults.{Gained, GainedPrefix}
use Rattle.tree_core.specs.Hearing.{MadeSome}
use Rattle.tree_core.specs.Trace.{faults_after}
use Rattle.tree_core.proofs.MadeLemmas.{faults_after-append, made_as, made_these}
use Rattle.tree_core.specs.texts.Cause.{ReadCounts, failed_read}
use Rattle.tree_core.specs.declared.texts.fault.ReadFault.TheVariants.{Failed}
use Rattle.tree_core.specs.declared.texts.search.SearchError.{SearchError}
use Rattle.tree_core.specs.declared.texts.search.SearchError.TheVariants as search
use Rattle.tree_core.specs.declared.texts.search.SoughtFile.TheVariants.{Policy, Exceptions}
use Rattle.tree_core.specs.texts.Search.{candidates, search_cause}
use Rattle.diag_core.specs.File.{File}
use Rattle.policy_load.specs.declared.loading.PolicyPaths.{PolicyPaths}
use Rattle.run_request.specs.declared.context.KrateContext.{KrateContext}
use Rattle.run_context.specs.Paths.{LooksForPath, PathUntil}
use Rattle.run_found.specs.declared.error.Error.{Error}
use Rattle.run_found.specs.declared.error.Error.TheVariants.{ConfigRead}
use Rattle.run_found.specs.declared.policy.PolicyRefusal.TheVariants as refusal
use Rattle.run_found.specs.Finds.{FindsPolicy, HearsPolicy, PolicyHeard, policy_hearing, at_looks, at_sought}
use Rattle.run_found.specs.Found.{policy_calls, config_by, config_in, count_looked, count_sought, exceptions_due, exceptions_in, load_text, load_told, path_by, paths_found, paths_looked, paths_sought, policy_due, sought_for}
use Rattle.run_found.specs.Given.{RequestArguments}
use Rattle.run_found.specs.Hearing.{LooksResult, look_failed, nowhere, at, unended, IsReadWhereDue, MadeOn, RequestHearing, TreeSeen, look_calls, looks_by, read_calls, tree_seen}
use Rattle.run_found.specs.Paths.{ArePathsAt, PathsUntil}
use Rattle.run_found.proofs.CallLemmas.{LooksAre, LooksMade, failed_are, looked_are, looks_found, lost_made, no_looks, no_read}
use Rattle.run_found.proofs.FoundLemmas.{due-refused, exceptions-refused, loaded-refused, looked-at, looked-none, paths-config, paths-exceptions, policy-refused, told-due}

nowhere-apart : ◌≡◌ {A = LooksResult} nowhere unended → ⊥
nowhere-apart e = absurd (cc)

failed-apart : ◌≡◌ {A = LooksResult} look_failed unended → ⊥
failed-apart e = absurd (cc)

at-apart : (path : List ℕ) → ◌≡◌ {A = LooksResult} (at path) unended → ⊥
at-apart path e = absurd (cc)

-- looks that found something, or nothing anywhere, came to their end
pub found-apart : (found : Option (List ℕ)) → ◌≡◌ {A = LooksResult} (looks_found found) unended → ⊥
found-apart None e = nowhere-apart e
found-apart (Some path) e = at-apart path e

pub path_found : (begun after : ℕ) (found : Option (List ℕ)) → path_by begun after (looks_found found) ≡ Ok found
path_found begun after None = refl
path_found begun after (Some path) = refl

-- ---- the search for a policy

-- it came to this path, or to none
pub record ConfigFound (context : KrateContext) (asked : Option (List ℕ)) (old new : List Call) (found : Option (List ℕ)) : Type 0 where
  pub sought : List CallAnswer
  pub made : new ≡ old ++ look_calls (sought_for asked context.manifest_path) sought
  pub ended : looks_by (sought_for asked context.manifest_path) sought ≡ unended → ⊥
  pub config : (begun after : ℕ) → config_by context.cwd asked (path_by begun after (looks_by (sought_for asked context.manifest_path) sought)) ≡ Ok found

config_found : (context : KrateContext) (asked : Option (List ℕ)) (old new : List Call) (found : Option (List ℕ)) → LooksForPath context old new asked found → ConfigFound context asked old new found
config_found context (Some path) old new found is = record {
  sought = [];
  made = is.1 ∙ sym (append-nil old);
  ended = nowhere-apart;
  config = λ begun after. ap Ok (sym is.0);
}
config_found context None old new found is =
    let looks = looked_are (candidates Policy context.manifest_path) old new found is in
    record {
      sought = looks.looks;
      made = looks.made;
      ended = λ e. found-apart found (sym looks.by ∙ e);
      config = λ begun after. ap (path_by begun after) looks.by ∙ path_found begun after found;
    }

-- a look failed
record ConfigFailed (context : KrateContext) (asked : Option (List ℕ)) (old new : List Call) : Type 0 where
  pub sought : List CallAnswer
  pub made : new ≡ old ++ look_calls (sought_for asked context.manifest_path) sought
  pub by : looks_by (sought_for asked context.manifest_path) sought ≡ look_failed
  pub config : (begun after : ℕ) → config_by context.cwd asked (path_by begun after (looks_by (sought_for asked context.manifest_path) sought)) ≡ Err (ConfigRead (Failed begun after))

failed_memory : (first last : ℕ) → ◌≡◌ {A = SearchError} (search.Failed first last) search.Memory → ⊥
failed_memory first last e = absurd (cc)

config_failed : (context : KrateContext) (asked : Option (List ℕ)) (old new : List Call) (first last : ℕ) → PathUntil context old new asked (search.Failed first last) → ConfigFailed context asked old new
config_failed context (Some path) old new first last is = absurd (failed_memory first last is.0)
config_failed context None old new first last is =
    let looks = failed_are (candidates Policy context.manifest_path) old new first last is in
    record {
      sought = looks.looks;
      made = looks.made;
      by = looks.by;
      config = λ begun after. ap (path_by begun after) looks.by;
    }

-- memory was wanting
config_lost : (context : KrateContext) (asked : Option (List ℕ)) (old new : List Call) → PathUntil context old new asked search.Memory → LooksMade (sought_for asked context.manifest_path) old new
config_lost context (Some path) old new is = record { looks = []; made = is.1 ∙ sym (append-nil old) }
config_lost context None old new is = lost_made (candidates Policy context.manifest_path) old new is

-- ---- both searches

-- they came to these paths, by these looks
pub record Searched (given : RequestArguments) (paths : PolicyPaths) (old new : List Call) : Type 0 where
  pub sought : List CallAnswer
  pub ended : looks_by (paths_sought given) sought ≡ unended → ⊥
  pub config : (begun after : ℕ) → config_by given.context.cwd given.context.config_path (path_by begun after (looks_by (paths_sought given) sought)) ≡ Ok paths.policy
  pub looks : List CallAnswer
  pub by : looks_by (candidates Exceptions given.context.manifest_path) looks ≡ looks_found paths.exceptions
  pub made : new ≡ old ++ (look_calls (paths_sought given) sought ++ look_calls (candidates Exceptions given.context.manifest_path) looks)

-- calls, and then more
pub traced_both : (old between new one other : List Call) → between ≡ old ++ one → new ≡ between ++ other → new ≡ old ++ (one ++ other)
traced_both old between new one other first then = then ∙ ap (λ calls. calls ++ other) first ∙ append_assoc old one other

pub searched : (given : RequestArguments) (paths : PolicyPaths) (old new : List Call) → ArePathsAt given.context old new paths → Searched given paths old new
searched given paths old new are =
    let config = config_found given.context given.context.config_path old are.between paths.policy are.config in
    let looks = looked_are (candidates Exceptions given.context.manifest_path) are.between new paths.exceptions are.exceptions in
    record {
      sought = config.sought;
      ended = config.ended;
      config = config.config;
      looks = looks.looks;
      by = looks.by;
      made =
          traced_both old are.between new (look_calls (paths_sought given) config.sought) (look_calls (candidates Exceptions given.context.manifest_path) looks.looks)
          config.made looks.made;
    }

-- ---- where only looks were made

abbrev pub looked_alone : List CallAnswer → List CallAnswer → PolicyHeard
looked_alone sought looks = record { sought = sought; looks = looks; policy = None; exceptions = None }

calls-looked : (given : RequestArguments) (tree : TreeSeen) (sought looks : List CallAnswer)
    → policy_calls given (policy_hearing tree (looked_alone sought looks))
    ≡ look_calls (paths_sought given) sought ++ look_calls (paths_looked given (policy_hearing tree (looked_alone sought looks))) looks
calls-looked given tree sought looks =
    let hearing = policy_hearing tree (looked_alone sought looks) in
    let own = look_calls (paths_sought given) sought ++ look_calls (paths_looked given hearing) looks in
    ap (λ calls. own ++ calls ++ read_calls (exceptions_due given hearing) None) (no_read (policy_due given hearing))
    ∙ ap (λ calls. own ++ [] ++ calls) (no_read (exceptions_due given hearing))
    ∙ append-nil (own ++ [])
    ∙ append-nil own

pub gained-nil : (held : Option (List ℕ)) → Gained held held []
gained-nil None = refl
gained-nil (Some held) = ap Some (sym (append-nil held))

-- nothing was written
pub nothing_of : (held : Option (List ℕ)) (text : List ℕ) → GainedPrefix held held text
nothing_of held text = record { front = []; rest = text; parts = refl; gained = gained-nil held }

module _ (given : RequestArguments) (told tells : Option Content) (count after : ℕ) (calls more : List Call) (made : MadeSome told tells count after calls more)
    (held : Option (List ℕ)) (before behind : ℕ) (files : List File) where
  abbrev tree : TreeSeen
  tree = tree_seen told tells count after calls more

  abbrev manifest_looks : List (List ℕ)
  manifest_looks = candidates Exceptions given.context.manifest_path

  -- ---- among the looks for a policy

  -- these are the calls
  sought_made : (sought : List CallAnswer) → more ≡ calls ++ look_calls (paths_sought given) sought → MadeOn tree (policy_calls given (policy_hearing tree (looked_alone sought [])))
  sought_made sought is =
      let hearing = policy_hearing tree (looked_alone sought []) in
      made_as
      (sym (calls-looked given tree sought [] ∙ ap (λ own. look_calls (paths_sought given) sought ++ own) (no_looks (paths_looked given hearing)) ∙ append-nil (look_calls (paths_sought given) sought)))
      (made_these made is)

  sought_lost : LooksMade (paths_sought given) calls more → FindsPolicy given tree held held before behind files (Err (refusal.Search search.Memory))
  sought_lost looks = record {
    heard = looked_alone looks.looks [];
    made = sought_made looks.looks looks.made;
    stops = at_sought refl refl refl;
    written = nothing_of held (load_told given (policy_hearing tree (looked_alone looks.looks [])));
  }

  -- what is read where the paths were refused
  refused_due : (hearing : RequestHearing) (error : Error) → paths_found given hearing ≡ Err error → hearing.policy ≡ None → hearing.exceptions ≡ None
      → (looks_by (paths_sought given) hearing.sought ≡ unended → ⊥) → (looks_by (paths_looked given hearing) hearing.looks ≡ unended → ⊥) → HearsPolicy given hearing
  refused_due hearing error refused none_policy none_exceptions sought looks = record {
    looks = record { sought = sought; looks = looks };
    policy = subst (λ due. IsReadWhereDue due hearing.policy) (sym (due-refused given hearing error refused)) none_policy;
    exceptions = subst (λ due. IsReadWhereDue due hearing.exceptions) (sym (exceptions-refused given hearing error refused)) none_exceptions;
  }

  -- a refusal of the searches, with the counts of the run's start and end
  refused_finds : (heard : PolicyHeard) (own first last : ℕ) → MadeOn tree (policy_calls given (policy_hearing tree heard)) → HearsPolicy given (policy_hearing tree heard)
      → paths_found given (policy_hearing tree heard) ≡ Err (ConfigRead (Failed count own)) → after ≡ own → ReadCounts count count after (failed_read first last)
      → FindsPolicy given tree held held before behind files (Err (refusal.Search (search.Failed first last)))
  refused_finds heard own first last all due refused is counts =
      let hearing = policy_hearing tree heard in
      let same : paths_found given hearing ≡ Err (ConfigRead (Failed first last)) =
      refused ∙ ap₂ (λ one other. let it : Result PolicyPaths Error = Err (ConfigRead (Failed one other)) in it) (sym counts.0) (sym (counts.1 ∙ is)) in
      let error = ConfigRead (Failed first last) in
      record {
        heard = heard;
        made = all;
        due = due;
        is = policy-refused given hearing error same;
        written = subst (Gained held held) (sym (told-due given hearing due ∙ ap (load_text given.log) (loaded-refused given hearing error same))) (gained-nil held);
      }

  sought_refused : (first last : ℕ) → ConfigFailed given.context given.context.config_path calls more → ReadCounts count count after (failed_read first last)
      → FindsPolicy given tree held held before behind files (Err (refusal.Search (search.Failed first last)))
  sought_refused first last failed counts =
      let heard = looked_alone failed.sought [] in
      let hearing = policy_hearing tree heard in
      let own = count_sought given hearing in
      let refused : config_in given hearing ≡ Err (ConfigRead (Failed count own)) = failed.config count own in
      let paths = paths-config given hearing (ConfigRead (Failed count own)) refused in
      let none : looks_by (paths_looked given hearing) [] ≡ nowhere = ap (λ those. looks_by those []) (looked-none given hearing (ConfigRead (Failed count own)) refused) in
      refused_finds heard own first last (sought_made failed.sought failed.made)
      (refused_due hearing (ConfigRead (Failed count own)) paths refl refl (λ e. failed-apart (sym failed.by ∙ e)) (λ e. nowhere-apart (sym none ∙ e)))
      paths (made_these made failed.made).counts counts

  -- ---- among those for an exceptions file

  module _ (between : List Call) (found : Option (List ℕ)) (config : ConfigFound given.context given.context.config_path calls between found) where
    module _ (looks : List CallAnswer) (is : more ≡ between ++ look_calls manifest_looks looks) where
      abbrev heard_both : PolicyHeard
      heard_both = looked_alone config.sought looks

      abbrev hearing_both : RequestHearing
      hearing_both = policy_hearing tree heard_both

      config_both : config_in given hearing_both ≡ Ok found
      config_both = config.config count (count_sought given hearing_both)

      looked_both : paths_looked given hearing_both ≡ manifest_looks
      looked_both = looked-at given hearing_both found config_both

      traced : more ≡ calls ++ (look_calls (paths_sought given) config.sought ++ look_calls manifest_looks looks)
      traced = traced_both calls between more (look_calls (paths_sought given) config.sought) (look_calls manifest_looks looks) config.made is

      both_made : MadeOn tree (policy_calls given hearing_both)
      both_made =
          made_as
          (sym (calls-looked given tree config.sought looks ∙ ap (λ those. look_calls (paths_sought given) config.sought ++ look_calls those looks) looked_both))
          (made_these made traced)

      both_count : after ≡ count_looked given hearing_both
      both_count =
          (made_these made traced).counts ∙ faults_after-append count (look_calls (paths_sought given) config.sought) (look_calls manifest_looks looks)
          ∙ ap (λ those. faults_after (count_sought given hearing_both) (look_calls those looks)) (sym looked_both)

    looks_lost : LooksMade manifest_looks between more → FindsPolicy given tree held held before behind files (Err (refusal.Search search.Memory))
    looks_lost lost = record {
      heard = heard_both lost.looks lost.made;
      made = both_made lost.looks lost.made;
      stops = at_looks config.ended refl refl;
      written = nothing_of held (load_told given (hearing_both lost.looks lost.made));
    }

    looks_refused : (first last : ℕ) → LooksAre manifest_looks look_failed between more → ReadCounts count count after (failed_read first last)
        → FindsPolicy given tree held held before behind files (Err (refusal.Search (search.Failed first last)))
    looks_refused first last failed counts =
        let heard = heard_both failed.looks failed.made in
        let hearing = hearing_both failed.looks failed.made in
        let own = count_looked given hearing in
        let error = ConfigRead (Failed count own) in
        let by : looks_by (paths_looked given hearing) failed.looks ≡ look_failed = ap (λ those. looks_by those failed.looks) (looked_both failed.looks failed.made) ∙ failed.by in
        let refused : exceptions_in given hearing ≡ Err error = ap (path_by count own) by in
        let paths = paths-exceptions given hearing found (config_both failed.looks failed.made) error refused in
        refused_finds heard own first last (both_made failed.looks failed.made)
        (refused_due hearing error paths refl refl config.ended (λ e. failed-apart (sym by ∙ e)))
        paths (both_count failed.looks failed.made) counts

  -- ---- a search that was given up

  pub search_finds : (error : SearchError) → PathsUntil given.context calls more error → ReadCounts count count after (search_cause error)
      → FindsPolicy given tree held held before behind files (Err (refusal.Search error))
  search_finds search.Memory (inl until) counts = sought_lost (config_lost given.context given.context.config_path calls more until)
  search_finds search.Memory (inr both) counts =
      looks_lost both.between both.found (config_found given.context given.context.config_path calls both.between both.found both.config)
      (lost_made manifest_looks both.between more both.until)
  search_finds (search.Failed first last) (inl until) counts =
      sought_refused first last (config_failed given.context given.context.config_path calls more first last until) counts
  search_finds (search.Failed first last) (inr both) counts =
      looks_refused both.between both.found (config_found given.context given.context.config_path calls both.between both.found both.config)
      first last (failed_are manifest_looks both.between more first last both.until) counts
