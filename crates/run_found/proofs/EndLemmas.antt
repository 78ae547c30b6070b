-- What is found of a policy at each end of its load.
use Rattle.std.proofs.Common.{◌≡◌, ◌∙◌, ◌⊎◌, inl, inr, sym, ap, subst, ℕ, List, [], Option, Result, Ok, Err}
use Rattle.tree_core.specs.Call.{Call}
use Rattle.tree_core.specs.Content.{Content}
use Rattle.tree_core.specs.Faults.{Gained, GainedPrefix}
use Rattle.tree_core.specs.Hearing.{MadeSome}
use Rattle.spdx_terms.specs.catalog.Catalog.{CatalogLists}
use Rattle.diag_core.specs.File.{File}
use Rattle.diag_print.specs.declared.context.LogContext.{LogContext}
use Rattle.tree_core.specs.texts.Cause.{Cause, no_memory, refused_write, ReadCounts}
use Rattle.tree_core.specs.declared.texts.fault.ReadFault.TheVariants.{Failed, Absent, Folder, NotUtf8}
use Rattle.policy_core.specs.declared.load.LoadedPolicy.{LoadedPolicy}
use Rattle.policy_load.specs.Answer.{AnswersLoad, Comes, IsCutLoad, LoadsBy, Prints, WriteCounts, load_cause}
use Rattle.policy_load.specs.Heard.{LoadHeard}
use Rattle.policy_load.specs.Load.{LoadResult, load_of}
use Rattle.policy_load.specs.declared.error.LoadError.{LoadError}
use Rattle.policy_load.specs.declared.error.LoadError.TheVariants as load
use Rattle.policy_load.specs.declared.loading.PolicyPaths.{PolicyPaths}
use Rattle.run_found.specs.declared.policy.PolicyRefusal.TheVariants as refusal
use Rattle.run_found.specs.Error.{cause_of, error_of_load}
use Rattle.run_found.specs.Finds.{FindsInPart, FindsPolicy, FindsRefusal, policy_hearing}
use Rattle.run_found.specs.Found.{load_text, load_told}
use Rattle.run_found.specs.Given.{RequestArguments}
use Rattle.run_found.specs.Hearing.{RequestHearing, TreeSeen, tree_seen}
use Rattle.run_found.specs.Paths.{ArePathsAt}
use Rattle.run_found.specs.Written.{TextWritten}
use Rattle.run_found.proofs.FoundLemmas.{found-policy, found-refused, loaded-is, table-is, told-due}
use Rattle.run_found.proofs.LoadedLemmas.{LoadEnded, cut_part, load_ended}
use Rattle.run_found.proofs.SearchLemmas.{Searched, nothing_of, searched}

pub counts_at : (begun own before after : ℕ) (cause : Cause) → own ≡ begun → ReadCounts own before after cause → ReadCounts begun before after cause
counts_at begun own before after cause same counts = subst (λ n. ReadCounts n before after cause) same counts

-- how a load ended, or that it was given up
abbrev pub EndsLoad : CatalogLists → LogContext → PolicyPaths → ℕ → ℕ → ℕ → List Call → List Call → List File → List File → Option (List ℕ) → Option (List ℕ) → Result LoadedPolicy LoadError → Type 0
EndsLoad lists context paths begun first after calls more old new before behind result =
    IsCutLoad lists begun calls more old paths before behind result ⊎ LoadsBy lists context paths begun first after calls more old new before behind result

pub ends_at : (lists : CatalogLists) (context : LogContext) (paths : PolicyPaths) (begun own first after : ℕ) (calls more : List Call) (old new : List File) (before behind : Option (List ℕ))
    (result : Result LoadedPolicy LoadError) → own ≡ begun → old ≡ []
    → EndsLoad lists context paths own first after calls more old new before behind result → EndsLoad lists context paths begun first after calls more [] new before behind result
ends_at lists context paths begun own first after calls more old new before behind result since none ends =
    subst (λ files. EndsLoad lists context paths begun first after calls more files new before behind result) none
    (subst (λ n. EndsLoad lists context paths n first after calls more old new before behind result) since ends)

memory_of : (error : LoadError) → ◌≡◌ {A = Result LoadedPolicy LoadError} (Err error) (Err load.Memory) → error ≡ load.Memory
memory_of error e = cc

-- ---- what a load that came to its end prints and answers

module _ (given : RequestArguments) (tree : TreeSeen) (paths : PolicyPaths) (heard : LoadHeard) (ended : LoadEnded given tree paths heard) (held gained : Option (List ℕ)) where
  abbrev own : RequestHearing
  own = policy_hearing tree ended.hears

  abbrev came : LoadResult
  came = load_of given.lists [] paths heard

  -- what is printed of the load
  text_same : load_told given own ≡ load_text given.log (Ok came)
  text_same = told-due given own ended.due ∙ ap (load_text given.log) (loaded-is given own paths ended.paths_are ∙ ap Ok ended.loads)

  -- the policy
  pub loaded_finds : (policy : LoadedPolicy) (new : List File) (before behind : ℕ) → Comes came given.log [] new held gained (Ok policy) → FindsPolicy given tree held gained before behind new (Ok policy)
  loaded_finds policy new before behind comes =
      let found = comes.answers in
      record {
        heard = ended.hears;
        made = ended.made;
        due = ended.due;
        found = found.found;
        is = found-policy given own paths ended.paths_are found.found (ap (λ (one : LoadResult). one.answer) ended.loads ∙ found.is);
        valid = found.valid_of;
        files_are = comes.files ∙ sym (table-is given own paths ended.paths_are ∙ ap (λ (one : LoadResult). one.files) ended.loads);
        written = subst (Gained held gained) (sym text_same) comes.prints;
      }

  -- its refusal
  module _ (before behind : ℕ) (new : List File) where
    load_first : (error : LoadError) → came.answer ≡ Err error → TextWritten (load_text given.log (Ok came)) held gained before behind (cause_of (error_of_load error))
        → FindsRefusal given tree held gained before behind (refusal.Load error)
    load_first error is written = record {
      heard = ended.hears;
      made = ended.made;
      due = ended.due;
      is = found-refused given own paths ended.paths_are error (ap (λ (one : LoadResult). one.answer) ended.loads ∙ is);
      written = subst (λ text. TextWritten text held gained before behind (cause_of (error_of_load error))) (sym text_same) written;
    }

    load_in_part : (cause : Cause) → TextWritten (load_text given.log (Ok came)) held gained before behind cause → FindsInPart given tree held gained before behind cause
    load_in_part cause written = record {
      heard = ended.hears;
      made = ended.made;
      stops = ended.stops;
      written = subst (λ text. TextWritten text held gained before behind cause) (sym text_same) written;
    }

    pub refused_finds : (error : LoadError) → AnswersLoad came.answer (Err error) → WriteCounts before behind (load_cause error)
        → Prints held gained (load_text given.log (Ok came)) (Err error) → FindsPolicy given tree held gained before behind new (Err (refusal.Load error))
    refused_finds load.Memory answers counts prints = load_in_part no_memory prints
    refused_finds (load.ConfigRead (Failed first last)) answers counts prints = load_first (load.ConfigRead (Failed first last)) answers prints
    refused_finds (load.ConfigRead Absent) answers counts prints = load_first (load.ConfigRead Absent) answers prints
    refused_finds (load.ConfigRead Folder) answers counts prints = load_first (load.ConfigRead Folder) answers prints
    refused_finds (load.ConfigRead (NotUtf8 place)) answers counts prints = load_first (load.ConfigRead (NotUtf8 place)) answers prints
    refused_finds (load.ConfigSyntax fault) answers counts prints = load_first (load.ConfigSyntax fault) answers prints
    refused_finds (load.ConfigShape faults) answers counts prints = load_first (load.ConfigShape faults) answers prints
    refused_finds load.NotCarried answers counts prints = load_first load.NotCarried answers prints
    refused_finds (load.ConfigInvalid found) answers counts prints = load_first (load.ConfigInvalid found) answers prints
    refused_finds (load.WriteFault first last) answers counts prints = load_in_part (refused_write first last) (counts.0, counts.1, counts.2, prints)

-- ---- each end

module _ (given : RequestArguments) (paths : PolicyPaths) (old between more : List Call) (at : ArePathsAt given.context old between paths) (begun first after : ℕ) (told middle tells : Option Content)
    (looked : MadeSome told middle begun first old between) (loaded : MadeSome middle tells first after between more)
    (new : List File) (held gained : Option (List ℕ)) (before behind : ℕ) where
  abbrev whole : TreeSeen
  whole = tree_seen told tells begun after old more

  found : Searched given paths old between
  found = searched given paths old between at

  -- the load was given up
  cut_finds : (error : LoadError) → IsCutLoad given.lists begun between more [] paths held gained (Err error) → FindsPolicy given whole held gained before behind new (Err (refusal.Load error))
  cut_finds error cut =
      let part = cut_part given paths old between more found begun first after told middle tells looked loaded cut.calls_are in
      let text = load_told given (policy_hearing whole part.heard) in
      let finds : FindsInPart given whole held gained before behind no_memory = record {
        heard = part.heard;
        made = part.made;
        stops = part.stops;
        written = subst (λ last. GainedPrefix held last text) (sym cut.unprinted.same) (nothing_of held text);
      } in
      subst (λ one. FindsPolicy given whole held gained before behind new (Err (refusal.Load one))) (sym (memory_of error cut.unprinted.memory)) finds

  -- it came to its end
  ended : (result : Result LoadedPolicy LoadError) (loads : LoadsBy given.lists given.log paths begun first after between more [] new held gained result) → LoadEnded given whole paths loads.heard
  ended result loads =
      load_ended given paths old between more found begun first after told middle tells looked loaded loads.heard loads.mid loads.between loads.policy loads.counts loads.reads

  pub load_refused : (error : LoadError) → EndsLoad given.lists given.log paths begun first after between more [] new held gained (Err error)
      → WriteCounts before behind (load_cause error) → FindsPolicy given whole held gained before behind new (Err (refusal.Load error))
  load_refused error (inl cut) counts = cut_finds error cut
  load_refused error (inr loads) counts =
      refused_finds given whole paths loads.heard (ended (Err error) loads) held gained before behind new error loads.comes.answers counts loads.comes.prints

  pub load_finds : (policy : LoadedPolicy) → EndsLoad given.lists given.log paths begun first after between more [] new held gained (Ok policy)
      → FindsPolicy given whole held gained before behind new (Ok policy)
  load_finds policy (inl cut) = absurd (apart policy cut.unprinted.memory)
    where
      apart : (policy : LoadedPolicy) → ◌≡◌ {A = Result LoadedPolicy LoadError} (Ok policy) (Err load.Memory) → ⊥
      apart policy e = absurd (cc)
  load_finds policy (inr loads) = loaded_finds given whole paths loads.heard (ended (Ok policy) loads) held gained policy new before behind loads.comes
