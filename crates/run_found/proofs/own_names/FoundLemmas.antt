-- The lists and then the texts of a run.
use Rattle.std.proofs.Common.{◌≡◌, ℕ, List, [], ◌++◌, append-nil, Option, Some, None, Result, Ok, Err, refl, sym, ap, subst, ◌∙◌}
use Rattle.tree_core.specs.Call as call
use Rattle.tree_core.specs.Call.{CallAnswer, Call}
use Rattle.tree_core.specs.Content.{Content}
use Rattle.tree_core.specs.Hearing.{Made, MadeSome}
use Rattle.tree_core.specs.Trace.{faults_after}
use Rattle.tree_core.proofs.MadeLemmas.{made_as, made_joined, made_these}
use Rattle.tree_core.specs.texts.Cause.{Cause, ReadCounts, no_memory, told, failed_read, refused_write}
use Rattle.spdx_terms.specs.catalog.Catalog.{CatalogLists}
use Rattle.run_found.specs.declared.error.Error.{Error}
use Rattle.run_found.specs.Error.{cause_of}
use Rattle.run_found.specs.Hearing.{read_calls, tree_seen}
use Rattle.run_found.specs.own_names.Found.{AnswersBy, AnswersHeard, FindsLists, HasCatalog, HasTexts}
use Rattle.run_found.specs.own_names.Given.{ListsAsked, ListsGiven, TextsGiven, lists_asked}
use Rattle.run_found.specs.own_names.Heard.{ListsHearing, catalog_by, due_behind, given_behind, given_by, lists_calls, lists_heard, store_calls, store_due, texts_by, texts_heard, with_texts}

-- a catalogue that was found took no failed call
pub quiet : (given lists : CatalogLists) (path : Option (List ℕ)) (begun after : ℕ) (answer : Option CallAnswer) → catalog_by given path begun after answer ≡ Some (Ok lists) → faults_after begun (read_calls path answer) ≡ begun
quiet given lists None begun after answer is = refl
quiet given lists (Some path) begun after None is = refl
quiet given lists (Some path) begun after (Some (call.bytes items)) is = refl
quiet given lists (Some path) begun after (Some (call.entries items)) is = refl
quiet given lists (Some path) begun after (Some (call.told answer)) is = refl
quiet given lists (Some path) begun after (Some call.absent) is = refl
quiet given lists (Some path) begun after (Some call.wrong_kind) is = refl
quiet given lists (Some path) begun after (Some call.failed) is = absurd (cc)
quiet given lists (Some path) begun after (Some call.no_memory) is = refl

no_store_calls : (path : Option (List ℕ)) → store_calls path None [] ≡ []
no_store_calls None = refl
no_store_calls (Some path) = refl

-- ---- what is answered

behind_by : (lists : CatalogLists) (heard : Option (Result TextsGiven Error)) (error : Error) (cause : Cause) → AnswersBy cause heard error → AnswersBy cause (given_behind lists heard) error
behind_by lists heard error no_memory is = tt
behind_by lists heard error told is = ap (given_behind lists) is
behind_by lists heard error (failed_read first last) is = ap (given_behind lists) is
behind_by lists heard error (refused_write first last) is = ap (given_behind lists) is

behind_catalog : (lists : CatalogLists) (heard : Option (Result TextsGiven Error)) (answer : Result TextsGiven Error) → AnswersHeard heard answer → AnswersHeard (given_behind lists heard) (with_texts lists answer)
behind_catalog lists heard (Ok texts) is = ap (given_behind lists) is
behind_catalog lists heard (Err error) is = behind_by lists heard error (cause_of error) is

without_by : (heard : Option (Result CatalogLists Error)) (texts : Option (Result TextsGiven Error)) (error : Error) (cause : Cause) → AnswersBy cause heard error → AnswersBy cause (given_by heard texts) error
without_by heard texts error no_memory is = tt
without_by heard texts error told is = ap (λ read. given_by read texts) is
without_by heard texts error (failed_read first last) is = ap (λ read. given_by read texts) is
without_by heard texts error (refused_write first last) is = ap (λ read. given_by read texts) is

-- ---- both

module _ (given : ListsGiven) (path folder : Option (List ℕ)) where
  abbrev asked : ListsAsked
  asked = lists_asked path folder

  -- the catalogue was refused
  pub refused : {told tells : Option Content} {begun after : ℕ} {old new : List Call} (error : Error)
      → HasCatalog given.lists path begun after old new (Err error) → MadeSome told tells begun after old new → FindsLists given (lists_asked path folder) (tree_seen told tells begun after old new) (Err error)
  refused {told} {tells} {begun} {after} {old} {new} error had some =
      let made = made_these some had.made in
      let hearing : ListsHearing = record { begun = begun; catalog = had.read; listing = None; texts = [] } in
      let heard : AnswersBy (cause_of error) (lists_heard given asked hearing) error = subst (λ (count : ℕ). AnswersBy (cause_of error) (catalog_by given.lists path begun count had.read) error) made.counts had.answers in record {
        hearing = hearing;
        begun = refl;
        made = made_as (sym (append-nil (read_calls path had.read)) ∙ ap (λ calls. read_calls path had.read ++ calls) (sym (no_store_calls (store_due given asked hearing)))) made;
        answers = without_by (lists_heard given asked hearing) (texts_heard given asked hearing) error (cause_of error) heard;
      }

  -- it was found, and then the texts were read
  module _ {told mid : Option Content} {begun middle : ℕ} {old between : List Call} (lists : CatalogLists)
      (had : HasCatalog given.lists path begun middle old between (Ok lists))
      (some : MadeSome told mid begun middle old between)
    where
      had_made : Made told mid begun middle old between (read_calls path had.read)
      had_made = made_these some had.made

      no_fault_yet : middle ≡ begun
      no_fault_yet = had_made.counts ∙ quiet given.lists lists path begun middle had.read had.answers

      pub counts_behind : (after : ℕ) (cause : Cause) → ReadCounts middle middle after cause → ReadCounts begun begun after cause
      counts_behind after cause counts = subst (λ count. ReadCounts count count after cause) no_fault_yet counts

      pub found : {tells : Option Content} {after : ℕ} {new : List Call} (answer : Result TextsGiven Error) → HasTexts given.texts folder middle after between new answer → MadeSome mid tells middle after between new
          → FindsLists given (lists_asked path folder) (tree_seen told tells begun after old new) (with_texts lists answer)
      found {tells} {after} {new} answer texts more =
          let hearing : ListsHearing = record { begun = begun; catalog = had.read; listing = texts.listing; texts = texts.reads } in
          let heard : lists_heard given asked hearing ≡ Some (Ok lists) = subst (λ (count : ℕ). catalog_by given.lists path begun count had.read ≡ Some (Ok lists)) had_made.counts had.answers in
          let due : store_due given asked hearing ≡ folder = ap (due_behind folder) heard in
          let all : Made told tells begun after old new (lists_calls given asked hearing) =
          made_as (ap (λ (own : Option (List ℕ)). read_calls path had.read ++ store_calls own texts.listing texts.reads) (sym due)) (made_joined had_made (made_these more texts.made)) in
          let says : AnswersHeard (texts_heard given asked hearing) answer =
          subst (λ (count : ℕ). AnswersHeard (texts_by given.texts folder count (faults_after begun (lists_calls given asked hearing)) texts.listing texts.reads) answer) had_made.counts
          (subst (λ (count : ℕ). AnswersHeard (texts_by given.texts folder middle count texts.listing texts.reads) answer) all.counts texts.answers) in record {
            hearing = hearing;
            begun = refl;
            made = all;
            answers = subst (λ (read : Option (Result CatalogLists Error)). AnswersHeard (given_by read (texts_heard given asked hearing)) (with_texts lists answer)) (sym heard)
                (behind_catalog lists (texts_heard given asked hearing) answer says);
          }
