-- What is read of a catalogue's file and of a folder of texts, by what was answered.
use Rattle.std.proofs.Common.{◌≡◌, ℕ, List, [], ◌∷◌, ◌++◌, Option, Some, Result, Ok, Err, refl, sym, ap, subst, ◌∙◌}
use Rattle.tree_core.specs.Call as call
use Rattle.tree_core.specs.Call.{CallAnswer, Call}
use Rattle.tree_core.specs.Trace.{read_call}
use Rattle.tree_core.specs.declared.tree.TreeError.{TreeError}
use Rattle.tree_core.specs.declared.tree.TreeError.TheVariants as tree
use Rattle.tree_core.specs.texts.Heard.{read_of}
use Rattle.tree_core.specs.declared.texts.fault.ReadFault.TheVariants.{Absent, Failed, Folder}
use Rattle.spdx_terms.specs.catalog.Catalog.{CatalogLists}
use Rattle.spdx_terms.specs.declared.catalog.store.StoreText.{StoreText}
use Rattle.spdx_own_names.specs.Folder.{AnswersStore, IsStoreRead, StoreHeard, store_answered}
use Rattle.spdx_own_names.specs.declared.error.StoreError.{StoreError}
use Rattle.spdx_own_names.specs.declared.error.StoreError.TheVariants as stored
use Rattle.spdx_own_names.specs.declared.error.StoreFault.TheVariants as store
use Rattle.run_found.specs.declared.error.Error.{Error}
use Rattle.run_found.specs.declared.error.Error.TheVariants.{CatalogRead, Memory}
use Rattle.run_found.specs.Error.{error_of_store}
use Rattle.run_found.specs.own_names.Found.{AnswersHeard, HasCatalog, HasTexts}
use Rattle.run_found.specs.own_names.Given.{TextsGiven, store_given}
use Rattle.run_found.specs.own_names.Heard.{catalog_answered, catalog_in, texts_told}

-- ---- a catalogue's file

module _ (given : CatalogLists) (path : List ℕ) {begun after : ℕ} {old new : List Call} where
  by_read : (answered : CallAnswer) (answer : Result CatalogLists Error) → new ≡ old ++ read_of path answered ∷ [] → AnswersHeard (catalog_answered begun after answered) answer → HasCatalog given (Some path) begun after old new answer
  by_read answered answer made answers = record { read = Some answered; made = made; answers = answers }

  pub file_read : (bytes : List ℕ) (answer : Result CatalogLists Error) → new ≡ old ++ read_call path (Ok bytes) ∷ [] → AnswersHeard (Some (catalog_in bytes)) answer → HasCatalog given (Some path) begun after old new answer
  file_read bytes answer made answers = by_read (call.bytes bytes) answer made answers

  pub absent_read : (error : TreeError) → error ≡ tree.Absent → new ≡ old ++ read_call path (Err error) ∷ [] → HasCatalog given (Some path) begun after old new (Err (CatalogRead Absent))
  absent_read error is made = by_read call.absent _ (made ∙ ap (λ one. old ++ read_call path (Err one) ∷ []) is) refl

  pub folder_read : (error : TreeError) → error ≡ tree.WrongKind → new ≡ old ++ read_call path (Err error) ∷ [] → HasCatalog given (Some path) begun after old new (Err (CatalogRead Folder))
  folder_read error is made = by_read call.wrong_kind _ (made ∙ ap (λ one. old ++ read_call path (Err one) ∷ []) is) refl

  pub failed_read : (error : TreeError) (first last : ℕ) → error ≡ tree.Failed → first ≡ begun → last ≡ after → new ≡ old ++ read_call path (Err error) ∷ [] → HasCatalog given (Some path) begun after old new (Err (CatalogRead (Failed first last)))
  failed_read error first last is begins ends made =
      by_read call.failed _ (made ∙ ap (λ one. old ++ read_call path (Err one) ∷ []) is)
      (sym (ap (λ (count : ℕ). Some (Err (CatalogRead (Failed count last)))) begins ∙ ap (λ (count : ℕ). Some (Err (CatalogRead (Failed begun count)))) ends))

  pub lost_read : (error : TreeError) → error ≡ tree.Memory → new ≡ old ++ read_call path (Err error) ∷ [] → HasCatalog given (Some path) begun after old new (Err Memory)
  lost_read error is made = by_read call.no_memory _ (made ∙ ap (λ one. old ++ read_call path (Err one) ∷ []) is) tt

-- at the path that is asked for
pub catalog_there : {begun after : ℕ} {old new : List Call} {answer : Result CatalogLists Error} (given : CatalogLists) (asked : Option (List ℕ)) (path own : List ℕ) → asked ≡ Some path → own ≡ path
    → HasCatalog given (Some own) begun after old new answer → HasCatalog given asked begun after old new answer
catalog_there {begun} {after} {old} {new} {answer} given asked path own is same had =
    subst (λ (those : Option (List ℕ)). HasCatalog given those begun after old new answer) (ap (λ (there : List ℕ). Some there) same ∙ sym is) had

-- ---- a folder of texts

refused_as : (heard : Option StoreHeard) (refused : StoreError) → AnswersStore heard (Err refused) → AnswersHeard (texts_told heard) (Err (error_of_store refused))
refused_as heard (stored.Fault (store.Failed first last)) is = ap texts_told is
refused_as heard (stored.Fault store.Absent) is = ap texts_told is
refused_as heard (stored.Fault store.NotFolder) is = ap texts_told is
refused_as heard (stored.Fault (store.NotUtf8 name)) is = ap texts_told is
refused_as heard stored.Memory is = tt

module _ {begun after : ℕ} {old new : List Call} (given : TextsGiven) (asked : Option (List ℕ)) (path own : List ℕ) (is : asked ≡ Some path) (same : own ≡ path) where
  there : (answer : Result TextsGiven Error) → HasTexts given (Some own) begun after old new answer → HasTexts given asked begun after old new answer
  there answer had = subst (λ (those : Option (List ℕ)). HasTexts given those begun after old new answer) (ap (λ (there : List ℕ). Some there) same ∙ sym is) had

  pub texts_had : (texts : List StoreText) → IsStoreRead begun after old new own (Ok texts) → HasTexts given asked begun after old new (Ok (store_given texts))
  texts_had texts read = there (Ok (store_given texts)) (record { listing = Some read.listing; reads = read.reads; made = read.made; answers = ap texts_told read.answers })

  pub texts_refused : (refused : StoreError) (error : Error) → IsStoreRead begun after old new own (Err refused) → error ≡ error_of_store refused → HasTexts given asked begun after old new (Err error)
  texts_refused refused error read same_error =
      there (Err error)
      (subst (λ (own_error : Error). HasTexts given (Some own) begun after old new (Err own_error)) (sym same_error) (record {
        listing = Some read.listing;
        reads = read.reads;
        made = read.made;
        answers = refused_as (store_answered begun after read.listing read.reads) refused read.answers;
      }))
