-- A folder's listing, and the reads of its texts, entry by entry.
use Rattle.std.proofs.Common.{◌≡◌, ◌<◌, ◌≤◌, ◌+◌, ℕ, zero, suc, List, [], ◌∷◌, ◌++◌, append_assoc, append-nil, length, map, take, drop, get_or, Result, Ok, Err, refl, sym, ap, subst, ◌∙◌, arith, take_all}
use Rattle.std.specs.Result.{IsErrAnd}
use Rattle.std.proofs.lemmas.List.{take_more}
use Rattle.tree_core.specs.Answer.{listed_entry}
use Rattle.tree_core.specs.Call as call
use Rattle.tree_core.specs.Call.{CallAnswer, Call}
use Rattle.tree_core.specs.Trace.{list_call, refusal_answer}
use Rattle.tree_core.specs.declared.tree.Entry.{Entry}
use Rattle.tree_core.specs.declared.tree.TreeError.{TreeError}
use Rattle.tree_core.specs.declared.tree.TreeError.TheVariants as tree
use Rattle.spdx_terms.specs.declared.catalog.store.StoreText.{StoreText}
use Rattle.spdx_own_names.specs.declared.error.StoreFault.TheVariants.{Failed, Absent, NotFolder}
use Rattle.spdx_own_names.specs.declared.error.StoreError.{StoreError}
use Rattle.spdx_own_names.specs.declared.error.StoreError.TheVariants.{Fault, Memory}
use Rattle.spdx_own_names.specs.Folder.{TextFile, texts_of, list_of, reads_of, texts_due, store_answered, AnswersStore, AreTextsRead, IsStoreRead, ReadsOn, one_text}
use Rattle.spdx_own_names.proofs.FolderLemmas.{no_reads, none_read, texts_joined, texts_refused, texts_of-append}

-- ---- entries in order

map_push : (entries : List Entry) (entry : Entry) → map listed_entry (entries ++ entry ∷ []) ≡ map listed_entry entries ++ listed_entry entry ∷ []
map_push [] entry = refl
map_push (first ∷ entries) entry = ap (λ rest. listed_entry first ∷ rest) (map_push entries entry)

map_parts : (before behind : List Entry) (entry : Entry) → map listed_entry (before ++ entry ∷ behind) ≡ map listed_entry before ++ listed_entry entry ∷ map listed_entry behind
map_parts [] behind entry = refl
map_parts (first ∷ before) behind entry = ap (λ rest. listed_entry first ∷ rest) (map_parts before behind entry)

split_here : (entries : List Entry) (i : ℕ) (entry : Entry) → i < length entries → entry ≡ get_or entries i entry → entries ≡ take i entries ++ entry ∷ drop (suc i) entries
split_here [] i entry lt is = absurd (omega arith)
split_here (first ∷ entries) zero entry lt is = ap (λ one. one ∷ entries) (sym is)
split_here (first ∷ entries) (suc i) entry lt is = ap (λ rest. first ∷ rest) (split_here entries i entry (omega arith) is)

texts_more : (entries : List Entry) (i : ℕ) (entry : Entry) → i < length entries → entry ≡ get_or entries i entry
    → texts_of (map listed_entry (take i entries)) ++ texts_of (listed_entry entry ∷ []) ≡ texts_of (map listed_entry (take (i + 1) entries))
texts_more entries i entry lt is =
    sym (texts_of-append (map listed_entry (take i entries)) (listed_entry entry ∷ []))
    ∙ ap texts_of (sym (map_push (take i entries) entry))
    ∙ ap (λ front. texts_of (map listed_entry front)) (ap (λ one. take i entries ++ one ∷ []) is ∙ sym (take_more entries i entry lt))

texts_whole : (entries : List Entry) (i : ℕ) (entry : Entry) → i < length entries → entry ≡ get_or entries i entry
    → texts_of (map listed_entry (take i entries)) ++ (texts_of (listed_entry entry ∷ []) ++ texts_of (map listed_entry (drop (suc i) entries))) ≡ texts_of (map listed_entry entries)
texts_whole entries i entry lt is =
    ap (λ more. texts_of (map listed_entry (take i entries)) ++ more) (sym (texts_of-append (listed_entry entry ∷ []) (map listed_entry (drop (suc i) entries))))
    ∙ sym (texts_of-append (map listed_entry (take i entries)) (listed_entry entry ∷ map listed_entry (drop (suc i) entries)))
    ∙ ap texts_of (sym (map_parts (take i entries) (drop (suc i) entries) entry))
    ∙ ap (λ all. texts_of (map listed_entry all)) (sym (split_here entries i entry lt is))

-- ---- texts entry by entry

module _ {begun after : ℕ} {dir : List ℕ} where
  -- no entry yet
  pub start_read : (old : List Call) (had : List StoreText) → had ≡ [] → AreTextsRead begun after old old dir [] (Ok had)
  start_read old had is = subst (λ (texts : List StoreText). AreTextsRead begun after old old dir [] (Ok texts)) (sym is) (none_read old old refl)

  -- an entry that is no text
  pub passed_over : (old new : List Call) (texts : List TextFile) (had : List StoreText) → texts ≡ [] → new ≡ old → ReadsOn begun after old new dir texts had (Ok had)
  passed_over old new texts had none same =
      ([], sym (append-nil had), subst (λ (those : List TextFile). AreTextsRead begun after old new dir those (Ok [])) (sym none) (none_read old new same))

  -- one that is, and was found
  pub one_more : (old new : List Call) (texts : List TextFile) (file : TextFile) (had all : List StoreText) (text : StoreText) → texts ≡ file ∷ [] → AreTextsRead begun after old new dir (file ∷ []) (Ok (text ∷ []))
      → all ≡ had ++ text ∷ [] → ReadsOn begun after old new dir texts had (Ok all)
  one_more old new texts file had all text is read pushed =
      (text ∷ [], pushed, subst (λ (those : List TextFile). AreTextsRead begun after old new dir those (Ok (text ∷ []))) (sym is) read)

  -- it was not found
  pub none_more : (old new : List Call) (texts : List TextFile) (file : TextFile) (had : List StoreText) (error : StoreError) → texts ≡ file ∷ [] → AreTextsRead begun after old new dir (file ∷ []) (Err error)
      → ReadsOn begun after old new dir texts had (Err error)
  none_more old new texts file had error is read = subst (λ (those : List TextFile). AreTextsRead begun after old new dir those (Err error)) (sym is) read

  -- it was found, and then memory was wanting
  pub lost_behind : (old new : List Call) (texts : List TextFile) (result : Result (List StoreText) StoreError) → AreTextsRead begun after old new dir texts result → AreTextsRead begun after old new dir texts (Err Memory)
  lost_behind old new texts result read = record { reads = read.reads; within = read.within; made = read.made; answers = tt }

  pub entries_on : {mid : ℕ} {old between new : List Call} (entries : List Entry) (i : ℕ) (entry : Entry) (had all : List StoreText) → i < length entries → entry ≡ get_or entries i entry
      → AreTextsRead begun mid old between dir (texts_of (map listed_entry (take i entries))) (Ok had) → ReadsOn begun after between new dir (texts_of (listed_entry entry ∷ [])) had (Ok all)
      → AreTextsRead begun after old new dir (texts_of (map listed_entry (take (i + 1) entries))) (Ok all)
  entries_on {mid} {old} {between} {new} entries i entry had all lt is first then =
      subst (λ (those : List TextFile). AreTextsRead begun after old new dir those (Ok all)) (texts_more entries i entry lt is)
      (subst (λ (texts : List StoreText). AreTextsRead begun after old new dir (texts_of (map listed_entry (take i entries)) ++ texts_of (listed_entry entry ∷ [])) (Ok texts)) (sym then.1)
      (texts_joined (texts_of (map listed_entry (take i entries))) (texts_of (listed_entry entry ∷ [])) had then.0 first then.2))

  pub entries_refused : {mid : ℕ} {old between new : List Call} (entries : List Entry) (i : ℕ) (entry : Entry) (had : List StoreText) (error : StoreError) → i < length entries → entry ≡ get_or entries i entry
      → AreTextsRead begun mid old between dir (texts_of (map listed_entry (take i entries))) (Ok had) → ReadsOn begun after between new dir (texts_of (listed_entry entry ∷ [])) had (Err error)
      → AreTextsRead begun after old new dir (texts_of (map listed_entry entries)) (Err error)
  entries_refused {mid} {old} {between} {new} entries i entry had error lt is first then =
      subst (λ (those : List TextFile). AreTextsRead begun after old new dir those (Err error)) (texts_whole entries i entry lt is)
      (texts_refused (texts_of (map listed_entry (take i entries))) (texts_of (listed_entry entry ∷ [])) (texts_of (map listed_entry (drop (suc i) entries))) had error first then)

  pub entries_end : {old new : List Call} (entries : List Entry) (i : ℕ) (had : List StoreText) → length entries ≤ i → AreTextsRead begun after old new dir (texts_of (map listed_entry (take i entries))) (Ok had)
      → AreTextsRead begun after old new dir (texts_of (map listed_entry entries)) (Ok had)
  entries_end {old} {new} entries i had end read =
      subst (λ (those : List Entry). AreTextsRead begun after old new dir (texts_of (map listed_entry those)) (Ok had)) (take_all i entries end) read

  -- ---- behind the listing

  behind_listing : (old between new : List Call) (items : List Entry) (result : Result (List StoreText) StoreError) → between ≡ old ++ list_call dir (Ok items) ∷ []
      → AreTextsRead begun after between new dir (texts_of (map listed_entry items)) result → IsStoreRead begun after old new dir result
  behind_listing old between new items result made read = record {
    listing = call.entries (map listed_entry items);
    reads = read.reads;
    made = read.made ∙ ap (λ calls. calls ++ reads_of dir (texts_of (map listed_entry items)) read.reads) made
        ∙ append_assoc old (list_of dir (call.entries (map listed_entry items)) ∷ []) (reads_of dir (texts_of (map listed_entry items)) read.reads);
    answers = read.answers;
  }

  pub texts_behind : (old between new : List Call) (items shown : List Entry) (result : Result (List StoreText) StoreError) → shown ≡ items → between ≡ old ++ list_call dir (Ok items) ∷ []
      → AreTextsRead begun after between new dir (texts_of (map listed_entry shown)) result → IsStoreRead begun after old new dir result
  texts_behind old between new items shown result is made read =
      behind_listing old between new items result made (subst (λ (those : List Entry). AreTextsRead begun after between new dir (texts_of (map listed_entry those)) result) is read)

  -- the listing was refused
  refused : (old new : List Call) (error : TreeError) (result : Result (List StoreText) StoreError) → new ≡ old ++ list_call dir (Err error) ∷ [] → AnswersStore (store_answered begun after (refusal_answer error) []) result
      → IsStoreRead begun after old new dir result
  refused old new error result made answers = record {
    listing = refusal_answer error;
    reads = [];
    made = made ∙ ap (λ calls. old ++ list_of dir (refusal_answer error) ∷ calls) (sym (no_reads dir (texts_due (refusal_answer error))));
    answers = answers;
  }

  pub absent_folder : (old new : List Call) (error : TreeError) → error ≡ tree.Absent → new ≡ old ++ list_call dir (Err error) ∷ [] → IsStoreRead begun after old new dir (Err (Fault Absent))
  absent_folder old new error is made = refused old new error (Err (Fault Absent)) made (ap (λ one. store_answered begun after (refusal_answer one) []) is)

  pub no_folder : (old new : List Call) (error : TreeError) → error ≡ tree.WrongKind → new ≡ old ++ list_call dir (Err error) ∷ [] → IsStoreRead begun after old new dir (Err (Fault NotFolder))
  no_folder old new error is made = refused old new error (Err (Fault NotFolder)) made (ap (λ one. store_answered begun after (refusal_answer one) []) is)

  pub failed_folder : (old new : List Call) (error : TreeError) (now : ℕ) → error ≡ tree.Failed → now ≡ after → new ≡ old ++ list_call dir (Err error) ∷ [] → IsStoreRead begun after old new dir (Err (Fault (Failed begun now)))
  failed_folder old new error now is same made =
      refused old new error (Err (Fault (Failed begun now))) made
      (ap (λ one. store_answered begun after (refusal_answer one) []) is ∙ ap (λ count. store_answered begun count call.failed []) (sym same))

  pub lost_folder : (old new : List Call) (error : TreeError) → new ≡ old ++ list_call dir (Err error) ∷ [] → IsStoreRead begun after old new dir (Err Memory)
  lost_folder old new error made = refused old new error (Err Memory) made tt

  -- a refusal is handed on
  pub text_as : (old new : List Call) (texts : List TextFile) (result : Result StoreText StoreError) (error : StoreError) → IsErrAnd result (λ own. own ≡ error) → AreTextsRead begun after old new dir texts (Err error)
      → AreTextsRead begun after old new dir texts (one_text result)
  text_as old new texts (Ok text) error is read = absurd is
  text_as old new texts (Err own) error is read = subst (λ (one : StoreError). AreTextsRead begun after old new dir texts (Err one)) (sym is) read

  pub texts_as : (old new : List Call) (texts : List TextFile) (result : Result (List StoreText) StoreError) (error : StoreError) → IsErrAnd result (λ own. own ≡ error) → AreTextsRead begun after old new dir texts (Err error)
      → AreTextsRead begun after old new dir texts result
  texts_as old new texts (Ok had) error is read = absurd is
  texts_as old new texts (Err own) error is read = subst (λ (one : StoreError). AreTextsRead begun after old new dir texts (Err one)) (sym is) read

  pub on_as : (old new : List Call) (texts : List TextFile) (had : List StoreText) (result : Result (List StoreText) StoreError) (error : StoreError) → IsErrAnd result (λ own. own ≡ error)
      → AreTextsRead begun after old new dir texts (Err error) → ReadsOn begun after old new dir texts had result
  on_as old new texts had (Ok all) error is read = absurd is
  on_as old new texts had (Err own) error is read = subst (λ (one : StoreError). AreTextsRead begun after old new dir texts (Err one)) (sym is) read

-- ---- the store, where the count when the call began has another name

module _ {after : ℕ} {dir : List ℕ} where
  pub store_is : (begun first : ℕ) (old new : List Call) (had all : List StoreText) → first ≡ begun → all ≡ had → IsStoreRead first after old new dir (Ok had) → IsStoreRead begun after old new dir (Ok all)
  store_is begun first old new had all is same read =
      subst (λ (count : ℕ). IsStoreRead count after old new dir (Ok all)) is (subst (λ (texts : List StoreText). IsStoreRead first after old new dir (Ok texts)) (sym same) read)

  pub store_refused : (begun first : ℕ) (old new : List Call) (result : Result (List StoreText) StoreError) (error : StoreError) → first ≡ begun → IsErrAnd result (λ own. own ≡ error) → IsStoreRead first after old new dir (Err error)
      → IsStoreRead begun after old new dir result
  store_refused begun first old new (Ok had) error is handed read = absurd handed
  store_refused begun first old new (Err own) error is handed read =
      subst (λ (count : ℕ). IsStoreRead count after old new dir (Err own)) is (subst (λ (one : StoreError). IsStoreRead first after old new dir (Err one)) (sym handed) read)

  -- memory was wanting behind all
  pub store_lost : (begun : ℕ) (old new : List Call) (result : Result (List StoreText) StoreError) → IsStoreRead begun after old new dir result → IsStoreRead begun after old new dir (Err Memory)
  store_lost begun old new result read = record { listing = read.listing; reads = read.reads; made = read.made; answers = tt }
