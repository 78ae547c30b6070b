-- An organisation's own names and texts: where they are found no call failed, and what is read of them follows from the
-- calls.
use Rattle.std.proofs.Common.{◌≡◌, ◌∙◌, refl, sym, ap, subst, ℕ, Bool, List, [], ◌∷◌, ◌++◌, append_assoc, Option, Some, None, Result, Ok, Err}
use Rattle.std.specs.Prelude.{option_map}
use Rattle.tree_core.specs.Call as call
use Rattle.tree_core.specs.Call.{CallAnswer, Call}
use Rattle.tree_core.specs.Trace.{fault_behind, faults_after}
use Rattle.tree_core.proofs.MadeLemmas.{faults_after-append}
use Rattle.tree_core.specs.texts.Heard.{read_of, text_answered}
use Rattle.tree_core.specs.declared.texts.fault.ReadFault.{ReadFault}
use Rattle.deny_text.specs.Path.{join_of}
use Rattle.spdx_terms.specs.catalog.Catalog.{CatalogLists}
use Rattle.spdx_terms.specs.declared.catalog.store.StoreText.{StoreText}
use Rattle.spdx_own_names.specs.Folder.{StoreHeard, TextFile, heard_with, if_unread, list_of, reads_answered, reads_of, store_answered, texts_due, texts_of, with_text}
use Rattle.spdx_own_names.specs.declared.error.StoreFault.{StoreFault}
use Rattle.spdx_own_names.specs.declared.error.StoreFault.TheVariants as fault
use Rattle.run_found.specs.declared.error.Error.{Error}
use Rattle.run_found.specs.Hearing.{TreeSeen, read_calls}
use Rattle.run_found.specs.own_names.Found.{FindsLists}
use Rattle.run_found.specs.own_names.Given.{ListsAsked, ListsGiven, TextsGiven, lists_given, store_given}
use Rattle.run_found.specs.own_names.Heard.{ListsHearing, catalog_answered, catalog_by, count_catalog, due_behind, given_behind, given_by, given_heard, lists_calls, lists_heard, store_calls, store_due, texts_by, texts_heard, texts_told}

-- ---- no call

abbrev pub nothing_of_lists : ℕ → ListsHearing
nothing_of_lists count = record { begun = count; catalog = None; listing = None; texts = [] }

no_read_calls : (path : Option (List ℕ)) → read_calls path None ≡ []
no_read_calls None = refl
no_read_calls (Some path) = refl

no_store_calls : (path : Option (List ℕ)) → store_calls path None [] ≡ []
no_store_calls None = refl
no_store_calls (Some path) = refl

pub no_lists_calls : (given : ListsGiven) (asked : ListsAsked) (count : ℕ) → lists_calls given asked (nothing_of_lists count) ≡ []
no_lists_calls given asked count =
    ap (λ calls. calls ++ store_calls (store_due given asked (nothing_of_lists count)) None []) (no_read_calls asked.catalog)
    ∙ no_store_calls (store_due given asked (nothing_of_lists count))

-- ---- a text that is found

-- what is read of it does not depend on the counts, and its read did not fail
text_had : (begun after other later : ℕ) (answer : CallAnswer) (body : List ℕ) → text_answered begun after answer ≡ Some (Ok body) → text_answered other later answer ≡ Some (Ok body)
text_had begun after other later (call.bytes items) body is = is
text_had begun after other later (call.entries items) body is = absurd (cc)
text_had begun after other later (call.told answer) body is = absurd (cc)
text_had begun after other later call.absent body is = absurd (cc)
text_had begun after other later call.wrong_kind body is = absurd (cc)
text_had begun after other later call.failed body is = absurd (cc)
text_had begun after other later call.no_memory body is = absurd (cc)

text_quiet : (begun after count : ℕ) (answer : CallAnswer) (body : List ℕ) → text_answered begun after answer ≡ Some (Ok body) → fault_behind count answer ≡ count
text_quiet begun after count (call.bytes items) body is = refl
text_quiet begun after count (call.entries items) body is = refl
text_quiet begun after count (call.told answer) body is = refl
text_quiet begun after count call.absent body is = refl
text_quiet begun after count call.wrong_kind body is = refl
text_quiet begun after count call.failed body is = absurd (cc)
text_quiet begun after count call.no_memory body is = refl

-- texts are found where the first one is, and those behind it
record HadFirst (text : TextFile) (heard : Option (Result (List ℕ) ReadFault)) (rest : Option StoreHeard) (all : List StoreText) : Type 0 where
  body : List ℕ
  is : heard ≡ Some (Ok body)
  more : List StoreText
  rest_is : rest ≡ Some (Ok more)
  all_is : all ≡ record { name = text.license; body = body } ∷ more

had_first : (text : TextFile) (heard : Option (Result (List ℕ) ReadFault)) (answers : List CallAnswer) (rest : Option StoreHeard) (all : List StoreText)
    → heard_with text heard answers rest ≡ Some (Ok all) → HadFirst text heard rest all
had_first text None answers rest all is = absurd (cc)
had_first text (Some (Ok body)) answers None all is = absurd (cc)
had_first text (Some (Ok body)) answers (Some (Ok more)) all is = record { body = body; is = refl; more = more; rest_is = refl; all_is = sym (same is) }
  where
    same : {one : List StoreText} → ◌≡◌ {A = Option StoreHeard} (Some (Ok one)) (Some (Ok all)) → one ≡ all
    same e = cc
had_first text (Some (Ok body)) answers (Some (Err fault)) all is = absurd (cc)
had_first text (Some (Err fault)) [] rest all is = absurd (cc)
had_first text (Some (Err fault)) (answer ∷ answers) rest all is = absurd (cc)

reads_quiet : (begun after count : ℕ) (dir : List ℕ) (texts : List TextFile) (answers : List CallAnswer) (all : List StoreText)
    → reads_answered begun after texts answers ≡ Some (Ok all) → faults_after count (reads_of dir texts answers) ≡ count
reads_quiet begun after count dir [] answers all is = refl
reads_quiet begun after count dir (text ∷ texts) [] all is = refl
reads_quiet begun after count dir (text ∷ texts) (answer ∷ answers) all is =
    let had = had_first text (text_answered begun after answer) answers (reads_answered begun after texts answers) all is in
    ap (λ n. faults_after n (reads_of dir texts answers)) (text_quiet begun after count answer had.body had.is)
    ∙ reads_quiet begun after count dir texts answers had.more had.rest_is

-- ---- the catalogue, and the texts

catalog_quiet : (given lists : CatalogLists) (path : Option (List ℕ)) (begun after count : ℕ) (answer : Option CallAnswer) → catalog_by given path begun after answer ≡ Some (Ok lists)
    → faults_after count (read_calls path answer) ≡ count
catalog_quiet given lists None begun after count answer is = refl
catalog_quiet given lists (Some path) begun after count None is = refl
catalog_quiet given lists (Some path) begun after count (Some (call.bytes items)) is = refl
catalog_quiet given lists (Some path) begun after count (Some (call.entries items)) is = refl
catalog_quiet given lists (Some path) begun after count (Some (call.told answer)) is = refl
catalog_quiet given lists (Some path) begun after count (Some call.absent) is = refl
catalog_quiet given lists (Some path) begun after count (Some call.wrong_kind) is = refl
catalog_quiet given lists (Some path) begun after count (Some call.failed) is = absurd (cc)
catalog_quiet given lists (Some path) begun after count (Some call.no_memory) is = refl

-- the texts of a folder, where they are found: it was listed, and each of its texts read
record HadTexts (begun after : ℕ) (answer : CallAnswer) (reads : List CallAnswer) (found : TextsGiven) : Type 0 where
  entries : List (List ℕ × Bool)
  answer_is : answer ≡ call.entries entries
  all : List StoreText
  had : reads_answered begun after (texts_of entries) reads ≡ Some (Ok all)
  found_is : found ≡ store_given all

none_unread : (reads : List CallAnswer) (own : StoreFault) (found : TextsGiven) → ◌≡◌ {A = Option (Result (TextsGiven) Error)} (texts_told (if_unread reads own)) (Some (Ok found)) → ⊥
none_unread [] own found is = absurd (cc)
none_unread (answer ∷ answers) own found is = absurd (cc)

had_texts : (begun after : ℕ) (answer : CallAnswer) (reads : List CallAnswer) (found : TextsGiven) → texts_told (store_answered begun after answer reads) ≡ Some (Ok found)
    → HadTexts begun after answer reads found
had_texts begun after (call.bytes items) reads found is = absurd (cc)
had_texts begun after (call.entries items) reads found is = by_heard (reads_answered begun after (texts_of items) reads) refl is
  where
    by_heard : (heard : Option StoreHeard) → reads_answered begun after (texts_of items) reads ≡ heard → texts_told heard ≡ Some (Ok found) → HadTexts begun after (call.entries items) reads found
    by_heard None e told = absurd (cc)
    by_heard (Some (Ok texts)) e told = record { entries = items; answer_is = refl; all = texts; had = e; found_is = sym (same told) }
      where
        same : {one : TextsGiven} → ◌≡◌ {A = Option (Result (TextsGiven) Error)} (Some (Ok one)) (Some (Ok found)) → one ≡ found
        same both = cc
    by_heard (Some (Err own)) e told = absurd (cc)
had_texts begun after (call.told answer) reads found is = absurd (cc)
had_texts begun after call.absent reads found is = absurd (none_unread reads fault.Absent found is)
had_texts begun after call.wrong_kind reads found is = absurd (none_unread reads fault.NotFolder found is)
had_texts begun after call.failed reads found is = absurd (none_unread reads (fault.Failed begun after) found is)
had_texts begun after call.no_memory reads found is = absurd (cc)

store_quiet : (given found : TextsGiven) (path : Option (List ℕ)) (begun after count : ℕ) (listing : Option CallAnswer) (reads : List CallAnswer)
    → texts_by given path begun after listing reads ≡ Some (Ok found) → faults_after count (store_calls path listing reads) ≡ count
store_quiet given found None begun after count listing reads is = refl
store_quiet given found (Some path) begun after count None reads is = absurd (cc)
store_quiet given found (Some path) begun after count (Some answer) reads is =
    let had = had_texts begun after answer reads found is in
    ap (λ own. faults_after count (list_of path own ∷ reads_of path (texts_due own) reads)) had.answer_is
    ∙ reads_quiet begun after count path (texts_of had.entries) reads had.all had.had

-- ---- both

-- both are found
pub record HadBoth (given : ListsGiven) (asked : ListsAsked) (hearing : ListsHearing) (own : ListsGiven) : Type 0 where
  pub lists : CatalogLists
  pub lists_is : lists_heard given asked hearing ≡ Some (Ok lists)
  pub found : TextsGiven
  pub found_is : texts_heard given asked hearing ≡ Some (Ok found)
  pub own_is : own ≡ lists_given lists found

pub had_both : (given : ListsGiven) (asked : ListsAsked) (hearing : ListsHearing) (own : ListsGiven) → given_heard given asked hearing ≡ Some (Ok own) → HadBoth given asked hearing own
had_both given asked hearing own is = by_lists (lists_heard given asked hearing) (texts_heard given asked hearing) refl refl is
  where
    same : {one : ListsGiven} → ◌≡◌ {A = Option (Result ListsGiven Error)} (Some (Ok one)) (Some (Ok own)) → one ≡ own
    same e = cc

    by_lists : (heard : Option (Result CatalogLists Error)) (texts : Option (Result (TextsGiven) Error)) → lists_heard given asked hearing ≡ heard → texts_heard given asked hearing ≡ texts
        → given_by heard texts ≡ Some (Ok own) → HadBoth given asked hearing own
    by_lists None texts one two both = absurd (cc)
    by_lists (Some (Err error)) texts one two both = absurd (cc)
    by_lists (Some (Ok lists)) None one two both = absurd (cc)
    by_lists (Some (Ok lists)) (Some (Err error)) one two both = absurd (cc)
    by_lists (Some (Ok lists)) (Some (Ok found)) one two both = record { lists = lists; lists_is = one; found = found; found_is = two; own_is = sym (same both) }

-- where they are found no call failed
pub lists_quiet : (given : ListsGiven) (asked : ListsAsked) (hearing : ListsHearing) (own : ListsGiven) (count : ℕ) → given_heard given asked hearing ≡ Some (Ok own)
    → faults_after count (lists_calls given asked hearing) ≡ count
lists_quiet given asked hearing own count is =
    let had = had_both given asked hearing own is in
    let due : store_due given asked hearing ≡ asked.store = ap (due_behind asked.store) had.lists_is in
    faults_after-append count (read_calls asked.catalog hearing.catalog) (store_calls (store_due given asked hearing) hearing.listing hearing.texts)
    ∙ ap (λ n. faults_after n (store_calls (store_due given asked hearing) hearing.listing hearing.texts))
    (catalog_quiet given.lists had.lists asked.catalog hearing.begun (count_catalog asked hearing) count hearing.catalog had.lists_is)
    ∙ ap (λ path. faults_after count (store_calls path hearing.listing hearing.texts)) due
    ∙ store_quiet given.texts had.found asked.store (count_catalog asked hearing) (faults_after hearing.begun (lists_calls given asked hearing)) count hearing.listing hearing.texts had.found_is

pub found_count : (given : ListsGiven) (asked : ListsAsked) (tree : TreeSeen) (own : ListsGiven) → FindsLists given asked tree (Ok own) → tree.count_after ≡ tree.count_before
found_count given asked tree own finds = finds.made.counts ∙ lists_quiet given asked finds.hearing own tree.count_before finds.answers

-- ---- by the calls

-- Calls that are answered alike, as far as the same is asked and memory is not wanting: then what is read by the first
-- ones is read by the others.
module _ (Same : List Call → List Call → Type 0)
    (head : (one other : Call) (more rest : List Call) → Same (one ∷ more) (other ∷ rest) → one.asked ≡ other.asked → one.path ≡ other.path → (other.answer ≡ call.no_memory → ⊥)
    → (one.answer ≡ other.answer) × Same more rest) where
  reads_same : (begun after later : ℕ) (dir : List ℕ) (texts : List TextFile) (reads others : List CallAnswer) (more rest : List Call) (all : List StoreText)
      → reads_answered begun after texts reads ≡ Some (Ok all) → (reads_answered begun later texts others ≡ None → ⊥) → Same (reads_of dir texts reads ++ more) (reads_of dir texts others ++ rest)
      → (reads_answered begun later texts others ≡ Some (Ok all)) × Same more rest
  reads_same begun after later dir [] [] [] more rest all had heard same = (had, same)
  reads_same begun after later dir [] [] (other ∷ others) more rest all had heard same = absurd (heard refl)
  reads_same begun after later dir [] (answer ∷ reads) others more rest all had heard same = absurd (cc)
  reads_same begun after later dir (text ∷ texts) [] others more rest all had heard same = absurd (cc)
  reads_same begun after later dir (text ∷ texts) (answer ∷ reads) [] more rest all had heard same = absurd (heard refl)
  reads_same begun after later dir (text ∷ texts) (answer ∷ reads) (other ∷ others) more rest all had heard same =
      let first = had_first text (text_answered begun after answer) reads (reads_answered begun after texts reads) all had in
      let lost : other ≡ call.no_memory → ⊥ =
      λ e. heard (ap (λ own. heard_with text (text_answered begun later own) others (reads_answered begun later texts others)) e) in
      let both = head (read_of (join_of dir text.file) answer) (read_of (join_of dir text.file) other) (reads_of dir texts reads ++ more) (reads_of dir texts others ++ rest) same refl refl lost in
      let had_other : text_answered begun later other ≡ Some (Ok first.body) = subst (λ own. text_answered begun later own ≡ Some (Ok first.body)) both.0 (text_had begun after begun later answer first.body first.is) in
      let as_first : heard_with text (text_answered begun later other) others (reads_answered begun later texts others) ≡ option_map (with_text (record { name = text.license; body = first.body })) (reads_answered begun later texts others) =
      ap (λ own. heard_with text own others (reads_answered begun later texts others)) had_other in
      let more_heard : reads_answered begun later texts others ≡ None → ⊥ =
      λ e. heard (as_first ∙ ap (λ own. option_map (with_text (record { name = text.license; body = first.body })) own) e) in
      let behind = reads_same begun after later dir texts reads others more rest first.more first.rest_is more_heard both.1 in
      (as_first ∙ ap (λ own. option_map (with_text (record { name = text.license; body = first.body })) own) behind.0 ∙ ap (λ (own : List StoreText). Some (Ok own)) (sym first.all_is), behind.1)

  store_same : (given found : TextsGiven) (path : Option (List ℕ)) (begun after other later : ℕ) (listing listed : Option CallAnswer) (reads others : List CallAnswer) (more rest : List Call)
      → texts_by given path begun after listing reads ≡ Some (Ok found) → (texts_by given path other later listed others ≡ None → ⊥) → Same (store_calls path listing reads ++ more) (store_calls path listed others ++ rest)
      → (texts_by given path other later listed others ≡ Some (Ok found)) × Same more rest
  store_same given found None begun after other later listing listed reads others more rest had heard same = (had, same)
  store_same given found (Some path) begun after other later None listed reads others more rest had heard same = absurd (cc)
  store_same given found (Some path) begun after other later (Some answer) None reads others more rest had heard same = absurd (heard refl)
  store_same given found (Some path) begun after other later (Some answer) (Some own) reads others more rest had heard same =
      let texts = had_texts begun after answer reads found had in
      let lost : own ≡ call.no_memory → ⊥ = λ e. heard (ap (λ one. texts_told (store_answered other later one others)) e) in
      let both = head (list_of path answer) (list_of path own) (reads_of path (texts_due answer) reads ++ more) (reads_of path (texts_due own) others ++ rest) same refl refl lost in
      let own_is : own ≡ call.entries texts.entries = sym both.0 ∙ texts.answer_is in
      let own_heard : reads_answered other later (texts_of texts.entries) others ≡ None → ⊥ =
      λ e. heard (ap (λ one. texts_told (store_answered other later one others)) own_is ∙ ap texts_told e) in
      let had_other : reads_answered other after (texts_of texts.entries) reads ≡ Some (Ok texts.all) = reads_had begun after other after (texts_of texts.entries) reads texts.all texts.had in
      let rest_same : Same (reads_of path (texts_of texts.entries) reads ++ more) (reads_of path (texts_of texts.entries) others ++ rest) =
      subst (λ one. Same (reads_of path (texts_of texts.entries) reads ++ more) (reads_of path (texts_due one) others ++ rest)) own_is
      (subst (λ one. Same (reads_of path (texts_due one) reads ++ more) (reads_of path (texts_due own) others ++ rest)) texts.answer_is both.1) in
      let behind = reads_same other after later path (texts_of texts.entries) reads others more rest texts.all had_other own_heard rest_same in
      (ap (λ one. texts_told (store_answered other later one others)) own_is ∙ ap texts_told behind.0 ∙ ap (λ (one : TextsGiven). Some (Ok one)) (sym texts.found_is), behind.1)
    where
      -- it does not depend on the counts
      reads_had : (begun after other later : ℕ) (files : List TextFile) (answers : List CallAnswer) (all : List StoreText) → reads_answered begun after files answers ≡ Some (Ok all)
          → reads_answered other later files answers ≡ Some (Ok all)
      reads_had begun after other later [] [] all is = is
      reads_had begun after other later [] (answer ∷ answers) all is = absurd (cc)
      reads_had begun after other later (text ∷ files) [] all is = absurd (cc)
      reads_had begun after other later (text ∷ files) (answer ∷ answers) all is =
          let first = had_first text (text_answered begun after answer) answers (reads_answered begun after files answers) all is in
          ap (λ own. heard_with text own answers (reads_answered other later files answers)) (text_had begun after other later answer first.body first.is)
          ∙ ap (λ own. option_map (with_text (record { name = text.license; body = first.body })) own) (reads_had begun after other later files answers first.more first.rest_is)
          ∙ ap (λ (own : List StoreText). Some (Ok own)) (sym first.all_is)

  catalog_same : (given lists : CatalogLists) (path : Option (List ℕ)) (begun after other later : ℕ) (answer own : Option CallAnswer) (more rest : List Call)
      → catalog_by given path begun after answer ≡ Some (Ok lists) → (catalog_by given path other later own ≡ None → ⊥) → Same (read_calls path answer ++ more) (read_calls path own ++ rest)
      → (catalog_by given path other later own ≡ Some (Ok lists)) × Same more rest
  catalog_same given lists None begun after other later answer own more rest had heard same = (had, same)
  catalog_same given lists (Some path) begun after other later None own more rest had heard same = absurd (cc)
  catalog_same given lists (Some path) begun after other later (Some answer) None more rest had heard same = absurd (heard refl)
  catalog_same given lists (Some path) begun after other later (Some answer) (Some own) more rest had heard same =
      let lost : own ≡ call.no_memory → ⊥ = λ e. heard (ap (catalog_answered other later) e) in
      let both = head (read_of path answer) (read_of path own) more rest same refl refl lost in
      (subst (λ one. catalog_answered other later one ≡ Some (Ok lists)) both.0 (answered answer had), both.1)
    where
      answered : (one : CallAnswer) → catalog_answered begun after one ≡ Some (Ok lists) → catalog_answered other later one ≡ Some (Ok lists)
      answered (call.bytes items) is = is
      answered (call.entries items) is = absurd (cc)
      answered (call.told items) is = absurd (cc)
      answered call.absent is = absurd (cc)
      answered call.wrong_kind is = absurd (cc)
      answered call.failed is = absurd (cc)
      answered call.no_memory is = absurd (cc)

  -- what is read by the first ones, where they are found, is read by the others
  pub lists_same : (given : ListsGiven) (asked : ListsAsked) (hearing other : ListsHearing) (own : ListsGiven) (more rest : List Call) → given_heard given asked hearing ≡ Some (Ok own)
      → (given_heard given asked other ≡ None → ⊥) → Same (lists_calls given asked hearing ++ more) (lists_calls given asked other ++ rest)
      → (given_heard given asked other ≡ Some (Ok own)) × Same more rest
  lists_same given asked hearing other own more rest is heard same =
      let had = had_both given asked hearing own is in
      let store = store_calls asked.store hearing.listing hearing.texts in
      let due : store_due given asked hearing ≡ asked.store = ap (due_behind asked.store) had.lists_is in
      let apart : Same (read_calls asked.catalog hearing.catalog ++ (store ++ more)) (read_calls asked.catalog other.catalog ++ (store_calls (store_due given asked other) other.listing other.texts ++ rest)) =
      subst (λ calls. Same calls (read_calls asked.catalog other.catalog ++ (store_calls (store_due given asked other) other.listing other.texts ++ rest)))
      (append_assoc (read_calls asked.catalog hearing.catalog) store more)
      (subst (λ calls. Same ((read_calls asked.catalog hearing.catalog ++ store) ++ more) calls)
      (append_assoc (read_calls asked.catalog other.catalog) (store_calls (store_due given asked other) other.listing other.texts) rest)
      (subst (λ path. Same ((read_calls asked.catalog hearing.catalog ++ store_calls path hearing.listing hearing.texts) ++ more) (lists_calls given asked other ++ rest)) due same)) in
      let lists_heard_too : lists_heard given asked other ≡ None → ⊥ = λ e. heard (ap (λ lists. given_by lists (texts_heard given asked other)) e) in
      let catalog = catalog_same given.lists had.lists asked.catalog hearing.begun (count_catalog asked hearing) other.begun (count_catalog asked other) hearing.catalog other.catalog
      (store ++ more) (store_calls (store_due given asked other) other.listing other.texts ++ rest) had.lists_is lists_heard_too apart in
      let other_due : store_due given asked other ≡ asked.store = ap (due_behind asked.store) catalog.0 in
      let as_texts : given_heard given asked other ≡ given_behind had.lists (texts_heard given asked other) = ap (λ lists. given_by lists (texts_heard given asked other)) catalog.0 in
      let texts_heard_too : texts_heard given asked other ≡ None → ⊥ = λ e. heard (as_texts ∙ ap (given_behind had.lists) e) in
      let texts = store_same given.texts had.found asked.store (count_catalog asked hearing) (faults_after hearing.begun (lists_calls given asked hearing)) (count_catalog asked other)
      (faults_after other.begun (lists_calls given asked other)) hearing.listing other.listing hearing.texts other.texts more rest had.found_is texts_heard_too
      (subst (λ path. Same (store ++ more) (store_calls path other.listing other.texts ++ rest)) other_due catalog.1) in
      (as_texts ∙ ap (given_behind had.lists) texts.0 ∙ ap (λ (one : ListsGiven). Some (Ok one)) (sym had.own_is), texts.1)
