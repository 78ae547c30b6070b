-- What is read of a catalogue's file and of a folder of licence texts: which lists and which texts count, and which
-- calls that takes.
use Rattle.std.specs.Prelude.{ℕ, List, [], ◌∷◌, ◌++◌, Option, Some, None, Result, Ok, Err}
use Rattle.tree_core.specs.Call as call
use Rattle.tree_core.specs.Call.{CallAnswer, Call}
use Rattle.tree_core.specs.Trace.{faults_after}
use Rattle.tree_core.specs.declared.texts.fault.ReadFault.TheVariants.{Absent, Failed, Folder}
use Rattle.spdx_terms.specs.catalog.Catalog.{CatalogLists}
use Rattle.spdx_own_names.specs.File.{first_fault, lines_of, lists_of}
use Rattle.spdx_own_names.specs.Folder.{StoreHeard, list_of, reads_of, store_answered, texts_due}
use Rattle.run_found.specs.declared.error.Error.{Error}
use Rattle.run_found.specs.declared.error.Error.TheVariants.{CatalogRead, CatalogSyntax, StoreRead}
use Rattle.run_found.specs.Hearing.{read_calls}
use Rattle.run_found.specs.own_names.Given.{ListsAsked, ListsGiven, TextsGiven, lists_given, store_given}

-- The tree's count of faults before the first of the calls, and what they were answered: the read of a catalogue's
-- file, and the listing of a folder with the reads of its texts, each where it was made.
pub record ListsHearing : Type 0 where
  pub begun : ℕ
  pub catalog : Option CallAnswer
  pub listing : Option CallAnswer
  pub texts : List CallAnswer

-- ---- the catalogue

-- the catalogue of a file, or its first fault
abbrev pub catalog_told : Option ℕ → CatalogLists → Result CatalogLists Error
catalog_told None lists = Ok lists
catalog_told (Some line) lists = Err (CatalogSyntax line)

abbrev pub catalog_in : List ℕ → Result CatalogLists Error
catalog_in bytes = catalog_told (first_fault bytes) (lists_of (lines_of bytes))

-- by the answer to the read of the file, between two counts of faults; for want of memory nothing is read
abbrev pub catalog_answered : ℕ → ℕ → CallAnswer → Option (Result CatalogLists Error)
catalog_answered begun after (call.bytes items) = Some (catalog_in items)
catalog_answered begun after (call.entries items) = None
catalog_answered begun after (call.told answer) = None
catalog_answered begun after call.absent = Some (Err (CatalogRead Absent))
catalog_answered begun after call.wrong_kind = Some (Err (CatalogRead Folder))
catalog_answered begun after call.failed = Some (Err (CatalogRead (Failed begun after)))
catalog_answered begun after call.no_memory = None

abbrev pub catalog_read : ℕ → ℕ → Option CallAnswer → Option (Result CatalogLists Error)
catalog_read begun after None = None
catalog_read begun after (Some answer) = catalog_answered begun after answer

-- the lists of the file at a path; where there is none, those that are given
abbrev pub catalog_by : CatalogLists → Option (List ℕ) → ℕ → ℕ → Option CallAnswer → Option (Result CatalogLists Error)
catalog_by given None begun after answer = Some (Ok given)
catalog_by given (Some path) begun after answer = catalog_read begun after answer

-- ---- the texts

-- the texts of a folder, or why there are none
abbrev pub texts_told : Option StoreHeard → Option (Result TextsGiven Error)
texts_told None = None
texts_told (Some (Ok texts)) = Some (Ok (store_given texts))
texts_told (Some (Err fault)) = Some (Err (StoreRead fault))

abbrev pub texts_read : ℕ → ℕ → Option CallAnswer → List CallAnswer → Option (Result TextsGiven Error)
texts_read begun after None reads = None
texts_read begun after (Some answer) reads = texts_told (store_answered begun after answer reads)

-- the texts of a folder; where there is none, those that are given
abbrev pub texts_by : TextsGiven → Option (List ℕ) → ℕ → ℕ → Option CallAnswer → List CallAnswer
    → Option (Result TextsGiven Error)
texts_by given None begun after listing reads = Some (Ok given)
texts_by given (Some path) begun after listing reads = texts_read begun after listing reads

-- the calls on a folder: its listing, where it was made, and then the reads
abbrev pub store_calls : Option (List ℕ) → Option CallAnswer → List CallAnswer → List Call
store_calls None listing reads = []
store_calls (Some path) None reads = []
store_calls (Some path) (Some answer) reads = list_of path answer ∷ reads_of path (texts_due answer) reads

-- ---- both

-- the count of faults behind the read of the catalogue
abbrev pub count_catalog : ListsAsked → ListsHearing → ℕ
count_catalog asked hearing = faults_after hearing.begun (read_calls asked.catalog hearing.catalog)

abbrev pub lists_heard : ListsGiven → ListsAsked → ListsHearing → Option (Result CatalogLists Error)
lists_heard given asked hearing =
    catalog_by given.lists asked.catalog hearing.begun (count_catalog asked hearing) hearing.catalog

-- a folder is listed where no catalogue is asked for, and where that was found
abbrev pub due_behind : Option (List ℕ) → Option (Result CatalogLists Error) → Option (List ℕ)
due_behind path None = None
due_behind path (Some (Ok lists)) = path
due_behind path (Some (Err error)) = None

abbrev pub store_due : ListsGiven → ListsAsked → ListsHearing → Option (List ℕ)
store_due given asked hearing = due_behind asked.store (lists_heard given asked hearing)

-- all calls, in order
abbrev pub lists_calls : ListsGiven → ListsAsked → ListsHearing → List Call
lists_calls given asked hearing =
    read_calls asked.catalog hearing.catalog
    ++ store_calls (store_due given asked hearing) hearing.listing hearing.texts

abbrev pub texts_heard : ListsGiven → ListsAsked → ListsHearing → Option (Result TextsGiven Error)
texts_heard given asked hearing =
    texts_by given.texts asked.store (count_catalog asked hearing)
    (faults_after hearing.begun (lists_calls given asked hearing)) hearing.listing hearing.texts

abbrev pub with_texts : CatalogLists → Result TextsGiven Error → Result ListsGiven Error
with_texts lists (Ok texts) = Ok (lists_given lists texts)
with_texts lists (Err error) = Err error

abbrev pub given_behind : CatalogLists → Option (Result TextsGiven Error) → Option (Result ListsGiven Error)
given_behind lists None = None
given_behind lists (Some texts) = Some (with_texts lists texts)

abbrev pub given_by : Option (Result CatalogLists Error) → Option (Result TextsGiven Error)
    → Option (Result ListsGiven Error)
given_by None texts = None
given_by (Some (Ok lists)) texts = given_behind lists texts
given_by (Some (Err error)) texts = Some (Err error)

-- What takes the place of what is given, or the first refusal: of the catalogue, and then of the texts. Nothing is read
-- where memory was wanting, and where a call that is due was not made.
abbrev pub given_heard : ListsGiven → ListsAsked → ListsHearing → Option (Result ListsGiven Error)
given_heard given asked hearing = given_by (lists_heard given asked hearing) (texts_heard given asked hearing)
