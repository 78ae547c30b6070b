-- A pack with a further file.
use Rattle.std.proofs.lemmas.List.Elements.{filter_map-append}
use Rattle.std.proofs.lemmas.List.{take_more}
use Rattle.std.proofs.lemmas.List.Sums.{fold-append}
use Rattle.std.proofs.lemmas.Map.Made.{lookup-map_values}
use Rattle.std.proofs.Common.{◌≡◌, ℕ, ◌+◌, ◌<◌, get_or, length, take, Bool, true, false, ◌&&◌, ◌||◌, cond, List, [], ◌∷◌, ◌++◌, map, Option, None, Some, is_some, option_copied, Result, Ok, Err, IfOk, Bor, refl, sym, ap, subst, ◌∙◌}
use Rattle.std.specs.BTreeMap.{is_at, insert_entry}
use Rattle.std.specs.List.{fold, list_any}
use Rattle.std.specs.Map.{lookup}
use Rattle.std.specs.Option.{option_map}
use Rattle.std.specs.Ordering.{is_eq, is_lt, match_ordering}
use Rattle.std.specs.declared.cmp.Ordering.TheVariants.{Less, Equal, Greater}
use Rattle.std.specs.Cmp.Lexicographic.{slice_cmp}
use Rattle.deny_text.specs.Path.{components_of, part_cmp, path_order}
use Rattle.tree_core.specs.declared.reads.ReadAnswer.{ReadAnswer}
use Rattle.tree_core.specs.declared.reads.ReadKind.TheVariants.{Listing, LicenseFile}
use Rattle.tree_core.specs.declared.reads.ReadRecord.{ReadRecord}
use Rattle.tree_core.specs.declared.file_reads.bad_read.BadRead.{BadRead}
use Rattle.tree_core.specs.declared.file_reads.bad_read.BadRead.TheVariants as bad
use Rattle.tree_core.specs.file_reads.Heard.{ReadResult, failed, absent, wrong_kind, not_utf8, text, entries, read_answer_of, read_record_of}
use Rattle.tree_core.specs.file_reads.Views.{heard_bad, heard_file}
use Rattle.gather_license.specs.files.KnownReads.{FolderReads, has_hash, is_absent, matches, missing_from, holds, looked_of}
use Rattle.gather_license.specs.files.NamedFile.{NamedFileView}
use Rattle.gather_license.specs.files.Pack.{same_path, paths_with, in_path_order}
use Rattle.gather_license.specs.files.Steps.{Agrees, file_record, records_by, unread_pack, with_file, with_path}
use Rattle.gather_license.specs.files.Told.{tells_absent, tells_hash, file_state}
use Rattle.gather_license.specs.declared.files.told.FileState.{FileState}
use Rattle.gather_license.specs.files.View.{PackView, KeepsReadFiles, file_at, kept_files, normal_heard, path_read, paths_of, paths_read, unlisted_of}
use Rattle.gather_license.proofs.files.PathLemmas.{parts_of_same, same_itself, list_any-in_path_order, in_path_order-push}

pub by_test : {G : Type 0} (b : Bool) → (b ≡ true → G) → (b ≡ false → G) → G
by_test true holds differs = holds refl
by_test false holds differs = differs refl

-- ---- insertions

pub files_of-insert : (held : List (List ℕ × Result (List ℕ) BadRead)) (path : List ℕ) (kept : Result (List ℕ) BadRead)
    → kept_files (insert_entry path_order held path kept) ≡ insert_entry path_order (kept_files held) path (heard_file kept)
files_of-insert [] path kept = refl
files_of-insert (one ∷ held) path kept =
    elim (path_order path one.0) as (λ r. kept_files (match_ordering r ((path, kept) ∷ one ∷ held) ((one.0, kept) ∷ held) (one ∷ insert_entry path_order held path kept))
    ≡ match_ordering r ((path, heard_file kept) ∷ (one.0, heard_file one.1) ∷ kept_files held) ((one.0, heard_file kept) ∷ kept_files held) ((one.0, heard_file one.1) ∷ insert_entry path_order (kept_files held) path (heard_file kept))) [
      | Less ↦ refl
      | Equal ↦ refl
      | Greater ↦ ap (λ rest. (one.0, heard_file one.1) ∷ rest) (files_of-insert held path kept)
    ]

-- where none of the same parts is there, the path is placed among the others
pub paths_of-insert : (files : List (List ℕ × ReadResult)) (path : List ℕ) (heard : ReadResult) → file_at files path ≡ None → paths_of (insert_entry path_order files path heard) ≡ paths_with path (paths_of files)
paths_of-insert [] path heard none = refl
paths_of-insert (file ∷ files) path heard none =
    elim (path_order path file.0) as (λ r. cond (is_eq r) (Some file.1) (file_at files path) ≡ None
    → paths_of (match_ordering r ((path, heard) ∷ file ∷ files) ((file.0, heard) ∷ files) (file ∷ insert_entry path_order files path heard))
    ≡ cond (is_lt r) (path ∷ file.0 ∷ paths_of files) (file.0 ∷ paths_with path (paths_of files))) [
      | Less ↦ λ rest. refl
      | Equal ↦ λ rest. cc
      | Greater ↦ λ rest. ap (λ paths. file.0 ∷ paths) (paths_of-insert files path heard rest)
    ] none

-- a look-up asks for the parts alone
pub file_at-parts : (files : List (List ℕ × ReadResult)) (x y : List ℕ) → components_of x ≡ components_of y → file_at files x ≡ file_at files y
file_at-parts files x y same = ap (λ parts. lookup (λ path. is_eq (slice_cmp part_cmp parts (components_of path))) files) same

same_of_parts : (x y : List ℕ) → components_of x ≡ components_of y → same_path x y ≡ true
same_of_parts x y same = ap (λ parts. is_eq (slice_cmp part_cmp parts (components_of y))) same ∙ same_itself y

is_some-cond : {A : Type 0} (b : Bool) (x : A) (o : Option A) → is_some (cond b (Some x) o) ≡ (b || is_some o)
is_some-cond true x o = refl
is_some-cond false x o = refl

pub has_path : (files : List (List ℕ × ReadResult)) (path : List ℕ) → is_some (file_at files path) ≡ list_any (same_path path) (paths_of files)
has_path [] path = refl
has_path (file ∷ files) path =
    is_some-cond (same_path path file.0) file.1 (file_at files path) ∙ ap (λ more. same_path path file.0 || more) (has_path files path)

apart : {A : Type 0} (a b : Bool) (x y o : A) → (a ≡ true → b ≡ true → ⊥) → cond a x (cond b y o) ≡ cond b y (cond a x o)
apart true true x y o both = absurd (both refl refl)
apart true false x y o both = refl
apart false true x y o both = refl
apart false false x y o both = refl

-- what a look-up finds behind an insertion
pub file_at-insert : (files : List (List ℕ × ReadResult)) (path : List ℕ) (heard : ReadResult) (at : List ℕ) → file_at files path ≡ None
    → file_at (insert_entry path_order files path heard) at ≡ cond (same_path at path) (Some heard) (file_at files at)
file_at-insert [] path heard at none = refl
file_at-insert (file ∷ files) path heard at none =
    elim (path_order path file.0) as (λ r. path_order path file.0 ≡ r → cond (is_eq r) (Some file.1) (file_at files path) ≡ None
    → file_at (match_ordering r ((path, heard) ∷ file ∷ files) ((file.0, heard) ∷ files) (file ∷ insert_entry path_order files path heard)) at
    ≡ cond (same_path at path) (Some heard) (cond (same_path at file.0) (Some file.1) (file_at files at))) [
      | Less ↦ λ is rest. refl
      | Equal ↦ λ is rest. cc
      | Greater ↦ λ is rest.
          ap (λ o. cond (same_path at file.0) (Some file.1) o) (file_at-insert files path heard at rest)
          ∙ apart (same_path at file.0) (same_path at path) (Some file.1) (Some heard) (file_at files at)
          (λ first second.
          let parts : components_of path ≡ components_of file.0 = sym (parts_of_same at path second) ∙ parts_of_same at file.0 first in
          let same : is_eq (path_order path file.0) ≡ true = same_of_parts path file.0 parts in
          let greater : is_eq (path_order path file.0) ≡ false = ap is_eq is in cc)
    ] refl none

-- ---- records

-- one more file
pub paths_read-push : (reads : List ReadRecord) (path : List ℕ) (heard : ReadResult) → paths_read (reads ++ read_record_of LicenseFile path heard ∷ []) ≡ paths_read reads ++ path ∷ []
paths_read-push reads path heard = filter_map-append path_read reads (read_record_of LicenseFile path heard ∷ [])

-- ---- what was read, and its normal form

pub answer_of-normal : (heard : ReadResult) → read_answer_of (normal_heard heard) ≡ read_answer_of heard
answer_of-normal (failed before after) = refl
answer_of-normal absent = refl
answer_of-normal wrong_kind = refl
answer_of-normal not_utf8 = refl
answer_of-normal (text bytes) = refl
answer_of-normal (entries listed) = refl

-- ---- the further file keeps the pack's form

pub kept-with_file : (pack : PackView) (path : List ℕ) (heard : ReadResult) → KeepsReadFiles pack → file_at pack.files path ≡ None → KeepsReadFiles (with_file pack path heard)
kept-with_file pack path heard kept none = record {
  paths =
      paths_of-insert pack.files path (normal_heard heard) none
      ∙ ap (paths_with path) kept.paths
      ∙ sym (in_path_order-push (paths_read pack.reads) path)
      ∙ ap in_path_order (sym (paths_read-push pack.reads path heard));
}

-- ---- and goes on from it

map-push : {A B : Type 0} (f : A → B) (xs : List A) (y : A) → map f (xs ++ y ∷ []) ≡ map f xs ++ f y ∷ []
map-push f [] y = refl
map-push f (x ∷ xs) y = ap (λ l. f x ∷ l) (map-push f xs y)

pub from_cond : (P : ReadResult → Type 0) (b : Bool) (x : ReadResult) (o : Option ReadResult) (heard : ReadResult) → (b ≡ true → P x) → (b ≡ false → o ≡ Some heard → P heard) → cond b (Some x) o ≡ Some heard → P heard
from_cond P true x o heard here else e = let same : x ≡ heard = cc in subst P same (here refl)
from_cond P false x o heard here else e = else refl e

pub stays-with_file : (pack : PackView) (path : List ℕ) (heard : ReadResult) → file_at pack.files path ≡ None
    → (at : List ℕ) (found : ReadResult) → file_at pack.files at ≡ Some found → file_at (with_file pack path heard).files at ≡ Some found
stays-with_file pack path heard none at found is =
    file_at-insert pack.files path (normal_heard heard) at none
    ∙ by_test (same_path at path)
    (λ same. let gone : file_at pack.files at ≡ None = file_at-parts pack.files at path (parts_of_same at path same) ∙ none in cc)
    (λ differs. ap (λ b. cond b (Some (normal_heard heard)) (file_at pack.files at)) differs ∙ is)

-- the record of the further file is that by any known reads that agree with the pack then
pub record_heard : (pack : PackView) (path : List ℕ) (heard : ReadResult) → file_at pack.files path ≡ None
    → (known_reads : FolderReads) → Agrees known_reads (with_file pack path heard) → read_record_of LicenseFile path heard ≡ file_record known_reads path
record_heard pack path heard none known_reads agrees =
    let here : file_at (with_file pack path heard).files path ≡ Some (normal_heard heard) =
    file_at-insert pack.files path (normal_heard heard) path none ∙ ap (λ b. cond b (Some (normal_heard heard)) (file_at pack.files path)) (same_itself path) in
    let answer : read_answer_of heard ≡ read_answer_of (known_reads.file (components_of path)) =
    sym (sym (answer_of-normal (known_reads.file (components_of path))) ∙ ap read_answer_of (agrees.files path (normal_heard heard) here) ∙ answer_of-normal heard) in
    ap (λ (a : ReadAnswer). let r : ReadRecord = record { path = path; kind = LicenseFile; answer = a } in r) answer

pub records-with_file : (pack : PackView) (path : List ℕ) (heard : ReadResult) → file_at pack.files path ≡ None
    → (known_reads : FolderReads) → Agrees known_reads (with_file pack path heard) → pack.reads ≡ records_by known_reads pack.folder (paths_read pack.reads)
    → (with_file pack path heard).reads ≡ records_by known_reads pack.folder (paths_read (with_file pack path heard).reads)
records-with_file pack path heard none known_reads agrees old =
    let one : read_record_of LicenseFile path heard ≡ file_record known_reads path = record_heard pack path heard none known_reads agrees in
    ap (λ reads. reads ++ read_record_of LicenseFile path heard ∷ []) old
    ∙ ap (λ read. records_by known_reads pack.folder (paths_read pack.reads) ++ read ∷ []) one
    ∙ ap (λ rest. read_record_of Listing pack.folder known_reads.listing ∷ rest) (sym (map-push (file_record known_reads) (paths_read pack.reads) path))
    ∙ ap (records_by known_reads pack.folder) (sym (paths_read-push pack.reads path heard))

-- ---- packs of equal parts

pub same_pack : {f g : List ℕ} {l m : ReadResult} {xs ys : List (List ℕ × ReadResult)} {rs qs : List ReadRecord} → f ≡ g → l ≡ m → xs ≡ ys → rs ≡ qs
    → ◌≡◌ {A = PackView} (record { folder = f; listing = l; files = xs; reads = rs }) (record { folder = g; listing = m; files = ys; reads = qs })
same_pack {f} {g} {l} {m} {xs} {ys} {rs} {qs} folder listing files reads =
    ap (λ (a : List ℕ). let p : PackView = record { folder = a; listing = l; files = xs; reads = rs } in p) folder
    ∙ ap (λ (a : ReadResult). let p : PackView = record { folder = g; listing = a; files = xs; reads = rs } in p) listing
    ∙ ap (λ (a : List (List ℕ × ReadResult)). let p : PackView = record { folder = g; listing = m; files = a; reads = rs } in p) files
    ∙ ap (λ (a : List ReadRecord). let p : PackView = record { folder = g; listing = m; files = ys; reads = a } in p) reads

pub kept_unread : (folder : List ℕ) → KeepsReadFiles (unread_pack folder)
kept_unread folder = record { paths = refl }

pub kept_of_listing : (folder : List ℕ) (heard : ReadResult) → KeepsReadFiles (record { folder = folder; listing = heard; files = []; reads = read_record_of Listing folder heard ∷ [] })
kept_of_listing folder heard = record { paths = refl }

-- ---- look-ups in what is kept

is_some-map : {A B : Type 0} (f : A → B) (o : Option A) → is_some (option_map f o) ≡ is_some o
is_some-map f None = refl
is_some-map f (Some x) = refl

map_twice : {A B C : Type 0} (g : B → C) (f : A → B) (o : Option A) → option_map g (option_map f o) ≡ option_map (λ x. g (f x)) o
map_twice g f None = refl
map_twice g f (Some x) = refl

-- what is reported of what is kept at a path
pub told_found : (held : List (List ℕ × Result (List ℕ) BadRead)) (path : List ℕ) (found : Option (Result (List ℕ) BadRead)) → found ≡ lookup (is_at (path_order path)) held
    → option_map file_state (file_at (kept_files held) path) ≡ option_map (λ kept. file_state (heard_file kept)) found
told_found held path found is =
    ap (option_map file_state) (lookup-map_values heard_file (is_at (path_order path)) held)
    ∙ map_twice file_state heard_file (lookup (is_at (path_order path)) held)
    ∙ ap (option_map (λ kept. file_state (heard_file kept))) (sym is)

-- what is in the pack was read
read_before : (pack : PackView) (path : List ℕ) → KeepsReadFiles pack → is_some (file_at pack.files path) ≡ list_any (same_path path) (paths_read pack.reads)
read_before pack path kept =
    has_path pack.files path ∙ ap (list_any (same_path path)) kept.paths ∙ list_any-in_path_order (same_path path) (paths_read pack.reads)

-- what is reported of a file tells whether that was read
pub told_read : (pack : PackView) (path : List ℕ) (found : Option (Result (List ℕ) BadRead)) → KeepsReadFiles pack
    → option_map file_state (file_at pack.files path) ≡ option_map (λ kept. file_state (heard_file kept)) found
    → is_some found ≡ list_any (same_path path) (paths_read pack.reads)
told_read pack path found kept is =
    sym (is_some-map (λ kept. file_state (heard_file kept)) found)
    ∙ ap is_some (sym is)
    ∙ is_some-map file_state (file_at pack.files path) ∙ read_before pack path kept

pub none_told : (there : Option ReadResult) → None ≡ option_map file_state there → there ≡ None
none_told None e = refl
none_told (Some heard) e = cc

pub both_ok : {A E : Type 0} (result : Result A E) (P Q R : A → Type 0) → ((x : A) → P x → Q x → R x) → IfOk result P → IfOk result Q → IfOk result R
both_ok (Ok x) P Q R holds first second = holds x first second
both_ok (Err e) P Q R holds first second = tt

pub there-with_file : (pack : PackView) (path : List ℕ) (heard : ReadResult) → file_at pack.files path ≡ None → file_at (with_file pack path heard).files path ≡ Some (normal_heard heard)
there-with_file pack path heard none =
    file_at-insert pack.files path (normal_heard heard) path none ∙ ap (λ b. cond b (Some (normal_heard heard)) (file_at pack.files path)) (same_itself path)

-- ---- what is reported of a file

tells_hash-told : (hash : ℕ) (heard : ReadResult) → tells_hash hash (file_state (normal_heard heard)) ≡ has_hash hash heard
tells_hash-told hash (failed before after) = refl
tells_hash-told hash absent = refl
tells_hash-told hash wrong_kind = refl
tells_hash-told hash not_utf8 = refl
tells_hash-told hash (text bytes) = refl
tells_hash-told hash (entries listed) = refl

tells_absent-told : (heard : ReadResult) → tells_absent (file_state (normal_heard heard)) ≡ is_absent heard
tells_absent-told (failed before after) = refl
tells_absent-told absent = refl
tells_absent-told wrong_kind = refl
tells_absent-told not_utf8 = refl
tells_absent-told (text bytes) = refl
tells_absent-told (entries listed) = refl

told_by : (there : Option ReadResult) (heard : ReadResult) (is : FileState) → ((found : ReadResult) → there ≡ Some found → normal_heard heard ≡ found) → option_map file_state there ≡ Some is
    → is ≡ file_state (normal_heard heard)
told_by None heard is agrees told = cc
told_by (Some found) heard is agrees told = let same : file_state found ≡ is = cc in sym same ∙ ap file_state (sym (agrees found refl))

-- what is reported of a file of the pack is reported of it by known reads that agree with the pack
told_heard : (known_reads : FolderReads) (pack : PackView) (path : List ℕ) (is : FileState) → Agrees known_reads pack → option_map file_state (file_at pack.files path) ≡ Some is
    → is ≡ file_state (normal_heard (known_reads.file (components_of path)))
told_heard known_reads pack path is agrees told = told_by (file_at pack.files path) (known_reads.file (components_of path)) is (agrees.files path) told

pub matched : (known_reads : FolderReads) (pack : PackView) (path : List ℕ) (is : FileState) (hash : ℕ) → Agrees known_reads pack → option_map file_state (file_at pack.files path) ≡ Some is
    → tells_hash hash is ≡ has_hash hash (known_reads.file (components_of path))
matched known_reads pack path is hash agrees told =
    ap (tells_hash hash) (told_heard known_reads pack path is agrees told) ∙ tells_hash-told hash (known_reads.file (components_of path))

pub lacked : (known_reads : FolderReads) (pack : PackView) (path : List ℕ) (is : FileState) → Agrees known_reads pack → option_map file_state (file_at pack.files path) ≡ Some is
    → tells_absent is ≡ is_absent (known_reads.file (components_of path))
lacked known_reads pack path is agrees told = ap tells_absent (told_heard known_reads pack path is agrees told) ∙ tells_absent-told (known_reads.file (components_of path))

pub unlisted_by : (error : BadRead) → unlisted_of (heard_bad error) ≡ Some error
unlisted_by bad.Absent = refl
unlisted_by bad.WrongKind = refl
unlisted_by bad.NotUtf8 = refl
unlisted_by (bad.Failed before after) = refl

-- ---- a clarification, file by file

pub holds_on : (known_reads : FolderReads) (named : NamedFileView) (rest : List NamedFileView) (here : Bool) → here ≡ matches known_reads named → here ≡ true → holds known_reads (named ∷ rest) ≡ holds known_reads rest
holds_on known_reads named rest here is passed = ap (λ b. b && holds known_reads rest) (sym is ∙ passed)

pub holds_not : (known_reads : FolderReads) (named : NamedFileView) (rest : List NamedFileView) (here : Bool) → here ≡ matches known_reads named → here ≡ false → holds known_reads (named ∷ rest) ≡ false
holds_not known_reads named rest here is differs = ap (λ b. b && holds known_reads rest) (sym is ∙ differs)

pub looks_on : (known_reads : FolderReads) (paths : List (List ℕ)) (named : NamedFileView) (rest : List NamedFileView) (here : Bool) → here ≡ matches known_reads named → here ≡ true
    → fold with_path paths (looked_of known_reads (named ∷ rest)) ≡ fold with_path (with_path paths named.path) (looked_of known_reads rest)
looks_on known_reads paths named rest here is passed = ap (λ b. fold with_path paths (named.path ∷ cond b (looked_of known_reads rest) [])) (sym is ∙ passed)

pub looks_not : (known_reads : FolderReads) (paths : List (List ℕ)) (named : NamedFileView) (rest : List NamedFileView) (here : Bool) → here ≡ matches known_reads named → here ≡ false
    → fold with_path paths (looked_of known_reads (named ∷ rest)) ≡ with_path paths named.path
looks_not known_reads paths named rest here is differs = ap (λ b. fold with_path paths (named.path ∷ cond b (looked_of known_reads rest) [])) (sym is ∙ differs)

pub missing_on : (known_reads : FolderReads) (number : ℕ) (named : NamedFileView) (rest : List NamedFileView) (here : Bool) → here ≡ matches known_reads named → here ≡ true
    → missing_from known_reads number (named ∷ rest) ≡ missing_from known_reads (number + 1) rest
missing_on known_reads number named rest here is passed =
    ap (λ b. cond b (missing_from known_reads (number + 1) rest) (cond (is_absent (known_reads.file (components_of named.path))) (Some number) None)) (sym is ∙ passed)

pub missing_here : (known_reads : FolderReads) (number : ℕ) (named : NamedFileView) (rest : List NamedFileView) (here : Bool) → here ≡ matches known_reads named → here ≡ false
    → missing_from known_reads number (named ∷ rest) ≡ cond (is_absent (known_reads.file (components_of named.path))) (Some number) None
missing_here known_reads number named rest here is differs =
    ap (λ b. cond b (missing_from known_reads (number + 1) rest) (cond (is_absent (known_reads.file (components_of named.path))) (Some number) None)) (sym is ∙ differs)

-- one more path
pub fold_more : (start paths : List (List ℕ)) (place : ℕ) (path : List ℕ) → place < length paths → path ≡ get_or paths place path
    → fold with_path start (take (place + 1) paths) ≡ with_path (fold with_path start (take place paths)) path
fold_more start paths place path inside is =
    ap (fold with_path start) (take_more paths place path inside)
    ∙ fold-append with_path start (take place paths) (get_or paths place path ∷ [])
    ∙ ap (with_path (fold with_path start (take place paths))) (sym is)

-- ---- a file that is looked up

-- what is borrowed of a look-up, as it is read
pub copied_map : {A B : Type 0} (f : A → B) (found : Option (Bor A)) → option_map (λ kept. f kept.now) found ≡ option_map f (option_copied found)
copied_map f None = refl
copied_map f (Some kept) = refl

-- what is read of the file at a path is what is kept of it
pub file_found : (held : List (List ℕ × Result (List ℕ) BadRead)) (path : List ℕ) (found : Option (Result (List ℕ) BadRead)) → found ≡ lookup (is_at (path_order path)) held
    → option_map heard_file found ≡ file_at (kept_files held) path
file_found held path found is =
    ap (option_map heard_file) is ∙ sym (lookup-map_values heard_file (is_at (path_order path)) held)
