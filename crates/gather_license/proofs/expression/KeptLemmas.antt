-- What is kept of licence files is what is read of them.
use Rattle.std.proofs.Common.{◌≡◌, ◌∙◌, ℕ, ◌+◌, ◌<◌, get_or, length, take, Bool, true, false, ◌||◌, cond, List, [], ◌∷◌, ◌++◌, map, Option, Some, None, is_some, refl, sym, ap, ap₂, Result, Err, append_assoc}
use Rattle.std.specs.Prelude.{unwrap_or}
use Rattle.std.specs.List.{list_any}
use Rattle.std.proofs.lemmas.List.{map-append, take_more}
use Rattle.deny_text.specs.Path.{components_of}
use Rattle.tree_core.specs.declared.file_reads.bad_read.BadRead.{BadRead}
use Rattle.tree_core.specs.declared.file_reads.bad_read.BadRead.TheVariants as bad
use Rattle.tree_core.specs.file_reads.Heard.{ReadResult, absent}
use Rattle.tree_core.specs.declared.reads.ReadRecord.{ReadRecord}
use Rattle.tree_core.specs.file_reads.Views.{heard_bad}
use Rattle.gather_license.specs.files.KnownReads.{FolderReads}
use Rattle.gather_license.specs.files.Pack.{in_path_order, same_path}
use Rattle.gather_license.specs.files.Steps.{Agrees}
use Rattle.gather_license.specs.files.View.{PackView, file_at, normal_heard, paths_of, paths_read}
use Rattle.gather_license.specs.declared.expression.kept.KeptFile.{KeptFile}
use Rattle.gather_license.specs.declared.expression.kept.KeptText.{KeptText}
use Rattle.gather_license.specs.expression.Kept.{file_kept, file_kept_in, files_kept_in, kept_by, kept_in, kept_of, kept_where}
use Rattle.gather_license.specs.expression.Scanned.{Scanner}
use Rattle.gather_license.proofs.files.CallLemmas.{paths_read-append}
use Rattle.gather_license.proofs.files.PackLemmas.{has_path}
use Rattle.gather_license.proofs.files.PathLemmas.{list_any-in_path_order, same_itself}

-- a file that is no text
pub bad_kept : (scanner : Scanner) (error : BadRead) → kept_of scanner (heard_bad error) ≡ Err error
bad_kept scanner bad.Absent = refl
bad_kept scanner bad.WrongKind = refl
bad_kept scanner bad.NotUtf8 = refl
bad_kept scanner (bad.Failed before after) = refl

abbrev kept_as : Scanner → List ℕ → ReadResult → KeptFile
kept_as scanner path heard = record { path = path; kept = kept_of scanner heard }

-- ---- a file that a pack has

one_kept : (scanner : Scanner) (known_reads : FolderReads) (pack : PackView) (path : List ℕ) (found : Option ReadResult) → Agrees known_reads pack → file_at pack.files path ≡ found → is_some found ≡ true
    → file_kept_in scanner pack.files path ≡ file_kept scanner known_reads path
one_kept scanner known_reads pack path (Some heard) agrees is some =
    ap (λ (found : Option ReadResult). kept_as scanner path (unwrap_or found absent)) is
    ∙ ap (kept_as scanner path) (sym (agrees.files path heard is))
one_kept scanner known_reads pack path None agrees is some = cc

-- ---- each path that was read is among the files

or_true : (b : Bool) → (b || true) ≡ true
or_true true = refl
or_true false = refl

is_there : (path : List ℕ) (front rest : List (List ℕ)) → list_any (same_path path) (front ++ path ∷ rest) ≡ true
is_there path [] rest = ap (λ b. b || list_any (same_path path) rest) (same_itself path)
is_there path (one ∷ front) rest = ap (λ b. same_path path one || b) (is_there path front rest) ∙ or_true (same_path path one)

all_kept : (scanner : Scanner) (known_reads : FolderReads) (pack : PackView) (front rest all : List (List ℕ)) → Agrees known_reads pack → paths_of pack.files ≡ in_path_order all → all ≡ front ++ rest
    → map (file_kept_in scanner pack.files) rest ≡ map (file_kept scanner known_reads) rest
all_kept scanner known_reads pack front [] all agrees sorted is = refl
all_kept scanner known_reads pack front (path ∷ rest) all agrees sorted is =
    let there : is_some (file_at pack.files path) ≡ true =
    has_path pack.files path ∙ ap (list_any (same_path path)) sorted ∙ list_any-in_path_order (same_path path) all
    ∙ ap (list_any (same_path path)) is ∙ is_there path front rest in
    ap₂ (λ (first : KeptFile) (more : List KeptFile). first ∷ more)
    (one_kept scanner known_reads pack path (file_at pack.files path) agrees refl there)
    (all_kept scanner known_reads pack (front ++ path ∷ []) rest all agrees sorted (is ∙ sym (append_assoc front (path ∷ []) rest)))

-- What is kept of a pack is what is read of its files by whatever agrees with it.
pub kept_by_reads : (scanner : Scanner) (known_reads : FolderReads) (pack : PackView) → Agrees known_reads pack → paths_of pack.files ≡ in_path_order (paths_read pack.reads)
    → kept_in scanner pack ≡ kept_by scanner known_reads pack.reads
kept_by_reads scanner known_reads pack agrees sorted =
    ap (kept_where scanner.keeps) (all_kept scanner known_reads pack [] (paths_read pack.reads) (paths_read pack.reads) agrees sorted refl)

-- ---- read by read

pub kept_more : (scanner : Scanner) (files : List (List ℕ × ReadResult)) (reads : List ReadRecord) (place : ℕ) (read : ReadRecord) → place < length reads → read ≡ get_or reads place read
    → files_kept_in scanner files (take (place + 1) reads) ≡ files_kept_in scanner files (take place reads) ++ files_kept_in scanner files (read ∷ [])
kept_more scanner files reads place read inside is =
    ap (files_kept_in scanner files) (take_more reads place read inside)
    ∙ ap (map (file_kept_in scanner files)) (paths_read-append (take place reads) (get_or reads place read ∷ []))
    ∙ map-append (file_kept_in scanner files) (paths_read (take place reads)) (paths_read (get_or reads place read ∷ []))
    ∙ ap (λ (one : ReadRecord). files_kept_in scanner files (take place reads) ++ files_kept_in scanner files (one ∷ [])) (sym is)
