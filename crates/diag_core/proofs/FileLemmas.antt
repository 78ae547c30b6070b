-- A file's text is replaced in its place, and what paths find in files that grow or change.
use Rattle.std.proofs.Common.{◌≡◌, ℕ, zero, suc, ◌+◌, ◌<◌, true, false, ◌&&◌, cond, T, List, [], ◌∷◌, ◌++◌, length, get_or, set, refl, sym, ap, subst, ◌∙◌, Option, Some, None, is_some, arith}
use Rattle.std.specs.List.{position_from}
use Rattle.std.proofs.lemmas.List.{set-get_or}
use Rattle.std.proofs.lemmas.Iterator.Adapters.{position_from-zero}
use Rattle.std.specs.declared.cmp.Ordering.{Ordering}
use Rattle.std.specs.declared.cmp.Ordering.TheVariants.{Less, Equal, Greater}
use Rattle.std.specs.Ordering.{is_eq, eq_by_cmp}
use Rattle.std.specs.Cmp.{alike_right, tied_back, eq_by_cmp_equiv}
use Rattle.std.specs.FinMap.{get, insert, get-insert}
use Rattle.std.specs.Cmp.Lexicographic.{nat_list_cmp_total}
use Rattle.deny_text.specs.Path.{path_order, path_order_total, key_of}
use Rattle.deny_text.proofs.KeyLemmas.{keys_tell_paths}
use Rattle.diag_core.specs.File.{File, with_source, with_source_at, is_at, file_id_at}
use Rattle.diag_core.specs.PathIds.{PathIds, Finds}

set-with_source : (files : List File) (id : ℕ) (source : List ℕ) (d : File) → id < length files → set files id (with_source source (get_or files id d)) ≡ with_source_at files id source
set-with_source [] id source d within = absurd (omega arith)
set-with_source (file ∷ files) zero source d within = refl
set-with_source (file ∷ files) (suc id) source d within = ap (λ rest. file ∷ rest) (set-with_source files id source d (omega arith))

-- where the file in its place takes the text, so do the files
pub set_with_source_at : (files : List File) (id : ℕ) (source : List ℕ) (old new : File)
    → id < length files → old ≡ get_or files id old → new ≡ with_source source old → set files id new ≡ with_source_at files id source
set_with_source_at files id source old new within there is = ap (set files id) (is ∙ ap (with_source source) there) ∙ set-with_source files id source old within

-- a file that stays as it was leaves the files as they were
pub set_itself : (files : List File) (id : ℕ) (old new : File) → old ≡ get_or files id old → new ≡ old → set files id new ≡ files
set_itself files id old new there is = ap (set files id) (is ∙ there) ∙ set-get_or files id old

-- the number of the first file that is found by the path, where the first file has the number i
abbrev id_from : ℕ → List File → List ℕ → Option ℕ
id_from i files path = position_from (is_at path) i files

id_from-zero : (files : List File) (path : List ℕ) → file_id_at files path ≡ id_from 0 files path
id_from-zero files path = position_from-zero (is_at path) files

push_other_from : (files : List File) (file : File) (path : List ℕ) (i : ℕ) → is_at path file ≡ false → id_from i (files ++ file ∷ []) path ≡ id_from i files path
push_other_from [] file path i other = ap (λ b. cond b (Some i) None) other
push_other_from (f ∷ files) file path i other = ap (λ rest. cond (is_at path f) (Some i) rest) (push_other_from files file path (i + 1) other)

-- a file that the path does not find is added
id_at-push_other : (files : List File) (file : File) (path : List ℕ) → is_at path file ≡ false → file_id_at (files ++ file ∷ []) path ≡ file_id_at files path
id_at-push_other files file path other = id_from-zero _ path ∙ push_other_from files file path 0 other ∙ sym (id_from-zero files path)

push_first_from : (files : List File) (file : File) (path : List ℕ) (i : ℕ) → is_at path file ≡ true → id_from i files path ≡ None → id_from i (files ++ file ∷ []) path ≡ Some (i + length files)
push_first_from [] file path i here none = ap (λ b. cond b (Some i) None) here ∙ ap Some (omega arith)
push_first_from (f ∷ files) file path i here none =
    elim (is_at path f) as (λ b. cond b (Some i) (id_from (i + 1) files path) ≡ None → cond b (Some i) (id_from (i + 1) (files ++ file ∷ []) path) ≡ Some (i + suc (length files))) [
      | true ↦ λ some. absurd (subst T (ap is_some some) tt)
      | false ↦ λ rest. push_first_from files file path (i + 1) here rest ∙ ap Some (omega arith)
    ] none

-- the first file that the path finds is added
id_at-push_first : (files : List File) (file : File) (path : List ℕ) → is_at path file ≡ true → file_id_at files path ≡ None → file_id_at (files ++ file ∷ []) path ≡ Some (length files)
id_at-push_first files file path here none = id_from-zero _ path ∙ push_first_from files file path 0 here (sym (id_from-zero files path) ∙ none) ∙ ap Some (omega arith)

tied_from : (files : List File) (path other : List ℕ) (i : ℕ) → path_order path other ≡ Equal → id_from i files path ≡ id_from i files other
tied_from [] path other i ties = refl
tied_from (f ∷ files) path other i ties =
    ap (λ r. cond (f.has_path && is_eq r) (Some i) (id_from (i + 1) files path)) (alike_right path_order_total path other f.name ties)
    ∙ ap (λ rest. cond (is_at other f) (Some i) rest) (tied_from files path other (i + 1) ties)

-- equal paths find the same file
id_at-tied : (files : List File) (path other : List ℕ) → path_order path other ≡ Equal → file_id_at files path ≡ file_id_at files other
id_at-tied files path other ties = id_from-zero files path ∙ tied_from files path other 0 ties ∙ sym (id_from-zero files other)

none_from_test : (found : Option ℕ) → is_some found ≡ false → found ≡ None
none_from_test None unknown = refl
none_from_test (Some id) unknown = absurd (subst T unknown tt)

module _ (ids : PathIds) (files : List File) (finds : Finds ids files) where
  -- a file with a new path is added, and its path to the map
  pub finds_pushed : (path source : List ℕ) → is_some (file_id_at files path) ≡ false → Finds (insert ids (key_of path) (length files)) (files ++ record { name = path; source = source; has_path = true } ∷ [])
  finds_pushed path source unknown q =
      get-insert nat_list_cmp_total ids (key_of path) (length files) (key_of q)
      ∙ ap (λ b. cond b (Some (length files)) (get ids (key_of q))) (sym (keys_tell_paths q path))
      ∙ by (path_order q path) refl
    where
      file : File
      file = record { name = path; source = source; has_path = true }

      other : eq_by_cmp path_order q path ≡ false → get ids (key_of q) ≡ file_id_at (files ++ file ∷ []) q
      other apart = finds q ∙ sym (id_at-push_other files file q ((eq_by_cmp_equiv path_order_total).symm path q ∙ apart))

      by : (r : Ordering) → path_order q path ≡ r → cond (is_eq r) (Some (length files)) (get ids (key_of q)) ≡ file_id_at (files ++ file ∷ []) q
      by Less is = other (ap is_eq is)
      by Equal is = sym (id_at-push_first files file q (ap is_eq (tied_back path_order_total q path is)) (id_at-tied files q path is ∙ none_from_test _ unknown))
      by Greater is = other (ap is_eq is)
