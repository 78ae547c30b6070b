-- Paths of which no two have the same parts, and files that are found by such paths.
use Rattle.std.proofs.Common.{◌≡◌, ℕ, Bool, true, false, not, ◌||◌, cond, List, [], ◌∷◌, map, Some, is_some, refl, sym, ap, ◌∙◌}
use Rattle.std.specs.List.{fold, list_any}
use Rattle.std.specs.Ordering.{is_lt}
use Rattle.deny_text.specs.Path.{components_of, path_order}
use Rattle.tree_core.specs.file_reads.Heard.{ReadResult}
use Rattle.gather_license.specs.files.Pack.{first_spellings, in_path_order, paths_with, same_path, without_path}
use Rattle.gather_license.specs.files.View.{file_at, normal_heard, paths_of}
use Rattle.gather_license.proofs.files.PackLemmas.{by_test, file_at-parts, has_path}
use Rattle.gather_license.proofs.files.PathLemmas.{parts_of_same, same_itself, symmetric}
use Rattle.gather_license.proofs.files.CallLemmas.{first_false, second_false}

both_false : (a b : Bool) → a ≡ false → b ≡ false → (a || b) ≡ false
both_false a b first second = ap (λ x. x || b) first ∙ second

-- no two of the paths have the same parts
abbrev pub AreApart : List (List ℕ) → Type 0
AreApart [] = Unit {0}
AreApart (path ∷ paths) = (list_any (same_path path) paths ≡ false) × AreApart paths

-- ---- first spellings are apart

less_without : (x y : List ℕ) (paths : List (List ℕ)) → list_any (same_path y) paths ≡ false → list_any (same_path y) (without_path x paths) ≡ false
less_without x y [] none = refl
less_without x y (path ∷ paths) none =
    let here = first_false (same_path y path) (list_any (same_path y) paths) none in
    let rest = less_without x y paths (second_false (same_path y path) (list_any (same_path y) paths) none) in
    elim (not (same_path x path)) as (λ b. list_any (same_path y) (cond b (path ∷ without_path x paths) (without_path x paths)) ≡ false) [
      | true ↦ both_false (same_path y path) (list_any (same_path y) (without_path x paths)) here rest
      | false ↦ rest
    ]

apart_without : (x : List ℕ) (paths : List (List ℕ)) → AreApart paths → AreApart (without_path x paths)
apart_without x [] apart = tt
apart_without x (path ∷ paths) apart =
    elim (not (same_path x path)) as (λ b. AreApart (cond b (path ∷ without_path x paths) (without_path x paths))) [
      | true ↦ (less_without x path paths apart.0, apart_without x paths apart.1)
      | false ↦ apart_without x paths apart.1
    ]

none_left : (x : List ℕ) (paths : List (List ℕ)) → list_any (same_path x) (without_path x paths) ≡ false
none_left x [] = refl
none_left x (path ∷ paths) =
    elim (same_path x path) as (λ b. same_path x path ≡ b → list_any (same_path x) (cond (not b) (path ∷ without_path x paths) (without_path x paths)) ≡ false) [
      | true ↦ λ is. none_left x paths
      | false ↦ λ is. both_false (same_path x path) (list_any (same_path x) (without_path x paths)) is (none_left x paths)
    ] refl

pub apart_spellings : (paths : List (List ℕ)) → AreApart (first_spellings paths)
apart_spellings [] = tt
apart_spellings (path ∷ paths) = (none_left path (first_spellings paths), apart_without path (first_spellings paths) (apart_spellings paths))

-- ---- sorting keeps them apart

in_placed : (x path : List ℕ) (sorted : List (List ℕ)) → same_path x path ≡ false → list_any (same_path x) sorted ≡ false → list_any (same_path x) (paths_with path sorted) ≡ false
in_placed x path [] here none = both_false (same_path x path) false here refl
in_placed x path (next ∷ sorted) here none =
    elim (is_lt (path_order path next)) as (λ b. list_any (same_path x) (cond b (path ∷ next ∷ sorted) (next ∷ paths_with path sorted)) ≡ false) [
      | true ↦ both_false (same_path x path) (list_any (same_path x) (next ∷ sorted)) here none
      | false ↦
          both_false (same_path x next) (list_any (same_path x) (paths_with path sorted))
          (first_false (same_path x next) (list_any (same_path x) sorted) none)
          (in_placed x path sorted here (second_false (same_path x next) (list_any (same_path x) sorted) none))
    ]

apart_placed : (path : List ℕ) (sorted : List (List ℕ)) → list_any (same_path path) sorted ≡ false → AreApart sorted → AreApart (paths_with path sorted)
apart_placed path [] none apart = (refl, tt)
apart_placed path (next ∷ sorted) none apart =
    let here = first_false (same_path path next) (list_any (same_path path) sorted) none in
    let rest = second_false (same_path path next) (list_any (same_path path) sorted) none in
    elim (is_lt (path_order path next)) as (λ b. AreApart (cond b (path ∷ next ∷ sorted) (next ∷ paths_with path sorted))) [
      | true ↦ (none, apart)
      | false ↦ (in_placed next path sorted (symmetric next path ∙ here) apart.0, apart_placed path sorted rest apart.1)
    ]

-- each of the paths is apart from those that are sorted
abbrev AreNew : List (List ℕ) → List (List ℕ) → Type 0
AreNew sorted [] = Unit {0}
AreNew sorted (path ∷ paths) = (list_any (same_path path) sorted ≡ false) × AreNew sorted paths

new_to_none : (paths : List (List ℕ)) → AreNew [] paths
new_to_none [] = tt
new_to_none (path ∷ paths) = (refl, new_to_none paths)

new_to_placed : (path : List ℕ) (sorted paths : List (List ℕ)) → list_any (same_path path) paths ≡ false → AreNew sorted paths → AreNew (paths_with path sorted) paths
new_to_placed path sorted [] none new = tt
new_to_placed path sorted (next ∷ paths) none new = (
  in_placed next path sorted (symmetric next path ∙ first_false (same_path path next) (list_any (same_path path) paths) none) new.0,
  new_to_placed path sorted paths (second_false (same_path path next) (list_any (same_path path) paths) none) new.1,
)

apart_sorting : (sorted paths : List (List ℕ)) → AreApart sorted → AreApart paths → AreNew sorted paths → AreApart (fold (λ so_far path. paths_with path so_far) sorted paths)
apart_sorting sorted [] apart others new = apart
apart_sorting sorted (path ∷ paths) apart others new =
    apart_sorting (paths_with path sorted) paths (apart_placed path sorted new.0 apart) others.1 (new_to_placed path sorted paths others.0 new.1)

pub apart_in_order : (paths : List (List ℕ)) → AreApart paths → AreApart (in_path_order paths)
apart_in_order paths apart = apart_sorting [] paths tt apart (new_to_none paths)

-- ---- files that are found by their paths

-- what is read at the paths of files that are apart is what the files have, where each look-up agrees
pub heard_at_paths : (hears : List (List ℕ) → ReadResult) (files : List (List ℕ × ReadResult)) → AreApart (paths_of files)
    → ((path : List ℕ) (heard : ReadResult) → file_at files path ≡ Some heard → normal_heard (hears (components_of path)) ≡ heard)
    → map (λ path. (path, normal_heard (hears (components_of path)))) (paths_of files) ≡ files
heard_at_paths hears [] apart agrees = refl
heard_at_paths hears (file ∷ files) apart agrees =
    let here : normal_heard (hears (components_of file.0)) ≡ file.1 =
    agrees file.0 file.1 (ap (λ b. cond b (Some file.1) (file_at files file.0)) (same_itself file.0)) in
    let rest = heard_at_paths hears files apart.1 (λ path heard is. agrees path heard (by_test (same_path path file.0)
    (λ same.
    let there : file_at files file.0 ≡ Some heard = sym (file_at-parts files path file.0 (parts_of_same path file.0 same)) ∙ is in
    let some : is_some (file_at files file.0) ≡ true = ap is_some there in
    let none : is_some (file_at files file.0) ≡ false = has_path files file.0 ∙ apart.0 in cc)
    (λ differs. ap (λ b. cond b (Some file.1) (file_at files path)) differs ∙ is))) in
    ap (λ (heard : ReadResult). (file.0, heard) ∷ map (λ path. (path, normal_heard (hears (components_of path)))) (paths_of files)) here
    ∙ ap (λ (more : List (List ℕ × ReadResult)). file ∷ more) rest
