-- Paths of the same parts, and lists of paths.
use Rattle.std.proofs.Common.{◌≡◌, ℕ, Bool, true, false, not, ◌||◌, cond, filter, List, [], ◌∷◌, ◌++◌, refl, sym, ap, ◌∙◌, append-nil, append_assoc}
use Rattle.std.specs.List.{fold, list_any}
use Rattle.std.specs.Ordering.{ordering_then, is_eq, is_lt, nat_cmp}
use Rattle.std.specs.declared.cmp.Ordering.{Ordering}
use Rattle.std.specs.declared.cmp.Ordering.TheVariants.{Less, Equal, Greater}
use Rattle.std.specs.Cmp.{eq_by_cmp_equiv}
use Rattle.std.specs.Cmp.Lexicographic.{slice_cmp}
use Rattle.std.specs.FinMap.{IsAntisymmetric, nat_cmp-IsAntisymmetric, slice_cmp-IsAntisymmetric}
use Rattle.std.proofs.lemmas.List.Sums.{fold-append}
use Rattle.deny_text.specs.Path.{components_of, part_rank, part_cmp, path_order, path_order_total}
use Rattle.gather_license.specs.files.Pack.{same_path, without_path, first_spellings, paths_with, in_path_order}
use Rattle.gather_license.specs.files.Steps.{LookUpsKeepFirstSpellings, with_path}

-- ---- the same parts

second_equal : (first second : Ordering) → ordering_then first second ≡ Equal → second ≡ Equal
second_equal Less second e = let bad : Less ≡ Equal = e in cc
second_equal Equal second e = e
second_equal Greater second e = let bad : Greater ≡ Equal = e in cc

part_cmp-exact : IsAntisymmetric part_cmp
part_cmp-exact x y e = slice_cmp-IsAntisymmetric nat_cmp-IsAntisymmetric x y (second_equal (nat_cmp (part_rank x) (part_rank y)) (slice_cmp nat_cmp x y) e)

is_equal : (order : Ordering) → is_eq order ≡ true → order ≡ Equal
is_equal Less e = cc
is_equal Equal e = refl
is_equal Greater e = cc

-- paths that are the same have the same parts
pub parts_of_same : (x y : List ℕ) → same_path x y ≡ true → components_of x ≡ components_of y
parts_of_same x y same = slice_cmp-IsAntisymmetric part_cmp-exact (components_of x) (components_of y) (is_equal _ same)

pub same_itself : (x : List ℕ) → same_path x x ≡ true
same_itself x = (eq_by_cmp_equiv path_order_total).refl x

-- ---- sorting keeps the paths

module _ (test : List ℕ → Bool) where
  swapped : (a b c : Bool) → (a || (b || c)) ≡ (b || (a || c))
  swapped true true c = refl
  swapped true false c = refl
  swapped false true c = refl
  swapped false false c = refl

  list_any-placed : (path : List ℕ) (paths : List (List ℕ)) → list_any test (paths_with path paths) ≡ (test path || list_any test paths)
  list_any-placed path [] = refl
  list_any-placed path (next ∷ paths) =
      elim (is_lt (path_order path next)) as (λ b. list_any test (cond b (path ∷ next ∷ paths) (next ∷ paths_with path paths)) ≡ (test path || (test next || list_any test paths))) [
        | true ↦ refl
        | false ↦ ap (λ more. test next || more) (list_any-placed path paths) ∙ swapped (test next) (test path) (list_any test paths)
      ]

  either_way : (a b c : Bool) → ((a || b) || c) ≡ (b || (a || c))
  either_way true true c = refl
  either_way true false c = refl
  either_way false true c = refl
  either_way false false c = refl

  nothing_more : (a : Bool) → (a || false) ≡ a
  nothing_more true = refl
  nothing_more false = refl

  list_any-sorting : (sorted paths : List (List ℕ)) → list_any test (fold (λ so_far path. paths_with path so_far) sorted paths) ≡ (list_any test sorted || list_any test paths)
  list_any-sorting sorted [] = sym (nothing_more (list_any test sorted))
  list_any-sorting sorted (path ∷ paths) =
      list_any-sorting (paths_with path sorted) paths
      ∙ ap (λ first. first || list_any test paths) (list_any-placed path sorted)
      ∙ either_way (test path) (list_any test sorted) (list_any test paths)

  pub list_any-in_path_order : (paths : List (List ℕ)) → list_any test (in_path_order paths) ≡ list_any test paths
  list_any-in_path_order paths = list_any-sorting [] paths

pub in_path_order-push : (paths : List (List ℕ)) (path : List ℕ) → in_path_order (paths ++ path ∷ []) ≡ paths_with path (in_path_order paths)
in_path_order-push paths path = fold-append (λ sorted next. paths_with next sorted) [] paths (path ∷ [])

-- ---- first spellings

-- what is not the same as one path keeps its tests where that path is taken out
kept_test : (x y : List ℕ) (paths : List (List ℕ)) → same_path y x ≡ false → list_any (same_path y) (without_path x paths) ≡ list_any (same_path y) paths
kept_test x y [] differs = refl
kept_test x y (path ∷ paths) differs =
    by_test (same_path x path)
    (λ same.
    ap (λ b. list_any (same_path y) (cond (not b) (path ∷ without_path x paths) (without_path x paths))) same
    ∙ kept_test x y paths differs
    ∙ ap (λ b. b || list_any (same_path y) paths) (sym (differs_too same)))
    (λ other.
    ap (λ b. list_any (same_path y) (cond (not b) (path ∷ without_path x paths) (without_path x paths))) other
    ∙ ap (λ b. same_path y path || b) (kept_test x y paths differs))
  where
    by_test : {G : Type 0} (b : Bool) → (b ≡ true → G) → (b ≡ false → G) → G
    by_test true holds differs = holds refl
    by_test false holds differs = differs refl

    differs_too : same_path x path ≡ true → same_path y path ≡ false
    differs_too same = ap (λ parts. is_eq (slice_cmp part_cmp (components_of y) parts)) (sym (parts_of_same x path same)) ∙ differs

without-push : (x : List ℕ) (paths : List (List ℕ)) (y : List ℕ) → without_path x (paths ++ y ∷ []) ≡ without_path x paths ++ cond (not (same_path x y)) (y ∷ []) []
without-push x [] y = refl
without-push x (path ∷ paths) y =
    elim (not (same_path x path)) as (λ b. cond b (path ∷ without_path x (paths ++ y ∷ [])) (without_path x (paths ++ y ∷ []))
    ≡ cond b (path ∷ without_path x paths) (without_path x paths) ++ cond (not (same_path x y)) (y ∷ []) []) [
      | true ↦ ap (λ rest. path ∷ rest) (without-push x paths y)
      | false ↦ without-push x paths y
    ]

-- a path that is the same as the first one goes away with it
gone : (x y : List ℕ) (paths : List (List ℕ)) (there : Bool) → same_path x y ≡ true → without_path x (cond there paths (paths ++ y ∷ [])) ≡ without_path x paths
gone x y paths true same = refl
gone x y paths false same =
    without-push x paths y ∙ ap (λ b. without_path x paths ++ cond (not b) (y ∷ []) []) same ∙ append-nil (without_path x paths)

-- one that differs stays
stays : (x y : List ℕ) (paths : List (List ℕ)) (there : Bool) → same_path x y ≡ false
    → x ∷ without_path x (cond there paths (paths ++ y ∷ [])) ≡ cond there (x ∷ without_path x paths) ((x ∷ without_path x paths) ++ y ∷ [])
stays x y paths true differs = refl
stays x y paths false differs =
    ap (λ rest. x ∷ rest) (without-push x paths y ∙ ap (λ b. without_path x paths ++ cond (not b) (y ∷ []) []) differs)

by_same : {G : Type 0} (b : Bool) → (b ≡ true → G) → (b ≡ false → G) → G
by_same true holds differs = holds refl
by_same false holds differs = differs refl

pub symmetric : (x y : List ℕ) → same_path x y ≡ same_path y x
symmetric x y = (eq_by_cmp_equiv path_order_total).symm x y

first_spellings-push : (paths : List (List ℕ)) (y : List ℕ) → first_spellings (paths ++ y ∷ []) ≡ with_path (first_spellings paths) y
first_spellings-push [] y = refl
first_spellings-push (x ∷ paths) y =
    let firsts = first_spellings paths in
    let there = list_any (same_path y) firsts in
    let rest = without_path x firsts in
    ap (λ more. x ∷ without_path x more) (first_spellings-push paths y)
    ∙ by_same (same_path y x)
    (λ same.
    ap (λ more. x ∷ more) (gone x y firsts there (symmetric x y ∙ same))
    ∙ sym (ap (λ b. cond (b || list_any (same_path y) rest) (x ∷ rest) ((x ∷ rest) ++ y ∷ [])) same))
    (λ differs.
    stays x y firsts there (symmetric x y ∙ differs)
    ∙ sym (ap (λ b. cond b (x ∷ rest) ((x ∷ rest) ++ y ∷ [])) (ap (λ b. b || list_any (same_path y) rest) differs ∙ kept_test x y firsts differs)))

from_done : (done rest : List (List ℕ)) → fold with_path (first_spellings done) rest ≡ first_spellings (done ++ rest)
from_done done [] = ap first_spellings (sym (append-nil done))
from_done done (path ∷ rest) =
    ap (λ so_far. fold with_path so_far rest) (sym (first_spellings-push done path))
    ∙ from_done (done ++ path ∷ []) rest ∙ ap first_spellings (append_assoc done (path ∷ []) rest)

pub look_ups_keep_first_spellings : LookUpsKeepFirstSpellings
look_ups_keep_first_spellings paths = from_done [] paths

-- ---- paths that are looked up behind others

-- the paths that have the parts of none of these
abbrev pub apart_from : List (List ℕ) → List (List ℕ) → List (List ℕ)
apart_from read paths = filter (λ path. not (list_any (same_path path) read)) paths

-- a path that was there goes away with those of the same parts
apart_known : (read : List (List ℕ)) (x : List ℕ) (paths : List (List ℕ)) → list_any (same_path x) read ≡ true → apart_from read (without_path x paths) ≡ apart_from read paths
apart_known read x [] there = refl
apart_known read x (path ∷ paths) there =
    by_same (same_path x path)
    (λ same.
    ap (λ b. apart_from read (cond (not b) (path ∷ without_path x paths) (without_path x paths))) same
    ∙ apart_known read x paths there
    ∙ sym (ap (λ b. cond (not b) (path ∷ apart_from read paths) (apart_from read paths)) (known_too same)))
    (λ differs.
    ap (λ b. apart_from read (cond (not b) (path ∷ without_path x paths) (without_path x paths))) differs
    ∙ ap (λ more. cond (not (list_any (same_path path) read)) (path ∷ more) more) (apart_known read x paths there))
  where
    known_too : same_path x path ≡ true → list_any (same_path path) read ≡ true
    known_too same = ap (λ parts. list_any (λ other. is_eq (slice_cmp part_cmp parts (components_of other))) read) (sym (parts_of_same x path same)) ∙ there

any-push : (y : List ℕ) (read : List (List ℕ)) (x : List ℕ) → list_any (same_path y) (read ++ x ∷ []) ≡ (same_path x y || list_any (same_path y) read)
any-push y [] x = ap (λ b. b || false) (symmetric y x)
any-push y (one ∷ read) x =
    ap (λ b. same_path y one || b) (any-push y read x) ∙ three (same_path y one) (same_path x y) (list_any (same_path y) read)
  where
    three : (a b c : Bool) → (a || (b || c)) ≡ (b || (a || c))
    three true true c = refl
    three true false c = refl
    three false true c = refl
    three false false c = refl

-- one more path that was read takes away those of its parts
apart_more : (read : List (List ℕ)) (x : List ℕ) (paths : List (List ℕ)) → apart_from (read ++ x ∷ []) paths ≡ apart_from read (without_path x paths)
apart_more read x [] = refl
apart_more read x (path ∷ paths) =
    ap (λ b. cond (not b) (path ∷ apart_from (read ++ x ∷ []) paths) (apart_from (read ++ x ∷ []) paths)) (any-push path read x)
    ∙ ap (λ more. cond (not (same_path x path || list_any (same_path path) read)) (path ∷ more) more) (apart_more read x paths)
    ∙ either (same_path x path)
  where
    rest : List (List ℕ)
    rest = without_path x paths

    known : Bool
    known = list_any (same_path path) read

    either : (b : Bool) → cond (not (b || known)) (path ∷ apart_from read rest) (apart_from read rest) ≡ apart_from read (cond (not b) (path ∷ rest) rest)
    either true = refl
    either false = refl

-- what is looked up onto some paths is these, and then the first spelling of each other one, in order
pub looks_behind : (read paths : List (List ℕ)) → fold with_path read paths ≡ read ++ apart_from read (first_spellings paths)
looks_behind read [] = sym (append-nil read)
looks_behind read (path ∷ paths) =
    by_same (list_any (same_path path) read)
    (λ there.
    ap (λ b. fold with_path (cond b read (read ++ path ∷ [])) paths) there
    ∙ looks_behind read paths
    ∙ ap (λ more. read ++ more)
    (sym (ap (λ b. cond (not b) (path ∷ apart_from read (without_path path (first_spellings paths))) (apart_from read (without_path path (first_spellings paths)))) there
    ∙ apart_known read path (first_spellings paths) there)))
    (λ new.
    ap (λ b. fold with_path (cond b read (read ++ path ∷ [])) paths) new
    ∙ looks_behind (read ++ path ∷ []) paths
    ∙ append_assoc read (path ∷ []) (apart_from (read ++ path ∷ []) (first_spellings paths))
    ∙ ap (λ more. read ++ path ∷ more) (apart_more read path (first_spellings paths))
    ∙ sym (ap (λ b. read ++ cond (not b) (path ∷ apart_from read (without_path path (first_spellings paths))) (apart_from read (without_path path (first_spellings paths)))) new))
