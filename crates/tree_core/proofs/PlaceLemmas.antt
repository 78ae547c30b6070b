-- Places: equal where they tie, and their prefixes.
use Rattle.std.proofs.Common.{◌≡◌, ◌≢◌, ℕ, ◌+◌, ◌-◌, ◌<◌, ◌≤◌, ◌⊎◌, true, false, List, [], ◌∷◌, ◌++◌, length, take, get_or, slice_get, Some, refl, sym, ap, ◌∙◌, subst, inl, inr, arith}
use Rattle.std.specs.Ordering.{nat_cmp, is_eq, eq_by_cmp, ordering_then}
use Rattle.std.specs.declared.cmp.Ordering.{Ordering}
use Rattle.std.specs.declared.cmp.Ordering.TheVariants.{Less, Equal, Greater}
use Rattle.std.specs.Cmp.{tied_itself}
use Rattle.std.specs.Cmp.Lexicographic.{slice_cmp, lists_total, nat_list_cmp_total}
use Rattle.std.specs.FinMap.{nat_cmp-IsAntisymmetric, slice_cmp-IsAntisymmetric, IsAntisymmetric}
use Rattle.std.proofs.lemmas.Bool.{cases_lt}
use Rattle.std.proofs.lemmas.Option.{get_or_from_slice_get}
use Rattle.std.proofs.lemmas.List.{take-take, length-take-le, length-take, length-append, take_all, take_at, take_more}
use Rattle.tree_core.specs.Content.{Place, place_above, names_cmp, place_cmp, place_cmp_total}
use Rattle.tree_core.specs.TreeState.{IsPlaceFront}

then_equal : (o p : Ordering) → ordering_then o p ≡ Equal → p ≡ Equal
then_equal Less p e = cc
then_equal Equal p e = e
then_equal Greater p e = cc

pub names_cmp-IsAntisymmetric : IsAntisymmetric names_cmp
names_cmp-IsAntisymmetric = slice_cmp-IsAntisymmetric (slice_cmp-IsAntisymmetric nat_cmp-IsAntisymmetric)

pub place_cmp-IsAntisymmetric : IsAntisymmetric place_cmp
place_cmp-IsAntisymmetric = λ x y e. names_cmp-IsAntisymmetric x y (then_equal _ _ e)

-- the root comes first
after_root : (front : Place) → ordering_then (names_cmp front []) Greater ≡ Greater
after_root [] = refl
after_root (name ∷ names) = refl

pub place_cmp-root : (name : List ℕ) (names : Place) → place_cmp (name ∷ names) [] ≡ Greater
place_cmp-root name names = after_root (place_above (name ∷ names))

-- the folder above what is right in a folder
pub above-child : (folder : Place) (name : List ℕ) → place_above (folder ++ name ∷ []) ≡ folder
above-child folder name = take_at folder (name ∷ []) (length (folder ++ name ∷ []) - 1) (omega (arith, length-append folder (name ∷ [])))

names_tie : (place : Place) → names_cmp place place ≡ Equal
names_tie place = tied_itself (lists_total nat_list_cmp_total) place

pub then_nothing : (o : Ordering) → ordering_then o Equal ≡ o
then_nothing Less = refl
then_nothing Equal = refl
then_nothing Greater = refl

names_cmp-siblings : (folder : Place) (a b : List ℕ) → names_cmp (folder ++ a ∷ []) (folder ++ b ∷ []) ≡ slice_cmp nat_cmp a b
names_cmp-siblings [] a b = then_nothing (slice_cmp nat_cmp a b)
names_cmp-siblings (at ∷ folder) a b =
    ap (λ o. ordering_then o (names_cmp (folder ++ a ∷ []) (folder ++ b ∷ []))) (tied_itself nat_list_cmp_total at) ∙ names_cmp-siblings folder a b

names_cmp-longer : (folder : Place) (name : List ℕ) → names_cmp (folder ++ name ∷ []) folder ≡ Greater
names_cmp-longer [] name = refl
names_cmp-longer (at ∷ folder) name =
    ap (λ o. ordering_then o (names_cmp (folder ++ name ∷ []) folder)) (tied_itself nat_list_cmp_total at) ∙ names_cmp-longer folder name

-- what is in one folder is ordered by its names
pub place_cmp-siblings : (folder : Place) (a b : List ℕ) → place_cmp (folder ++ a ∷ []) (folder ++ b ∷ []) ≡ slice_cmp nat_cmp a b
place_cmp-siblings folder a b = rw (above-child folder a, above-child folder b, names_tie folder) (names_cmp-siblings folder a b)

-- what is in a folder within the folder comes after what is in the folder
pub place_cmp-within : (folder : Place) (a b c : List ℕ) → place_cmp ((folder ++ a ∷ []) ++ b ∷ []) (folder ++ c ∷ []) ≡ Greater
place_cmp-within folder a b c = rw (above-child (folder ++ a ∷ []) b, above-child folder c, names_cmp-longer folder a) refl

pub place_ties_itself : (place : Place) → place_cmp place place ≡ Equal
place_ties_itself place = tied_itself place_cmp_total place

is_eq_true : (o : Ordering) → is_eq o ≡ true → o ≡ Equal
is_eq_true Less e = cc
is_eq_true Equal e = refl
is_eq_true Greater e = cc

pub same_place : (x y : Place) → eq_by_cmp place_cmp x y ≡ true → x ≡ y
same_place x y e = place_cmp-IsAntisymmetric x y (is_eq_true _ e)

pub place_is_itself : (place : Place) → eq_by_cmp place_cmp place place ≡ true
place_is_itself place = ap is_eq (place_ties_itself place)

pub apart : (x y : Place) → x ≢ y → eq_by_cmp place_cmp x y ≡ false
apart x y ne = elim (eq_by_cmp place_cmp x y) as (λ b. eq_by_cmp place_cmp x y ≡ b → eq_by_cmp place_cmp x y ≡ false) [ true ↦ λ e. absurd (ne (same_place x y e)) | false ↦ λ e. e ] refl

-- two places are equal or not
pub cases_place : (x y : Place) → (x ≡ y) ⊎ (x ≢ y)
cases_place x y =
    elim (eq_by_cmp place_cmp x y) as (λ b. eq_by_cmp place_cmp x y ≡ b → (x ≡ y) ⊎ (x ≢ y)) [
      | true ↦ λ e. inl (same_place x y e)
      | false ↦ λ e. inr (λ s. let own : eq_by_cmp place_cmp x x ≡ true = place_is_itself x in let other : eq_by_cmp place_cmp x x ≡ false = subst (λ (z : Place). eq_by_cmp place_cmp x z ≡ false) (sym s) e in cc)
    ] refl

-- a prefix of the place above is a prefix of the place
pub IsFront-above : (front place : Place) → IsPlaceFront front (take (length place - 1) place) → IsPlaceFront front place
IsFront-above front place is =
    let len : length front ≤ length place - 1 = omega (arith, ap length is, length-take (length front) (take (length place - 1) place), length-take (length place - 1) place) in
    sym (take-take (length front) (length place - 1) place len) ∙ is

-- a shorter front of the place is a prefix of the place above
pub IsFront-at_above : (front place : Place) → IsPlaceFront front place → length front < length place → IsPlaceFront front (take (length place - 1) place)
IsFront-at_above front place is shorter = take-take (length front) (length place - 1) place (omega arith) ∙ is

pub length-above : (place : Place) → length (take (length place - 1) place) ≡ length place - 1
length-above place = length-take-le (length place - 1) place (omega arith)

-- the longest of the shorter prefixes is the place above
pub above_or_shorter : (front place : Place) → IsPlaceFront front place → length front < length place → (front ≡ take (length place - 1) place) ⊎ (length front < length place - 1)
above_or_shorter front place is shorter =
    elim (cases_lt (length front) (length place - 1)) [
      | inl lt ↦ inr lt
      | inr ge ↦ let same : length front ≡ length place - 1 = omega arith in inl (sym is ∙ ap (λ n. take n place) same)
    ]

pub IsFront-itself : (place : Place) → IsPlaceFront place place
IsFront-itself place = take_all (length place) place (omega arith)

-- a place that is not the root is the place above, and its last name
pub last_name : (place : Place) (other : List ℕ) → 0 < length place → place ≡ take (length place - 1) place ++ get_or place (length place - 1) other ∷ []
last_name place other some =
    let more : take (length place - 1 + 1) place ≡ take (length place - 1) place ++ get_or place (length place - 1) other ∷ [] = take_more place (length place - 1) other (omega arith) in
    let all : take (length place - 1 + 1) place ≡ place = take_all (length place - 1 + 1) place (omega arith) in
    sym all ∙ more

-- right in a folder, by the names before the last
pub right_in : (place folder : Place) (other : List ℕ) → 0 < length place → is_eq (names_cmp (take (length place - 1) place) folder) ≡ true → place ≡ folder ++ get_or place (length place - 1) other ∷ []
right_in place folder other some ties = last_name place other some ∙ ap (λ (front : Place). front ++ get_or place (length place - 1) other ∷ []) (names_cmp-IsAntisymmetric _ _ (is_eq_true _ ties))

pub not_right_in : (place folder : Place) → is_eq (names_cmp (take (length place - 1) place) folder) ≡ false → (name : List ℕ) → place ≢ folder ++ name ∷ []
not_right_in place folder differs name e =
    let len : length folder ≡ length place - 1 = omega (arith, ap length e, length-append folder (name ∷ [])) in
    let front : take (length place - 1) place ≡ folder = ap (take (length place - 1)) e ∙ take_at folder (name ∷ []) (length place - 1) len in
    let ties : is_eq (names_cmp folder folder) ≡ true = ap is_eq (names_tie folder) in
    let wrong : is_eq (names_cmp folder folder) ≡ false = subst (λ (x : Place). is_eq (names_cmp x folder) ≡ false) front differs in
    cc

-- where there is an item, the list is not empty
pub some_item : (xs : Place) (n : ℕ) (a : List ℕ) → slice_get xs n ≡ Some a → 0 < length xs
some_item [] n a e = cc
some_item (x ∷ xs) n a e = omega arith

last_at : (place : Place) (a : List ℕ) → slice_get place (length place - 1) ≡ Some a → place ≡ take (length place - 1) place ++ a ∷ []
last_at place a e =
    last_name place a (some_item place (length place - 1) a e)
    ∙ ap (λ (name : List ℕ). take (length place - 1) place ++ name ∷ []) (get_or_from_slice_get place (length place - 1) a a e)

-- the last names decide between places of one folder
pub last_decides : (x y : Place) (a b : List ℕ) → place_above x ≡ place_above y → slice_get x (length x - 1) ≡ Some a → slice_get y (length y - 1) ≡ Some b → names_cmp x y ≡ slice_cmp nat_cmp a b
last_decides x y a b same atx aty =
    let front : Place = take (length x - 1) x in
    let ey : y ≡ front ++ b ∷ [] = last_at y b aty ∙ ap (λ (above : Place). above ++ b ∷ []) (sym same) in
    ap (λ (z : Place). names_cmp z y) (last_at x a atx) ∙ ap (λ (z : Place). names_cmp (front ++ a ∷ []) z) ey ∙ names_cmp-siblings front a b
