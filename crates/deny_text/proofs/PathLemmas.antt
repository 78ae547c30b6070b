-- Ancestors step by step, the file name by the parts of its path, parents and joins by parts, and paths that share their first parts.
use Rattle.std.proofs.Common.{◌≡◌, ◌≢◌, Bor, refl, ap, ap₂, sym, subst, ◌∙◌, IsTrue, ℕ, zero, suc, ◌+◌, ◌-◌, ◌<◌, ◌==◌, Bool, true, false, cond, List, [], ◌∷◌, ◌++◌, length, take, drop, append_assoc, take-append-drop, Option, Some, None, slice_get, slice_index, arith}
use borrow.Author.Tests.{ne_eqb}
use Rattle.std.specs.List.{filter}
use Rattle.std.specs.Option.{option_and_then}
use Rattle.std.specs.Ordering.{ordering_then}
use Rattle.std.specs.Cmp.{IsTotalOrder, tied_itself, then_total, on_total, nat_cmp_total}
use Rattle.std.specs.Cmp.Lexicographic.{slice_cmp, nat_list_cmp_total}
use Rattle.std.proofs.lemmas.Bool.{cond-false, false_from_ne_true}
use Rattle.std.proofs.lemmas.List.{length_push, drop_more}
use Rattle.std.proofs.lemmas.List.Elements.{filter-append}
use Rattle.std.proofs.lemmas.Paths.{path_components_parent, path_components_join, path_join_absolute}
use Rattle.std.proofs.lemmas.Slice.Eq.{bytes_eq-Decides}
use Rattle.std.specs.Str.{bytes_eq}
use Rattle.std.specs.Path.{IsRelative, HasNoSlash, is_name, slash, root_dir, cur_dir, parent_dir, IsLastComponent, leading_components, is_dot_at, path_names, path_join, path_components, first_piece, later_pieces}
use Rattle.std.specs.declared.path.components.Component.{Component}
use Rattle.std.specs.declared.path.components.Component.TheVariants.{RootDir, CurDir, ParentDir, Normal}
use Rattle.deny_text.specs.Path.{components_of, join_of, parent_of, ancestors_within, ancestors_of, ancestors_from, file_name_of, name_part, last_name, without_dot, part_rank, part_cmp, path_order, ParentDropsLast, JoinsByParts, IsSharedSlash}

parent_step : (count : ℕ) (above : Option (List ℕ)) → ((dir : List ℕ) → above ≡ Some dir → count ≡ suc (length (components_of dir))) → ancestors_within count above ≡ ancestors_from above
unfolding ancestors_of
parent_step zero None h = refl
parent_step (suc count) None h = refl
parent_step zero (Some dir) h = ap (λ k. ancestors_within k (Some dir)) (h dir refl)
parent_step (suc count) (Some dir) h = ap (λ k. ancestors_within k (Some dir)) (h dir refl)

one_less : (path dir : List ℕ) → parent_of path ≡ Some dir → length (components_of path) ≡ suc (length (components_of dir))
one_less path dir e =
    let split = path_components_parent path dir e in
    omega (arith, ap length split.1, length_push (components_of dir) split.0)

-- the ancestors of a path are the path and then those of its parent
pub ancestors_of-cons : (path : List ℕ) → ancestors_of path ≡ path ∷ ancestors_from (parent_of path)
unfolding ancestors_of
ancestors_of-cons path = ap (λ above. path ∷ above) (parent_step (length (components_of path)) (parent_of path) (one_less path))

get_last : (front : List (List ℕ)) (part : List ℕ) → slice_get (front ++ part ∷ []) (length front) ≡ Some part
get_last [] part = refl
get_last (x ∷ front) part = get_last front part

last_name-push : (front : List (List ℕ)) (part : List ℕ) → last_name (front ++ part ∷ []) ≡ name_part part
last_name-push front part =
    let place : length (front ++ part ∷ []) - 1 ≡ length front = omega (arith, length_push front part) in
    ap (λ i. option_and_then name_part (slice_get (front ++ part ∷ []) i)) place ∙ ap (option_and_then name_part) (get_last front part)

-- the file name of a path whose parts end so
pub file_name_of-push : (path : List ℕ) (front : List (List ℕ)) (part : List ℕ) → components_of path ≡ front ++ part ∷ [] → file_name_of path ≡ name_part part
unfolding file_name_of
file_name_of-push path front part e = ap last_name e ∙ last_name-push front part

pub file_name_of-empty : (path : List ℕ) → components_of path ≡ [] → file_name_of path ≡ None
unfolding file_name_of
file_name_of-empty path e = ap last_name e

-- a part that is neither `.` nor empty, nor `..`, and has no slash, is a name
pub name_part-name : (part : List ℕ) → IsTrue (is_name part) → part ≢ parent_dir → HasNoSlash part → name_part part ≡ Some part
name_part-name part named not_parent no_slash =
    let no_root : bytes_eq part root_dir ≡ false = false_from_ne_true (bytes_eq part root_dir) (λ e. subst HasNoSlash ((bytes_eq-Decides part root_dir).0 e) no_slash) in
    let no_parent : bytes_eq part parent_dir ≡ false = false_from_ne_true (bytes_eq part parent_dir) (λ e. not_parent ((bytes_eq-Decides part parent_dir).0 e)) in
    let no_cur : bytes_eq part cur_dir ≡ false = false_from_ne_true (bytes_eq part cur_dir) (λ e. let bad : false ≡ true = subst (λ p. IsTrue (is_name p)) ((bytes_eq-Decides part cur_dir).0 e) named in cc) in
    rw (no_root, no_cur, no_parent) refl

-- the name that a component is
pub name_of : Component → Option (List ℕ)
name_of RootDir = None
name_of CurDir = None
name_of ParentDir = None
name_of (Normal name) = Some name.now

-- the last component that std gives is the file name, where it is a name
pub file_name_of-last : (path : List ℕ) (parts after : List (List ℕ)) (last : Option Component) → parts ≡ components_of path → IsLastComponent parts last after
    → file_name_of path ≡ option_and_then name_of last
unfolding name_of
file_name_of-last path parts after None e h = file_name_of-empty path (sym e ∙ h.0)
file_name_of-last path parts after (Some RootDir) e h = file_name_of-push path after root_dir (sym e ∙ h.0)
file_name_of-last path parts after (Some CurDir) e h = file_name_of-push path after cur_dir (sym e ∙ h.0)
file_name_of-last path parts after (Some ParentDir) e h = file_name_of-push path after parent_dir (sym e ∙ h.0)
file_name_of-last path parts after (Some (Normal name)) e h = file_name_of-push path after name.now (sym e ∙ h.0) ∙ name_part-name name.now h.1.0 h.1.1 h.1.2

pub name_of-other : (last : Component) → ((name : Bor (List ℕ)) → last ≡ Normal name → ⊥) → name_of last ≡ None
unfolding name_of
name_of-other RootDir h = refl
name_of-other CurDir h = refl
name_of-other ParentDir h = refl
name_of-other (Normal name) h = absurd (h name refl)

pub name_of-Normal : (name : Bor (List ℕ)) → name_of (Normal name) ≡ Some name.now
unfolding name_of
name_of-Normal name = refl

-- ---- parents and joins by parts

pub parent_drops_last : ParentDropsLast
parent_drops_last = path_components_parent

pub components_are : (path : List ℕ) → components_of path ≡ leading_components path ++ path_names path
unfolding path_components
components_are path = refl

-- no name is `.`
dot_is_no_name : (parts : List (List ℕ)) → without_dot (filter is_name parts) ≡ filter is_name parts
dot_is_no_name [] = refl
dot_is_no_name (part ∷ parts) =
    elim (is_name part) as (λ b. is_name part ≡ b → without_dot (cond b (part ∷ filter is_name parts) (filter is_name parts)) ≡ cond b (part ∷ filter is_name parts) (filter is_name parts)) [
      | true ↦ λ named. cond-false _ _ _ (false_from_ne_true (bytes_eq part cur_dir) (λ e. let bad : false ≡ true = subst (λ p. IsTrue (is_name p)) ((bytes_eq-Decides part cur_dir).0 e) named in cc))
      | false ↦ λ _. dot_is_no_name parts
    ] refl

leading_dot : (b : Bool) (names : List (List ℕ)) → without_dot names ≡ names → without_dot (cond b (cur_dir ∷ []) [] ++ names) ≡ names
leading_dot true names e = refl
leading_dot false names e = e

names_of_relative : (path : List ℕ) → IsRelative path → without_dot (components_of path) ≡ path_names path
unfolding path_names
names_of_relative path h =
    ap without_dot (components_are path)
    ∙ ap (λ lead. without_dot (lead ++ path_names path)) (cond-false _ _ _ (ne_eqb _ slash h))
    ∙ leading_dot (is_dot_at path 0) (path_names path) (dot_is_no_name (first_piece path ∷ later_pieces path))

join_relative : (base path : List ℕ) → base ≢ [] → IsRelative path → components_of (join_of base path) ≡ components_of base ++ without_dot (components_of path)
join_relative [] path some h = absurd (some refl)
join_relative (byte ∷ base) path some h = path_components_join (byte ∷ base) path (omega arith) h ∙ ap (λ names. components_of (byte ∷ base) ++ names) (sym (names_of_relative path h))

join_nothing : (path : List ℕ) → join_of [] path ≡ path
unfolding path_join
join_nothing path = same_either (slice_index path 0 == slash) path
  where
    same_either : (b : Bool) (l : List ℕ) → cond b l l ≡ l
    same_either true l = refl
    same_either false l = refl

pub joins_by_parts : JoinsByParts
joins_by_parts = record {
  relative = join_relative;
  absolute = λ base path h. ap components_of (path_join_absolute base path h);
  behind_nothing = λ path. ap components_of (join_nothing path);
}

-- ---- paths that share their first parts

first_piece-append : (xs ys : List ℕ) → first_piece (xs ++ slash ∷ ys) ≡ first_piece xs
first_piece-append [] ys = refl
first_piece-append (x ∷ xs) ys = ap (λ l. cond (x == slash) [] (x ∷ l)) (first_piece-append xs ys)

later_pieces-append : (xs ys : List ℕ) → later_pieces (xs ++ slash ∷ ys) ≡ later_pieces xs ++ (first_piece ys ∷ later_pieces ys)
later_pieces-append [] ys = refl
later_pieces-append (x ∷ xs) ys =
    elim (x == slash) as (λ b. cond b (first_piece (xs ++ slash ∷ ys) ∷ later_pieces (xs ++ slash ∷ ys)) (later_pieces (xs ++ slash ∷ ys)) ≡ cond b (first_piece xs ∷ later_pieces xs) (later_pieces xs) ++ (first_piece ys ∷ later_pieces ys)) [
      | true ↦ ap₂ (λ a b. a ∷ b) (first_piece-append xs ys) (later_pieces-append xs ys)
      | false ↦ later_pieces-append xs ys
    ]

pub names_append : (xs ys : List ℕ) → path_names (xs ++ slash ∷ ys) ≡ path_names xs ++ path_names ys
unfolding path_names
names_append xs ys =
    ap (filter is_name) (ap₂ (λ a b. a ∷ b) (first_piece-append xs ys) (later_pieces-append xs ys))
    ∙ filter-append is_name (first_piece xs ∷ later_pieces xs) (first_piece ys ∷ later_pieces ys)

pub leading_same : (xs ys : List ℕ) → leading_components (xs ++ slash ∷ ys) ≡ leading_components (xs ++ slash ∷ [])
leading_same [] ys = refl
leading_same (a ∷ []) ys = refl
leading_same (a ∷ b ∷ xs) ys = refl

-- what is before the slash decides the first parts
first_parts : List ℕ → List (List ℕ)
first_parts front = leading_components (front ++ slash ∷ []) ++ path_names front

past_slash : (front path : List ℕ) → components_of (front ++ slash ∷ path) ≡ first_parts front ++ path_names path
unfolding first_parts
past_slash front path =
    components_are (front ++ slash ∷ path)
    ∙ ap₂ ◌++◌ (leading_same front path) (names_append front path)
    ∙ sym (append_assoc (leading_components (front ++ slash ∷ [])) (path_names front) (path_names path))

part_cmp_total : IsTotalOrder part_cmp
part_cmp_total = then_total (on_total part_rank nat_cmp_total) nat_list_cmp_total

shared_front : (front xs ys : List (List ℕ)) → slice_cmp part_cmp (front ++ xs) (front ++ ys) ≡ slice_cmp part_cmp xs ys
shared_front [] xs ys = refl
shared_front (part ∷ front) xs ys = ap (λ r. ordering_then r (slice_cmp part_cmp (front ++ xs) (front ++ ys))) (tied_itself part_cmp_total part) ∙ shared_front front xs ys

order_past_slash : (front x y : List ℕ) → path_order (front ++ slash ∷ x) (front ++ slash ∷ y) ≡ slice_cmp part_cmp (path_names x) (path_names y)
order_past_slash front x y =
    ap₂ (slice_cmp part_cmp) (past_slash front x) (past_slash front y) ∙ shared_front (first_parts front) (path_names x) (path_names y)

from_slash : (x : List ℕ) (place : ℕ) → place < length x → slice_index x place ≡ slash → drop place x ≡ slash ∷ drop (place + 1) x
from_slash x place within e = drop_more x place 0 within ∙ ap (λ byte. byte ∷ drop (place + 1) x) e

-- paths compare as what they have from a shared slash on
pub order_from_slash : (x y : List ℕ) (place : ℕ) → IsSharedSlash x y place → path_order x y ≡ path_order (drop place x) (drop place y)
order_from_slash x y place h =
    let first = from_slash x place h.in_first h.at_first in
    let second = from_slash y place h.in_second h.at_second in
    ap₂ path_order
    (sym (take-append-drop place x) ∙ ap (λ rest. take place x ++ rest) first)
    (sym (take-append-drop place y) ∙ ap₂ ◌++◌ (sym h.same) second)
    ∙ order_past_slash (take place x) (drop (place + 1) x) (drop (place + 1) y)
    ∙ sym (order_past_slash [] (drop (place + 1) x) (drop (place + 1) y))
    ∙ sym (ap₂ path_order first second)
