-- Where the paths of the sample lead.
use Rattle.std.proofs.Common.{◌≡◌, ◌∙◌, refl, sym, ap, ap₂, subst, ℕ, suc, ◌+◌, ◌%◌, ◌<◌, ◌≤◌, ◌^◌, ◌==◌, ◌⊎◌, inl, inr, Option, Some, None, Bool, true, false, not, ◌&&◌, ◌||◌, List, [], ◌∷◌, ◌++◌, get_or, length, codes, decimal, filter, ne_eqb, arith}
use Rattle.std.specs.List.{fold}
use Rattle.std.specs.Str.{bytes_eq}
use Rattle.std.specs.Path.{cur_dir, slash, has_no_slash, is_name, first_piece, later_pieces, path_names, path_components}
use Rattle.std.proofs.lemmas.Bool.{cond-true, cond-false}
use Rattle.std.proofs.lemmas.Fmt.{decimal_by_steps}
use Rattle.deny_text.specs.Path.{components_of, parent_of}
use Rattle.deny_text.proofs.ParentLemmas.{root_has_no_parent}
use Rattle.deny_text.proofs.PathLemmas.{names_append}
use Rattle.tree_core.specs.Content.{Place, resolve, step}
use Rattle.run_sample.specs.Files.{manifest_path}
use Rattle.run_sample.specs.Shallow.{IsBelow, IsLeaf}

digit : (n : ℕ) → n < 10 → has_no_slash ((48 + n) ∷ []) ≡ true
digit n small = ap (λ test. not test && true) (ne_eqb (48 + n) slash (λ e. let same : 48 + n ≡ 47 = e in omega (arith, same)))

by_first : (b : Bool) (front whole : Bool) → (not b && front) ≡ true → (front ≡ true → whole ≡ true) → (not b && whole) ≡ true
by_first true front whole is rest = let bad : false ≡ true = is in cc
by_first false front whole is rest = rest is

append : (xs ys : List ℕ) → has_no_slash xs ≡ true → has_no_slash ys ≡ true → has_no_slash (xs ++ ys) ≡ true
append [] ys first second = second
append (x ∷ xs) ys first second = by_first (x == slash) (has_no_slash xs) (has_no_slash (xs ++ ys)) first (λ is. append xs ys is second)

more : (n : ℕ) (digits : List ℕ) → 10 ≤ n → has_no_slash digits ≡ true → has_no_slash (digits ++ ((48 + n % 10) ∷ [])) ≡ true
more n digits least is = append digits ((48 + n % 10) ∷ []) is (digit (n % 10) (omega arith))

-- no digit is a slash
slashless : (n : ℕ) → n < 2 ^ 64 → has_no_slash (decimal n) ≡ true
slashless = decimal_by_steps (λ n digits. has_no_slash digits ≡ true) digit more

slashless_head : (byte : ℕ) (bytes : List ℕ) → has_no_slash (byte ∷ bytes) ≡ true → ((byte == slash) ≡ false) × (has_no_slash bytes ≡ true)
slashless_head byte bytes is = by (byte == slash) is
  where
    by : (b : Bool) → (not b && has_no_slash bytes) ≡ true → (b ≡ false) × (has_no_slash bytes ≡ true)
    by true is = let bad : false ≡ true = is in cc
    by false is = (refl, is)

first_whole : (bytes : List ℕ) → has_no_slash bytes ≡ true → first_piece bytes ≡ bytes
first_whole [] is = refl
first_whole (byte ∷ bytes) is =
    let both = slashless_head byte bytes is in cond-false _ _ _ both.0 ∙ ap (λ rest. byte ∷ rest) (first_whole bytes both.1)

later_none : (bytes : List ℕ) → has_no_slash bytes ≡ true → later_pieces bytes ≡ []
later_none [] is = refl
later_none (byte ∷ bytes) is = let both = slashless_head byte bytes is in cond-false _ _ _ both.0 ∙ later_none bytes both.1

named : (i : ℕ) → is_name (99 ∷ decimal i) ≡ true
named i = ap (λ empty. not (empty || bytes_eq (99 ∷ decimal i) cur_dir)) (ne_eqb (length (99 ∷ decimal i)) 0 (λ e. let none : suc (length (decimal i)) ≡ 0 = e in omega (arith, none)))

-- the name of a crate's folder
one_name : (i : ℕ) → i < 2 ^ 64 → path_names (99 ∷ decimal i) ≡ (99 ∷ decimal i) ∷ []
unfolding path_names
one_name i small =
    ap₂ (λ first later. filter is_name (first ∷ later)) (ap (λ rest. 99 ∷ rest) (first_whole (decimal i) (slashless i small))) (later_none (decimal i) (slashless i small))
    ∙ cond-true _ _ _ (named i)

-- the parts of a manifest's path
pub parts_of_manifest : (i : ℕ) → i < 2 ^ 64 → components_of (manifest_path i) ≡ codes "/" ∷ codes "s" ∷ (99 ∷ decimal i) ∷ codes "Cargo.toml" ∷ []
unfolding path_components path_names
parts_of_manifest i small =
    ap (λ names. codes "/" ∷ names)
    (names_append (115 ∷ []) (99 ∷ (decimal i ++ (slash ∷ codes "Cargo.toml")))
    ∙ ap (λ names. (115 ∷ []) ∷ names) (names_append (99 ∷ decimal i) (codes "Cargo.toml") ∙ ap (λ names. names ++ path_names (codes "Cargo.toml")) (one_name i small)))

pub resolve_manifest : (i : ℕ) → i < 2 ^ 64 → resolve (manifest_path i) ≡ codes "s" ∷ (99 ∷ decimal i) ∷ codes "Cargo.toml" ∷ []
resolve_manifest i small = ap (fold step []) (parts_of_manifest i small)

-- a manifest is in a folder
pub folder_of_manifest : (i : ℕ) → i < 2 ^ 64 → (folder : List ℕ) × (parent_of (manifest_path i) ≡ Some folder)
folder_of_manifest i small = by (parent_of (manifest_path i)) refl
  where
    parts : components_of (manifest_path i) ≡ codes "/" ∷ codes "s" ∷ (99 ∷ decimal i) ∷ codes "Cargo.toml" ∷ []
    parts = parts_of_manifest i small

    none_apart : (components_of (manifest_path i) ≡ []) ⊎ (components_of (manifest_path i) ≡ codes "/" ∷ []) → ⊥
    none_apart (inl none) = let bad : 4 ≡ 0 = ap length (sym parts ∙ none) in omega (arith, bad)
    none_apart (inr root) = let bad : 4 ≡ 1 = ap length (sym parts ∙ root) in omega (arith, bad)

    by : (found : Option (List ℕ)) → parent_of (manifest_path i) ≡ found → (folder : List ℕ) × (parent_of (manifest_path i) ≡ Some folder)
    by None is = absurd (none_apart ((root_has_no_parent (manifest_path i)).0 is))
    by (Some folder) is = (folder, is)

abbrev first_of_second : Place → ℕ
first_of_second place = get_or (get_or place 1 []) 0 0

pub manifest_leaf : (i : ℕ) → i < 2 ^ 64 → IsLeaf (resolve (manifest_path i))
manifest_leaf i small = inr (inr (subst IsBelow (sym (resolve_manifest i small)) (record {
  three = refl;
  no_metadata = λ e. let same : 99 ≡ 109 = ap first_of_second e in omega (arith, same);
  no_policy = λ e. let same : 99 ≡ 112 = ap first_of_second e in omega (arith, same);
})))

pub metadata_leaf : IsLeaf (resolve (codes "/s/m.json"))
unfolding path_components path_names
metadata_leaf = inl refl

pub policy_leaf : IsLeaf (resolve (codes "/s/p.toml"))
unfolding path_components path_names
policy_leaf = inr (inl refl)
