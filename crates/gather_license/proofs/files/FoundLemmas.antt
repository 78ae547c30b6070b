-- Names that a listing shows, and the ends of paths.
use Rattle.std.proofs.Common.{◌≡◌, ◌↔◌, ℕ, ◌-◌, Bool, true, false, cond, List, [], ◌∷◌, ◌++◌, take, drop, length, map, Option, Some, IsTrue, refl, sym, ap, ◌∙◌, arith, length-append, take-append-drop}
use Rattle.std.specs.List.{filter, list_any}
use Rattle.std.specs.Cmp.Lexicographic.{pointwise, pointwise_decides}
use Rattle.std.specs.Str.{bytes_eq}
use Rattle.std.proofs.lemmas.Slice.Eq.{bytes_eq-Decides}
use Rattle.tree_core.specs.Answer.{listed_entry}
use Rattle.tree_core.specs.declared.tree.Entry.{Entry}
use Rattle.deny_text.specs.Path.{components_of, EndsWithParts}
use Rattle.gather_license.specs.files.Pack.{ends_with_parts, is_license_file, names_found, with_license_file}

-- one more entry
pub names_found-push : (entries : List Entry) (entry : Entry)
    → names_found (map listed_entry (entries ++ entry ∷ [])) ≡ names_found (map listed_entry entries) ++ cond (is_license_file (listed_entry entry)) (entry.name ∷ []) []
names_found-push [] entry =
    elim (is_license_file (listed_entry entry)) as (λ b. map (λ (e : List ℕ × Bool). e.0) (cond b (listed_entry entry ∷ []) []) ≡ cond b (entry.name ∷ []) []) [ true ↦ refl | false ↦ refl ]
names_found-push (first ∷ entries) entry =
    let more = names_found-push entries entry in
    elim (is_license_file (listed_entry first)) as (λ b.
    map (λ (e : List ℕ × Bool). e.0) (cond b (listed_entry first ∷ filter is_license_file (map listed_entry (entries ++ entry ∷ []))) (filter is_license_file (map listed_entry (entries ++ entry ∷ []))))
    ≡ map (λ (e : List ℕ × Bool). e.0) (cond b (listed_entry first ∷ filter is_license_file (map listed_entry entries)) (filter is_license_file (map listed_entry entries)))
    ++ cond (is_license_file (listed_entry entry)) (entry.name ∷ []) []) [ true ↦ ap (λ names. first.name ∷ names) more | false ↦ more ]

-- ---- ends of lists

same_test : (a b : Bool) → (a ≡ true → b ≡ true) → (b ≡ true → a ≡ true) → a ≡ b
same_test true b to from = sym (to refl)
same_test false true to from = from refl
same_test false false to from = refl

parts_decide : (xs ys : List (List ℕ)) → (pointwise bytes_eq xs ys ≡ true → xs ≡ ys) × (xs ≡ ys → pointwise bytes_eq xs ys ≡ true)
parts_decide = pointwise_decides bytes_eq-Decides

drop_front : (front end : List (List ℕ)) → drop (length front) (front ++ end) ≡ end
drop_front [] end = refl
drop_front (part ∷ front) end = drop_front front end

rest_of_front : (front end : List (List ℕ)) → length (front ++ end) - length end ≡ length front
rest_of_front front end = let both = length-append front end in omega arith

front_drops : (parts front end : List (List ℕ)) → parts ≡ front ++ end → drop (length parts - length end) parts ≡ end
front_drops parts front end is =
    ap (λ (whole : List (List ℕ)). drop (length whole - length end) whole) is
    ∙ ap (λ n. drop n (front ++ end)) (rest_of_front front end) ∙ drop_front front end

pub ends_with-tells : (answer : Bool) (path end : List ℕ) → (IsTrue answer ↔ EndsWithParts path end) → answer ≡ ends_with_parts path end
ends_with-tells answer path end tells = same_test answer (ends_with_parts path end)
    (λ holds.
    let whole = tells.0 holds in
    (parts_decide (components_of end) (drop (length (components_of path) - length (components_of end)) (components_of path))).1
    (sym (front_drops (components_of path) whole.0 (components_of end) whole.1)))
    (λ same.
    let n = length (components_of path) - length (components_of end) in
    let rest : components_of end ≡ drop n (components_of path) = (parts_decide (components_of end) (drop n (components_of path))).0 same in
    tells.1 (take n (components_of path), sym (take-append-drop n (components_of path)) ∙ ap (λ (tail : List (List ℕ)). take n (components_of path) ++ tail) (sym rest)))

-- ---- the crate's `license_file`

pub license_file_given : (b : Bool) (license_file : Option (List ℕ)) (file : List ℕ) (names : List (List ℕ)) → license_file ≡ Some file → list_any (λ name. ends_with_parts name file) names ≡ b
    → with_license_file license_file names ≡ cond b names (names ++ file ∷ [])
license_file_given b license_file file names given is =
    ap (λ o. with_license_file o names) given ∙ ap (λ t. cond t names (names ++ file ∷ [])) is
