-- Codes by the rows of their tables.
use Rattle.std.proofs.Common.{◌≡◌, ℕ, Bool, true, false, cond, List, [], ◌∷◌, ◌++◌, length, map, refl, sym, ap, ◌∙◌, Option, Some, None, arith}
use denote.Param.Members.{Mut}
use Rattle.std.specs.Array.{IsMapOf}
use Rattle.std.specs.Fn.{Called}
use Rattle.std.specs.List.{find}
use Rattle.std.specs.Option.{option_map}
use Rattle.std.specs.Str.{bytes_eq}
use Rattle.std.proofs.lemmas.List.{same_lists, get_or-map, length-map}
use Rattle.diag_core.specs.declared.code_table.CodeRow.{CodeRow}
use Rattle.diag_core.specs.declared.licenses.Code.{Code as LicenseCode}
use Rattle.diag_core.specs.declared.general.Code.{Code as GeneralCode}
use Rattle.diag_core.specs.declared.code.DiagnosticCode.TheVariants.{License, General}
use Rattle.diag_core.specs.LicenseCode.{license_codes, license_code_named}
use Rattle.diag_core.specs.GeneralCode.{general_codes, general_code_named}
use Rattle.diag_core.specs.CodeTable.{HaveNames}
use Rattle.diag_core.specs.Code.{code_name, code_named}

-- where each row has its code's name, the first row of a name has the first code of that name
find-rows : {C : Type 0} (name_of : C → List ℕ) (text : List ℕ) (rows : List (CodeRow C)) → HaveNames name_of rows
    → option_map (λ row. row.code) (find (λ row. bytes_eq row.name.now text) rows) ≡ find (λ code. bytes_eq (name_of code) text) (map (λ row. row.code) rows)
find-rows name_of text [] all = refl
find-rows {C} name_of text (row ∷ rows) all =
    let rest = find-rows name_of text rows all.1 in
    let step : option_map (λ (r : CodeRow C). r.code) (find (λ r. bytes_eq r.name.now text) (row ∷ rows)) ≡ cond (bytes_eq row.name.now text) (Some row.code) (find (λ code. bytes_eq (name_of code) text) (map (λ r. r.code) rows)) =
    elim (bytes_eq row.name.now text) as (λ b. option_map (λ (r : CodeRow C). r.code) (cond b (Some row) (find (λ r. bytes_eq r.name.now text) rows)) ≡ cond b (Some row.code) (find (λ code. bytes_eq (name_of code) text) (map (λ r. r.code) rows))) [
      | true ↦ refl
      | false ↦ rest
    ] in
    step ∙ ap (λ name. cond (bytes_eq name text) (Some row.code) (find (λ code. bytes_eq (name_of code) text) (map (λ r. r.code) rows))) all.0

-- what a search in the rows answers, as a search in the codes
pub find-found : {C : Type 0} (name_of : C → List ℕ) (text : List ℕ) (found : Option C) (rows : List (CodeRow C)) → found ≡ option_map (λ row. row.code) (find (λ row. bytes_eq row.name.now text) rows)
    → (codes : List C) → HaveNames name_of rows → map (λ row. row.code) rows ≡ codes → found ≡ find (λ code. bytes_eq (name_of code) text) codes
find-found name_of text found rows e codes all same = e ∙ find-rows name_of text rows all ∙ ap (find (λ code. bytes_eq (name_of code) text)) same

-- the first found, or else what is found later
abbrev or_later : {A C : Type 0} → (A → C) → Option A → Option C → Option C
or_later f (Some x) later = Some (f x)
or_later f None later = later

find-map : {B C : Type 0} (h : B → C) (test : C → Bool) (ys : List B) → find test (map h ys) ≡ option_map h (find (λ y. test (h y)) ys)
find-map h test [] = refl
find-map h test (y ∷ ys) =
    elim (test (h y)) as (λ b. cond b (Some (h y)) (find test (map h ys)) ≡ option_map h (cond b (Some y) (find (λ z. test (h z)) ys))) [
      | true ↦ refl
      | false ↦ find-map h test ys
    ]

find-maps : {A B C : Type 0} (f : A → C) (h : B → C) (test : C → Bool) (xs : List A) (ys : List B)
    → find test (map f xs ++ map h ys) ≡ or_later f (find (λ x. test (f x)) xs) (option_map h (find (λ y. test (h y)) ys))
find-maps f h test [] ys = find-map h test ys
find-maps f h test (x ∷ xs) ys =
    elim (test (f x)) as (λ b. cond b (Some (f x)) (find test (map f xs ++ map h ys)) ≡ or_later f (cond b (Some x) (find (λ z. test (f z)) xs)) (option_map h (find (λ y. test (h y)) ys))) [
      | true ↦ refl
      | false ↦ find-maps f h test xs ys
    ]

code_named-parts : (text : List ℕ) → code_named text ≡ or_later License (license_code_named text) (option_map General (general_code_named text))
unfolding code_named license_code_named general_code_named
code_named-parts text = find-maps License General (λ code. bytes_eq (code_name code) text) license_codes general_codes

pub code_named-License : (text : List ℕ) (code : LicenseCode) → Some code ≡ license_code_named text → Some (License code) ≡ code_named text
code_named-License text code e = ap (λ found. or_later License found (option_map General (general_code_named text))) e ∙ sym (code_named-parts text)

pub code_named-General : (text : List ℕ) (code : GeneralCode) → None ≡ license_code_named text → Some code ≡ general_code_named text → Some (General code) ≡ code_named text
code_named-General text code none e = ap (option_map General) e ∙ ap (λ found. or_later License found (option_map General (general_code_named text))) none ∙ sym (code_named-parts text)

pub code_named-None : (text : List ℕ) → None ≡ license_code_named text → None ≡ general_code_named text → None ≡ code_named text
code_named-None text none e = ap (option_map General) e ∙ ap (λ found. or_later License found (option_map General (general_code_named text))) none ∙ sym (code_named-parts text)

-- what a call at each element gave, where it gives h of the element
pub map-IsMapOf : {F A B : Type 0} {g : Mut F (A × Unit {0}) B} {f : F} (h : A → B) (xs : List A) (ys : List B) (n : ℕ) → IsMapOf g f xs ys n → length xs ≡ n
    → ((p : F) (x : A) (y : B) (q : F) → Called g p (x, tt) y q → y ≡ h x) → ys ≡ map h xs
map-IsMapOf h [] ys n calls len each = same_lists ys [] (omega (arith, calls.long)) (λ k d within. absurd (omega (arith, calls.long)))
map-IsMapOf h (x ∷ xs) ys n calls len each =
    same_lists ys (map h (x ∷ xs)) (omega (arith, calls.long, length-map (x ∷ xs) h)) (λ k d within.
    let call = calls.at k x d (omega (arith, calls.long)) in
    each _ _ _ _ call.2 ∙ sym (get_or-map h (x ∷ xs) k x d (omega (arith, calls.long))))
