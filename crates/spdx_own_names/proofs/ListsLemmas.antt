-- What lines list, line by line.
use Rattle.std.proofs.Common.{◌≡◌, ℕ, List, [], ◌∷◌, ◌++◌, append-nil, append_assoc, Option, Some, None, refl, sym, ap, ◌∙◌}
use Rattle.std.specs.List.{filter_map, cons_option}
use Rattle.std.proofs.lemmas.List.Elements.{filter_map-append}
use Rattle.spdx_terms.specs.declared.catalog.catalog.LicenseEntry.{LicenseEntry}
use Rattle.spdx_terms.specs.catalog.Catalog.{CatalogLists, names_of}
use Rattle.spdx_own_names.specs.File.{license_in, exception_in, imprecise_in, lists_of, names_in}
use Rattle.spdx_own_names.specs.Form.{LineForm, nothing, license, exception, imprecise, form_of}
use Rattle.spdx_own_names.specs.ListsView.{lists_from, no_lists, with_form}

-- lists of the same parts are the same
same_lists : (l m : List (List ℕ × LicenseEntry)) (e f : List (List ℕ)) (t u : List (List ℕ × List ℕ)) → l ≡ m → e ≡ f → t ≡ u → lists_from l e t ≡ lists_from m f u
same_lists l m e f t u p q r =
    ap (λ x. lists_from x e t) p ∙ ap (λ x. lists_from m x t) q ∙ ap (λ x. lists_from m f x) r

abbrev with_parts : CatalogLists → Option LineForm → CatalogLists
with_parts lists form =
    lists_from (lists.licenses ++ cons_option (license_in form) []) (lists.exceptions ++ cons_option (exception_in form) []) (lists.imprecise ++ cons_option (imprecise_in form) [])

parts_added : (lists : CatalogLists) (form : Option LineForm) → with_parts lists form ≡ with_form lists form
parts_added lists None = same_lists _ _ _ _ _ _ (append-nil lists.licenses) (append-nil lists.exceptions) (append-nil lists.imprecise)
parts_added lists (Some nothing) = same_lists _ _ _ _ _ _ (append-nil lists.licenses) (append-nil lists.exceptions) (append-nil lists.imprecise)
parts_added lists (Some (license name entry)) = same_lists _ _ _ _ _ _ refl (append-nil lists.exceptions) (append-nil lists.imprecise)
parts_added lists (Some (exception name)) = same_lists _ _ _ _ _ _ (append-nil lists.licenses) refl (append-nil lists.imprecise)
parts_added lists (Some (imprecise text name)) = same_lists _ _ _ _ _ _ (append-nil lists.licenses) (append-nil lists.exceptions) refl

pub lists_of-nil : lists_of [] ≡ no_lists
unfolding lists_of
lists_of-nil = refl

-- lines and one more
pub lists_of-push : (lines : List (List ℕ)) (line : List ℕ) → lists_of (lines ++ line ∷ []) ≡ with_form (lists_of lines) (form_of line)
unfolding lists_of
lists_of-push lines line =
    same_lists _ _ _ _ _ _ (filter_map-append (λ one. license_in (form_of one)) lines (line ∷ [])) (filter_map-append (λ one. exception_in (form_of one)) lines (line ∷ []))
    (filter_map-append (λ one. imprecise_in (form_of one)) lines (line ∷ []))
    ∙ parts_added (lists_of lines) (form_of line)

-- ---- the names of licences

names_of-append : (first more : List (List ℕ × LicenseEntry)) → names_of (first ++ more) ≡ names_of first ++ names_of more
names_of-append [] more = refl
names_of-append (one ∷ first) more = ap (λ names. one.0 ∷ names) (names_of-append first more)

pub names_in-cons : (line : List ℕ) (lines : List (List ℕ)) → names_in (line ∷ lines) ≡ names_in (line ∷ []) ++ names_in lines
unfolding lists_of
names_in-cons line lines =
    ap names_of (filter_map-append (λ one. license_in (form_of one)) (line ∷ []) lines)
    ∙ names_of-append (filter_map (λ one. license_in (form_of one)) (line ∷ [])) (filter_map (λ one. license_in (form_of one)) lines)

-- a line without a licence, and one with

pub names_in-one : (line : List ℕ) (form : Option LineForm) → form ≡ form_of line → names_of (cons_option (license_in form) []) ≡ names_in (line ∷ [])
unfolding lists_of
names_in-one line form is = ap (λ one. names_of (cons_option (license_in one) [])) is

-- names so far, and those of the lines that are left
pub names_on : (new names : List (List ℕ)) (line : List ℕ) (lines all : List (List ℕ)) → new ≡ names ++ names_in (line ∷ []) → all ≡ names ++ names_in (line ∷ lines) → all ≡ new ++ names_in lines
names_on new names line lines all is whole =
    whole ∙ ap (λ more. names ++ more) (names_in-cons line lines) ∙ sym (append_assoc names (names_in (line ∷ [])) (names_in lines)) ∙ ap (λ front. front ++ names_in lines) (sym is)
