-- Terms that are appended, one after another.
use Rattle.std.proofs.Common.{◌≡◌, ◌∙◌, ℕ, List, [], ◌∷◌, ◌++◌, map, Bor, Option, Some, None, Result, Ok, Err, OnOk, sym, ap, append-nil, append_assoc}
use Rattle.std.specs.List.{cons_option}
use Rattle.std.specs.Option.{option_map, option_to_list}
use Rattle.std.specs.Prelude.{slice_get}
use Rattle.std.proofs.lemmas.List.{map-append}
use Rattle.spdx_terms.specs.declared.term.ExpressionReq.{ExpressionReq}
use Rattle.spdx_terms.specs.declared.term.LicenseReq.{LicenseReq}
use Rattle.check_notice.specs.Notice.{term_at}
use Rattle.check_notice.specs.Steps.{lent_term}

-- what one place adds behind the terms so far is before those of the rest
pub one_more_term : (front rest : List LicenseReq) (found : Option LicenseReq) → front ++ option_to_list found ++ rest ≡ front ++ cons_option found rest
one_more_term front rest None = ap (λ all. all ++ rest) (append-nil front)
one_more_term front rest (Some term) = append_assoc front (option_to_list (Some term)) rest

found_behind : List LicenseReq → Option ExpressionReq → List LicenseReq
found_behind front found = front ++ option_to_list (option_map (λ (term : ExpressionReq). term.req) found)

-- a term that is there is appended
pub term_pushed : (old new : List (Bor LicenseReq)) (item : Bor LicenseReq) (terms : List ExpressionReq) (place : ℕ) (term : ExpressionReq) → new ≡ old ++ item ∷ [] → item.now ≡ term.req → Some term ≡ slice_get terms place
    → map lent_term new ≡ map lent_term old ++ option_to_list (term_at terms place)
unfolding found_behind
term_pushed old new item terms place term grown is there =
    ap (map lent_term) grown
    ∙ map-append lent_term old (item ∷ [])
    ∙ ap (λ (req : LicenseReq). map lent_term old ++ req ∷ []) is
    ∙ ap (found_behind (map lent_term old)) there

-- nothing is appended where none is there
pub no_term_pushed : (old : List (Bor LicenseReq)) (terms : List ExpressionReq) (place : ℕ) → None ≡ slice_get terms place → map lent_term old ≡ map lent_term old ++ option_to_list (term_at terms place)
unfolding found_behind
no_term_pushed old terms place none = sym (append-nil (map lent_term old)) ∙ ap (found_behind (map lent_term old)) none

pub on_ok_all : {A E : Type 0} (result : Result A E) (P Q : Type 0) → (P → Q) → OnOk result P → OnOk result Q
on_ok_all (Ok x) P Q then holds = then holds
on_ok_all (Err e) P Q then holds = tt
