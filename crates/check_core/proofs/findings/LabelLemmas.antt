-- The labels of one more term.
use Rattle.std.proofs.Common.{◌≡◌, ◌∙◌, refl, sym, ap, ℕ, zero, suc, ◌+◌, ◌<◌, List, [], ◌∷◌, ◌++◌, length, drop, get_or, Option, None, append_assoc, arith}
use Rattle.spdx_terms.specs.declared.term.ExpressionReq.{ExpressionReq}
use Rattle.spdx_core.specs.declared.certificates.verdict.Hit.{Hit}
use Rattle.spdx_core.specs.certificates.Certificates.{hit_at}
use Rattle.diag_core.specs.declared.label.Label.{Label}
use Rattle.gather_core.specs.declared.findings.license.LicenseExprInfo.{LicenseExprInfo}
use Rattle.check_core.specs.findings.Findings.{term_label, term_labels}

no_hits : (i : ℕ) → drop {A = Option Hit} i [] ≡ []
no_hits zero = refl
no_hits (suc i) = refl

no_hit_at : (i : ℕ) → hit_at [] i ≡ None
no_hit_at zero = refl
no_hit_at (suc i) = refl

next_label : (nfo : LicenseExprInfo) (i : ℕ) (terms : List ExpressionReq) (hits : List (Option Hit)) (d : ExpressionReq) → i < length terms
    → term_labels nfo (drop i terms) (drop i hits) ≡ term_label nfo (get_or terms i d).span (hit_at hits i) ∷ term_labels nfo (drop (suc i) terms) (drop (suc i) hits)
next_label nfo i [] hits d below = absurd (omega arith)
next_label nfo zero (term ∷ terms) [] d below = refl
next_label nfo zero (term ∷ terms) (hit ∷ hits) d below = refl
next_label nfo (suc i) (term ∷ terms) [] d below =
    let low : i < length terms = omega arith in
    ap (λ (l : List (Option Hit)). term_labels nfo (drop i terms) l) (sym (no_hits i)) ∙ next_label nfo i terms [] d low
    ∙ ap (λ (hit : Option Hit). term_label nfo (get_or terms i d).span hit ∷ term_labels nfo (drop (suc i) terms) []) (no_hit_at i ∙ sym (no_hit_at (suc i)))
next_label nfo (suc i) (term ∷ terms) (hit ∷ hits) d below = let low : i < length terms = omega arith in next_label nfo i terms hits d low

pub label_more : (nfo : LicenseExprInfo) (done : List Label) (i : ℕ) (terms : List ExpressionReq) (hits : List (Option Hit)) (term : ExpressionReq) → i < length terms → term ≡ get_or terms i term
    → (done ++ term_label nfo term.span (hit_at hits i) ∷ []) ++ term_labels nfo (drop (i + 1) terms) (drop (i + 1) hits) ≡ done ++ term_labels nfo (drop i terms) (drop i hits)
label_more nfo done i terms hits term below is =
    let next : i + 1 ≡ suc i = omega arith in
    append_assoc done (term_label nfo term.span (hit_at hits i) ∷ []) (term_labels nfo (drop (i + 1) terms) (drop (i + 1) hits))
    ∙ ap (λ (l : List Label). done ++ l)
    (ap (λ (n : ℕ). term_label nfo term.span (hit_at hits i) ∷ term_labels nfo (drop n terms) (drop n hits)) next
    ∙ ap (λ (one : ExpressionReq). term_label nfo one.span (hit_at hits i) ∷ term_labels nfo (drop (suc i) terms) (drop (suc i) hits)) is
    ∙ sym (next_label nfo i terms hits term below))
