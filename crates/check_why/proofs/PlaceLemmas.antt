-- No answer is left where no term or no hit is.
use Rattle.std.proofs.Common.{◌≡◌, refl, ℕ, List, [], ◌∷◌, length, Option, arith}
use Rattle.spdx_terms.specs.declared.term.ExpressionReq.{ExpressionReq}
use Rattle.spdx_core.specs.declared.certificates.verdict.Hit.{Hit}
use Rattle.diag_core.specs.File.{File}
use Rattle.policy_core.specs.declared.valid.policy.ValidConfig.{ValidConfig}
use Rattle.check_why.specs.Place.{term_answers}

pub no_terms_left : (files : List File) (policy : ValidConfig) (terms : List ExpressionReq) (hits : List (Option Hit)) → length terms ≡ 0 → term_answers files policy terms hits ≡ []
no_terms_left files policy [] hits none = refl
no_terms_left files policy (term ∷ terms) hits none = absurd (omega arith)

pub no_hits_left : (files : List File) (policy : ValidConfig) (terms : List ExpressionReq) (hits : List (Option Hit)) → length hits ≡ 0 → term_answers files policy terms hits ≡ []
no_hits_left files policy [] [] none = refl
no_hits_left files policy (term ∷ terms) [] none = refl
no_hits_left files policy terms (hit ∷ hits) none = absurd (omega arith)
