-- What a certificate says where just some places have a hit, or all but some.
use Rattle.std.proofs.Common.{◌≡◌, ◌∙◌, refl, sym, ap, subst, ℕ, Bool, true, false, bytes_eq, List, replicate, Option, Some, None, Ok, Decides}
use Rattle.std.proofs.lemmas.Slice.Eq.{bytes_eq-Decides}
use Rattle.spdx_core.specs.Grammar.{ExpressionTree}
use Rattle.spdx_core.specs.Reading.{numbered_from}
use Rattle.spdx_core.specs.declared.certificates.verdict.Hit.{Hit}
use Rattle.spdx_core.specs.declared.certificates.verdict.Verdict.{Verdict}
use Rattle.spdx_core.specs.declared.certificates.verdict.Verdict.TheVariants.{Skipped, Unlicensed, Accepted, Rejected}
use Rattle.spdx_core.specs.certificates.Certificates.{CertificateAnswers, has_hit}
use Rattle.check_verify.specs.Terms.{is_choice, kept_at, meet_each}
use Rattle.check_verify.proofs.Choices.{choice_by_first, meets_by_refusal, no_choice, not_met}
use Rattle.check_verify.proofs.Kept.{hits_given, hits_inside, hits_outside}

module _ (n : ℕ) (tree : ExpressionTree) (places : List ℕ) (hit : Hit) (numbered : numbered_from 0 tree ≡ Some n) where
  -- ---- just these places have a hit

  module _ (kept : List (Option Hit)) (is : kept ≡ kept_at (replicate n None) places (Some hit)) (verdict : Verdict) (answers : CertificateAnswers kept tree (Ok verdict)) where
    told : CertificateAnswers (kept_at (replicate n None) places (Some hit)) tree (Ok verdict)
    told = subst (λ list. CertificateAnswers list tree (Ok verdict)) is answers

    pub accepted_choice : (choice other : List ℕ) (hits : List Hit) → verdict ≡ Accepted choice hits → other ≡ choice → (same : Bool) → same ≡ bytes_eq other places → same ≡ is_choice tree places
    accepted_choice choice other hits accepted copied same test =
        let shown = subst (λ one. CertificateAnswers (kept_at (replicate n None) places (Some hit)) tree (Ok one)) accepted told in
        choice_by_first n tree places choice (has_hit (kept_at (replicate n None) places (Some hit))) same numbered (λ place has. hits_inside n places hit place has) shown.first
        (subst (λ test. Decides test (choice ≡ places)) (sym (test ∙ ap (λ one. bytes_eq one places) copied)) (bytes_eq-Decides choice places))

    no_choice_by : (one : Verdict) → CertificateAnswers (kept_at (replicate n None) places (Some hit)) tree (Ok one) → ((choice : List ℕ) (hits : List Hit) → one ≡ Accepted choice hits → ⊥) → false ≡ is_choice tree places
    no_choice_by Skipped own other = absurd own
    no_choice_by Unlicensed own other = absurd own
    no_choice_by (Accepted choice hits) own other = absurd (other choice hits refl)
    no_choice_by (Rejected least blocks) own other =
        no_choice n tree places (has_hit (kept_at (replicate n None) places (Some hit))) numbered (λ place at inside. hits_given n places hit place at inside) own.not_accepted

    pub not_accepted : ((choice : List ℕ) (hits : List Hit) → verdict ≡ Accepted choice hits → ⊥) → false ≡ is_choice tree places
    not_accepted other = no_choice_by verdict told other

  -- ---- all but these places have a hit

  module _ (kept : List (Option Hit)) (is : kept ≡ kept_at (replicate n (Some hit)) places None) (verdict : Verdict) (answers : CertificateAnswers kept tree (Ok verdict)) where
    lost : CertificateAnswers (kept_at (replicate n (Some hit)) places None) tree (Ok verdict)
    lost = subst (λ list. CertificateAnswers list tree (Ok verdict)) is answers

    pub rejected_meets : (least blocks : List ℕ) → verdict ≡ Rejected least blocks → true ≡ meet_each tree places
    rejected_meets least blocks rejected =
        let shown = subst (λ one. CertificateAnswers (kept_at (replicate n (Some hit)) places None) tree (Ok one)) rejected lost in
        meets_by_refusal n tree places (has_hit (kept_at (replicate n (Some hit)) places None)) numbered (λ place inside. hits_outside n places hit place inside) shown.not_accepted

    not_met_by : (one : Verdict) → CertificateAnswers (kept_at (replicate n (Some hit)) places None) tree (Ok one) → ((least blocks : List ℕ) → one ≡ Rejected least blocks → ⊥) → false ≡ meet_each tree places
    not_met_by Skipped own other = absurd own
    not_met_by Unlicensed own other = absurd own
    not_met_by (Accepted choice hits) own other =
        not_met n tree places (has_hit (kept_at (replicate n (Some hit)) places None)) choice numbered (λ place inside. hits_outside n places hit place inside) own.first
    not_met_by (Rejected least blocks) own other = absurd (other least blocks refl)

    pub not_rejected : ((least blocks : List ℕ) → verdict ≡ Rejected least blocks → ⊥) → false ≡ meet_each tree places
    not_rejected other = not_met_by verdict lost other
