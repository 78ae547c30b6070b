-- The slashes that were passed, one after the other.
use Rattle.std.proofs.Common.{◌≡◌, ℕ, ◌+◌, nat_eq, List, [], ◌∷◌, length, refl, sym, ap, inl, inr, ◌∙◌, arith, if◌then◌else◌}
use Rattle.std.proofs.lemmas.Bool.Decides.{eqb_tells}
use Rattle.deny_text.specs.declared.span.Span.{Span}
use Rattle.diag_core.specs.texts.Slashes.{passed_of, span_in_manifest, corrected_by, corrected_after, last_of}

-- how many were passed, and the last of them
abbrev pub tally : ℕ → ℕ → List ℕ → ℕ × ℕ
tally count last [] = (count, last)
tally count last (place ∷ places) = tally (count + 1) place places

tally-count : (count last : ℕ) (places : List ℕ) → (tally count last places).0 ≡ count + length places
tally-count count last [] = omega arith
tally-count count last (place ∷ places) = tally-count (count + 1) place places ∙ (omega arith)

tally-last : (count last : ℕ) (places : List ℕ) → (tally count last places).1 ≡ last_of last places
tally-last count last [] = refl
tally-last count last (place ∷ places) = tally-last (count + 1) place places

pub corrected-tally : (text : List ℕ) (span : Span) (count last : ℕ) → tally 0 0 (passed_of span.start text) ≡ (count, last) → span_in_manifest text span ≡ (if nat_eq count 0 then span else corrected_by count last span)
unfolding span_in_manifest
corrected-tally text span count last is = after (passed_of span.start text) is where
  after : (places : List ℕ) → tally 0 0 places ≡ (count, last) → corrected_after places span ≡ (if nat_eq count 0 then span else corrected_by count last span)
  after [] e =
      let none : 0 ≡ count = ap (λ (p : ℕ × ℕ). p.0) e in
      rw (← none) refl
  after (place ∷ places) e =
      let many : length (place ∷ places) ≡ count = omega (arith, tally-count 1 place places, ap (λ (p : ℕ × ℕ). p.0) e) in
      let same : last_of place places ≡ last = sym (tally-last 1 place places) ∙ ap (λ (p : ℕ × ℕ). p.1) e in
      elim (eqb_tells count 0) [
        | inl p ↦ absurd (omega (arith, many, p.1))
        | inr p ↦ rw (p.0, many, same) refl
      ]
