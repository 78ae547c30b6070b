-- Kept places between characters, while the text grows.
use Rattle.std.proofs.Common.{◌≡◌, ◌∙◌, ℕ, ◌+◌, ◌<◌, ◌≤◌, ◌⊎◌, inl, inr, List, [], ◌∷◌, ◌++◌, length, get_or, sym, ap, subst, arith}
use Rattle.std.specs.List.{All}
use Rattle.std.specs.Str.{IsCharBoundary, IsUtf8}
use Rattle.std.proofs.Math.ListN.{get_or-append}
use Rattle.std.proofs.Math.Nat.{eq-or-lt_of_le}
use Rattle.std.proofs.Math.Seq.{take-append_seam}
use Rattle.std.proofs.lemmas.List.{length-append}
use Rattle.std.proofs.lemmas.List.Elements.{All-push, All-weaker}
use Rattle.std.proofs.lemmas.Str.{IsCharBoundary-end, IsCharBoundary-from_take}
use Rattle.deny_text.specs.declared.span.Span.{Span}
use Rattle.deny_text.specs.Spans.{LiesBetween}
use Rattle.diag_core.specs.texts.Synthetic.{place_behind}

-- where a text ends and more of it begins
seam : (text more : List ℕ) → IsUtf8 text → IsUtf8 (text ++ more) → IsCharBoundary (text ++ more) (length text)
seam text more first whole =
    IsCharBoundary-from_take (text ++ more) (length text) whole (omega (arith, length-append text more)) (subst IsUtf8 (sym (take-append_seam text more)) first)

border_by : (text more : List ℕ) (i : ℕ) → IsUtf8 text → IsUtf8 (text ++ more) → IsCharBoundary text i → ((i ≡ length text) ⊎ (i < length text)) → IsCharBoundary (text ++ more) i
border_by text more i first whole border (inl at_end) = subst (IsCharBoundary (text ++ more)) (sym at_end) (seam text more first whole)
border_by text more i first whole border (inr below) =
    let same : get_or (text ++ more) i 0 ≡ get_or text i 0 = get_or-append text more 0 i below in (
      omega (arith, length-append text more),
      λ fits high. subst (λ (n : ℕ). 192 ≤ n) (sym same) (border.1 below (subst (λ (n : ℕ). 128 ≤ n) same high)),
    )

-- a border stays one where a text grows
border_grown : (text more : List ℕ) (i : ℕ) → IsUtf8 text → IsUtf8 (text ++ more) → IsCharBoundary text i → IsCharBoundary (text ++ more) i
border_grown text more i first whole border = border_by text more i first whole border (eq-or-lt_of_le border.0)

grown : (text more : List ℕ) (spans : List Span) → IsUtf8 text → IsUtf8 (text ++ more) → All (LiesBetween text) spans → All (LiesBetween (text ++ more)) spans
grown text more spans first whole lie =
    All-weaker (LiesBetween text) (LiesBetween (text ++ more)) (λ span lies. record {
      ordered = lies.ordered;
      start_border = border_grown text more span.start first whole lies.start_border;
      end_border = border_grown text more span.end first whole lies.end_border;
    }) spans lie

behind : (text more : List ℕ) → IsUtf8 text → IsUtf8 (text ++ more) → LiesBetween (text ++ more) (place_behind text more)
behind text more first whole = record {
  ordered = omega arith;
  start_border = seam text more first whole;
  end_border = subst (IsCharBoundary (text ++ more)) (length-append text more) (IsCharBoundary-end (text ++ more));
}

-- the kept places, behind a plain piece
pub between_plain : (text more new : List ℕ) (spans : List Span) → IsUtf8 text → IsUtf8 new → new ≡ text ++ more → All (LiesBetween text) spans → All (LiesBetween new) spans
between_plain text more new spans first whole is lie =
    subst (λ (t : List ℕ). All (LiesBetween t) spans) (sym is) (grown text more spans first (subst IsUtf8 is whole) lie)

abbrev at : ℕ → ℕ → Span
at start end = record { start = start; end = end }

-- and behind a marked one
pub between_marked : (text more new : List ℕ) (spans held kept : List Span) (start end : ℕ) → IsUtf8 text → IsUtf8 new → new ≡ text ++ more
    → start ≡ length text → end ≡ length new → held ≡ spans → kept ≡ held ++ record { start = start; end = end } ∷ [] → All (LiesBetween text) spans → All (LiesBetween new) kept
between_marked text more new spans held kept start end first whole is starts ends holds adds lie =
    let utf8 = subst IsUtf8 is whole in
    let last : end ≡ length text + length more = ends ∙ ap length is ∙ length-append text more in
    let all : kept ≡ spans ++ place_behind text more ∷ [] =
    adds ∙ ap (λ (front : List Span). front ++ at start end ∷ []) holds ∙ ap (λ n. spans ++ at n end ∷ []) starts ∙ ap (λ n. spans ++ at (length text) n ∷ []) last in
    subst (λ (t : List ℕ). All (LiesBetween t) kept) (sym is)
    (subst (All (LiesBetween (text ++ more))) (sym all)
    (All-push (LiesBetween (text ++ more)) spans (place_behind text more) (grown text more spans first utf8 lie) (behind text more first utf8)))
