-- Gaps, line by line.
use Rattle.std.proofs.Common.{◌≡◌, ℕ, zero, suc, ◌+◌, ◌<◌, ◌≤◌, List, length, Option, Some, None, refl, ap, sym, ◌∙◌, subst, arith}
use Rattle.toml_subset.specs.Gaps.{goes_over}
use Rattle.toml_subset.specs.Places.{lines_over, behind_line_end}
use Rattle.toml_subset.specs.declared.scan.Gap.{Gap}
use Rattle.toml_subset.specs.declared.scan.Gap.TheVariants.{White, Space}
use Rattle.toml_subset.proofs.Law.Forward.{Past, comment_goes, line_end_past}
use Rattle.toml_subset.proofs.Law.Fronts.{line_end_inside}

over_goes : (gap : Gap) (text : List ℕ) (k : ℕ) → k ≤ goes_over gap text k
over_goes White text k = omega arith
over_goes Space text k = comment_goes text k

abbrev lines_by : (List ℕ → ℕ → ℕ) → ℕ → List ℕ → ℕ → Option ℕ → ℕ
lines_by over n text line (Some next) = lines_over over n text next
lines_by over n text line None = line

by_lines : (over : List ℕ → ℕ → ℕ) (n : ℕ) (text : List ℕ) (line : ℕ) → lines_over over (suc n) text line ≡ lines_by over n text line (behind_line_end text (over text line))
by_lines over n text line =
    elim (behind_line_end text (over text line)) as (λ o. elim o [ Some next ↦ lines_over over n text next | None ↦ line ] ≡ lines_by over n text line o) [
      | Some next ↦ refl
      | None ↦ refl
    ]

-- the lines left lead from a line to the same place as from the next one
pub lines_step : (gap : Gap) (text : List ℕ) (all line next n : ℕ) → length text ≤ line + n → all ≡ lines_over (goes_over gap) n text line
    → behind_line_end text (goes_over gap text line) ≡ Some next
    → (next ≤ length text) × (line < next) × ((m : ℕ) × (length text ≤ next + m) × (all ≡ lines_over (goes_over gap) m text next))
lines_step gap text all line next zero room e is =
    let inside = line_end_inside text (goes_over gap text line) next is in
    let goes = over_goes gap text line in
    let past : goes_over gap text line < next = subst (Past (goes_over gap text line)) is (line_end_past text (goes_over gap text line)) in
    absurd (omega arith)
lines_step gap text all line next (suc n) room e is =
    let inside = line_end_inside text (goes_over gap text line) next is in
    let goes = over_goes gap text line in
    let past : goes_over gap text line < next = subst (Past (goes_over gap text line)) is (line_end_past text (goes_over gap text line)) in
    (inside, omega arith, (n, omega arith, e ∙ by_lines (goes_over gap) n text line ∙ ap (lines_by (goes_over gap) n text line) is))

pub lines_stop : (gap : Gap) (text : List ℕ) (all line n : ℕ) → all ≡ lines_over (goes_over gap) n text line → behind_line_end text (goes_over gap text line) ≡ None → line ≡ all
lines_stop gap text all line zero e is = sym e
lines_stop gap text all line (suc n) e is = sym (e ∙ by_lines (goes_over gap) n text line ∙ ap (lines_by (goes_over gap) n text line) is)
