-- Places of a string, as places of the text that it is in.
use Rattle.std.proofs.Common.{◌≡◌, ◌∙◌, sym, subst, ℕ, Bool, true, ◌+◌, ◌-◌, ◌<◌, ◌≤◌, ◌⊎◌, inl, inr, List, length, drop, get_or, arith}
use Rattle.std.specs.Prelude.{◌^◌, min, slice_range}
use Rattle.std.specs.List.{position_or_len}
use Rattle.std.specs.Str.{IsUtf8, IsCharBoundary}
use Rattle.std.proofs.Math.Nat.{eq-or-lt_of_le}
use Rattle.std.proofs.lemmas.List.{length-take, length-drop, get_or-take, get_or-drop}
use Rattle.std.proofs.lemmas.List.Sums.{passes_at_first}
use Rattle.std.proofs.lemmas.Str.{IsUtf8-between, IsCharBoundary-after_ascii}
use Rattle.deny_text.specs.declared.span.Span.{Span}
use Rattle.deny_text.specs.Spans.{LiesBetween}
use Rattle.policy_parts.specs.entries.Licensees.{place_from, span_from}

module _ (text : List ℕ) where
  pub part_is_text : (span : Span) → IsUtf8 text → LiesBetween text span → IsUtf8 (slice_range text span.start span.end)
  part_is_text span utf8 lies = IsUtf8-between text span.start span.end utf8 lies.ordered lies.start_border lies.end_border

  pub part_length : (span : Span) → LiesBetween text span → length (slice_range text span.start span.end) ≡ span.end - span.start
  part_length span lies =
      let taken = length-take (span.end - span.start) (drop span.start text) in
      let dropped = length-drop span.start text in
      let within = lies.end_border.0 in
      omega arith

  part_byte : (a b i : ℕ) → i < b - a → get_or (slice_range text a b) i 0 ≡ get_or text (a + i) 0
  part_byte a b i below = get_or-take (b - a) (drop a text) i 0 below ∙ get_or-drop a text i 0

  -- a border of a part is one of the text
  inner_by : (span : Span) → LiesBetween text span → (i : ℕ) → IsCharBoundary (slice_range text span.start span.end) i
      → ((i ≡ span.end - span.start) ⊎ (i < span.end - span.start)) → IsCharBoundary text (span.start + i)
  inner_by span lies i border (inl at_end) =
      let is : span.end ≡ span.start + i = (let o = lies.ordered in omega arith) in
      subst (IsCharBoundary text) is lies.end_border
  inner_by span lies i border (inr below) =
      let len = part_length span lies in
      let within = lies.end_border.0 in (
        omega arith,
        λ fits high.
            let lead = border.1 (omega arith) (subst (λ (n : ℕ). 128 ≤ n) (sym (part_byte span.start span.end i below)) high) in
            subst (λ (n : ℕ). 192 ≤ n) (part_byte span.start span.end i below) lead,
      )

  pub inner_border : (span : Span) → LiesBetween text span → (i : ℕ) → IsCharBoundary (slice_range text span.start span.end) i
      → IsCharBoundary text (span.start + i)
  inner_border span lies i border =
      let len = part_length span lies in
      let low : i ≤ span.end - span.start = (let b = border.0 in omega arith) in
      inner_by span lies i border (eq-or-lt_of_le low)

  uncut : (n : ℕ) → n < 2 ^ 64 → min n (2 ^ 64 - 1) ≡ n
  uncut n below = omega arith

  -- a place in a part, counted from the beginning of the text
  place_lies : (span : Span) → LiesBetween text span → length text < 2 ^ 64 → (i : ℕ) → IsCharBoundary (slice_range text span.start span.end) i
      → IsCharBoundary text (place_from span.start i)
  place_lies span lies fits i border =
      let inner = inner_border span lies i border in
      let low = inner.0 in
      subst (IsCharBoundary text) (sym (uncut (span.start + i) (omega arith))) inner

  pub moved_lies : (span : Span) → LiesBetween text span → length text < 2 ^ 64 → (inner : Span) → LiesBetween (slice_range text span.start span.end) inner
      → LiesBetween text (span_from span.start inner)
  moved_lies span lies fits inner within = record {
    ordered = (let o = within.ordered in omega arith);
    start_border = place_lies span lies fits inner.start within.start_border;
    end_border = place_lies span lies fits inner.end within.end_border;
  }

  -- behind the first byte of some kind, where all of the kind are ASCII
  pub behind_first : (is_mark : ℕ → Bool) → ((c : ℕ) → is_mark c ≡ true → c < 128) → IsUtf8 text → position_or_len is_mark text < length text
      → IsCharBoundary text (position_or_len is_mark text + 1)
  behind_first is_mark low utf8 found =
      IsCharBoundary-after_ascii text (position_or_len is_mark text) utf8 found (low _ (passes_at_first is_mark text 0 found))
