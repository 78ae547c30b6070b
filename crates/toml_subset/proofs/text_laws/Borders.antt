-- What is in a text ends where a character does.
use Rattle.std.proofs.Common.{◌≡◌, ℕ, zero, suc, ◌+◌, ◌-◌, ◌<◌, ◌≤◌, ◌⊎◌, ⊎_elim, inl, inr, Bool, true, false, cond, eqb, nat_lt, nat_le, ◌&&◌, ◌||◌, List, [], ◌∷◌, length, get_or, slice_get, take, drop, Some, None, true≢false, refl, sym, subst, ◌∙◌, eqb-true, arith, length-drop}
use Rattle.std.proofs.lemmas.Bool.Decides.{nat_tests}
use Rattle.std.proofs.lemmas.List.Sums.{prefix_len-le-length}
use Rattle.std.proofs.lemmas.Str.{IsCharBoundary-end, IsCharBoundary-before_ascii, IsCharBoundary-after_ascii}
use Rattle.std.specs.List.{prefix_len}
use Rattle.std.specs.Prelude.{is_some as option_is_some}
use Rattle.std.specs.Str.{IsCharBoundary, IsUtf8}
use Rattle.deny_text.specs.Character.{goes_on}
use Rattle.toml_subset.specs.Bytes.{backslash, hash, is_blank, is_bare, is_run, may_stand}
use Rattle.toml_subset.specs.Numbers.{is_digit_in, digit_value}
use Rattle.toml_subset.specs.Places.{stands, run_end, after_blanks, after_comment, after_blanks_and_comment, lines_over, after_lines_of, after_space, behind_line_end, next_line, char_end}
use Rattle.toml_subset.specs.Strings.{Quoting, basic, literal, long_basic, long_literal, StringPart, piece, closing, broken, mark_of, is_long, has_escapes, marks_in_row, escaped_piece, plain_piece, scalar_of, letter_escape, scalar_escape, trimming_escape, escape_by, escape_at, mark_at, plain_at, part_at}
use Rattle.toml_subset.proofs.Escapes.{behind_byte, letter_ascii, digit_ascii}
use Rattle.toml_subset.proofs.Law.Basics.{is_some, if_is}
use Rattle.toml_subset.proofs.Law.Fronts.{passes_inside}
use Rattle.toml_subset.proofs.Runs.{run_end_stops, run_end_passes, begins_character}

-- a class of ASCII bytes
abbrev pub IsLow : (ℕ → Bool) → Type 0
IsLow p = (c : ℕ) → p c ≡ true → c < 128

-- a class that every other byte than an ASCII one belongs to
abbrev pub HasHigh : (ℕ → Bool) → Type 0
HasHigh p = (c : ℕ) → p c ≡ false → c < 128

blank_low : IsLow is_blank
blank_low c h = grind (arith, nat_tests)

pub bare_low : IsLow is_bare
bare_low c h = grind (arith, nat_tests, letter_ascii, digit_ascii)

pub run_low : IsLow is_run
run_low c h = grind (arith, nat_tests, letter_ascii, digit_ascii)

pub may_high : HasHigh may_stand
may_high c h = grind (arith, nat_tests)

and_parts : (a b : Bool) → (a && b) ≡ true → (a ≡ true) × (b ≡ true)
and_parts true b h = (refl, h)
and_parts false b h = absurd (true≢false (sym h))

or_either : (a b : Bool) → (a || b) ≡ true → (a ≡ true) ⊎ (b ≡ true)
or_either true b h = inl refl
or_either false b h = inr h

pub hex_low : IsLow (is_digit_in 16)
hex_low c h = ⊎_elim (digit_ascii c) (letter_ascii c) (or_either _ _ (and_parts _ (nat_lt (digit_value c) 16) h).0)

pub mark_low : (kind : Quoting) → mark_of kind < 128
mark_low basic = omega arith
mark_low literal = omega arith
mark_low long_basic = omega arith
mark_low long_literal = omega arith

module _ (text : List ℕ) (utf8 : IsUtf8 text) where
  -- runs

  -- behind the byte at a place
  pub behind_low : (k : ℕ) → k < length text → get_or text k 0 < 128 → IsCharBoundary text (k + 1)
  behind_low k inside low = IsCharBoundary-after_ascii text k utf8 inside low

  pub low_run_border : (p : ℕ → Bool) → IsLow p → (i : ℕ) → IsCharBoundary text i → IsCharBoundary text (run_end p text i)
  low_run_border p low i at =
      let size = prefix_len p (drop i text) in
      elim (eqb size 0) as (λ b. eqb size 0 ≡ b → IsCharBoundary text (run_end p text i)) [
        | true ↦ λ is. let none = eqb-true size 0 is in let same : i ≡ run_end p text i = omega arith in subst (IsCharBoundary text) same at
        | false ↦ λ is.
            let some : 0 < size = grind (arith, nat_tests) in
            let k = i + size - 1 in
            let least = prefix_len-le-length p (drop i text) in
            let rest = length-drop i text in
            let ascii = low (get_or text k 0) (run_end_passes p text i k (omega arith) (omega arith)) in
            let back : k + 1 ≡ run_end p text i = omega arith in
            subst (IsCharBoundary text) back (behind_low k (omega arith) ascii)
      ] refl

  pub high_run_border : (p : ℕ → Bool) → HasHigh p → (i : ℕ) → i ≤ length text → IsCharBoundary text (run_end p text i)
  high_run_border p high i inside =
      let end = run_end p text i in
      let least = prefix_len-le-length p (drop i text) in
      let rest = length-drop i text in
      elim (nat_lt end (length text)) as (λ b. nat_lt end (length text) ≡ b → IsCharBoundary text end) [
        | true ↦ λ is.
            let less : end < length text = grind (arith, nat_tests) in
            IsCharBoundary-before_ascii text end less (high (get_or text end 0) (run_end_stops p text i inside less))
        | false ↦ λ is. let same : length text ≡ end = grind (arith, nat_tests) in subst (IsCharBoundary text) same (IsCharBoundary-end text)
      ] refl

  pub char_border : (i : ℕ) → i < length text → IsCharBoundary text (char_end text i)
  char_border i inside =
      let end = run_end goes_on text (i + 1) in
      let least = prefix_len-le-length goes_on (drop (i + 1) text) in
      let rest = length-drop (i + 1) text in
      (omega arith, λ less high. begins_character _ (run_end_stops goes_on text (i + 1) (omega arith) less) high)

  -- gaps

  pub blanks_border : (i : ℕ) → IsCharBoundary text i → IsCharBoundary text (after_blanks text i)
  blanks_border i at = low_run_border is_blank blank_low i at

  if_border : (b : Bool) (i j : ℕ) → (b ≡ true → IsCharBoundary text i) → (b ≡ false → IsCharBoundary text j) → IsCharBoundary text (cond b i j)
  if_border true i j first second = first refl
  if_border false i j first second = second refl

  pub comment_border : (i : ℕ) → IsCharBoundary text i → IsCharBoundary text (after_comment text i)
  comment_border i at =
      if_border (stands text i hash) (run_end may_stand text (i + 1)) i
      (λ h. let inside = passes_inside (λ b. eqb b hash) text i h in high_run_border may_stand may_high (i + 1) (omega arith)) (λ h. at)

  pub gap_border : (i : ℕ) → IsCharBoundary text i → IsCharBoundary text (after_blanks_and_comment text i)
  gap_border i at = comment_border (after_blanks text i) (blanks_border i at)

  pub line_border : (i next : ℕ) → behind_line_end text i ≡ Some next → IsCharBoundary text next
  line_border i next e =
      ⊎_elim (λ h. subst (IsCharBoundary text) (is_some (i + 1) next h.1) (behind_byte text utf8 i 10 (omega arith) h.0).1)
      (λ h.
      ⊎_elim
      (λ k.
      let two : i + 1 + 1 ≡ i + 2 = omega arith in
      subst (IsCharBoundary text) (two ∙ is_some (i + 2) next k.1)
      (behind_byte text utf8 (i + 1) 10 (omega arith) (and_parts (stands text i 13) (stands text (i + 1) 10) k.0).1).1)
      (λ k. let none = k.1 in absurd (cc))
      (if_is (stands text i 13 && stands text (i + 1) 10) (Some (i + 2)) None (Some next) h.1))
      (if_is (stands text i 10) (Some (i + 1)) (cond (stands text i 13 && stands text (i + 1) 10) (Some (i + 2)) None) (Some next) e)

  lines_border : (over : List ℕ → ℕ → ℕ) → ((k : ℕ) → IsCharBoundary text k → IsCharBoundary text (over text k)) → (n i : ℕ) → IsCharBoundary text i
      → IsCharBoundary text (lines_over over n text i)
  lines_border over keeps zero i at = at
  lines_border over keeps (suc n) i at =
      elim (behind_line_end text (over text i)) as (λ o. behind_line_end text (over text i) ≡ o → IsCharBoundary text (elim o [ Some next ↦ lines_over over n text next | None ↦ i ])) [
        | Some next ↦ λ is. lines_border over keeps n next (line_border (over text i) next is)
        | None ↦ λ is. at
      ] refl

  -- where the last line of a gap begins
  pub last_border : (i : ℕ) → IsCharBoundary text i → IsCharBoundary text (after_lines_of after_blanks_and_comment text i)
  last_border i at = lines_border after_blanks_and_comment gap_border (length text) i at

  pub space_border : (i : ℕ) → IsCharBoundary text i → IsCharBoundary text (after_space text i)
  space_border i at = gap_border (after_lines_of after_blanks_and_comment text i) (last_border i at)

  pub next_border : (i next : ℕ) → next_line text i ≡ Some next → IsCharBoundary text next
  next_border i next e =
      let j = after_comment text (after_blanks text i) in
      ⊎_elim (λ h. let at = eqb-true j (length text) h.0 in subst (IsCharBoundary text) (sym at ∙ is_some j next h.1) (IsCharBoundary-end text))
      (λ h. line_border j next h.1) (if_is (eqb j (length text)) (Some j) (behind_line_end text j) (Some next) e)

  -- strings end behind a mark

  abbrev ClosesAt : StringPart → Type 0
  ClosesAt (piece p k) = Unit {0}
  ClosesAt (closing k) = IsCharBoundary text k
  ClosesAt broken = Unit {0}

  closes_if : (b : Bool) (x y : StringPart) → (b ≡ true → ClosesAt x) → ClosesAt y → ClosesAt (cond b x y)
  closes_if true x y first second = first refl
  closes_if false x y first second = second

  scalar_closes : (digits i : ℕ) → ClosesAt (scalar_escape digits text i)
  scalar_closes digits i =
      elim (scalar_of digits (take digits (drop (i + 2) text))) as (λ o. ClosesAt (elim o [ Some bytes ↦ escaped_piece bytes (i + 2 + digits) | None ↦ broken ])) [
        | Some bytes ↦ tt
        | None ↦ tt
      ]

  escape_closes : (kind : Quoting) (i c : ℕ) → ClosesAt (escape_by kind text i c)
  escape_closes kind i c =
      closes_if (eqb c 117) _ _ (λ h. scalar_closes 4 i)
      (closes_if (eqb c 85) _ _ (λ h. scalar_closes 8 i)
      (elim (letter_escape c) as (λ o. ClosesAt (elim o [ Some byte ↦ escaped_piece (byte ∷ []) (i + 2) | None ↦ trimming_escape kind text i ])) [
        | Some byte ↦ tt
        | None ↦ closes_if (is_long kind && option_is_some (behind_line_end text (after_blanks text (i + 1)))) _ broken (λ h. tt) tt
      ]))

  escape_at_closes : (kind : Quoting) (i : ℕ) → ClosesAt (escape_at kind text i)
  escape_at_closes kind i =
      elim (slice_get text (i + 1)) as (λ o. ClosesAt (elim o [ Some c ↦ escape_by kind text i c | None ↦ broken ])) [
        | Some c ↦ escape_closes kind i c
        | None ↦ tt
      ]

  plain_closes : (kind : Quoting) (i : ℕ) → ClosesAt (plain_at kind text i)
  plain_closes kind i =
      elim (slice_get text i) as (λ o. ClosesAt (elim o [
        | Some c ↦ cond (may_stand c || (is_long kind && option_is_some (behind_line_end text i))) (plain_piece (c ∷ []) (i + 1)) broken
        | None ↦ broken
      ])) [
        | Some c ↦ closes_if (may_stand c || (is_long kind && option_is_some (behind_line_end text i))) (plain_piece (c ∷ []) (i + 1)) broken (λ h. tt) tt
        | None ↦ tt
      ]

  -- so many marks in a row have a border behind each of them
  pub marks_border : (kind : Quoting) (i n : ℕ) → n < marks_in_row (mark_of kind) text i → IsCharBoundary text (i + n + 1)
  marks_border kind i n within =
      let least = prefix_len-le-length (λ c. eqb c (mark_of kind)) (drop i text) in
      let rest = length-drop i text in
      let here = run_end_passes (λ c. eqb c (mark_of kind)) text i (i + n) (omega arith) (omega arith) in
      let same = eqb-true (get_or text (i + n) 0) (mark_of kind) here in
      let low = mark_low kind in
      behind_low (i + n) (omega arith) (omega arith)

  mark_closes : (kind : Quoting) (i : ℕ) → stands text i (mark_of kind) ≡ true → ClosesAt (mark_at kind text i)
  mark_closes kind i h =
      closes_if (is_long kind) _ _
      (λ long.
      closes_if (eqb (marks_in_row (mark_of kind) text i) 3) _ _
      (λ three.
      let count = eqb-true (marks_in_row (mark_of kind) text i) 3 three in
      let back : i + 2 + 1 ≡ i + 3 = omega arith in
      subst (IsCharBoundary text) back (marks_border kind i 2 (omega arith)))
      (closes_if (nat_le (marks_in_row (mark_of kind) text i) 5) (plain_piece (mark_of kind ∷ []) (i + 1)) broken (λ few. tt) tt))
      (behind_byte text utf8 i (mark_of kind) (mark_low kind) h).1

  part_closes : (kind : Quoting) (i : ℕ) → ClosesAt (part_at kind text i)
  part_closes kind i =
      closes_if (stands text i (mark_of kind)) _ _ (λ h. mark_closes kind i h)
      (closes_if (has_escapes kind && stands text i backslash) _ _ (λ h. escape_at_closes kind i) (plain_closes kind i))

  pub closing_border : (kind : Quoting) (i next : ℕ) → part_at kind text i ≡ closing next → IsCharBoundary text next
  closing_border kind i next e = subst ClosesAt e (part_closes kind i)
