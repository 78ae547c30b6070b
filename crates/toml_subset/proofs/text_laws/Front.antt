-- What a prefix of whole lines spells, the text spells too.
use Rattle.std.proofs.Common.{◌≡◌, ℕ, zero, suc, ◌+◌, ◌-◌, ◌<◌, ◌≤◌, ⊎_elim, inl, inr, Bool, true, false, cond, eqb, nat_le, min, ◌&&◌, ◌||◌, List, [], ◌∷◌, length, get_or, slice_get, take, drop, Option, Some, None, true≢false, refl, ap, sym, subst, ◌∙◌, eqb-true, eq-eqb, arith, length-drop, length-take}
use Rattle.std.proofs.lemmas.Bool.Decides.{nat_tests}
use Rattle.std.specs.List.{prefix_len}
use Rattle.std.specs.Prelude.{is_some as option_is_some, unwrap_or}
use Rattle.deny_text.specs.declared.span.Span.{Span}
use Rattle.toml_subset.specs.Bytes.{quote, apostrophe, backslash, dot, equals, hash, comma, open_bracket, close_bracket, open_brace, close_brace, line_feed, carriage_return, is_blank, is_bare, is_run, begins_run, may_stand}
use Rattle.toml_subset.specs.Keys.{IsKey, AreKeys}
use Rattle.toml_subset.specs.Lines.{Statement, blank_line, pair, table_header, array_header, IsStatement, IsLine}
use Rattle.toml_subset.specs.Numbers.{Class, integer, decimal, class_of}
use Rattle.toml_subset.specs.Places.{from_to, front_is, passes_at, stands, run_end, run_at, after_blanks, after_comment, after_blanks_and_comment, lines_over, after_lines_of, after_space, after_white, behind_line_end, next_line}
use Rattle.toml_subset.specs.Raw.{Raw, RawItems, RawEntries, raw_text, raw_integer, raw_decimal, raw_boolean, raw_array, raw_table, raw_none, raw_item, raw_empty, raw_entry, IsNumber, IsWord, IsPairOf, IsValue, AreItems, AreItemsBehind, AreEntries, AreEntriesBehind, word_of}
use Rattle.toml_subset.specs.Strings.{Quoting, basic, literal, long_basic, long_literal, StringPiece, StringPart, piece, closing, broken, mark_of, is_long, has_escapes, marks_in_row, opening, opening_of, escaped_piece, plain_piece, scalar_of, letter_escape, scalar_escape, trimming_escape, escape_by, escape_at, mark_at, plain_at, part_at, ArePieces, IsString}
use Rattle.toml_subset.specs.declared.string.Key.{Key}
use Rattle.toml_subset.proofs.Law.Basics.{if_true, if_false}
use Rattle.toml_subset.proofs.Law.Forward.{Past, line_end_past, comment_goes, space_goes, pieces_go, keys_go, piece_goes, closing_goes, opening_goes, value_goes, items_go, behind_goes, entries_go, entries_behind_go}
use Rattle.toml_subset.proofs.Law.Fronts.{passes_inside}
use Rattle.toml_subset.proofs.PlainRuns.{prefix_take}
use Rattle.toml_subset.proofs.Runs.{run_end_passes, byte_passes}

-- prefixes of lists

drop_none : (i n : ℕ) → ◌≡◌ {A = List ℕ} (drop (suc i) (take n [])) (take (n - suc i) (drop (suc i) []))
drop_none i zero = let none : 0 - suc i ≡ 0 = omega arith in rw none refl
drop_none i (suc n) = elim (suc n - suc i) as (λ (k : ℕ). ◌≡◌ {A = List ℕ} [] (take k [])) [ zero ↦ refl | suc k ↦ refl ]

drop_take : (i n : ℕ) (s : List ℕ) → drop i (take n s) ≡ take (n - i) (drop i s)
drop_take zero n s = let same : n - 0 ≡ n = omega arith in rw same refl
drop_take (suc i) zero s = let none : 0 - suc i ≡ 0 = omega arith in rw none refl
drop_take (suc i) (suc n) [] = drop_none i (suc n)
drop_take (suc i) (suc n) (x ∷ xs) = let less : suc n - suc i ≡ n - i = omega arith in rw less (drop_take i n xs)

take_take : (k n : ℕ) (s : List ℕ) → k ≤ n → take k (take n s) ≡ take k s
take_take zero n s le = refl
take_take (suc k) zero s le = absurd (omega arith)
take_take (suc k) (suc n) [] le = refl
take_take (suc k) (suc n) (x ∷ xs) le = ap (λ l. x ∷ l) (take_take k n xs (omega arith))

-- a slice that ends before the front does
slice_same : (i k n : ℕ) (s : List ℕ) → i + k ≤ n → take k (drop i (take n s)) ≡ take k (drop i s)
slice_same i k n s le = ap (take k) (drop_take i n s) ∙ take_take k (n - i) (drop i s) (omega arith)

-- a slice of a front that has its whole length ends before the front does
slice_whole : (i k n : ℕ) (s : List ℕ) → n ≤ length s → length (take k (drop i (take n s))) ≡ k → 0 < k → i + k ≤ n
slice_whole i k n s le e some =
    let front = length-take n s in
    let rest = length-drop i (take n s) in
    let all = length-take k (drop i (take n s)) in
    omega arith

front_take : (p : ℕ → Bool) (k : ℕ) (s : List ℕ) → 0 < k → front_is p (take k s) ≡ front_is p s
front_take p zero s some = absurd (omega arith)
front_take p (suc k) [] some = refl
front_take p (suc k) (x ∷ xs) some = refl

get_same : (n i : ℕ) (s : List ℕ) → i < n → slice_get (take n s) i ≡ slice_get s i
get_same zero i s inside = absurd (omega arith)
get_same (suc n) i [] inside = refl
get_same (suc n) zero (x ∷ xs) inside = refl
get_same (suc n) (suc i) (x ∷ xs) inside = get_same n i xs (omega arith)

past_line : (s : List ℕ) (j next : ℕ) → behind_line_end s j ≡ Some next → j < next
past_line s j next is = subst (Past j) is (line_end_past s j)

last_of_both : (a b : Bool) → (a && b) ≡ true → b ≡ true
last_of_both true b h = h
last_of_both false b h = absurd (true≢false (sym h))

pair_goes : (text : List ℕ) (i : ℕ) (keys : List Key) (span : Span) (value : Raw) (next : ℕ) → IsPairOf (λ a b. IsValue text a span value b) text i keys next → i < next
pair_goes text i keys span value next is = let key = keys_go text i keys is.0 is.1 in let inner = value_goes text _ span value next is.3 in omega arith

-- the last byte of a word
word_last_by : (b : Bool) (s : List ℕ) → take (length (word_of b)) s ≡ word_of b → front_is (λ c. eqb c 101) (drop (length (word_of b) - 1) s) ≡ true
word_last_by true [] e = absurd (cc)
word_last_by true (a ∷ []) e = absurd (cc)
word_last_by true (a ∷ c ∷ []) e = absurd (cc)
word_last_by true (a ∷ c ∷ d ∷ []) e = absurd (cc)
word_last_by true (a ∷ c ∷ d ∷ x ∷ xs) e = let same : x ≡ 101 = cc in eq-eqb x 101 same
word_last_by false [] e = absurd (cc)
word_last_by false (a ∷ []) e = absurd (cc)
word_last_by false (a ∷ c ∷ []) e = absurd (cc)
word_last_by false (a ∷ c ∷ d ∷ []) e = absurd (cc)
word_last_by false (a ∷ c ∷ d ∷ f ∷ []) e = absurd (cc)
word_last_by false (a ∷ c ∷ d ∷ f ∷ x ∷ xs) e = let same : x ≡ 101 = cc in eq-eqb x 101 same

drop_empty : (a k : ℕ) → ◌≡◌ {A = List ℕ} (drop a []) (drop (suc k) [])
drop_empty zero k = refl
drop_empty (suc a) k = refl

drop_drop : (a b : ℕ) (s : List ℕ) → drop a (drop b s) ≡ drop (b + a) s
drop_drop a zero s = let same : 0 + a ≡ a = omega arith in rw same refl
drop_drop a (suc b) [] = let same : suc b + a ≡ suc (b + a) = omega arith in rw same (drop_empty a (b + a))
drop_drop a (suc b) (x ∷ xs) = let same : suc b + a ≡ suc (b + a) = omega arith in rw same (drop_drop a b xs)

pub record Ends (text : List ℕ) (m : ℕ) : Type 0 where
  pub lf : stands text m line_feed ≡ true
  pub inside : m < length text

module _ (text : List ℕ) (m : ℕ) (ends : Ends text m) where
  abbrev pub n : ℕ
  n = suc m

  abbrev pub front : List ℕ
  front = take n text

  front_length : length front ≡ n
  front_length = let inside = ends.inside in let all = length-take n text in omega arith

  -- bytes and runs

  pub byte_same : (p : ℕ → Bool) (i : ℕ) → i ≤ m → passes_at p front i ≡ passes_at p text i
  byte_same p i le = ap (front_is p) (drop_take i n text) ∙ front_take p (n - i) (drop i text) (omega arith)

  -- a byte that is no line feed is before the front's last
  pub before_last : (p : ℕ → Bool) (i : ℕ) → p line_feed ≡ false → passes_at p front i ≡ true → i < m
  before_last p i fails h =
      let inside = passes_inside p front i h in
      let whole = front_length in
      let le : i ≤ m = omega arith in
      elim (eqb i m) as (λ b. eqb i m ≡ b → i < m) [
        | true ↦ λ is.
            let same = eqb-true i m is in
            let here = byte_passes p text i (sym (byte_same p i le) ∙ h) in
            let lf = byte_passes (λ b. eqb b line_feed) text m ends.lf in
            let byte : get_or text i 0 ≡ line_feed = ap (λ (k : ℕ). get_or text k 0) same ∙ eqb-true (get_or text m 0) line_feed lf.1 in
            absurd (true≢false (sym here.1 ∙ ap p byte ∙ fails))
        | false ↦ λ is. grind (arith, nat_tests)
      ] refl

  pub run_within : (p : ℕ → Bool) (i : ℕ) → p line_feed ≡ false → i ≤ m → run_end p text i ≤ m
  run_within p i fails le =
      elim (nat_le (run_end p text i) m) as (λ b. nat_le (run_end p text i) m ≡ b → run_end p text i ≤ m) [
        | true ↦ λ is. grind (arith, nat_tests)
        | false ↦ λ is.
            let past : m < run_end p text i = grind (arith, nat_tests) in
            let passes = run_end_passes p text i m le past in
            let lf = byte_passes (λ b. eqb b line_feed) text m ends.lf in
            absurd (true≢false (sym passes ∙ ap p (eqb-true (get_or text m 0) line_feed lf.1) ∙ fails))
      ] refl

  len_same : (p : ℕ → Bool) (i : ℕ) → p line_feed ≡ false → i ≤ m → prefix_len p (drop i front) ≡ prefix_len p (drop i text)
  len_same p i fails le =
      let within = run_within p i fails le in
      let cut = prefix_take p (n - i) (drop i text) in
      let same : min (n - i) (prefix_len p (drop i text)) ≡ prefix_len p (drop i text) = grind (arith, nat_tests) in
      ap (prefix_len p) (drop_take i n text) ∙ cut ∙ same

  pub run_same : (p : ℕ → Bool) (i : ℕ) → p line_feed ≡ false → i ≤ m → run_end p front i ≡ run_end p text i
  run_same p i fails le = ap (λ (k : ℕ). i + k) (len_same p i fails le)

  pub slice_of_run : (p : ℕ → Bool) (i : ℕ) → p line_feed ≡ false → i ≤ m → run_at p front i ≡ run_at p text i
  slice_of_run p i fails le =
      let within = run_within p i fails le in
      ap (λ (k : ℕ). take k (drop i front)) (len_same p i fails le) ∙ slice_same i (prefix_len p (drop i text)) n text (omega arith)

  pub blanks_same : (i : ℕ) → i ≤ m → after_blanks front i ≡ after_blanks text i
  blanks_same i le = run_same is_blank i refl le

  pub blanks_within : (i : ℕ) → i ≤ m → after_blanks text i ≤ m
  blanks_within i le = run_within is_blank i refl le

  pub stands_same : (i c : ℕ) → i ≤ m → stands front i c ≡ stands text i c
  stands_same i c le = byte_same (λ b. eqb b c) i le

  -- line ends and gaps

  pub line_same : (i : ℕ) → i ≤ m → behind_line_end front i ≡ behind_line_end text i
  line_same i le =
      elim (stands front i carriage_return) as (λ b. stands front i carriage_return ≡ b → behind_line_end front i ≡ behind_line_end text i) [
        | true ↦ λ is.
            let before = before_last (λ b. eqb b carriage_return) i refl is in
            ap (λ (b : Bool). cond b (Some (i + 1)) (cond (stands front i carriage_return && stands front (i + 1) line_feed) (Some (i + 2)) None)) (stands_same i line_feed le)
            ∙ ap (λ (b : Bool). cond (stands text i line_feed) (Some (i + 1)) (cond (b && stands front (i + 1) line_feed) (Some (i + 2)) None)) (stands_same i carriage_return le)
            ∙ ap (λ (b : Bool). cond (stands text i line_feed) (Some (i + 1)) (cond (stands text i carriage_return && b) (Some (i + 2)) None)) (stands_same (i + 1) line_feed (omega arith))
        | false ↦ λ is.
            let other : stands text i carriage_return ≡ false = sym (stands_same i carriage_return le) ∙ is in
            ap (λ (b : Bool). cond b (Some (i + 1)) (cond (stands front i carriage_return && stands front (i + 1) line_feed) (Some (i + 2)) None)) (stands_same i line_feed le)
            ∙ ap (λ (b : Bool). cond (stands text i line_feed) (Some (i + 1)) (cond (b && stands front (i + 1) line_feed) (Some (i + 2)) None)) is
            ∙ sym (ap (λ (b : Bool). cond (stands text i line_feed) (Some (i + 1)) (cond (b && stands text (i + 1) line_feed) (Some (i + 2)) None)) other)
      ] refl

  pub comment_same : (i : ℕ) → i ≤ m → (after_comment front i ≡ after_comment text i) × (after_comment text i ≤ m)
  comment_same i le =
      elim (stands front i hash) as (λ b. stands front i hash ≡ b → (after_comment front i ≡ after_comment text i) × (after_comment text i ≤ m)) [
        | true ↦ λ is.
            let before = before_last (λ b. eqb b hash) i refl is in
            let there : stands text i hash ≡ true = sym (stands_same i hash le) ∙ is in
            let run = run_same may_stand (i + 1) refl (omega arith) in
            let within = run_within may_stand (i + 1) refl (omega arith) in
            let text_is : after_comment text i ≡ run_end may_stand text (i + 1) = if_true (stands text i hash) (run_end may_stand text (i + 1)) i there in
            (if_true (stands front i hash) (run_end may_stand front (i + 1)) i is ∙ run ∙ sym text_is, omega arith)
        | false ↦ λ is.
            let there : stands text i hash ≡ false = sym (stands_same i hash le) ∙ is in
            let text_is : after_comment text i ≡ i = if_false (stands text i hash) (run_end may_stand text (i + 1)) i there in
            (if_false (stands front i hash) (run_end may_stand front (i + 1)) i is ∙ sym text_is, omega arith)
      ] refl

  pub gap_same : (i : ℕ) → i ≤ m → (after_blanks_and_comment front i ≡ after_blanks_and_comment text i) × (after_blanks_and_comment text i ≤ m)
  gap_same i le =
      let comment = comment_same (after_blanks text i) (blanks_within i le) in
      (ap (after_comment front) (blanks_same i le) ∙ comment.0, comment.1)

  pub next_same : (i : ℕ) → i ≤ m → next_line front i ≡ next_line text i
  next_same i le =
      let gap = gap_same i le in
      let j = after_comment text (after_blanks text i) in
      let inside = ends.inside in
      let whole = front_length in
      let front_goes : eqb j (length front) ≡ false = grind (arith, nat_tests) in
      let text_goes : eqb j (length text) ≡ false = grind (arith, nat_tests) in
      ap (λ (k : ℕ). cond (eqb k (length front)) (Some k) (behind_line_end front k)) gap.0 ∙ if_false (eqb j (length front)) (Some j) (behind_line_end front j) front_goes ∙ line_same j gap.1
      ∙ sym (if_false (eqb j (length text)) (Some j) (behind_line_end text j) text_goes)

  -- lines that a gap goes over: `over` agrees on both, and so does the whole gap where it ends before the front does
  abbrev Agrees : (List ℕ → ℕ → ℕ) → Type 0
  Agrees over = (k : ℕ) → k ≤ m → (over front k ≡ over text k) × (over text k ≤ m)

  lines_go_on : (over : List ℕ → ℕ → ℕ) → ((s : List ℕ) (k : ℕ) → k ≤ over s k) → (s : List ℕ) (f i : ℕ) → i ≤ lines_over over f s i
  lines_go_on over goes s zero i = omega arith
  lines_go_on over goes s (suc f) i =
      elim (behind_line_end s (over s i)) as (λ o. behind_line_end s (over s i) ≡ o → i ≤ elim o [ Some next ↦ lines_over over f s next | None ↦ i ]) [
        | Some next ↦ λ is. let past = past_line s (over s i) next is in let le = goes s i in let rest = lines_go_on over goes s f next in omega arith
        | None ↦ λ is. omega arith
      ] refl

  lines_by : (over : List ℕ → ℕ → ℕ) (f g i : ℕ) (o : Option ℕ) → behind_line_end front (over front i) ≡ o
      → ((next : ℕ) → behind_line_end front (over front i) ≡ Some next → lines_over over f front next ≤ m → lines_over over g text next ≡ lines_over over f front next)
      → elim o [ Some next ↦ lines_over over f front next | None ↦ i ] ≤ m
      → ◌≡◌ {A = ℕ} (elim o [ Some next ↦ lines_over over g text next | None ↦ i ]) (elim o [ Some next ↦ lines_over over f front next | None ↦ i ])
  lines_by over f g i (Some next) is rest le = rest next is le
  lines_by over f g i None is rest le = refl

  lines_same : (over : List ℕ → ℕ → ℕ) → ((s : List ℕ) (k : ℕ) → k ≤ over s k) → Agrees over → (f g i : ℕ) → n ≤ i + f → length text ≤ i + g
      → lines_over over f front i ≤ m → lines_over over g text i ≡ lines_over over f front i
  lines_same over goes agrees zero g i enough more within = absurd (omega arith)
  lines_same over goes agrees (suc f) zero i enough more within =
      let first = lines_go_on over goes front (suc f) i in let inside = ends.inside in absurd (omega arith)
  lines_same over goes agrees (suc f) (suc g) i enough more within =
      let start = lines_go_on over goes front (suc f) i in
      let here = agrees i (omega arith) in
      let same : behind_line_end text (over text i) ≡ behind_line_end front (over front i) = sym (ap (behind_line_end front) here.0 ∙ line_same (over text i) here.1) in
      ap (λ o. elim o [ Some next ↦ lines_over over g text next | None ↦ i ]) same
      ∙ lines_by over f g i (behind_line_end front (over front i)) refl
      (λ next is le.
      let past = past_line front (over front i) next is in
      let on = goes front i in
      lines_same over goes agrees f g next (omega arith) (omega arith) le)
      within

  gap_lines : (i : ℕ) → after_lines_of after_blanks_and_comment front i ≤ m → after_lines_of after_blanks_and_comment text i ≡ after_lines_of after_blanks_and_comment front i
  gap_lines i within =
      let whole = front_length in
      lines_same after_blanks_and_comment comment_goes gap_same (length front) (length text) i (omega arith) (omega arith) within

  pub space_same : (i : ℕ) → after_space front i ≤ m → after_space text i ≡ after_space front i
  space_same i within =
      let line = after_lines_of after_blanks_and_comment front i in
      let le = comment_goes front line in
      ap (after_blanks_and_comment text) (gap_lines i (omega arith)) ∙ sym (gap_same line (omega arith)).0

  white_lines : (i : ℕ) → after_lines_of after_blanks front i ≤ m → after_lines_of after_blanks text i ≡ after_lines_of after_blanks front i
  white_lines i within =
      let whole = front_length in
      lines_same after_blanks (λ s k. omega arith) (λ k le. (blanks_same k le, blanks_within k le)) (length front) (length text) i (omega arith) (omega arith) within

  pub white_same : (i : ℕ) → after_white front i ≤ m → after_white text i ≡ after_white front i
  white_same i within =
      let line = after_lines_of after_blanks front i in
      ap (after_blanks text) (white_lines i (omega arith)) ∙ sym (blanks_same line (omega arith))

  -- parts of strings

  marks_same : (kind : Quoting) (i : ℕ) → i ≤ m → marks_in_row (mark_of kind) front i ≡ marks_in_row (mark_of kind) text i
  marks_same basic i le = len_same (λ c. eqb c quote) i refl le
  marks_same literal i le = len_same (λ c. eqb c apostrophe) i refl le
  marks_same long_basic i le = len_same (λ c. eqb c quote) i refl le
  marks_same long_literal i le = len_same (λ c. eqb c apostrophe) i refl le

  mark_same : (kind : Quoting) (i : ℕ) → i ≤ m → mark_at kind front i ≡ mark_at kind text i
  mark_same kind i le =
      ap (λ (k : ℕ). cond (is_long kind) (cond (eqb k 3) (closing (i + 3)) (cond (nat_le k 5) (plain_piece (mark_of kind ∷ []) (i + 1)) broken)) (closing (i + 1))) (marks_same kind i le)

  plain_same : (kind : Quoting) (i : ℕ) → i ≤ m → plain_at kind front i ≡ plain_at kind text i
  plain_same kind i le =
      ap (λ o. elim o [ Some c ↦ cond (may_stand c || (is_long kind && option_is_some (behind_line_end front i))) (plain_piece (c ∷ []) (i + 1)) broken | None ↦ broken ]) (get_same n i text (omega arith))
      ∙ ap (λ (l : Option ℕ). elim (slice_get text i) [ Some c ↦ cond (may_stand c || (is_long kind && option_is_some l)) (plain_piece (c ∷ []) (i + 1)) broken | None ↦ broken ]) (line_same i le)

  -- what a part of the front ends at before the front's last byte is in the text as well
  abbrev PartSame : StringPart → StringPart → Type 0
  PartSame (piece p k) other = k ≤ m → other ≡ piece p k
  PartSame (closing k) other = k ≤ m → other ≡ closing k
  PartSame broken other = Unit {0}

  same_part : (q other : StringPart) → other ≡ q → PartSame q other
  same_part (piece p k) other e = λ le. e
  same_part (closing k) other e = λ le. e
  same_part broken other e = tt

  part_if : (b c : Bool) (x y u v : StringPart) → b ≡ c → (b ≡ true → PartSame x u) → (b ≡ false → PartSame y v) → PartSame (cond b x y) (cond c u v)
  part_if true true x y u v same first second = first refl
  part_if true false x y u v same first second = absurd (true≢false same)
  part_if false true x y u v same first second = absurd (true≢false (sym same))
  part_if false false x y u v same first second = second refl

  -- digits that name a scalar value lie in the front
  scalar_same : (digits i : ℕ) → 0 < digits → PartSame (scalar_escape digits front i) (scalar_escape digits text i)
  scalar_same digits i some =
      elim (scalar_of digits (take digits (drop (i + 2) front))) as (λ o. scalar_of digits (take digits (drop (i + 2) front)) ≡ o
      → PartSame (elim o [ Some bytes ↦ escaped_piece bytes (i + 2 + digits) | None ↦ broken ]) (scalar_escape digits text i)) [
        | Some bytes ↦ λ is le.
            let inside = ends.inside in
            let same = slice_same (i + 2) digits n text (omega arith) in
            ap (λ o. elim o [ Some bs ↦ escaped_piece bs (i + 2 + digits) | None ↦ broken ]) (ap (scalar_of digits) (sym same) ∙ is)
        | None ↦ λ is. tt
      ] refl

  trimming_same : (kind : Quoting) (i : ℕ) → i < m → PartSame (trimming_escape kind front i) (trimming_escape kind text i)
  trimming_same kind i before =
      let line : behind_line_end front (after_blanks front (i + 1)) ≡ behind_line_end text (after_blanks text (i + 1)) =
      ap (behind_line_end front) (blanks_same (i + 1) (omega arith)) ∙ line_same (after_blanks text (i + 1)) (blanks_within (i + 1) (omega arith)) in
      part_if (is_long kind && option_is_some (behind_line_end front (after_blanks front (i + 1)))) (is_long kind && option_is_some (behind_line_end text (after_blanks text (i + 1))))
      (escaped_piece [] (after_white front (i + 1))) broken (escaped_piece [] (after_white text (i + 1))) broken
      (ap (λ (o : Option ℕ). is_long kind && option_is_some o) line) (λ h le. ap (escaped_piece []) (white_same (i + 1) le)) (λ h. tt)

  escape_same : (kind : Quoting) (i c : ℕ) → i < m → PartSame (escape_by kind front i c) (escape_by kind text i c)
  escape_same kind i c before =
      part_if (eqb c 117) (eqb c 117) _ _ _ _ refl (λ h. scalar_same 4 i (omega arith))
      (λ h. part_if (eqb c 85) (eqb c 85) _ _ _ _ refl (λ k. scalar_same 8 i (omega arith))
      (λ k. elim (letter_escape c) as (λ o. PartSame (elim o [ Some byte ↦ escaped_piece (byte ∷ []) (i + 2) | None ↦ trimming_escape kind front i ])
      (elim o [ Some byte ↦ escaped_piece (byte ∷ []) (i + 2) | None ↦ trimming_escape kind text i ])) [
        | Some byte ↦ λ le. refl
        | None ↦ trimming_same kind i before
      ]))

  escape_at_same : (kind : Quoting) (i : ℕ) → i < m → PartSame (escape_at kind front i) (escape_at kind text i)
  escape_at_same kind i before =
      subst (λ o. PartSame (elim o [ Some c ↦ escape_by kind front i c | None ↦ broken ]) (escape_at kind text i)) (sym (get_same n (i + 1) text (omega arith)))
      (elim (slice_get text (i + 1)) as (λ o. PartSame (elim o [ Some c ↦ escape_by kind front i c | None ↦ broken ]) (elim o [ Some c ↦ escape_by kind text i c | None ↦ broken ])) [
        | Some c ↦ escape_same kind i c before
        | None ↦ tt
      ])

  part_same : (kind : Quoting) (i : ℕ) → i ≤ m → PartSame (part_at kind front i) (part_at kind text i)
  part_same kind i le =
      part_if (stands front i (mark_of kind)) (stands text i (mark_of kind)) _ _ _ _ (stands_same i (mark_of kind) le) (λ h. same_part (mark_at kind front i) (mark_at kind text i) (sym (mark_same kind i le)))
      (λ h. part_if (has_escapes kind && stands front i backslash) (has_escapes kind && stands text i backslash) _ _ _ _ (ap (λ (b : Bool). has_escapes kind && b) (stands_same i backslash le))
      (λ k. escape_at_same kind i (before_last (λ b. eqb b backslash) i refl (last_of_both (has_escapes kind) (stands front i backslash) k)))
      (λ k. same_part (plain_at kind front i) (plain_at kind text i) (sym (plain_same kind i le))))

  piece_same : (kind : Quoting) (i : ℕ) (p : StringPiece) (k : ℕ) → k ≤ m → part_at kind front i ≡ piece p k → part_at kind text i ≡ piece p k
  piece_same kind i p k le e = let goes = piece_goes kind front i p k e in subst (λ q. PartSame q (part_at kind text i)) e (part_same kind i (omega arith)) le

  closing_same : (kind : Quoting) (i k : ℕ) → k ≤ m → part_at kind front i ≡ closing k → part_at kind text i ≡ closing k
  closing_same kind i k le e = let goes = closing_goes kind front i k e in subst (λ q. PartSame q (part_at kind text i)) e (part_same kind i (omega arith)) le

  pub pieces_same : (kind : Quoting) (i : ℕ) (ps : List StringPiece) (close next : ℕ) → next ≤ m → ArePieces kind front i ps close next → ArePieces kind text i ps close next
  pieces_same kind i [] close next le is = (closing_same kind i next le is.0, is.1)
  pieces_same kind i (p ∷ ps) close next le is =
      let goes = pieces_go kind front is.0 ps close next is.2 in (is.0, piece_same kind i p is.0 (omega arith) is.1, pieces_same kind is.0 ps close next le is.2)

  opening_of_same : (short long : Quoting) (mark i : ℕ) → eqb line_feed mark ≡ false → i ≤ m → opening_of short long mark front i ≡ opening_of short long mark text i
  opening_of_same short long mark i fails le =
      let within = run_within (λ c. eqb c mark) i fails le in
      ap (λ (k : ℕ). cond (nat_le 3 k) (long, unwrap_or (behind_line_end front (i + 3)) (i + 3)) (short, i + 1)) (len_same (λ c. eqb c mark) i fails le)
      ∙ elim (nat_le 3 (marks_in_row mark text i)) as (λ b. nat_le 3 (marks_in_row mark text i) ≡ b
      → ◌≡◌ {A = Quoting × ℕ} (cond b (long, unwrap_or (behind_line_end front (i + 3)) (i + 3)) (short, i + 1)) (cond b (long, unwrap_or (behind_line_end text (i + 3)) (i + 3)) (short, i + 1))) [
        | true ↦ λ is.
            let three : 3 ≤ marks_in_row mark text i = grind (arith, nat_tests) in
            ap {B = Quoting × ℕ} (λ (o : Option ℕ). (long, unwrap_or o (i + 3))) (line_same (i + 3) (omega arith))
        | false ↦ λ is. refl
      ] refl

  opening_same : (i : ℕ) (r : Quoting × ℕ) → r.1 ≤ m → opening front i ≡ Some r → opening text i ≡ Some r
  opening_same i r le e =
      let goes = opening_goes front i r e in
      let here : i ≤ m = omega arith in
      sym (ap (λ (b : Bool). cond b (Some (opening_of basic long_basic quote front i)) (cond (stands front i apostrophe) (Some (opening_of literal long_literal apostrophe front i)) None)) (stands_same i quote here)
      ∙ ap (λ (x : Quoting × ℕ). cond (stands text i quote) (Some x) (cond (stands front i apostrophe) (Some (opening_of literal long_literal apostrophe front i)) None))
      (opening_of_same basic long_basic quote i refl here)
      ∙ ap (λ (b : Bool). cond (stands text i quote) (Some (opening_of basic long_basic quote text i)) (cond b (Some (opening_of literal long_literal apostrophe front i)) None)) (stands_same i apostrophe here)
      ∙ ap (λ (x : Quoting × ℕ). cond (stands text i quote) (Some (opening_of basic long_basic quote text i)) (cond (stands text i apostrophe) (Some x) None))
      (opening_of_same literal long_literal apostrophe i refl here)) ∙ e

  pub string_same : (i : ℕ) (kind : Quoting) (w : _) (span : Span) (next : ℕ) → next ≤ m → IsString front i kind w span next → IsString text i kind w span next
  string_same i kind w span next le is =
      let body = pieces_go kind front is.first is.pieces is.close next is.body in
      record {
        pieces = is.pieces;
        first = is.first;
        close = is.close;
        opens = opening_same i (kind, is.first) (omega arith) is.opens;
        body = pieces_same kind is.first is.pieces is.close next le is.body;
        stands_for = is.stands_for;
        spans = is.spans;
      }

  -- keys

  pub key_same : (i : ℕ) (key : Key) (next : ℕ) → next ≤ m → IsKey front i key next → IsKey text i key next
  key_same i key next le (inl bare) =
      let some = bare.some in
      let run = run_same is_bare i refl (omega arith) in
      inl (record {
        some = some;
        ends = bare.ends ∙ run;
        is = bare.is ∙ ap (λ (t : List ℕ). record { name = record { text = t; escaped = false }; span = from_to i next }) (slice_of_run is_bare i refl (omega arith));
      })
  key_same i key next le (inr (inl is)) = inr (inl (string_same i basic key.name key.span next le is))
  key_same i key next le (inr (inr is)) = inr (inr (string_same i literal key.name key.span next le is))

  -- the byte behind a key may be looked at as well
  pub keys_same : (i : ℕ) (keys : List Key) (next : ℕ) → next ≤ m → AreKeys front i keys next → AreKeys text i keys next
  keys_same i [] next le is = absurd is
  keys_same i (key ∷ more) next le is =
      ⊎_elim
      (λ dotted.
      let further = keys_go front _ more next dotted.1 in
      let blanks = blanks_same is.0 (omega arith) in
      let there : stands text (after_blanks text is.0) dot ≡ true =
      sym (ap (λ (k : ℕ). stands front k dot) blanks ∙ stands_same (after_blanks text is.0) dot (blanks_within is.0 (omega arith))) ∙ dotted.0 in
      let j : after_blanks front (after_blanks front is.0 + 1) ≡ after_blanks text (after_blanks text is.0 + 1) =
      blanks_same (after_blanks front is.0 + 1) (omega arith) ∙ ap (λ (k : ℕ). after_blanks text (k + 1)) blanks in
      (is.0, key_same i key is.0 (omega arith) is.1, inl (there, subst (λ (k : ℕ). AreKeys text k more next) j (keys_same (after_blanks front (after_blanks front is.0 + 1)) more next le dotted.1))))
      (λ last_one.
      let at = last_one.2 in
      let within : is.0 ≤ m = omega arith in
      let there : stands text (after_blanks text is.0) dot ≡ false =
      sym (ap (λ (k : ℕ). stands front k dot) (blanks_same is.0 within) ∙ stands_same (after_blanks text is.0) dot (blanks_within is.0 within)) ∙ last_one.0 in
      (is.0, key_same i key is.0 within is.1, inr (there, last_one.1, last_one.2)))
      is.2

  -- scalars

  number_same : (i : ℕ) (class : Class) (span : Span) (next : ℕ) → next ≤ m → IsNumber front i class span next → IsNumber text i class span next
  number_same i class span next le is =
      let ends_at = is.ends in
      let here : i ≤ m = omega arith in
      record {
        begins = sym (byte_same begins_run i here) ∙ is.begins;
        ends = is.ends ∙ run_same is_run i refl here;
        is = ap class_of (sym (slice_of_run is_run i refl here)) ∙ is.is;
        spans = is.spans;
      }

  word_same : (i : ℕ) (b : Bool) (span : Span) (next : ℕ) → next ≤ m → IsWord front i b span next → IsWord text i b span next
  word_same i b span next le is =
      let ends_at = is.ends in record { ends = is.ends; is = sym (slice_same i (length (word_of b)) n text (omega arith)) ∙ is.is; spans = is.spans }

  -- values

  byte_of : (i c : ℕ) → i ≤ m → stands front i c ≡ true → stands text i c ≡ true
  byte_of i c le h = sym (stands_same i c le) ∙ h

  no_byte : (i c : ℕ) → i ≤ m → stands front i c ≡ false → stands text i c ≡ false
  no_byte i c le h = sym (stands_same i c le) ∙ h

  pair_by : (i : ℕ) (keys : List Key) (span : Span) (value : Raw) (next : ℕ) → ((a b : ℕ) → b ≤ m → IsValue front a span value b → IsValue text a span value b) → next ≤ m
      → IsPairOf (λ a b. IsValue front a span value b) front i keys next → IsPairOf (λ a b. IsValue text a span value b) text i keys next
  pair_by i keys span value next same le is =
      let goes = value_goes front (after_blanks front (after_blanks front is.0 + 1)) span value next is.3 in
      let blanks = blanks_same is.0 (omega arith) in
      let there : stands text (after_blanks text is.0) equals ≡ true = subst (λ (k : ℕ). stands text k equals ≡ true) blanks (byte_of (after_blanks front is.0) equals (omega arith) is.2) in
      let j : after_blanks front (after_blanks front is.0 + 1) ≡ after_blanks text (after_blanks text is.0 + 1) =
      blanks_same (after_blanks front is.0 + 1) (omega arith) ∙ ap (λ (k : ℕ). after_blanks text (k + 1)) blanks in
      (is.0, keys_same i keys is.0 (omega arith) is.1, there, subst (λ (k : ℕ). IsValue text k span value next) j (same (after_blanks front (after_blanks front is.0 + 1)) next le is.3))

  mutual
    pub value_same : (i : ℕ) (span : Span) (raw : Raw) (next : ℕ) → next ≤ m → IsValue front i span raw next → IsValue text i span raw next
    value_same i span (raw_text w) next le is = (is.0, string_same i is.0 w span next le is.1)
    value_same i span (raw_integer z) next le is = number_same i (integer z) span next le is
    value_same i span (raw_decimal z) next le is = number_same i (decimal z) span next le is
    value_same i span (raw_boolean b) next le is = word_same i b span next le is
    value_same i span (raw_array items) next le is =
        let goes = items_go front (after_space front (i + 1)) items next is.1 in
        let space = space_goes front (i + 1) in (
          byte_of i open_bracket (omega arith) is.0,
          subst (λ (k : ℕ). AreItems text k items next) (sym (space_same (i + 1) (omega arith))) (items_same (after_space front (i + 1)) items next le is.1),
          is.2,
        )
    value_same i span (raw_table entries) next le is =
        let goes = entries_go front (after_blanks front (i + 1)) entries next is.1 in (
          byte_of i open_brace (omega arith) is.0,
          subst (λ (k : ℕ). AreEntries text k entries next) (blanks_same (i + 1) (omega arith)) (entries_same (after_blanks front (i + 1)) entries next le is.1),
          is.2,
        )

    items_same : (i : ℕ) (items : RawItems) (next : ℕ) → next ≤ m → AreItems front i items next → AreItems text i items next
    items_same i raw_none next le is = let at = is.1 in (byte_of i close_bracket (omega arith) is.0, is.1)
    items_same i (raw_item span value more) next le is =
        let behind = behind_goes front (after_space front is.0) more next is.2 in
        let space = space_goes front is.0 in (
          is.0,
          value_same i span value is.0 (omega arith) is.1,
          subst (λ (k : ℕ). AreItemsBehind text k more next) (sym (space_same is.0 (omega arith))) (behind_same (after_space front is.0) more next le is.2),
        )

    behind_same : (i : ℕ) (items : RawItems) (next : ℕ) → next ≤ m → AreItemsBehind front i items next → AreItemsBehind text i items next
    behind_same i raw_none next le (inl only) = let at = only.1 in inl (byte_of i close_bracket (omega arith) only.0, only.1)
    behind_same i raw_none next le (inr further) =
        let at = further.2 in
        let space = space_goes front (i + 1) in
        let same = space_same (i + 1) (omega arith) in
        inr (
          byte_of i comma (omega arith) further.0,
          subst (λ (k : ℕ). stands text k close_bracket ≡ true) (sym same) (byte_of (after_space front (i + 1)) close_bracket (omega arith) further.1),
          further.2 ∙ ap (λ (k : ℕ). k + 1) (sym same),
        )
    behind_same i (raw_item span value more) next le is =
        let behind = behind_goes front (after_space front is.1.0) more next is.1.2 in
        let goes = value_goes front (after_space front (i + 1)) span value is.1.0 is.1.1 in
        let space = space_goes front is.1.0 in
        let first = space_goes front (i + 1) in (
          byte_of i comma (omega arith) is.0,
          (
            is.1.0,
            subst (λ (k : ℕ). IsValue text k span value is.1.0) (sym (space_same (i + 1) (omega arith))) (value_same (after_space front (i + 1)) span value is.1.0 (omega arith) is.1.1),
            subst (λ (k : ℕ). AreItemsBehind text k more next) (sym (space_same is.1.0 (omega arith))) (behind_same (after_space front is.1.0) more next le is.1.2),
          ),
        )

    entries_same : (i : ℕ) (entries : RawEntries) (next : ℕ) → next ≤ m → AreEntries front i entries next → AreEntries text i entries next
    entries_same i raw_empty next le is = let at = is.1 in (byte_of i close_brace (omega arith) is.0, is.1)
    entries_same i (raw_entry keys span value more) next le is =
        let behind = entries_behind_go front (after_blanks front is.0) more next is.2 in (
          is.0,
          pair_by i keys span value is.0 (λ a b l v. value_same a span value b l v) (omega arith) is.1,
          subst (λ (k : ℕ). AreEntriesBehind text k more next) (blanks_same is.0 (omega arith)) (entries_behind_same (after_blanks front is.0) more next le is.2),
        )

    entries_behind_same : (i : ℕ) (entries : RawEntries) (next : ℕ) → next ≤ m → AreEntriesBehind front i entries next → AreEntriesBehind text i entries next
    entries_behind_same i raw_empty next le is = let at = is.1 in (byte_of i close_brace (omega arith) is.0, is.1)
    entries_behind_same i (raw_entry keys span value more) next le is =
        let behind = entries_behind_go front (after_blanks front is.1.0) more next is.1.2 in
        let goes = pair_goes front (after_blanks front (i + 1)) keys span value is.1.0 is.1.1 in
        let place = blanks_same (i + 1) (omega arith) in (
          byte_of i comma (omega arith) is.0,
          (
            is.1.0,
            subst (λ (k : ℕ). IsPairOf (λ a b. IsValue text a span value b) text k keys is.1.0) place (pair_by (after_blanks front (i + 1)) keys span value is.1.0 (λ a b l v. value_same a span value b l v) (omega arith) is.1.1),
            subst (λ (k : ℕ). AreEntriesBehind text k more next) (blanks_same is.1.0 (omega arith)) (entries_behind_same (after_blanks front is.1.0) more next le is.1.2),
          ),
        )

  -- what is in the front ends before its last byte, a line feed, does

  abbrev ClosesBefore : StringPart → Type 0
  ClosesBefore (piece p k) = Unit {0}
  ClosesBefore (closing k) = k ≤ m
  ClosesBefore broken = Unit {0}

  closes_if : (b : Bool) (x y : StringPart) → (b ≡ true → ClosesBefore x) → ClosesBefore y → ClosesBefore (cond b x y)
  closes_if true x y first second = first refl
  closes_if false x y first second = second

  mark_no_line : (kind : Quoting) → eqb line_feed (mark_of kind) ≡ false
  mark_no_line basic = refl
  mark_no_line literal = refl
  mark_no_line long_basic = refl
  mark_no_line long_literal = refl

  mark_closes : (kind : Quoting) (i : ℕ) → stands front i (mark_of kind) ≡ true → ClosesBefore (mark_at kind front i)
  mark_closes kind i h =
      let before = before_last (λ b. eqb b (mark_of kind)) i (mark_no_line kind) h in
      closes_if (is_long kind) _ _
      (λ long.
      closes_if (eqb (marks_in_row (mark_of kind) front i) 3) _ _
      (λ three.
      let count = eqb-true (marks_in_row (mark_of kind) front i) 3 three in
      let same = marks_same kind i (omega arith) in
      let within = run_within (λ c. eqb c (mark_of kind)) i (mark_no_line kind) (omega arith) in
      omega arith)
      (closes_if (nat_le (marks_in_row (mark_of kind) front i) 5) (plain_piece (mark_of kind ∷ []) (i + 1)) broken (λ few. tt) tt))
      (omega arith)

  scalar_closes : (digits i : ℕ) → ClosesBefore (scalar_escape digits front i)
  scalar_closes digits i =
      elim (scalar_of digits (take digits (drop (i + 2) front))) as (λ o. ClosesBefore (elim o [ Some bytes ↦ escaped_piece bytes (i + 2 + digits) | None ↦ broken ])) [
        | Some bytes ↦ tt
        | None ↦ tt
      ]

  escape_closes : (kind : Quoting) (i c : ℕ) → ClosesBefore (escape_by kind front i c)
  escape_closes kind i c =
      closes_if (eqb c 117) _ _ (λ h. scalar_closes 4 i)
      (closes_if (eqb c 85) _ _ (λ h. scalar_closes 8 i)
      (elim (letter_escape c) as (λ o. ClosesBefore (elim o [ Some byte ↦ escaped_piece (byte ∷ []) (i + 2) | None ↦ trimming_escape kind front i ])) [
        | Some byte ↦ tt
        | None ↦ closes_if (is_long kind && option_is_some (behind_line_end front (after_blanks front (i + 1)))) _ broken (λ h. tt) tt
      ]))

  part_closes : (kind : Quoting) (i : ℕ) → ClosesBefore (part_at kind front i)
  part_closes kind i =
      closes_if (stands front i (mark_of kind)) _ _ (λ h. mark_closes kind i h)
      (closes_if (has_escapes kind && stands front i backslash) _ _
      (λ h. elim (slice_get front (i + 1)) as (λ o. ClosesBefore (elim o [ Some c ↦ escape_by kind front i c | None ↦ broken ])) [ Some c ↦ escape_closes kind i c | None ↦ tt ])
      (elim (slice_get front i) as (λ o. ClosesBefore (elim o [
        | Some c ↦ cond (may_stand c || (is_long kind && option_is_some (behind_line_end front i))) (plain_piece (c ∷ []) (i + 1)) broken
        | None ↦ broken
      ])) [
        | Some c ↦ closes_if (may_stand c || (is_long kind && option_is_some (behind_line_end front i))) (plain_piece (c ∷ []) (i + 1)) broken (λ h. tt) tt
        | None ↦ tt
      ]))

  pieces_last : (kind : Quoting) (i : ℕ) (ps : List StringPiece) (close next : ℕ) → ArePieces kind front i ps close next → next ≤ m
  pieces_last kind i [] close next is = subst ClosesBefore is.0 (part_closes kind i)
  pieces_last kind i (p ∷ ps) close next is = pieces_last kind is.0 ps close next is.2

  byte_last : (i c : ℕ) → eqb line_feed c ≡ false → stands front i c ≡ true → i + 1 ≤ m
  byte_last i c other h = let before = before_last (λ b. eqb b c) i other h in omega arith

  number_last : (i : ℕ) (class : Class) (span : Span) (next : ℕ) → IsNumber front i class span next → next ≤ m
  number_last i class span next is =
      let before = before_last begins_run i refl is.begins in
      let same = run_same is_run i refl (omega arith) in
      let within = run_within is_run i refl (omega arith) in
      let ends_at = is.ends in
      omega arith

  word_some : (b : Bool) → 0 < length (word_of b)
  word_some true = omega arith
  word_some false = omega arith

  word_last : (i : ℕ) (b : Bool) (span : Span) (next : ℕ) → IsWord front i b span next → next ≤ m
  word_last i b span next is =
      let ends_at = is.ends in
      let last = length (word_of b) - 1 in
      let stood : stands front (i + last) 101 ≡ true = ap (front_is (λ c. eqb c 101)) (sym (drop_drop last i front)) ∙ word_last_by b (drop i front) is.is in
      let before = byte_last (i + last) 101 refl stood in
      let some = word_some b in
      omega arith

  mutual
    value_last : (i : ℕ) (span : Span) (raw : Raw) (next : ℕ) → IsValue front i span raw next → next ≤ m
    value_last i span (raw_text w) next is = pieces_last is.0 is.1.first is.1.pieces is.1.close next is.1.body
    value_last i span (raw_integer z) next is = number_last i (integer z) span next is
    value_last i span (raw_decimal z) next is = number_last i (decimal z) span next is
    value_last i span (raw_boolean b) next is = word_last i b span next is
    value_last i span (raw_array items) next is = items_last _ items next is.1
    value_last i span (raw_table entries) next is = entries_last _ entries next is.1

    items_last : (i : ℕ) (items : RawItems) (next : ℕ) → AreItems front i items next → next ≤ m
    items_last i raw_none next is = let at = is.1 in let last = byte_last i close_bracket refl is.0 in omega arith
    items_last i (raw_item span value more) next is = behind_last _ more next is.2

    behind_last : (i : ℕ) (items : RawItems) (next : ℕ) → AreItemsBehind front i items next → next ≤ m
    behind_last i raw_none next (inl only) = let at = only.1 in let last = byte_last i close_bracket refl only.0 in omega arith
    behind_last i raw_none next (inr further) = let at = further.2 in let last = byte_last (after_space front (i + 1)) close_bracket refl further.1 in omega arith
    behind_last i (raw_item span value more) next is = behind_last _ more next is.1.2

    entries_last : (i : ℕ) (entries : RawEntries) (next : ℕ) → AreEntries front i entries next → next ≤ m
    entries_last i raw_empty next is = let at = is.1 in let last = byte_last i close_brace refl is.0 in omega arith
    entries_last i (raw_entry keys span value more) next is = entries_behind_last _ more next is.2

    entries_behind_last : (i : ℕ) (entries : RawEntries) (next : ℕ) → AreEntriesBehind front i entries next → next ≤ m
    entries_behind_last i raw_empty next is = let at = is.1 in let last = byte_last i close_brace refl is.0 in omega arith
    entries_behind_last i (raw_entry keys span value more) next is = entries_behind_last _ more next is.1.2

  -- statements and lines

  statement_same : (i : ℕ) (s : Statement) (k : ℕ) → i ≤ m → IsStatement front i s k → (k ≤ m) × IsStatement text i s k
  statement_same i blank_line k le is = (omega (arith, is, le), is)
  statement_same i (pair keys span value) k le is =
      let last = value_last _ span value k is.3 in
      (last, pair_by i keys span value k (λ a b l v. value_same a span value b l v) last is)
  statement_same i (table_header span keys) k le is =
      let here = is.2 in
      let at = here.3 in
      let last = byte_last (after_blanks front here.0) close_bracket refl here.2 in
      let keys_go_on = keys_go front (after_blanks front (i + 1)) keys here.0 here.1 in
      let first = blanks_same (i + 1) (omega arith) in
      let blanks = blanks_same here.0 (omega arith) in (
        omega arith,
        (
          byte_of i open_bracket le is.0,
          no_byte (i + 1) open_bracket (omega arith) is.1,
          (
            here.0,
            subst (λ (j : ℕ). AreKeys text j keys here.0) first (keys_same (after_blanks front (i + 1)) keys here.0 (omega arith) here.1),
            subst (λ (j : ℕ). stands text j close_bracket ≡ true) blanks (byte_of (after_blanks front here.0) close_bracket (omega arith) here.2),
            here.3 ∙ ap (λ (j : ℕ). j + 1) blanks,
            here.4,
          ),
        ),
      )
  statement_same i (array_header span keys) k le is =
      let here = is.2 in
      let at = here.4 in
      let last = byte_last (after_blanks front here.0 + 1) close_bracket refl here.3 in
      let keys_go_on = keys_go front (after_blanks front (i + 2)) keys here.0 here.1 in
      let first = blanks_same (i + 2) (omega arith) in
      let blanks = blanks_same here.0 (omega arith) in (
        omega arith,
        (
          byte_of i open_bracket le is.0,
          byte_of (i + 1) open_bracket (omega arith) is.1,
          (
            here.0,
            subst (λ (j : ℕ). AreKeys text j keys here.0) first (keys_same (after_blanks front (i + 2)) keys here.0 (omega arith) here.1),
            subst (λ (j : ℕ). stands text j close_bracket ≡ true) blanks (byte_of (after_blanks front here.0) close_bracket (omega arith) here.2),
            subst (λ (j : ℕ). stands text (j + 1) close_bracket ≡ true) blanks (byte_of (after_blanks front here.0 + 1) close_bracket (omega arith) here.3),
            here.4 ∙ ap (λ (j : ℕ). j + 2) blanks,
            here.5,
          ),
        ),
      )

  -- a line of the front is one of the text
  pub line_spells_on : (i : ℕ) (s : Statement) (next : ℕ) → i ≤ m → IsLine front i s next → IsLine text i s next
  line_spells_on i s next le is =
      let place = blanks_same i le in
      let within = blanks_within i le in
      let first = subst (λ (j : ℕ). IsStatement front j s is.0) place is.1 in
      let statement = statement_same (after_blanks text i) s is.0 within first in
      (is.0, statement.1, sym (next_same is.0 statement.0) ∙ is.2)
