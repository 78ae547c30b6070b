-- What is at a place ends behind it.
use Rattle.std.proofs.Common.{◌≡◌, ℕ, zero, suc, ◌+◌, ◌<◌, ◌≤◌, ◌⊎◌, inl, inr, ⊎_elim, Bool, true, false, cond, eqb, ◌&&◌, ◌||◌, nat_le, List, [], ◌∷◌, length, take, drop, Option, Some, None, is_some as option_is_some, unwrap_or, slice_get, refl, subst, eqb-true, arith}
use Rattle.deny_text.specs.declared.span.Span.{Span}
use Rattle.toml_subset.specs.Bytes.{quote, apostrophe, backslash, may_stand, is_run, begins_run, line_feed, carriage_return, hash}
use Rattle.toml_subset.specs.Keys.{IsKey, AreKeys}
use Rattle.toml_subset.specs.Lines.{Statement, AreLines}
use Rattle.toml_subset.specs.Numbers.{Class, is_special}
use Rattle.toml_subset.specs.Places.{passes_at, stands, run_end, run_at, after_blanks, after_comment, after_blanks_and_comment, lines_over, after_lines_of, after_white, after_space, behind_line_end, next_line}
use Rattle.toml_subset.specs.Raw.{Raw, RawItems, RawEntries, raw_text, raw_integer, raw_decimal, raw_boolean, raw_array, raw_table, raw_none, raw_item, raw_empty, raw_entry, IsNumber, IsValue, AreItems, AreItemsBehind, AreEntries, AreEntriesBehind, IsWord}
use Rattle.toml_subset.specs.Strings.{Quoting, basic, literal, long_basic, long_literal, StringPiece, StringPart, piece, closing, broken, mark_of, is_long, has_escapes, marks_in_row, opening, opening_of, scalar_of, letter_escape, escaped_piece, plain_piece, scalar_escape, trimming_escape, escape_by, escape_at, mark_at, plain_at, part_at, ArePieces, IsString}
use Rattle.toml_subset.specs.Written.{WrittenString}
use Rattle.toml_subset.specs.declared.string.Key.{Key}
use Rattle.toml_subset.proofs.NumberRuns.{begins_some, or_left}

-- line ends

abbrev pub Past : ℕ → Option ℕ → Type 0
Past i (Some k) = i < k
Past i None = Unit {0}

past_if : (b : Bool) (i : ℕ) (x y : Option ℕ) → Past i x → Past i y → Past i (cond b x y)
past_if true i x y p q = p
past_if false i x y p q = q

pub line_end_past : (text : List ℕ) (i : ℕ) → Past i (behind_line_end text i)
line_end_past text i =
    past_if (stands text i line_feed) i (Some (i + 1)) _ (omega arith)
    (past_if (stands text i carriage_return && stands text (i + 1) line_feed) i (Some (i + 2)) None (omega arith) tt)

past_or : (i : ℕ) (o : Option ℕ) → Past i o → i ≤ unwrap_or o i
past_or i (Some k) p = omega arith
past_or i None p = omega arith

comment_goes_if : (b : Bool) (text : List ℕ) (i : ℕ) → i ≤ cond b (run_end may_stand text (i + 1)) i
comment_goes_if true text i = omega arith
comment_goes_if false text i = omega arith

pub comment_goes : (text : List ℕ) (i : ℕ) → i ≤ after_blanks_and_comment text i
comment_goes text i = let comment = comment_goes_if (stands text (after_blanks text i) hash) text (after_blanks text i) in omega arith

lines_go_by : (over : List ℕ → ℕ → ℕ) (text : List ℕ) (i j : ℕ) (rest : ℕ → ℕ) → i ≤ j → ((k : ℕ) → k ≤ rest k) → (o : Option ℕ) → Past j o
    → i ≤ elim o [ Some next ↦ rest next | None ↦ i ]
lines_go_by over text i j rest le goes (Some next) past = let further = goes next in omega arith
lines_go_by over text i j rest le goes None past = omega arith

lines_go : (over : List ℕ → ℕ → ℕ) (text : List ℕ) → ((k : ℕ) → k ≤ over text k) → (n i : ℕ) → i ≤ lines_over over n text i
lines_go over text goes zero i = omega arith
lines_go over text goes (suc n) i =
    lines_go_by over text i (over text i) (lines_over over n text) (goes i) (lines_go over text goes n) (behind_line_end text (over text i)) (line_end_past text (over text i))

pub white_goes : (text : List ℕ) (i : ℕ) → i ≤ after_white text i
white_goes text i = let lines = lines_go after_blanks text (λ k. omega arith) (length text) i in omega arith

pub space_goes : (text : List ℕ) (i : ℕ) → i ≤ after_space text i
space_goes text i =
    let lines = lines_go after_blanks_and_comment text (comment_goes text) (length text) i in
    let behind = comment_goes text (after_lines_of after_blanks_and_comment text i) in
    omega arith

-- parts of strings

abbrev Goes : ℕ → StringPart → Type 0
Goes i (piece p k) = i < k
Goes i (closing k) = i < k
Goes i broken = Unit {0}

goes_if : (b : Bool) (i : ℕ) (x y : StringPart) → Goes i x → Goes i y → Goes i (cond b x y)
goes_if true i x y p q = p
goes_if false i x y p q = q

scalar_goes : (digits : ℕ) (text : List ℕ) (i : ℕ) → Goes i (scalar_escape digits text i)
scalar_goes digits text i =
    elim (scalar_of digits (take digits (drop (i + 2) text))) as (λ o. Goes i (elim o [ Some bytes ↦ escaped_piece bytes (i + 2 + digits) | None ↦ broken ])) [
      | Some bytes ↦ omega arith
      | None ↦ tt
    ]

trimming_goes : (kind : Quoting) (text : List ℕ) (i : ℕ) → Goes i (trimming_escape kind text i)
trimming_goes kind text i =
    goes_if (is_long kind && option_is_some (behind_line_end text (after_blanks text (i + 1)))) i (escaped_piece [] (after_white text (i + 1))) broken
    (let white = white_goes text (i + 1) in omega arith) tt

escape_goes : (kind : Quoting) (text : List ℕ) (i c : ℕ) → Goes i (escape_by kind text i c)
escape_goes kind text i c =
    goes_if (eqb c 117) i _ _ (scalar_goes 4 text i)
    (goes_if (eqb c 85) i _ _ (scalar_goes 8 text i)
    (elim (letter_escape c) as (λ o. Goes i (elim o [ Some byte ↦ escaped_piece (byte ∷ []) (i + 2) | None ↦ trimming_escape kind text i ])) [
      | Some byte ↦ omega arith
      | None ↦ trimming_goes kind text i
    ]))

escape_at_goes : (kind : Quoting) (text : List ℕ) (i : ℕ) → Goes i (escape_at kind text i)
escape_at_goes kind text i =
    elim (slice_get text (i + 1)) as (λ o. Goes i (elim o [ Some c ↦ escape_by kind text i c | None ↦ broken ])) [
      | Some c ↦ escape_goes kind text i c
      | None ↦ tt
    ]

mark_goes : (kind : Quoting) (text : List ℕ) (i : ℕ) → Goes i (mark_at kind text i)
mark_goes kind text i =
    goes_if (is_long kind) i _ _
    (goes_if (eqb (marks_in_row (mark_of kind) text i) 3) i _ _ (omega arith)
    (goes_if (nat_le (marks_in_row (mark_of kind) text i) 5) i (plain_piece (mark_of kind ∷ []) (i + 1)) broken (omega arith) tt))
    (omega arith)

plain_goes : (kind : Quoting) (text : List ℕ) (i : ℕ) → Goes i (plain_at kind text i)
plain_goes kind text i =
    elim (slice_get text i) as (λ o. Goes i (elim o [
      | Some c ↦ cond (may_stand c || (is_long kind && option_is_some (behind_line_end text i))) (plain_piece (c ∷ []) (i + 1)) broken
      | None ↦ broken
    ])) [
      | Some c ↦ goes_if (may_stand c || (is_long kind && option_is_some (behind_line_end text i))) i (plain_piece (c ∷ []) (i + 1)) broken (omega arith) tt
      | None ↦ tt
    ]

pub part_goes : (kind : Quoting) (text : List ℕ) (i : ℕ) → Goes i (part_at kind text i)
part_goes kind text i =
    goes_if (stands text i (mark_of kind)) i _ _ (mark_goes kind text i)
    (goes_if (has_escapes kind && stands text i backslash) i _ _ (escape_at_goes kind text i) (plain_goes kind text i))

pub piece_goes : (kind : Quoting) (text : List ℕ) (i : ℕ) (p : StringPiece) (k : ℕ) → part_at kind text i ≡ piece p k → i < k
piece_goes kind text i p k e = subst (Goes i) e (part_goes kind text i)

pub closing_goes : (kind : Quoting) (text : List ℕ) (i k : ℕ) → part_at kind text i ≡ closing k → i < k
closing_goes kind text i k e = subst (Goes i) e (part_goes kind text i)

pub pieces_go : (kind : Quoting) (text : List ℕ) (i : ℕ) (ps : List StringPiece) (close next : ℕ) → ArePieces kind text i ps close next → i < next
pieces_go kind text i [] close next is = closing_goes kind text i next is.0
pieces_go kind text i (p ∷ ps) close next is =
    let first = piece_goes kind text i p is.0 is.1 in
    let rest = pieces_go kind text is.0 ps close next is.2 in
    omega arith

-- strings and keys

pair_if : (b : Bool) (i : ℕ) (x y : Quoting × ℕ) → i < x.1 → i < y.1 → i < (cond b x y).1
pair_if true i x y p q = p
pair_if false i x y p q = q

opening_of_goes : (short long : Quoting) (mark : ℕ) (text : List ℕ) (i : ℕ) → i < (opening_of short long mark text i).1
opening_of_goes short long mark text i =
    let past = past_or (i + 3) (behind_line_end text (i + 3)) (line_end_past text (i + 3)) in
    pair_if (nat_le 3 (marks_in_row mark text i)) i (long, unwrap_or (behind_line_end text (i + 3)) (i + 3)) (short, i + 1) (omega arith) (omega arith)

opens_goes : (a b : Bool) (i : ℕ) (x y r : Quoting × ℕ) → i < x.1 → i < y.1 → cond a (Some x) (cond b (Some y) None) ≡ Some r → i < r.1
opens_goes true b i x y r p q e = let same : x ≡ r = cc in subst (λ (z : Quoting × ℕ). i < z.1) same p
opens_goes false true i x y r p q e = let same : y ≡ r = cc in subst (λ (z : Quoting × ℕ). i < z.1) same q
opens_goes false false i x y r p q e = absurd (cc)

pub opening_goes : (text : List ℕ) (i : ℕ) (r : Quoting × ℕ) → opening text i ≡ Some r → i < r.1
opening_goes text i r e =
    opens_goes (stands text i quote) (stands text i apostrophe) i (opening_of basic long_basic quote text i) (opening_of literal long_literal apostrophe text i) r
    (opening_of_goes basic long_basic quote text i) (opening_of_goes literal long_literal apostrophe text i) e

pub string_goes : (text : List ℕ) (i : ℕ) (kind : Quoting) (w : WrittenString) (span : Span) (next : ℕ) → IsString text i kind w span next → i < next
string_goes text i kind w span next is =
    let opens = opening_goes text i (kind, is.first) is.opens in
    let body = pieces_go kind text is.first is.pieces is.close next is.body in
    omega arith

pub key_goes : (text : List ℕ) (i : ℕ) (key : Key) (next : ℕ) → IsKey text i key next → i < next
key_goes text i key next (inl bare) = bare.some
key_goes text i key next (inr (inl is)) = string_goes text i basic key.name key.span next is
key_goes text i key next (inr (inr is)) = string_goes text i literal key.name key.span next is

pub keys_go : (text : List ℕ) (i : ℕ) (keys : List Key) (next : ℕ) → AreKeys text i keys next → i < next
keys_go text i [] next is = absurd is
keys_go text i (key ∷ more) next is =
    let first = key_goes text i key is.0 is.1 in
    ⊎_elim (λ dotted. let rest = keys_go text (after_blanks text (after_blanks text is.0 + 1)) more next dotted.1 in omega arith)
    (λ last. let ends = last.2 in omega arith) is.2

-- values

pub number_goes : (text : List ℕ) (i : ℕ) (class : Class) (span : Span) (next : ℕ) → IsNumber text i class span next → i < next
number_goes text i class span next is =
    let some = begins_some text i (or_left (passes_at begins_run text i) (is_special (run_at is_run text i)) is.begins) in
    let ends = is.ends in
    omega arith

word_goes : (text : List ℕ) (i : ℕ) (b : Bool) (span : Span) (next : ℕ) → IsWord text i b span next → i < next
word_goes text i true span next is = let ends = is.ends in omega arith
word_goes text i false span next is = let ends = is.ends in omega arith

mutual
  pub value_goes : (text : List ℕ) (i : ℕ) (span : Span) (raw : Raw) (next : ℕ) → IsValue text i span raw next → i < next
  value_goes text i span (raw_text w) next is = string_goes text i is.0 w span next is.1
  value_goes text i span (raw_integer z) next is = number_goes text i _ span next is
  value_goes text i span (raw_decimal z) next is = number_goes text i _ span next is
  value_goes text i span (raw_boolean b) next is = word_goes text i b span next is
  value_goes text i span (raw_array items) next is =
      let rest = items_go text _ items next is.1 in
      let space = space_goes text (i + 1) in
      omega arith
  value_goes text i span (raw_table entries) next is = let rest = entries_go text _ entries next is.1 in omega arith

  pub items_go : (text : List ℕ) (i : ℕ) (items : RawItems) (next : ℕ) → AreItems text i items next → i < next
  items_go text i raw_none next is = let ends = is.1 in omega arith
  items_go text i (raw_item span value more) next is =
      let first = value_goes text i span value is.0 is.1 in
      let rest = behind_goes text _ more next is.2 in
      let space = space_goes text is.0 in
      omega arith

  pub behind_goes : (text : List ℕ) (i : ℕ) (items : RawItems) (next : ℕ) → AreItemsBehind text i items next → i < next
  behind_goes text i raw_none next is =
      ⊎_elim (λ last. let ends = last.1 in omega arith) (λ last. let ends = last.2 in let space = space_goes text (i + 1) in omega arith) is
  behind_goes text i (raw_item span value more) next is =
      let first = value_goes text _ span value is.1.0 is.1.1 in
      let rest = behind_goes text _ more next is.1.2 in
      let space = space_goes text (i + 1) in
      let further = space_goes text is.1.0 in
      omega arith

  pub entries_go : (text : List ℕ) (i : ℕ) (entries : RawEntries) (next : ℕ) → AreEntries text i entries next → i < next
  entries_go text i raw_empty next is = let ends = is.1 in omega arith
  entries_go text i (raw_entry keys span value more) next is =
      let key = keys_go text i keys is.1.0 is.1.1 in
      let first = value_goes text _ span value is.0 is.1.3 in
      let rest = entries_behind_go text _ more next is.2 in
      omega arith

  pub entries_behind_go : (text : List ℕ) (i : ℕ) (entries : RawEntries) (next : ℕ) → AreEntriesBehind text i entries next → i < next
  entries_behind_go text i raw_empty next is = let ends = is.1 in omega arith
  entries_behind_go text i (raw_entry keys span value more) next is =
      let key = keys_go text _ keys is.1.1.0 is.1.1.1 in
      let first = value_goes text _ span value is.1.0 is.1.1.3 in
      let rest = entries_behind_go text _ more next is.1.2 in
      omega arith

-- lines

abbrev Ends : List ℕ → ℕ → Option ℕ → Type 0
Ends text i (Some k) = (i < k) ⊎ ((k ≡ length text) × (i ≤ k))
Ends text i None = Unit {0}

ends_from : (text : List ℕ) (i j : ℕ) (o : Option ℕ) → i ≤ j → Past j o → Ends text i o
ends_from text i j (Some k) le p = inl (omega arith)
ends_from text i j None le p = tt

ends_if : (b : Bool) (text : List ℕ) (i j : ℕ) → i ≤ j → eqb j (length text) ≡ b → Ends text i (cond b (Some j) (behind_line_end text j))
ends_if true text i j le e = let at = eqb-true j (length text) e in inr (at, le)
ends_if false text i j le e = ends_from text i j (behind_line_end text j) le (line_end_past text j)

pub next_line_goes : (text : List ℕ) (i : ℕ) (next : ℕ) → next_line text i ≡ Some next → (i < next) ⊎ ((next ≡ length text) × (i ≤ next))
next_line_goes text i next e =
    let j = after_comment text (after_blanks text i) in
    let comment = comment_goes_if (stands text (after_blanks text i) hash) text (after_blanks text i) in
    subst (Ends text i) e (ends_if (eqb j (length text)) text i j (omega arith) refl)

pub lines_inside : (text : List ℕ) (i : ℕ) (lines : List Statement) → AreLines text i lines → i ≤ length text
lines_inside text i [] is = omega arith
lines_inside text i (s ∷ more) is = let inside = is.0 in omega arith
