-- A value that is in a text ends in it.
use Rattle.std.proofs.Common.{◌≡◌, ℕ, zero, suc, ◌+◌, ◌≤◌, inl, inr, Bool, true, false, cond, eqb, nat_le, ◌&&◌, ◌||◌, List, [], ◌∷◌, length, take, drop, Some, None, is_some as option_is_some, slice_get, refl, ap, subst, arith, length-drop, eqb-true}
use Rattle.std.proofs.lemmas.List.Sums.{prefix_len-le-length}
use Rattle.deny_text.specs.declared.span.Span.{Span}
use Rattle.toml_subset.specs.Bytes.{backslash, close_bracket, close_brace, begins_run, is_run, may_stand}
use Rattle.toml_subset.specs.Places.{stands, after_blanks, after_white, after_space, behind_line_end}
use Rattle.toml_subset.specs.Raw.{Raw, RawItems, RawEntries, raw_text, raw_integer, raw_decimal, raw_boolean, raw_array, raw_table, raw_none, raw_item, raw_empty, raw_entry, IsNumber, IsWord, IsValue, AreItems, AreItemsBehind, AreEntries, AreEntriesBehind, word_of}
use Rattle.toml_subset.specs.Numbers.{Class}
use Rattle.toml_subset.specs.Strings.{Quoting, StringPiece, StringPart, piece, closing, broken, mark_of, is_long, has_escapes, marks_in_row, scalar_of, letter_escape, escaped_piece, plain_piece, scalar_escape, trimming_escape, escape_by, escape_at, mark_at, plain_at, part_at, ArePieces}
use Rattle.toml_subset.proofs.Law.Fronts.{passes_inside}

-- strings

abbrev ClosesIn : List ℕ → StringPart → Type 0
ClosesIn text (piece p k) = Unit {0}
ClosesIn text (closing k) = k ≤ length text
ClosesIn text broken = Unit {0}

in_if : (b : Bool) (text : List ℕ) (x y : StringPart) → (b ≡ true → ClosesIn text x) → ClosesIn text y → ClosesIn text (cond b x y)
in_if true text x y p q = p refl
in_if false text x y p q = q

scalar_in : (digits : ℕ) (text : List ℕ) (i : ℕ) → ClosesIn text (scalar_escape digits text i)
scalar_in digits text i =
    elim (scalar_of digits (take digits (drop (i + 2) text))) as (λ o. ClosesIn text (elim o [ Some bytes ↦ escaped_piece bytes (i + 2 + digits) | None ↦ broken ])) [
      | Some bytes ↦ tt
      | None ↦ tt
    ]

trimming_in : (kind : Quoting) (text : List ℕ) (i : ℕ) → ClosesIn text (trimming_escape kind text i)
trimming_in kind text i =
    in_if (is_long kind && option_is_some (behind_line_end text (after_blanks text (i + 1)))) text (escaped_piece [] (after_white text (i + 1))) broken (λ h. tt) tt

escape_in : (kind : Quoting) (text : List ℕ) (i c : ℕ) → ClosesIn text (escape_by kind text i c)
escape_in kind text i c =
    in_if (eqb c 117) text _ _ (λ h. scalar_in 4 text i)
    (in_if (eqb c 85) text _ _ (λ h. scalar_in 8 text i)
    (elim (letter_escape c) as (λ o. ClosesIn text (elim o [ Some byte ↦ escaped_piece (byte ∷ []) (i + 2) | None ↦ trimming_escape kind text i ])) [
      | Some byte ↦ tt
      | None ↦ trimming_in kind text i
    ]))

escape_at_in : (kind : Quoting) (text : List ℕ) (i : ℕ) → ClosesIn text (escape_at kind text i)
escape_at_in kind text i =
    elim (slice_get text (i + 1)) as (λ o. ClosesIn text (elim o [ Some c ↦ escape_by kind text i c | None ↦ broken ])) [
      | Some c ↦ escape_in kind text i c
      | None ↦ tt
    ]

mark_in : (kind : Quoting) (text : List ℕ) (i : ℕ) → stands text i (mark_of kind) ≡ true → ClosesIn text (mark_at kind text i)
mark_in kind text i h =
    let inside = passes_inside (λ b. eqb b (mark_of kind)) text i h in
    in_if (is_long kind) text _ _
    (λ long.
    in_if (eqb (marks_in_row (mark_of kind) text i) 3) text _ _
    (λ three.
    let count = eqb-true (marks_in_row (mark_of kind) text i) 3 three in
    let least = prefix_len-le-length (λ c. eqb c (mark_of kind)) (drop i text) in
    let rest = length-drop i text in
    omega arith)
    (in_if (nat_le (marks_in_row (mark_of kind) text i) 5) text (plain_piece (mark_of kind ∷ []) (i + 1)) broken (λ few. tt) tt))
    (omega arith)

plain_in : (kind : Quoting) (text : List ℕ) (i : ℕ) → ClosesIn text (plain_at kind text i)
plain_in kind text i =
    elim (slice_get text i) as (λ o. ClosesIn text (elim o [
      | Some c ↦ cond (may_stand c || (is_long kind && option_is_some (behind_line_end text i))) (plain_piece (c ∷ []) (i + 1)) broken
      | None ↦ broken
    ])) [
      | Some c ↦ in_if (may_stand c || (is_long kind && option_is_some (behind_line_end text i))) text (plain_piece (c ∷ []) (i + 1)) broken (λ h. tt) tt
      | None ↦ tt
    ]

part_in : (kind : Quoting) (text : List ℕ) (i : ℕ) → ClosesIn text (part_at kind text i)
part_in kind text i =
    in_if (stands text i (mark_of kind)) text _ _ (mark_in kind text i)
    (in_if (has_escapes kind && stands text i backslash) text _ _ (λ h. escape_at_in kind text i) (plain_in kind text i))

pub pieces_in : (kind : Quoting) (text : List ℕ) (i : ℕ) (ps : List StringPiece) (close next : ℕ) → ArePieces kind text i ps close next → next ≤ length text
pieces_in kind text i [] close next is = subst (ClosesIn text) is.0 (part_in kind text i)
pieces_in kind text i (p ∷ ps) close next is = pieces_in kind text is.0 ps close next is.2

-- numbers and words

number_in : (text : List ℕ) (i : ℕ) (class : Class) (span : Span) (next : ℕ) → IsNumber text i class span next → next ≤ length text
number_in text i class span next is =
    let inside = passes_inside begins_run text i is.begins in
    let ends = is.ends in
    let least = prefix_len-le-length is_run (drop i text) in
    let rest = length-drop i text in
    omega arith

pub take_within : (n : ℕ) (s : List ℕ) → length (take n s) ≤ length s
take_within zero s = omega arith
take_within (suc n) [] = omega arith
take_within (suc n) (c ∷ cs) = let rest = take_within n cs in omega arith

word_in : (text : List ℕ) (i : ℕ) (b : Bool) (span : Span) (next : ℕ) → IsWord text i b span next → next ≤ length text
word_in text i true span next is =
    let ends = is.ends in
    let whole = ap length is.is in
    let least = take_within (length (word_of true)) (drop i text) in
    let rest = length-drop i text in
    omega arith
word_in text i false span next is =
    let ends = is.ends in
    let whole = ap length is.is in
    let least = take_within (length (word_of false)) (drop i text) in
    let rest = length-drop i text in
    omega arith

-- values

byte_in : (text : List ℕ) (i c : ℕ) → stands text i c ≡ true → i + 1 ≤ length text
byte_in text i c h = let inside = passes_inside (λ b. eqb b c) text i h in omega arith

mutual
  pub value_in : (text : List ℕ) (i : ℕ) (span : Span) (raw : Raw) (next : ℕ) → IsValue text i span raw next → next ≤ length text
  value_in text i span (raw_text w) next is = pieces_in is.0 text is.1.first is.1.pieces is.1.close next is.1.body
  value_in text i span (raw_integer z) next is = number_in text i _ span next is
  value_in text i span (raw_decimal z) next is = number_in text i _ span next is
  value_in text i span (raw_boolean b) next is = word_in text i b span next is
  value_in text i span (raw_array items) next is = items_in text _ items next is.1
  value_in text i span (raw_table entries) next is = entries_in text _ entries next is.1

  items_in : (text : List ℕ) (i : ℕ) (items : RawItems) (next : ℕ) → AreItems text i items next → next ≤ length text
  items_in text i raw_none next is = let ends = is.1 in let inside = byte_in text i close_bracket is.0 in omega arith
  items_in text i (raw_item span value more) next is = behind_in text _ more next is.2

  behind_in : (text : List ℕ) (i : ℕ) (items : RawItems) (next : ℕ) → AreItemsBehind text i items next → next ≤ length text
  behind_in text i raw_none next (inl only) = let ends = only.1 in let inside = byte_in text i close_bracket only.0 in omega arith
  behind_in text i raw_none next (inr further) =
      let ends = further.2 in let inside = byte_in text (after_space text (i + 1)) close_bracket further.1 in omega arith
  behind_in text i (raw_item span value more) next is = behind_in text _ more next is.1.2

  entries_in : (text : List ℕ) (i : ℕ) (entries : RawEntries) (next : ℕ) → AreEntries text i entries next → next ≤ length text
  entries_in text i raw_empty next is = let ends = is.1 in let inside = byte_in text i close_brace is.0 in omega arith
  entries_in text i (raw_entry keys span value more) next is = entries_behind_in text _ more next is.2

  entries_behind_in : (text : List ℕ) (i : ℕ) (entries : RawEntries) (next : ℕ) → AreEntriesBehind text i entries next → next ≤ length text
  entries_behind_in text i raw_empty next is = let ends = is.1 in let inside = byte_in text i close_brace is.0 in omega arith
  entries_behind_in text i (raw_entry keys span value more) next is = entries_behind_in text _ more next is.1.2
