-- Runs counted byte by byte, and pieces of strings one after another.
use Rattle.std.proofs.Common.{◌≡◌, ℕ, zero, suc, ◌+◌, ◌-◌, ◌<◌, ◌≤◌, Bool, true, false, cond, eqb, nat_lt, min, length-drop, not, ◌||◌, ◌&&◌, List, [], ◌∷◌, ◌++◌, length, get_or, take, drop, Option, Some, None, is_some as option_is_some, Ok, Err, slice_get, true≢false, refl, ap, sym, subst, ◌∙◌, append_assoc, append-nil, drop-cons, arith, eqb-true}
use Rattle.std.proofs.Math.Seq.{take-add}
use Rattle.std.proofs.lemmas.Bool.Decides.{nat_tests}
use Rattle.std.proofs.lemmas.List.{drop-drop}
use Rattle.std.proofs.lemmas.List.Sums.{prefix_len-le-length}
use Rattle.std.proofs.lemmas.Option.{slice_get_past}
use Rattle.std.specs.List.{prefix_len, list_any}
use Rattle.std.specs.Str.{IsCharBoundary}
use Rattle.toml_subset.specs.Answer.{TomlReading, then_read}
use Rattle.toml_subset.specs.Bytes.{backslash, may_stand}
use Rattle.toml_subset.specs.Places.{front_is, from_to, passes_at, stands, behind_line_end}
use Rattle.toml_subset.specs.StringReading.{Pieces, after_part, part_fault, read_pieces, string_from}
use Rattle.toml_subset.specs.StringViews.{is_plain_part, IsPlainRun, pieces_after, IsStringRead}
use Rattle.toml_subset.specs.Strings.{Quoting, basic, literal, long_basic, long_literal, written_of, mark_of, is_long, has_escapes, marks_in_row, StringPiece, StringPart, piece, closing, broken, plain_piece, escape_at, mark_at, plain_at, part_at, pieces_text}
use Rattle.toml_subset.proofs.Runs.{byte_passes}
use Rattle.toml_subset.proofs.Law.Basics.{if_false}
use Rattle.toml_subset.proofs.Law.Forward.{piece_goes}
use Rattle.toml_subset.proofs.Law.Fronts.{false_from, passes_inside}
use Rattle.toml_subset.proofs.PlainStrings.{Stays, part_stays}

-- a further byte of a run
pub run_more : (p : ℕ → Bool) (text : List ℕ) (i : ℕ) → passes_at p text i ≡ true → prefix_len p (drop i text) ≡ 1 + prefix_len p (drop (i + 1) text)
run_more p text i h =
    let here = byte_passes p text i h in
    let next : suc i ≡ i + 1 = omega arith in
    ap (prefix_len p) (drop-cons text i 0 here.0) ∙ ap (λ b. cond b (1 + prefix_len p (drop (suc i) text)) 0) here.1 ∙ ap (λ k. 1 + prefix_len p (drop k text)) next

front_none : (p : ℕ → Bool) (s : List ℕ) → front_is p s ≡ false → prefix_len p s ≡ 0
front_none p [] h = refl
front_none p (c ∷ cs) h = ap (λ b. cond b (1 + prefix_len p cs) 0) h

pub run_over : (p : ℕ → Bool) (text : List ℕ) (i : ℕ) → passes_at p text i ≡ false → prefix_len p (drop i text) ≡ 0
run_over p text i h = front_none p (drop i text) h

-- what passes at a place is the byte there
pub passes_is : (p : ℕ → Bool) (text : List ℕ) (i : ℕ) → i < length text → passes_at p text i ≡ p (get_or text i 0)
passes_is p text i inside = ap (front_is p) (drop-cons text i 0 inside)

pub prefix_take : (p : ℕ → Bool) (n : ℕ) (s : List ℕ) → prefix_len p (take n s) ≡ min n (prefix_len p s)
prefix_take p zero s = omega arith
prefix_take p (suc n) [] = omega arith
prefix_take p (suc n) (c ∷ cs) =
    elim (p c) as (λ b. cond b (1 + prefix_len p (take n cs)) 0 ≡ min (suc n) (cond b (1 + prefix_len p cs) 0)) [
      | true ↦ let rest = prefix_take p n cs in omega arith
      | false ↦ omega arith
    ]

-- a part that is no plain piece begins with an ASCII byte, or is at the text's end

not_true : (b : Bool) → not b ≡ true → b ≡ false
not_true true h = absurd (true≢false (sym h))
not_true false h = refl

plain_of : (text : List ℕ) (i : ℕ) (q : StringPart) → Stays text i q → is_plain_part q ≡ true → (p : StringPiece) × (q ≡ piece p (i + 1)) × (p.means ≡ take 1 (drop i text)) × (p.escape ≡ false)
plain_of text i (piece p next) stays h =
    let plain : p.escape ≡ false = not_true p.escape h in
    let both = stays plain in
    (p, ap (piece p) both.0, both.1, plain)
plain_of text i (closing next) stays h = absurd (true≢false (sym h))
plain_of text i broken stays h = absurd (true≢false (sym h))

-- a plain piece is the byte at its place
pub plain_is : (kind : Quoting) (text : List ℕ) (i : ℕ) → is_plain_part (part_at kind text i) ≡ true
    → (p : StringPiece) × (part_at kind text i ≡ piece p (i + 1)) × (p.means ≡ take 1 (drop i text)) × (p.escape ≡ false)
plain_is kind text i h = plain_of text i (part_at kind text i) (part_stays kind text i) h

-- reading on

or_none : (b : Bool) → (b || false) ≡ b
or_none true = refl
or_none false = refl

or_assoc : (a b c : Bool) → (a || (b || c)) ≡ ((a || b) || c)
or_assoc true b c = refl
or_assoc false b c = refl

onto_piece : (before : List StringPiece) (p : StringPiece) (r : TomlReading Pieces)
    → then_read (pieces_after before) (then_read (λ (x : Pieces). Ok (p ∷ x.0, x.1, x.2)) r) ≡ then_read (pieces_after (before ++ p ∷ [])) r
onto_piece before p (Err fault) = refl
onto_piece before p (Ok r) = ap (λ (x : List StringPiece). Ok (x, r.1, r.2)) (sym (append_assoc before (p ∷ []) r.0))

text_of-append : (before : List StringPiece) (p : StringPiece) → pieces_text (before ++ p ∷ []) ≡ pieces_text before ++ p.means
text_of-append [] p = append-nil p.means
text_of-append (q ∷ qs) p = ap (λ x. q.means ++ x) (text_of-append qs p) ∙ sym (append_assoc q.means (pieces_text qs) p.means)

any-append : (before : List StringPiece) (p : StringPiece) → list_any (λ (x : StringPiece). x.escape) (before ++ p ∷ []) ≡ (list_any (λ (x : StringPiece). x.escape) before || p.escape)
any-append [] p = or_none p.escape
any-append (q ∷ qs) p = ap (λ x. q.escape || x) (any-append qs p) ∙ or_assoc q.escape (list_any (λ (x : StringPiece). x.escape) qs) p.escape

read_more : (kind : Quoting) (text : List ℕ) (first : ℕ) (means : List ℕ) (escaped : Bool) (i : ℕ) (p : StringPiece) (next left : ℕ) (is : IsStringRead kind text first means escaped i) → i ≤ length text
    → part_at kind text i ≡ piece p next → length text < i + left
    → read_pieces (suc (length text)) kind text first ≡ then_read (pieces_after is.before) (read_pieces left kind text i)
    → IsStringRead kind text first (means ++ p.means) (escaped || p.escape) next
read_more kind text first means escaped i p next zero is inside part room e = absurd (omega arith)
read_more kind text first means escaped i p next (suc n) is inside part room e = record {
  before = is.before ++ p ∷ [];
  left = n;
  room = let goes = piece_goes kind text i p next part in omega arith;
  is = e ∙ ap (λ (q : StringPart). then_read (pieces_after is.before) (after_part kind text i (read_pieces n kind text) q)) part ∙ onto_piece is.before p (read_pieces n kind text next);
  text_so_far = text_of-append is.before p ∙ ap (λ x. x ++ p.means) is.text_so_far;
  escapes_so_far = any-append is.before p ∙ ap (λ x. x || p.escape) is.escapes_so_far;
}

-- a further piece was read
pub read_piece : (kind : Quoting) (text : List ℕ) (first : ℕ) (means : List ℕ) (escaped : Bool) (i : ℕ) (p : StringPiece) (next : ℕ) → i ≤ length text
    → IsStringRead kind text first means escaped i → part_at kind text i ≡ piece p next → IsStringRead kind text first (means ++ p.means) (escaped || p.escape) next
read_piece kind text first means escaped i p next inside is part = read_more kind text first means escaped i p next is.left is inside part is.room is.is

onto_none : (r : TomlReading Pieces) → r ≡ then_read (pieces_after []) r
onto_none (Ok r) = refl
onto_none (Err fault) = refl

-- nothing was read
pub read_nothing : (kind : Quoting) (text : List ℕ) (first : ℕ) → IsStringRead kind text first [] false first
read_nothing kind text first = record {
  before = [];
  left = suc (length text);
  room = omega arith;
  is = onto_none (read_pieces (suc (length text)) kind text first);
  text_so_far = refl;
  escapes_so_far = refl;
}

drop_next : (i : ℕ) (s : List ℕ) → drop 1 (drop i s) ≡ drop (i + 1) s
drop_next i s = drop-drop 1 i s

-- the plain bytes up to a place were read
read_run_of : (n : ℕ) (kind : Quoting) (text : List ℕ) (first : ℕ) (means : List ℕ) (escaped : Bool) (i : ℕ) → i + n ≤ length text
    → IsStringRead kind text first means escaped i → ((k : ℕ) → i ≤ k → k < i + n → is_plain_part (part_at kind text k) ≡ true)
    → IsStringRead kind text first (means ++ take n (drop i text)) escaped (i + n)
read_run_of zero kind text first means escaped i inside is plain =
    let same : i ≡ i + 0 = omega arith in
    subst (λ k. IsStringRead kind text first (means ++ []) escaped k) same (subst (λ m. IsStringRead kind text first m escaped i) (sym (append-nil means)) is)
read_run_of (suc n) kind text first means escaped i inside is plain =
    let here = plain_is kind text i (plain i (omega arith) (omega arith)) in
    let one = read_piece kind text first means escaped i here.0 (i + 1) (omega arith) is here.1 in
    let kept : (escaped || here.0.escape) ≡ escaped = ap (λ b. escaped || b) here.3 ∙ or_none escaped in
    let start : IsStringRead kind text first (means ++ here.0.means) escaped (i + 1) = subst (λ b. IsStringRead kind text first (means ++ here.0.means) b (i + 1)) kept one in
    let rest = read_run_of n kind text first (means ++ here.0.means) escaped (i + 1) (omega arith) start (λ k from before. plain k (omega arith) (omega arith)) in
    let size : suc n ≡ 1 + n = omega arith in
    let whole : (means ++ here.0.means) ++ take n (drop (i + 1) text) ≡ means ++ take (suc n) (drop i text) =
    append_assoc means here.0.means (take n (drop (i + 1) text))
    ∙ ap (λ (x : List ℕ). means ++ (x ++ take n (drop (i + 1) text))) here.2
    ∙ ap (λ (x : List ℕ). means ++ (take 1 (drop i text) ++ take n x)) (sym (drop_next i text))
    ∙ ap (λ (x : List ℕ). means ++ x) (sym (take-add 1 n (drop i text))) ∙ ap (λ k. means ++ take k (drop i text)) (sym size) in
    let place : i + 1 + n ≡ i + suc n = omega arith in
    subst (λ k. IsStringRead kind text first (means ++ take (suc n) (drop i text)) escaped k) place
    (subst (λ m. IsStringRead kind text first m escaped (i + 1 + n)) whole rest)

pub read_run : (kind : Quoting) (text : List ℕ) (first : ℕ) (means : List ℕ) (escaped : Bool) (i j : ℕ) → j ≤ length text
    → IsStringRead kind text first means escaped i → IsPlainRun kind text i j → IsStringRead kind text first (means ++ take (j - i) (drop i text)) escaped j
read_run kind text first means escaped i j inside is run =
    let ordered = run.ordered in
    let back : i + (j - i) ≡ j = omega arith in
    subst (λ k. IsStringRead kind text first (means ++ take (j - i) (drop i text)) escaped k) back
    (read_run_of (j - i) kind text first means escaped i (omega arith) is (λ k from before. run.plain k from (omega arith)))

-- the string is closed, or broken

closed_by : (kind : Quoting) (text : List ℕ) (first : ℕ) (means : List ℕ) (escaped : Bool) (i next left : ℕ) (is : IsStringRead kind text first means escaped i) → i ≤ length text
    → part_at kind text i ≡ closing next → length text < i + left
    → read_pieces (suc (length text)) kind text first ≡ then_read (pieces_after is.before) (read_pieces left kind text i)
    → string_from text (kind, first) ≡ Ok (record { text = means; escaped = escaped }, from_to first i, next)
closed_by kind text first means escaped i next zero is inside part room e = absurd (omega arith)
closed_by kind text first means escaped i next (suc n) is inside part room e =
    ap (then_read (λ (r : Pieces). Ok (written_of r.0, from_to first r.1, r.2)))
    (e ∙ ap (λ (q : StringPart). then_read (pieces_after is.before) (after_part kind text i (read_pieces n kind text) q)) part)
    ∙ ap (λ (ps : List StringPiece). Ok (written_of ps, from_to first i, next)) (append-nil is.before)
    ∙ ap (λ (s : List ℕ). Ok (record { text = s; escaped = list_any (λ (p : StringPiece). p.escape) is.before }, from_to first i, next)) is.text_so_far
    ∙ ap (λ (b : Bool). Ok (record { text = means; escaped = b }, from_to first i, next)) is.escapes_so_far

pub string_closed : (kind : Quoting) (text : List ℕ) (first : ℕ) (means : List ℕ) (escaped : Bool) (i next : ℕ) → i ≤ length text
    → IsStringRead kind text first means escaped i → part_at kind text i ≡ closing next
    → string_from text (kind, first) ≡ Ok (record { text = means; escaped = escaped }, from_to first i, next)
string_closed kind text first means escaped i next inside is part = closed_by kind text first means escaped i next is.left is inside part is.room is.is

broken_by : (kind : Quoting) (text : List ℕ) (first : ℕ) (means : List ℕ) (escaped : Bool) (i left : ℕ) (is : IsStringRead kind text first means escaped i) → i ≤ length text
    → part_at kind text i ≡ broken → length text < i + left
    → read_pieces (suc (length text)) kind text first ≡ then_read (pieces_after is.before) (read_pieces left kind text i)
    → string_from text (kind, first) ≡ Err (part_fault kind text i)
broken_by kind text first means escaped i zero is inside part room e = absurd (omega arith)
broken_by kind text first means escaped i (suc n) is inside part room e =
    ap (then_read (λ (r : Pieces). Ok (written_of r.0, from_to first r.1, r.2)))
    (e ∙ ap (λ (q : StringPart). then_read (pieces_after is.before) (after_part kind text i (read_pieces n kind text) q)) part)

pub string_broken : (kind : Quoting) (text : List ℕ) (first : ℕ) (means : List ℕ) (escaped : Bool) (i : ℕ) → i ≤ length text
    → IsStringRead kind text first means escaped i → part_at kind text i ≡ broken → string_from text (kind, first) ≡ Err (part_fault kind text i)
string_broken kind text first means escaped i inside is part = broken_by kind text first means escaped i is.left is inside part is.room is.is

-- what is not plain

byte_there : (text : List ℕ) (i : ℕ) → i < length text → slice_get text i ≡ Some (get_or text i 0)
byte_there [] i inside = absurd (omega arith)
byte_there (x ∷ xs) zero inside = refl
byte_there (x ∷ xs) (suc i) inside = byte_there xs i (omega arith)

other_byte : (text : List ℕ) (i c : ℕ) → i < length text → 128 ≤ get_or text i 0 → c < 128 → stands text i c ≡ false
other_byte text i c inside high low =
    let differs : eqb (get_or text i 0) c ≡ false = grind (arith, nat_tests) in
    passes_is (λ b. eqb b c) text i inside ∙ differs

mark_ascii : (kind : Quoting) → mark_of kind < 128
mark_ascii basic = omega arith
mark_ascii literal = omega arith
mark_ascii long_basic = omega arith
mark_ascii long_literal = omega arith

and_no : (a b : Bool) → b ≡ false → (a && b) ≡ false
and_no true b h = h
and_no false b h = refl

may_high : (c : ℕ) → 128 ≤ c → may_stand c ≡ true
may_high c high = grind (arith, nat_tests)

abbrev plain_by : Quoting → List ℕ → ℕ → Option ℕ → StringPart
plain_by kind text i (Some c) = cond (may_stand c || (is_long kind && option_is_some (behind_line_end text i))) (plain_piece (c ∷ []) (i + 1)) broken
plain_by kind text i None = broken

plain_step : (kind : Quoting) (text : List ℕ) (i : ℕ) → plain_at kind text i ≡ plain_by kind text i (slice_get text i)
plain_step kind text i =
    elim (slice_get text i) as (λ o. elim o [
      | Some c ↦ cond (may_stand c || (is_long kind && option_is_some (behind_line_end text i))) (plain_piece (c ∷ []) (i + 1)) broken
      | None ↦ broken
    ] ≡ plain_by kind text i o) [ Some c ↦ refl | None ↦ refl ]

high_plain : (kind : Quoting) (text : List ℕ) (i : ℕ) → i < length text → 128 ≤ get_or text i 0 → is_plain_part (part_at kind text i) ≡ true
high_plain kind text i inside high =
    let c = get_or text i 0 in
    ap is_plain_part (
    if_false (stands text i (mark_of kind)) (mark_at kind text i) (cond (has_escapes kind && stands text i backslash) (escape_at kind text i) (plain_at kind text i))
    (other_byte text i (mark_of kind) inside high (mark_ascii kind))
    ∙ if_false (has_escapes kind && stands text i backslash) (escape_at kind text i) (plain_at kind text i)
    (and_no (has_escapes kind) (stands text i backslash) (other_byte text i backslash inside high (omega arith)))
    ∙ plain_step kind text i ∙ ap (plain_by kind text i) (byte_there text i inside)
    ∙ ap (λ b. cond (b || (is_long kind && option_is_some (behind_line_end text i))) (plain_piece (c ∷ []) (i + 1)) broken) (may_high c high)
    )

-- plain bytes end where a character begins
pub plain_border : (kind : Quoting) (text : List ℕ) (i : ℕ) → i ≤ length text → is_plain_part (part_at kind text i) ≡ false → IsCharBoundary text i
plain_border kind text i inside stops = (inside, λ within high. absurd (true≢false (sym (high_plain kind text i within high) ∙ stops)))

plain_by_broken : (kind : Quoting) (text : List ℕ) (i : ℕ) (o : Option ℕ) → is_plain_part (plain_by kind text i o) ≡ false → plain_by kind text i o ≡ broken
plain_by_broken kind text i None h = refl
plain_by_broken kind text i (Some c) h =
    elim (may_stand c || (is_long kind && option_is_some (behind_line_end text i))) as (λ b. is_plain_part (cond b (plain_piece (c ∷ []) (i + 1)) broken) ≡ false
    → cond b (plain_piece (c ∷ []) (i + 1)) broken ≡ broken) [
      | true ↦ λ e. absurd (true≢false e)
      | false ↦ λ e. refl
    ] h

-- no mark and no backslash, and not plain
pub broken_there : (kind : Quoting) (text : List ℕ) (i : ℕ) → stands text i (mark_of kind) ≡ false → (has_escapes kind && stands text i backslash) ≡ false
    → is_plain_part (part_at kind text i) ≡ false → part_at kind text i ≡ broken
broken_there kind text i mark escape h =
    let here : part_at kind text i ≡ plain_by kind text i (slice_get text i) =
    if_false (stands text i (mark_of kind)) (mark_at kind text i) (cond (has_escapes kind && stands text i backslash) (escape_at kind text i) (plain_at kind text i)) mark
    ∙ if_false (has_escapes kind && stands text i backslash) (escape_at kind text i) (plain_at kind text i) escape ∙ plain_step kind text i in
    here ∙ plain_by_broken kind text i (slice_get text i) (sym (ap is_plain_part here) ∙ h)

stands_out : (p : ℕ → Bool) (text : List ℕ) (i : ℕ) → length text ≤ i → passes_at p text i ≡ false
stands_out p text i past = false_from (passes_at p text i) (λ h. let inside = passes_inside p text i h in absurd (omega arith))

end_broken : (kind : Quoting) (text : List ℕ) (i : ℕ) → length text ≤ i → part_at kind text i ≡ broken
end_broken kind text i past =
    if_false (stands text i (mark_of kind)) (mark_at kind text i) (cond (has_escapes kind && stands text i backslash) (escape_at kind text i) (plain_at kind text i))
    (stands_out (λ b. eqb b (mark_of kind)) text i past)
    ∙ if_false (has_escapes kind && stands text i backslash) (escape_at kind text i) (plain_at kind text i)
    (and_no (has_escapes kind) (stands text i backslash) (stands_out (λ b. eqb b backslash) text i past))
    ∙ plain_step kind text i ∙ ap (plain_by kind text i) (slice_get_past text i past)

-- a plain byte is in the text
pub plain_inside : (kind : Quoting) (text : List ℕ) (i : ℕ) → is_plain_part (part_at kind text i) ≡ true → i < length text
plain_inside kind text i h =
    elim (nat_lt i (length text)) as (λ b. nat_lt i (length text) ≡ b → i < length text) [
      | true ↦ λ is. grind (arith, nat_tests)
      | false ↦ λ is. let past : length text ≤ i = grind (arith, nat_tests) in absurd (true≢false (sym h ∙ ap is_plain_part (end_broken kind text i past)))
    ] refl

-- a further plain byte
pub run_extended : (kind : Quoting) (text : List ℕ) (i j : ℕ) → IsPlainRun kind text i j → is_plain_part (part_at kind text j) ≡ true → IsPlainRun kind text i (j + 1)
run_extended kind text i j run h =
    let ordered = run.ordered in
    record {
      ordered = omega arith;
      plain = λ k from before.
          elim (eqb k j) as (λ b. eqb k j ≡ b → is_plain_part (part_at kind text k) ≡ true) [
            | true ↦ λ is. subst (λ x. is_plain_part (part_at kind text x) ≡ true) (sym (eqb-true k j is)) h
            | false ↦ λ is. let less : k < j = grind (arith, nat_tests) in run.plain k from less
          ] refl;
    }

-- marks are in the text
pub marks_inside : (mark : ℕ) (text : List ℕ) (i : ℕ) → i ≤ length text → i + marks_in_row mark text i ≤ length text
marks_inside mark text i inside = let least = prefix_len-le-length (λ c. eqb c mark) (drop i text) in let rest = length-drop i text in omega arith
