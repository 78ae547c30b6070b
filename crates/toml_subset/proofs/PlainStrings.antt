-- A string with no escape is in the text as it is meant.
use Rattle.std.proofs.Common.{◌≡◌, ℕ, zero, suc, ◌+◌, ◌-◌, ◌≤◌, Bool, true, false, cond, eqb, ◌&&◌, ◌||◌, nat_le, List, [], ◌∷◌, ◌++◌, take, drop, Some, None, is_some, slice_get, slice_range, true≢false, refl, ap, sym, subst, ◌∙◌, eqb-true, arith}
use Rattle.std.proofs.Math.Seq.{take-add}
use Rattle.std.proofs.lemmas.List.{drop-drop}
use Rattle.std.specs.List.{list_any}
use Rattle.deny_text.specs.declared.span.Span.{Span}
use Rattle.toml_subset.specs.Bytes.{backslash, may_stand}
use Rattle.toml_subset.specs.Places.{front_is, stands, behind_line_end, after_blanks, after_white}
use Rattle.toml_subset.specs.Strings.{Quoting, StringPiece, StringPart, piece, closing, broken, mark_of, is_long, has_escapes, marks_in_row, scalar_of, letter_escape, escaped_piece, plain_piece, scalar_escape, trimming_escape, escape_by, escape_at, mark_at, plain_at, part_at, ArePieces, IsString, pieces_text}
use Rattle.toml_subset.specs.Written.{WrittenString}

-- a piece that is no escape is the byte at its place
abbrev pub Stays : List ℕ → ℕ → StringPart → Type 0
Stays text i (piece p k) = p.escape ≡ false → (k ≡ i + 1) × (p.means ≡ take 1 (drop i text))
Stays text i (closing k) = Unit {0}
Stays text i broken = Unit {0}

stays_if : (b : Bool) (text : List ℕ) (i : ℕ) (x y : StringPart) → (b ≡ true → Stays text i x) → Stays text i y → Stays text i (cond b x y)
stays_if true text i x y p q = p refl
stays_if false text i x y p q = q

front_byte : (c : ℕ) (s : List ℕ) → front_is (λ b. eqb b c) s ≡ true → c ∷ [] ≡ take 1 s
front_byte c [] h = absurd (true≢false (sym h))
front_byte c (b ∷ bs) h = ap (λ x. x ∷ []) (sym (eqb-true b c h))

byte_taken : (text : List ℕ) (i c : ℕ) → slice_get text i ≡ Some c → c ∷ [] ≡ take 1 (drop i text)
byte_taken [] i c h = absurd (cc)
byte_taken (x ∷ xs) zero c h = let same : c ≡ x = cc in ap (λ y. y ∷ []) same
byte_taken (x ∷ xs) (suc i) c h = byte_taken xs i c h

escape_stays : (text : List ℕ) (i : ℕ) (means : List ℕ) (next : ℕ) → Stays text i (escaped_piece means next)
escape_stays text i means next plain = absurd (true≢false plain)

scalar_stays : (digits : ℕ) (text : List ℕ) (i : ℕ) → Stays text i (scalar_escape digits text i)
scalar_stays digits text i =
    elim (scalar_of digits (take digits (drop (i + 2) text))) as (λ o. Stays text i (elim o [ Some bytes ↦ escaped_piece bytes (i + 2 + digits) | None ↦ broken ])) [
      | Some bytes ↦ escape_stays text i bytes (i + 2 + digits)
      | None ↦ tt
    ]

trimming_stays : (kind : Quoting) (text : List ℕ) (i : ℕ) → Stays text i (trimming_escape kind text i)
trimming_stays kind text i =
    stays_if (is_long kind && is_some (behind_line_end text (after_blanks text (i + 1)))) text i (escaped_piece [] (after_white text (i + 1))) broken
    (λ h. escape_stays text i [] (after_white text (i + 1))) tt

escape_by_stays : (kind : Quoting) (text : List ℕ) (i c : ℕ) → Stays text i (escape_by kind text i c)
escape_by_stays kind text i c =
    stays_if (eqb c 117) text i _ _ (λ h. scalar_stays 4 text i)
    (stays_if (eqb c 85) text i _ _ (λ h. scalar_stays 8 text i)
    (elim (letter_escape c) as (λ o. Stays text i (elim o [ Some byte ↦ escaped_piece (byte ∷ []) (i + 2) | None ↦ trimming_escape kind text i ])) [
      | Some byte ↦ escape_stays text i (byte ∷ []) (i + 2)
      | None ↦ trimming_stays kind text i
    ]))

escape_at_stays : (kind : Quoting) (text : List ℕ) (i : ℕ) → Stays text i (escape_at kind text i)
escape_at_stays kind text i =
    elim (slice_get text (i + 1)) as (λ o. Stays text i (elim o [ Some c ↦ escape_by kind text i c | None ↦ broken ])) [
      | Some c ↦ escape_by_stays kind text i c
      | None ↦ tt
    ]

mark_stays : (kind : Quoting) (text : List ℕ) (i : ℕ) → stands text i (mark_of kind) ≡ true → Stays text i (mark_at kind text i)
mark_stays kind text i h =
    let byte = front_byte (mark_of kind) (drop i text) h in
    stays_if (is_long kind) text i _ _ (λ long.
    stays_if (eqb (marks_in_row (mark_of kind) text i) 3) text i _ _ (λ three. tt)
    (stays_if (nat_le (marks_in_row (mark_of kind) text i) 5) text i (plain_piece (mark_of kind ∷ []) (i + 1)) broken (λ few. λ plain. (refl, byte)) tt)) tt

plain_stays : (kind : Quoting) (text : List ℕ) (i : ℕ) → Stays text i (plain_at kind text i)
plain_stays kind text i =
    elim (slice_get text i) as (λ o. slice_get text i ≡ o → Stays text i (elim o [
      | Some c ↦ cond (may_stand c || (is_long kind && is_some (behind_line_end text i))) (plain_piece (c ∷ []) (i + 1)) broken
      | None ↦ broken
    ])) [
      | Some c ↦ λ at. stays_if (may_stand c || (is_long kind && is_some (behind_line_end text i))) text i (plain_piece (c ∷ []) (i + 1)) broken
          (λ may. λ plain. (refl, byte_taken text i c at)) tt
      | None ↦ λ at. tt
    ] refl

pub part_stays : (kind : Quoting) (text : List ℕ) (i : ℕ) → Stays text i (part_at kind text i)
part_stays kind text i =
    stays_if (stands text i (mark_of kind)) text i _ _ (mark_stays kind text i)
    (stays_if (has_escapes kind && stands text i backslash) text i _ _ (λ h. escape_at_stays kind text i) (plain_stays kind text i))

none_of : (a b : Bool) → (a || b) ≡ false → (a ≡ false) × (b ≡ false)
none_of true b h = absurd (true≢false h)
none_of false b h = (refl, h)

drop_next : (i : ℕ) (s : List ℕ) → drop 1 (drop i s) ≡ drop (i + 1) s
drop_next i s = drop-drop 1 i s

-- pieces without an escape are in the text from the first one's place up to the closing
pub plain_slice : (kind : Quoting) (text : List ℕ) (i : ℕ) (ps : List StringPiece) (close next : ℕ) → ArePieces kind text i ps close next
    → list_any (λ (p : StringPiece). p.escape) ps ≡ false → (i ≤ close) × (pieces_text ps ≡ take (close - i) (drop i text))
plain_slice kind text i [] close next is plain =
    let at = is.1 in
    let none : close - i ≡ 0 = omega arith in
    (omega arith, ap (λ n. take n (drop i text)) (sym none))
plain_slice kind text i (p ∷ ps) close next is plain =
    let both = none_of p.escape (list_any (λ (q : StringPiece). q.escape) ps) plain in
    let here = subst (Stays text i) is.1 (part_stays kind text i) both.0 in
    let rest = plain_slice kind text is.0 ps close next is.2 both.1 in
    let step = here.0 in
    let le = rest.0 in
    let size : close - i ≡ 1 + (close - is.0) = omega arith in
    let whole : take (close - i) (drop i text) ≡ take 1 (drop i text) ++ take (close - is.0) (drop is.0 text) =
    ap (λ n. take n (drop i text)) size ∙ take-add 1 (close - is.0) (drop i text)
    ∙ ap (λ s. take 1 (drop i text) ++ take (close - is.0) s) (drop_next i text ∙ ap (λ n. drop n text) (sym step)) in
    (omega arith, ap (λ s. s ++ pieces_text ps) here.1 ∙ ap (λ s. take 1 (drop i text) ++ s) rest.1 ∙ sym whole)

pub plain_string : (text : List ℕ) (i : ℕ) (kind : Quoting) (w : WrittenString) (span : Span) (next : ℕ) → IsString text i kind w span next → w.escaped ≡ false
    → w.text ≡ slice_range text span.start span.end
plain_string text i kind w span next is plain =
    let none : list_any (λ (p : StringPiece). p.escape) is.pieces ≡ false = ap (λ (x : WrittenString). x.escaped) (sym is.stands_for) ∙ plain in
    let slice = plain_slice kind text is.first is.pieces is.close next is.body none in
    ap (λ (x : WrittenString). x.text) is.stands_for ∙ slice.1 ∙ ap (λ (x : Span). slice_range text x.start x.end) (sym is.spans)
