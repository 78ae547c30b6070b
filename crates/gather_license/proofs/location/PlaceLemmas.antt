-- The place that the search finds is between two quotes, so its ends are between characters.
use Rattle.std.proofs.Common.{◌≡◌, ℕ, suc, ◌+◌, ◌-◌, ◌<◌, ◌≤◌, Bool, true, false, ◌&&◌, ◌||◌, cond, eqb, ltb, List, [], ◌∷◌, ◌++◌, length, drop, get_or, Some, None, codes, refl, sym, ap, ◌∙◌, subst, append_assoc, arith}
use Rattle.std.specs.List.{position_or_len}
use Rattle.std.specs.Option.{option_and_then, option_map, option_or}
use Rattle.std.specs.Char.{is_whitespace}
use Rattle.std.specs.Str.{IsCharBoundary, IsUtf8, bytes_eq, chars, skip_leading_whitespace, trim_start}
use Rattle.std.proofs.Math.Utf8.{encode, encodes, scalars}
use Rattle.std.proofs.Math.Seq.{drop-append_seam, get_or-append_seam}
use Rattle.std.proofs.lemmas.Bool.{eqb-true}
use Rattle.std.proofs.lemmas.Bool.Decides.{Decides-ltb}
use Rattle.std.proofs.lemmas.List.{get_or-drop, get_or-append-add, length-append, length-drop}
use Rattle.std.proofs.lemmas.List.Sums.{passes_at_first}
use Rattle.std.proofs.lemmas.Slice.Eq.{bytes_eq-Decides}
use Rattle.std.proofs.lemmas.Str.{IsCharBoundary-after_ascii, IsCharBoundary-before_ascii, IsUtf8-drop, chars-encodes}
use Rattle.deny_text.specs.declared.span.Span.{Span}
use Rattle.deny_text.specs.Spans.{moved_span}
use Rattle.diag_core.specs.texts.SpanSearch.{rest_behind, behind_quote, is_quote, license_key, license_span_of, quote_place, value_at_end, value_behind}
use Rattle.diag_core.specs.texts.Synthetic.{text_at}
use Rattle.gather_license.specs.location.Location.{CutsOut, counted_in, span_in}

-- ---- white space at the start

skip_front : (cs : List ℕ) → (front : List ℕ) × (encodes cs ≡ front ++ encodes (skip_leading_whitespace cs))
skip_front [] = ([], refl)
skip_front (c ∷ cs) =
    let more = skip_front cs in
    elim (is_whitespace c) as (λ b. (front : List ℕ) × (encodes (c ∷ cs) ≡ front ++ encodes (cond b (skip_leading_whitespace cs) (c ∷ cs)))) [
      | true ↦ (encode c ++ more.0, ap (λ (rest : List ℕ). encode c ++ rest) more.1 ∙ sym (append_assoc (encode c) more.0 (encodes (skip_leading_whitespace cs))))
      | false ↦ ([], refl)
    ]

second_true : (a b : Bool) → (a && b) ≡ true → b ≡ true
second_true true b e = e
second_true false b e = cc

skip_scalars : (cs : List ℕ) → scalars cs ≡ true → scalars (skip_leading_whitespace cs) ≡ true
skip_scalars [] are = are
skip_scalars (c ∷ cs) are =
    let more = skip_scalars cs (second_true _ (scalars cs) are) in
    elim (is_whitespace c) as (λ b. scalars (cond b (skip_leading_whitespace cs) (c ∷ cs)) ≡ true) [
      | true ↦ more
      | false ↦ are
    ]

-- a text ends with another, which is text as well
record Ends (text tail : List ℕ) : Type 0 where
  front : List ℕ
  split : text ≡ front ++ tail
  utf8 : IsUtf8 tail

trimmed : (text : List ℕ) → IsUtf8 text → Ends text (trim_start text)
unfolding trim_start
trimmed text utf8 =
    let cs = utf8.0 in
    let skipped = skip_front cs in
    let same : trim_start text ≡ encodes (skip_leading_whitespace cs) =
    ap (λ (cs : List ℕ). encodes (skip_leading_whitespace cs)) (ap chars (sym utf8.1.1) ∙ chars-encodes cs utf8.1.0) in
    subst (Ends text) (sym same) (record {
      front = skipped.0;
      split = sym utf8.1.1 ∙ skipped.1;
      utf8 = (skip_leading_whitespace cs, (skip_scalars cs utf8.1.0, refl));
    })

-- ---- behind a byte that is ASCII

behind_ascii : (byte : ℕ) (text rest : List ℕ) → byte < 128 → text ≡ byte ∷ rest → IsUtf8 text → IsUtf8 rest
behind_ascii byte text rest low is utf8 =
    let whole : IsUtf8 (byte ∷ rest) = subst IsUtf8 is utf8 in
    IsUtf8-drop (byte ∷ rest) 1 whole (IsCharBoundary-after_ascii (byte ∷ rest) 0 whole (omega arith) low)

no_some : {A G : Type 0} (x : A) → None ≡ Some x → G
no_some x e = cc

some_same : {A : Type 0} (x y : A) → Some x ≡ Some y → x ≡ y
some_same x y e = cc

behind_is : (front text rest : List ℕ) → rest_behind front text ≡ Some rest → text ≡ front ++ rest
behind_is [] text rest e = some_same text rest e
behind_is (byte ∷ front) [] rest e = no_some rest e
behind_is (byte ∷ front) (first ∷ text) rest e =
    elim (eqb first byte) as (λ same. eqb first byte ≡ same → cond same (rest_behind front text) None ≡ Some rest → first ∷ text ≡ byte ∷ (front ++ rest)) [
      | true ↦ λ is there.
          let head : first ≡ byte = eqb-true first byte is in
          let tail : text ≡ front ++ rest = behind_is front text rest there in cc
      | false ↦ λ _ there. no_some rest there
    ] refl e

quote_low : (byte : ℕ) → is_quote byte ≡ true → byte < 128
quote_low byte is =
    elim (eqb byte 34) as (λ one. eqb byte 34 ≡ one → (one || eqb byte 39) ≡ true → byte < 128) [
      | true ↦ λ here _. let same : byte ≡ 34 = eqb-true byte 34 here in omega arith
      | false ↦ λ _ other. let same : byte ≡ 39 = eqb-true byte 39 other in omega arith
    ] refl is

-- a quote, and what follows it
record Opens (text value : List ℕ) : Type 0 where
  quote : ℕ
  low : quote < 128
  is : text ≡ quote ∷ value

opens : (text value : List ℕ) → behind_quote text ≡ Some value → Opens text value
opens [] value e = no_some value e
opens (byte ∷ rest) value e =
    elim (is_quote byte) as (λ b. is_quote byte ≡ b → cond b (Some rest) None ≡ Some value → Opens (byte ∷ rest) value) [
      | true ↦ λ is there. record { quote = byte; low = quote_low byte is; is = ap (λ (l : List ℕ). byte ∷ l) (some_same rest value there) }
      | false ↦ λ _ there. no_some value there
    ] refl e

-- ---- between two quotes

record Quoted (text : List ℕ) (start end : ℕ) : Type 0 where
  before : 0 < start
  opened : get_or text (start - 1) 0 < 128
  inside : end < length text
  closed : get_or text end 0 < 128

-- the first quote of a value
record Closes (value : List ℕ) (len : ℕ) : Type 0 where
  within : len < length value
  low : get_or value len 0 < 128

closes : (value : List ℕ) (len : ℕ) → quote_place value ≡ Some len → Closes value len
closes value len e =
    elim (ltb (position_or_len is_quote value) (length value)) as (λ b. ltb (position_or_len is_quote value) (length value) ≡ b
    → cond b (Some (position_or_len is_quote value)) None ≡ Some len → Closes value len) [
      | true ↦ λ is there.
          let within : position_or_len is_quote value < length value = (Decides-ltb (position_or_len is_quote value) (length value)).0 is in
          subst (Closes value) (some_same (position_or_len is_quote value) len there) (record {
            within = within;
            low = quote_low _ (passes_at_first is_quote value 0 within);
          })
      | false ↦ λ _ there. no_some len there
    ] refl e

closed_at : (text front value : List ℕ) (quote len : ℕ) (span : Span) → text ≡ front ++ quote ∷ value → quote < 128 → Closes value len
    → span ≡ moved_span (length text - length value) (record { start = 0; end = len }) → Quoted text span.start span.end
closed_at text front value quote len span split low ends is =
    let long : length text ≡ length front + (1 + length value) = ap length split ∙ length-append front (quote ∷ value) ∙ omega arith in
    let within : len < length value = ends.within in
    let start : span.start ≡ length front + 1 = ap (λ (s : Span). s.start) is ∙ omega arith in
    let end : span.end ≡ length front + suc len = ap (λ (s : Span). s.end) is ∙ omega arith in
    let place : span.start - 1 ≡ length front = omega arith in
    let first : get_or text (span.start - 1) 0 ≡ quote =
    ap (λ n. get_or text n 0) place ∙ ap (λ (l : List ℕ). get_or l (length front) 0) split ∙ get_or-append_seam front quote value 0 in
    let last : get_or text span.end 0 ≡ get_or value len 0 =
    ap (λ n. get_or text n 0) end ∙ ap (λ (l : List ℕ). get_or l (length front + suc len) 0) split ∙ get_or-append-add front (quote ∷ value) (suc len) 0 in
    record {
      before = omega arith;
      opened = subst (λ n. n < 128) (sym first) low;
      inside = omega arith;
      closed = subst (λ n. n < 128) (sym last) ends.low;
    }

value_quoted : (text : List ℕ) → IsUtf8 text → (span : Span) → value_behind text ≡ Some span → Quoted text span.start span.end
unfolding value_behind
value_quoted text utf8 span found =
    let blanks = trimmed text utf8 in
    elim (rest_behind (codes "=") (trim_start text)) as (λ o. rest_behind (codes "=") (trim_start text) ≡ o
    → option_and_then (λ after. option_and_then (value_at_end text) (behind_quote (trim_start after))) o ≡ Some span → Quoted text span.start span.end) [
      | None ↦ λ _ there. no_some span there
      | Some after ↦ λ sign there.
          let sign_is : trim_start text ≡ 61 ∷ after = behind_is (codes "=") (trim_start text) after sign in
          let more = trimmed after (behind_ascii 61 (trim_start text) after (omega arith) sign_is blanks.utf8) in
          elim (behind_quote (trim_start after)) as (λ o. behind_quote (trim_start after) ≡ o → option_and_then (value_at_end text) o ≡ Some span → Quoted text span.start span.end) [
            | None ↦ λ _ here. no_some span here
            | Some value ↦ λ quote here.
                let opened = opens (trim_start after) value quote in
                let split : text ≡ (blanks.front ++ 61 ∷ more.front) ++ opened.quote ∷ value =
                blanks.split ∙ ap (λ (l : List ℕ). blanks.front ++ l) (sign_is ∙ ap (λ (l : List ℕ). 61 ∷ l) (more.split ∙ ap (λ (l : List ℕ). more.front ++ l) opened.is))
                ∙ sym (append_assoc blanks.front (61 ∷ more.front) (opened.quote ∷ value)) in
                elim (quote_place value) as (λ o. quote_place value ≡ o
                → option_map (λ len. moved_span (length text - length value) (record { start = 0; end = len })) o ≡ Some span → Quoted text span.start span.end) [
                  | None ↦ λ _ last. no_some span last
                  | Some len ↦ λ place last.
                      closed_at text (blanks.front ++ 61 ∷ more.front) value opened.quote len span split opened.low (closes value len place) (sym (some_same _ span last))
                ] refl here
          ] refl there
    ] refl found

-- ---- the first key that has a value

later : (text : List ℕ) (n : ℕ) (start end : ℕ) → n ≤ length text → Quoted (drop n text) start end → Quoted text (n + start) (n + end)
later text n start end fits quoted =
    let before : 0 < start = quoted.before in
    let inside : end < length (drop n text) = quoted.inside in
    let place : n + start - 1 ≡ n + (start - 1) = omega arith in
    record {
      before = omega arith;
      opened = subst (λ byte. byte < 128) (get_or-drop n text (start - 1) 0 ∙ sym (ap (λ i. get_or text i 0) place)) quoted.opened;
      inside = omega (arith, length-drop n text);
      closed = subst (λ byte. byte < 128) (get_or-drop n text end 0) quoted.closed;
    }

-- behind a key
key_quoted : (text front rest : List ℕ) (span : Span) → IsUtf8 text → text ≡ front ++ (license_key ++ rest) → value_behind rest ≡ Some span
    → Quoted text (length front + (7 + span.start)) (length front + (7 + span.end))
key_quoted text front rest span utf8 split found =
    let long : length text ≡ length front + (7 + length rest) = ap length split ∙ length-append front (license_key ++ rest) ∙ omega (arith, length-append license_key rest) in
    let last : get_or text (length front + 6) 0 ≡ 101 = ap (λ (l : List ℕ). get_or l (length front + 6) 0) split ∙ get_or-append-add front (license_key ++ rest) 6 0 in
    let low : get_or text (length front + 6) 0 < 128 = omega arith in
    let border = IsCharBoundary-after_ascii text (length front + 6) utf8 (omega arith) low in
    let behind : length (front ++ license_key) ≡ length front + 6 + 1 = length-append front license_key ∙ omega arith in
    let tail : drop (length front + 6 + 1) text ≡ rest =
    ap (drop (length front + 6 + 1)) (split ∙ sym (append_assoc front license_key rest)) ∙ ap (λ n. drop n ((front ++ license_key) ++ rest)) (sym behind)
    ∙ drop-append_seam (front ++ license_key) rest in
    let start : length front + 6 + 1 + span.start ≡ length front + (7 + span.start) = omega arith in
    let end : length front + 6 + 1 + span.end ≡ length front + (7 + span.end) = omega arith in
    let quoted = value_quoted rest (subst IsUtf8 tail (IsUtf8-drop text (length front + 6 + 1) utf8 border)) span found in
    subst (λ n. Quoted text n (length front + (7 + span.end))) start
    (subst (λ n. Quoted text (length front + 6 + 1 + span.start) n) end
    (later text (length front + 6 + 1) span.start span.end (omega arith) (subst (λ (l : List ℕ). Quoted l span.start span.end) (sym tail) quoted)))

found_in : (text : List ℕ) → IsUtf8 text → (front tail : List ℕ) → text ≡ front ++ tail → (span : Span) → license_span_of tail ≡ Some span
    → Quoted text (length front + span.start) (length front + span.end)
found_in text utf8 front [] split span e = no_some span e
found_in text utf8 front (byte ∷ tail) split span e =
    let further : option_map (moved_span 1) (license_span_of tail) ≡ Some span → Quoted text (length front + span.start) (length front + span.end) = λ there.
    elim (license_span_of tail) as (λ o. license_span_of tail ≡ o → option_map (moved_span 1) o ≡ Some span → Quoted text (length front + span.start) (length front + span.end)) [
      | None ↦ λ _ here. no_some span here
      | Some inner ↦ λ is here.
          let rest = found_in text utf8 (front ++ byte ∷ []) tail (split ∙ sym (append_assoc front (byte ∷ []) tail)) inner is in
          let longer : length (front ++ byte ∷ []) ≡ length front + 1 = length-append front (byte ∷ []) in
          let start : length (front ++ byte ∷ []) + inner.start ≡ length front + (1 + inner.start) = omega arith in
          let end : length (front ++ byte ∷ []) + inner.end ≡ length front + (1 + inner.end) = omega arith in
          subst (λ (s : Span). Quoted text (length front + s.start) (length front + s.end)) (some_same (moved_span 1 inner) span here)
          (subst (λ n. Quoted text n (length front + (1 + inner.end))) start (subst (λ n. Quoted text (length (front ++ byte ∷ []) + inner.start) n) end rest))
    ] refl there in
    elim (rest_behind license_key (byte ∷ tail)) as (λ o. rest_behind license_key (byte ∷ tail) ≡ o
    → option_or (option_and_then (λ rest. option_map (moved_span 7) (value_behind rest)) o) (option_map (moved_span 1) (license_span_of tail)) ≡ Some span
    → Quoted text (length front + span.start) (length front + span.end)) [
      | None ↦ λ _ there. further there
      | Some rest ↦ λ key there.
          elim (value_behind rest) as (λ o. value_behind rest ≡ o → option_or (option_map (moved_span 7) o) (option_map (moved_span 1) (license_span_of tail)) ≡ Some span
          → Quoted text (length front + span.start) (length front + span.end)) [
            | None ↦ λ _ here. further here
            | Some inner ↦ λ is here.
                subst (λ (s : Span). Quoted text (length front + s.start) (length front + s.end)) (some_same (moved_span 7 inner) span here)
                (key_quoted text front rest inner utf8 (split ∙ ap (λ (l : List ℕ). front ++ l) (behind_is license_key (byte ∷ tail) rest key)) is)
          ] refl there
    ] refl e

-- the place of a value that is the field
pub value_cut_out : (text field : List ℕ) (span : Span) → IsUtf8 text → license_span_of text ≡ Some span → span.start ≤ span.end
    → bytes_eq (text_at text span) field ≡ true → CutsOut text span field
value_cut_out text field span utf8 found ordered same =
    let quoted = found_in text utf8 [] text refl span found in
    let before : 0 < 0 + span.start = quoted.before in
    let inside : 0 + span.end < length text = quoted.inside in
    let zero_start : 0 + span.start ≡ span.start = omega arith in
    let zero_end : 0 + span.end ≡ span.end = omega arith in
    let opened : get_or text (span.start - 1) 0 < 128 = subst (λ n. get_or text (n - 1) 0 < 128) zero_start quoted.opened in
    let closed : get_or text span.end 0 < 128 = subst (λ n. get_or text n 0 < 128) zero_end quoted.closed in
    let back : span.start - 1 + 1 ≡ span.start = omega arith in
    record {
      ordered = ordered;
      starts = subst (IsCharBoundary text) back (IsCharBoundary-after_ascii text (span.start - 1) utf8 (omega arith) opened);
      ends = IsCharBoundary-before_ascii text span.end (omega arith) closed;
      cut_out = (bytes_eq-Decides (text_at text span) field).0 same;
    }

-- ---- whether the place counts

pub counted : (text field : List ℕ) (span : Span) → Some span ≡ license_span_of text → bytes_eq (text_at text span) field ≡ true → Some span ≡ span_in field text
counted text field span found same = sym (ap (option_and_then (counted_in field text)) (sym found) ∙ ap (λ b. cond b (Some span) None) same)

pub not_counted : (text field : List ℕ) (span : Span) → Some span ≡ license_span_of text → bytes_eq (text_at text span) field ≡ false → None ≡ span_in field text
not_counted text field span found differs = sym (ap (option_and_then (counted_in field text)) (sym found) ∙ ap (λ b. cond b (Some span) None) differs)

pub none_counted : (text field : List ℕ) → None ≡ license_span_of text → None ≡ span_in field text
none_counted text field none = ap (option_and_then (counted_in field text)) none
