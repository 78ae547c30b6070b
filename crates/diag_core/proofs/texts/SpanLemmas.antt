-- The search from one key to the next.
use Rattle.std.proofs.Common.{◌≡◌, ◌≢◌, ℕ, zero, suc, ◌+◌, ◌-◌, ◌<◌, ◌≤◌, true, false, cond, eqb, List, [], ◌∷◌, ◌++◌, length, drop, Option, Some, None, MatchOption, Bor, codes, refl, sym, ap, ◌∙◌, arith}
use Rattle.std.specs.Option.{option_map, option_or, option_and_then, option_copied}
use Rattle.std.specs.Str.{trim_start}
use Rattle.std.specs.Str.Pattern.{FindsText, LacksTextAt}
use Rattle.std.proofs.lemmas.Bool.{eqb-true}
use Rattle.deny_text.specs.declared.span.Span.{Span}
use Rattle.deny_text.specs.Spans.{moved_span}
use Rattle.diag_core.specs.texts.SpanSearch.{rest_behind, behind_quote, quote_place, license_key, value_behind, license_span_of}

behind-is : (front text rest : List ℕ) → rest_behind front text ≡ Some rest → text ≡ front ++ rest
behind-is [] text rest e = cc
behind-is (byte ∷ front) [] rest e = cc
behind-is (byte ∷ front) (first ∷ text) rest e =
    elim (eqb first byte) as (λ same. eqb first byte ≡ same → cond same (rest_behind front text) None ≡ Some rest → first ∷ text ≡ byte ∷ (front ++ rest)) [
      | true ↦ λ is there.
          let head : first ≡ byte = eqb-true first byte is in
          let tail : text ≡ front ++ rest = behind-is front text rest there in cc
      | false ↦ λ _ there. cc
    ] refl e

behind-none : (front text : List ℕ) → ((rest : List ℕ) → text ≢ front ++ rest) → rest_behind front text ≡ None
behind-none front text lacks =
    elim (rest_behind front text) as (λ (o : Option (List ℕ)). rest_behind front text ≡ o → o ≡ None) [
      | None ↦ λ _. refl
      | Some rest ↦ λ e. absurd (lacks rest (behind-is front text rest e))
    ] refl

moved-twice : (a b : ℕ) (found : Option Span) → option_map (moved_span a) (option_map (moved_span b) found) ≡ option_map (moved_span (a + b)) found
moved-twice a b None = refl
moved-twice a b (Some span) =
    let start : a + (b + span.start) ≡ a + b + span.start = omega arith in
    let end : a + (b + span.end) ≡ a + b + span.end = omega arith in
    rw (start, end) refl

moved-none : (found : Option Span) → option_map (moved_span 0) found ≡ found
moved-none None = refl
moved-none (Some span) =
    let start : 0 + span.start ≡ span.start = omega arith in
    let end : 0 + span.end ≡ span.end = omega arith in
    rw (start, end) refl

one_on : (byte : ℕ) (text : List ℕ) → ((rest : List ℕ) → byte ∷ text ≢ license_key ++ rest) → license_span_of (byte ∷ text) ≡ option_map (moved_span 1) (license_span_of text)
one_on byte text lacks =
    ap (λ (o : Option (List ℕ)). option_or (option_and_then (λ rest. option_map (moved_span (length license_key)) (value_behind rest)) o) (option_map (moved_span 1) (license_span_of text)))
    (behind-none license_key (byte ∷ text) lacks)

-- nothing is found before a key
pub none_before : (count : ℕ) (text : List ℕ) → count ≤ length text → ((i : ℕ) → i < count → LacksTextAt license_key text i) → license_span_of text ≡ option_map (moved_span count) (license_span_of (drop count text))
none_before zero text fits lacks = sym (moved-none (license_span_of text))
none_before (suc count) [] fits lacks = absurd (omega (arith, fits))
none_before (suc count) (byte ∷ text) fits lacks =
    let rest : license_span_of text ≡ option_map (moved_span count) (license_span_of (drop count text)) = none_before count text (omega (arith, fits)) (λ i below. lacks (suc i) (omega (arith, below))) in
    let sum : 1 + count ≡ suc count = omega arith in
    one_on byte text (lacks 0 (omega arith)) ∙ ap (option_map (moved_span 1)) rest ∙ moved-twice 1 count (license_span_of (drop count text))
    ∙ ap (λ n. option_map (moved_span n) (license_span_of (drop count text))) sum

pub none_at_all : (text : List ℕ) → ((i : ℕ) → i ≤ length text → LacksTextAt license_key text i) → license_span_of text ≡ None
none_at_all [] lacks = refl
none_at_all (byte ∷ text) lacks =
    one_on byte text (lacks 0 (omega arith)) ∙ ap (option_map (moved_span 1)) (none_at_all text (λ i within. lacks (suc i) (omega (arith, within))))

-- no key begins inside a key
at_key : (rest : List ℕ) → license_span_of (license_key ++ rest) ≡ option_or (option_map (moved_span 7) (value_behind rest)) (option_map (moved_span 7) (license_span_of rest))
at_key rest = ap (option_or (option_map (moved_span 7) (value_behind rest))) (simp moved-twice)

or_map : (first second : Option Span) → option_or (option_map (moved_span 7) first) (option_map (moved_span 7) second) ≡ option_map (moved_span 7) (option_or first second)
or_map None second = refl
or_map (Some span) second = refl

-- from one key to what is behind it
abbrev pub Leads : List ℕ → List ℕ → Type 0
Leads text rest = license_span_of text ≡ option_map (moved_span (length text - length rest)) (license_span_of rest)

found_key : (text rest after : List ℕ) (i j : ℕ) → FindsText license_key rest (Some (i, j)) → after ≡ drop j rest → length after + j ≡ length rest → length rest ≤ length text → Leads text rest
    → license_span_of text ≡ option_map (moved_span (length text - length after)) (option_or (value_behind after) (license_span_of after))
found_key text rest after i j found is fits within leads =
    let here : drop i rest ≡ license_key ++ after = found.1.split ∙ ap (λ (l : List ℕ). license_key ++ l) (sym is) in
    let ends : j ≡ i + 7 = found.1.ends in
    let before : license_span_of rest ≡ option_map (moved_span i) (license_span_of (drop i rest)) = none_before i rest (omega (arith, ends, fits)) found.0 in
    let key : license_span_of (license_key ++ after) ≡ option_map (moved_span 7) (option_or (value_behind after) (license_span_of after)) = at_key after ∙ or_map (value_behind after) (license_span_of after) in
    let sum : length text - length rest + (i + 7) ≡ length text - length after = omega (arith, ends, fits, within) in
    leads
    ∙ ap (option_map (moved_span (length text - length rest))) (before ∙ ap (λ (l : List ℕ). option_map (moved_span i) (license_span_of l)) here ∙ ap (option_map (moved_span i)) key ∙ moved-twice i 7 _)
    ∙ moved-twice (length text - length rest) (i + 7) _
    ∙ ap (λ n. option_map (moved_span n) (option_or (value_behind after) (license_span_of after))) sum

pub next_key : (text rest after : List ℕ) (i j : ℕ) → FindsText license_key rest (Some (i, j)) → after ≡ drop j rest → length after + j ≡ length rest → length rest ≤ length text → Leads text rest → value_behind after ≡ None → Leads text after
next_key text rest after i j found is fits within leads none =
    found_key text rest after i j found is fits within leads ∙ ap (λ (o : Option Span). option_map (moved_span (length text - length after)) (option_or o (license_span_of after))) none

pub value_found : (text rest after : List ℕ) (i j : ℕ) (span : Span) → FindsText license_key rest (Some (i, j)) → after ≡ drop j rest → length after + j ≡ length rest → length rest ≤ length text → Leads text rest → value_behind after ≡ Some span → license_span_of text ≡ Some (moved_span (length text - length after) span)
value_found text rest after i j span found is fits within leads some =
    found_key text rest after i j found is fits within leads ∙ ap (λ (o : Option Span). option_map (moved_span (length text - length after)) (option_or o (license_span_of after))) some

-- the sign and the quote that a text begins with
pub sign_behind : (text : List ℕ) (r : Option (Bor (List ℕ))) → MatchOption r ((rest : List ℕ) → text ≢ 61 ∷ rest) (λ x. text ≡ 61 ∷ x.now) → option_copied r ≡ rest_behind (codes "=") text
sign_behind text None lacks = sym (behind-none (codes "=") text lacks)
sign_behind text (Some x) is = rw is refl

not_first : (byte : ℕ) (text : List ℕ) (quote : ℕ) → ((rest : List ℕ) → byte ∷ text ≢ quote ∷ rest) → eqb byte quote ≡ false
not_first byte text quote lacks =
    elim (eqb byte quote) as (λ same. eqb byte quote ≡ same → same ≡ false) [
      | true ↦ λ is. absurd (lacks text (ap (λ (b : ℕ). b ∷ text) (eqb-true byte quote is)))
      | false ↦ λ _. refl
    ] refl

neither_quote : (text : List ℕ) → ((rest : List ℕ) → text ≢ 34 ∷ rest) → ((rest : List ℕ) → text ≢ 39 ∷ rest) → behind_quote text ≡ None
neither_quote [] first second = refl
neither_quote (byte ∷ text) first second = rw (not_first byte text 34 first, not_first byte text 39 second) refl

pub first_quote_behind : (text : List ℕ) (x : List ℕ) → text ≡ 34 ∷ x → behind_quote text ≡ Some x
first_quote_behind text x is = rw is refl

pub second_quote_behind : (text : List ℕ) (r : Option (Bor (List ℕ))) → ((rest : List ℕ) → text ≢ 34 ∷ rest) → MatchOption r ((rest : List ℕ) → text ≢ 39 ∷ rest) (λ x. text ≡ 39 ∷ x.now) → option_copied r ≡ behind_quote text
second_quote_behind text None first second = sym (neither_quote text first second)
second_quote_behind text (Some x) first second = rw second refl

-- a value behind a key, part by part
pub no_sign : (text : List ℕ) → None ≡ rest_behind (codes "=") (trim_start text) → None ≡ value_behind text
unfolding value_behind
no_sign text none = rw (← none) refl

pub no_quote : (text after : List ℕ) → Some after ≡ rest_behind (codes "=") (trim_start text) → None ≡ behind_quote (trim_start after) → None ≡ value_behind text
unfolding value_behind
no_quote text after some none = rw (← some) (rw (← none) refl)

pub no_end : (text after value : List ℕ) → Some after ≡ rest_behind (codes "=") (trim_start text) → Some value ≡ behind_quote (trim_start after) → None ≡ quote_place value → None ≡ value_behind text
unfolding value_behind
no_end text after value some quote none = rw (← some) (rw (← quote) (rw (← none) refl))

pub ended : (text after value : List ℕ) (len : ℕ) → Some after ≡ rest_behind (codes "=") (trim_start text) → Some value ≡ behind_quote (trim_start after) → Some len ≡ quote_place value → Some (record { start = length text - length value; end = length text - length value + len }) ≡ value_behind text
unfolding value_behind
ended text after value len some quote end =
    let start : length text - length value + 0 ≡ length text - length value = omega arith in
    rw (← some) (rw (← quote) (rw (← end) (rw start refl)))
