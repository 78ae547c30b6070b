-- A text with a blank in the place of each LF is a text.
use Rattle.std.proofs.Common.{◌≡◌, ◌∙◌, ℕ, ◌+◌, ◌/◌, ◌<◌, ◌≤◌, Bool, true, false, cond, ltb, ◌&&◌, List, [], ◌∷◌, ◌++◌, map, refl, sym, ap, arith}
use lib.Utf8.{encode, encodes, next, scalar, scalars}
use borrow.Author.Tests.{lt-ltb, ltb-false, ltb-true, ne_eqb}
use Rattle.std.proofs.lemmas.Bool.{cond-false}
use Rattle.std.proofs.lemmas.List.{map-append}
use Rattle.std.specs.Prelude.{◌==◌, IsUtf8}
use Rattle.check_notice.specs.Notice.{in_line, line_byte}

low : (byte : ℕ) → byte < 128 → line_byte byte < 128
low byte below = elim (byte == 10) as (λ b. cond b 32 byte < 128) [ true ↦ omega arith | false ↦ below ]

high : (byte : ℕ) → 128 ≤ byte → line_byte byte ≡ byte
high byte above = cond-false _ _ _ (ne_eqb byte 10 (λ is. omega (arith, above, is)))

-- no byte of a character of several is a LF
several : (c : ℕ) → 128 ≤ c → map line_byte (encode c) ≡ encode c
unfolding encode
several c above = by (ltb c 128) refl
  where
    two : List ℕ
    two = (192 + c / 64) ∷ next c ∷ []

    three : List ℕ
    three = (224 + c / 4096) ∷ next (c / 64) ∷ next c ∷ []

    four : List ℕ
    four = (240 + c / 262144) ∷ next (c / 4096) ∷ next (c / 64) ∷ next c ∷ []

    longer : List ℕ
    longer = cond (ltb c 2048) two (cond (ltb c 65536) three four)

    same_two : map line_byte two ≡ two
    same_two = λ i. high (192 + c / 64) (omega arith) i ∷ high (next c) (omega arith) i ∷ []

    same_three : map line_byte three ≡ three
    same_three = λ i. high (224 + c / 4096) (omega arith) i ∷ high (next (c / 64)) (omega arith) i ∷ high (next c) (omega arith) i ∷ []

    same_four : map line_byte four ≡ four
    same_four = λ i. high (240 + c / 262144) (omega arith) i ∷ high (next (c / 4096)) (omega arith) i ∷ high (next (c / 64)) (omega arith) i ∷ high (next c) (omega arith) i ∷ []

    same_longer : map line_byte longer ≡ longer
    same_longer =
        elim (ltb c 2048) as (λ b. map line_byte (cond b two (cond (ltb c 65536) three four)) ≡ cond b two (cond (ltb c 65536) three four)) [
          | true ↦ same_two
          | false ↦ elim (ltb c 65536) as (λ b. map line_byte (cond b three four) ≡ cond b three four) [ true ↦ same_three | false ↦ same_four ]
        ]

    by : (below : Bool) → ltb c 128 ≡ below → map line_byte (cond (ltb c 128) (c ∷ []) longer) ≡ cond (ltb c 128) (c ∷ []) longer
    by true below = let less = ltb-true c 128 below in absurd (omega (arith, less, above))
    by false below = ap (λ b. map line_byte (cond b (c ∷ []) longer)) below ∙ same_longer ∙ sym (ap (λ b. cond b (c ∷ []) longer) below)

-- a character of one byte
alone : (c : ℕ) → c < 128 → encode c ≡ c ∷ []
unfolding encode
alone c below = ap (λ b. cond b (c ∷ []) (cond (ltb c 2048) ((192 + c / 64) ∷ next c ∷ []) (cond (ltb c 65536) ((224 + c / 4096) ∷ next (c / 64) ∷ next c ∷ []) ((240 + c / 262144) ∷ next (c / 4096) ∷ next (c / 64) ∷ next c ∷ [])))) (lt-ltb c 128 below)

letter : (c : ℕ) → map line_byte (encode c) ≡ encode (line_byte c)
letter c = by (ltb c 128) refl
  where
    by : (below : Bool) → ltb c 128 ≡ below → map line_byte (encode c) ≡ encode (line_byte c)
    by true below = let less = ltb-true c 128 below in ap (map line_byte) (alone c less) ∙ sym (alone (line_byte c) (low c less))
    by false below = let above = ltb-false c 128 below in several c above ∙ sym (ap encode (high c above))

stays : (c : ℕ) → scalar c ≡ true → scalar (line_byte c) ≡ true
stays c is = elim (c == 10) as (λ b. scalar (cond b 32 c) ≡ true) [ true ↦ refl | false ↦ is ]

both : (a b : Bool) → (a && b) ≡ true → (a ≡ true) × (b ≡ true)
both true b is = (refl, is)
both false b is = absurd (cc)

all_stay : (cs : List ℕ) → scalars cs ≡ true → scalars (map line_byte cs) ≡ true
all_stay [] are = refl
all_stay (c ∷ cs) are =
    let parts = both (scalar c) (scalars cs) are in
    ap (λ b. b && scalars (map line_byte cs)) (stays c parts.0) ∙ all_stay cs parts.1

letters : (cs : List ℕ) → encodes (map line_byte cs) ≡ map line_byte (encodes cs)
letters [] = refl
letters (c ∷ cs) =
    ap (λ front. front ++ encodes (map line_byte cs)) (sym (letter c))
    ∙ ap (λ rest. map line_byte (encode c) ++ rest) (letters cs)
    ∙ sym (map-append line_byte (encode c) (encodes cs))

pub line_utf8 : (text : List ℕ) → IsUtf8 text → IsUtf8 (in_line text)
line_utf8 text utf8 = (map line_byte utf8.0, (all_stay utf8.0 utf8.1.0, letters utf8.0 ∙ ap (map line_byte) utf8.1.1))
