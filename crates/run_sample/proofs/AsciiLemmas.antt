-- The sample's metadata is ASCII, and so a text.
use Rattle.std.proofs.Common.{◌≡◌, refl, ap, ℕ, zero, suc, ◌+◌, ◌*◌, ◌%◌, ◌<◌, ◌≤◌, ◌^◌, ◌==◌, List, [], ◌∷◌, ◌++◌, Bool, true, false, cond, ◌&&◌, codes, decimal, arith}
use Rattle.std.specs.Prelude.{nat_lt}
use Rattle.std.specs.List.{flat_map, range_with_len}
use Rattle.std.specs.Str.{is_utf8}
use Rattle.std.proofs.lemmas.Bool.{lt-ltb}
use Rattle.std.proofs.lemmas.Fmt.{decimal_by_steps}
use Rattle.std.proofs.lemmas.Str.{is_utf8-from_IsUtf8}
use Rattle.json.proofs.Printed.Utf8.{are_ascii, IsUtf8-are_ascii}
use Rattle.run_sample.specs.Metadata.{comma_before, edge_text, license_text, node_text, numbers, package_head, package_tail, package_text, sample_metadata}

both : (xs ys : List ℕ) → are_ascii xs ≡ true → are_ascii ys ≡ true → are_ascii (xs ++ ys) ≡ true
both [] ys first second = second
both (x ∷ xs) ys first second = by (nat_lt x 128) first (λ rest. both xs ys rest second)
  where
    by : (b : Bool) → (b && are_ascii xs) ≡ true → (are_ascii xs ≡ true → are_ascii (xs ++ ys) ≡ true) → (b && are_ascii (xs ++ ys)) ≡ true
    by true is rest = rest is
    by false is rest = absurd (cc is)

digit : (n : ℕ) → n < 10 → are_ascii ((48 + n) ∷ []) ≡ true
digit n small = ap (λ b. b && true) (lt-ltb (48 + n) 128 (omega (arith, small)))

more : (n : ℕ) (digits : List ℕ) → 10 ≤ n → are_ascii digits ≡ true → are_ascii (digits ++ ((48 + n % 10) ∷ [])) ≡ true
more n digits least is = both digits ((48 + n % 10) ∷ []) is (digit (n % 10) (omega arith))

of_decimal : (n : ℕ) → n < 2 ^ 64 → are_ascii (decimal n) ≡ true
of_decimal = decimal_by_steps (λ n digits. are_ascii digits ≡ true) digit more

of_comma : (i : ℕ) → are_ascii (comma_before i) ≡ true
of_comma i = by (i == 0)
  where
    by : (b : Bool) → are_ascii (cond b [] (codes ",")) ≡ true
    by true = refl
    by false = refl

of_license : (remainder : ℕ) → are_ascii (license_text remainder) ≡ true
of_license remainder = by (remainder == 0) (remainder == 1) (remainder == 2)
  where
    by : (a b c : Bool) → are_ascii (cond a (codes "\"MIT\"") (cond b (codes "\"MIT OR Apache-2.0\"") (cond c (codes "\"GPL-3.0-only\"") (codes "null")))) ≡ true
    by true b c = refl
    by false true c = refl
    by false false true = refl
    by false false false = refl

of_package : (i : ℕ) → i < 2 ^ 64 → are_ascii (package_text i) ≡ true
of_package i small =
    let d = of_decimal i small in
    both (package_head i) (package_tail i (license_text (i % 4)))
    (both (comma_before i) _ (of_comma i)
    (both (decimal i) _ d (both (decimal i) _ d (both (decimal i) (codes "\",") d refl))))
    (both (decimal i) _ d (both (license_text (i % 4)) (codes "}") (of_license (i % 4)) refl))

of_edge : (n : ℕ) (before : List ℕ) (j : ℕ) → j < 2 ^ 64 → are_ascii before ≡ true → are_ascii (edge_text n before j) ≡ true
of_edge n before j small is = by (nat_lt j n)
  where
    by : (b : Bool) → are_ascii (cond b (before ++ (codes "{\"pkg\":\"c" ++ (decimal j ++ codes "\"}"))) []) ≡ true
    by true = both before _ is (both (decimal j) (codes "\"}") (of_decimal j small) refl)
    by false = refl

of_node : (n i : ℕ) → 2 * i + 2 < 2 ^ 64 → are_ascii (node_text n i) ≡ true
of_node n i small =
    both (comma_before i) _ (of_comma i)
    (both (decimal i) _ (of_decimal i (omega (arith, small)))
    (both (edge_text n [] (2 * i + 1)) _ (of_edge n [] (2 * i + 1) (omega (arith, small)) refl)
    (both (edge_text n (codes ",") (2 * i + 2)) (codes "]}") (of_edge n (codes ",") (2 * i + 2) small refl) refl)))

of_all : (text : ℕ → List ℕ) (a k : ℕ) → ((i : ℕ) → i < a + k → are_ascii (text i) ≡ true) → are_ascii (flat_map text (range_with_len a k)) ≡ true
of_all text a zero each = refl
of_all text a (suc k) each = both (text a) (flat_map text (range_with_len (a + 1) k)) (each a (omega arith)) (of_all text (a + 1) k (λ i less. each i (omega (arith, less))))

of_sample : (n : ℕ) → n ≤ 2 ^ 32 → are_ascii (sample_metadata n) ≡ true
of_sample n small =
    both (flat_map package_text (numbers n)) _ (of_all package_text 0 n (λ i less. of_package i (omega (arith, small, less))))
    (both (flat_map (node_text n) (numbers n)) (codes "]}}") (of_all (node_text n) 0 n (λ i less. of_node n i (omega (arith, small, less)))) refl)

pub sample_is_text : (n : ℕ) → n ≤ 2 ^ 32 → is_utf8 (sample_metadata n) ≡ true
sample_is_text n small = is_utf8-from_IsUtf8 (sample_metadata n) (IsUtf8-are_ascii (sample_metadata n) (of_sample n small))
