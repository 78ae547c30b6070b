-- A line that tells of a copyright, from its runs as they are written.
use Rattle.std.proofs.Common.{◌≡◌, ◌∙◌, ℕ, ◌↔◌, ◌&&◌, ◌||◌, Bool, true, false, IsTrue, List, [], ◌∷◌, codes, refl, ap, sym, arith}
use Rattle.std.proofs.lemmas.Slice.Eq.{bytes_eq-Decides}
use Rattle.std.specs.Char.{is_ascii_digit, to_ascii_lowercase}
use Rattle.std.specs.List.{list_all}
use Rattle.std.specs.Str.{bytes_eq, str_to_ascii_lowercase}
use Rattle.spdx_terms.specs.catalog.TextWords.{is_copyright, lower_of, runs_of}

digit-lower : (b : ℕ) → is_ascii_digit (to_ascii_lowercase b) ≡ is_ascii_digit b
digit-lower b = grind arith

digits-lower : (word : List ℕ) → list_all is_ascii_digit (str_to_ascii_lowercase word) ≡ list_all is_ascii_digit word
digits-lower [] = refl
digits-lower (b ∷ bs) =
    ap (λ is. is && list_all is_ascii_digit (str_to_ascii_lowercase bs)) (digit-lower b)
    ∙ ap (λ rest. is_ascii_digit b && rest) (digits-lower bs)

differs : (xs ys : List ℕ) (same : Bool) → bytes_eq xs ys ≡ same → ¬ (xs ≡ ys) → bytes_eq xs ys ≡ false
differs xs ys true e not = absurd (not ((bytes_eq-Decides xs ys).0 e))
differs xs ys false e not = e

-- what a test of two texts says
same-test : (xs ys : List ℕ) (test answer : Bool) → (IsTrue test ↔ (xs ≡ ys)) → test ≡ answer → bytes_eq xs ys ≡ answer
same-test xs ys test true is e = (bytes_eq-Decides xs ys).1 (is.0 e)
same-test xs ys test false is e = differs xs ys (bytes_eq xs ys) refl (λ same. let yes : test ≡ true = is.1 same in absurd (cc))

-- the first word is `copyright`, and the second is not `c`
pub is_copyright-number : (line first rest second more : List ℕ) (first_test second_test number : Bool) → runs_of line ≡ first ∷ runs_of rest → runs_of rest ≡ second ∷ runs_of more → (IsTrue first_test ↔ (str_to_ascii_lowercase first ≡ codes "copyright")) → first_test ≡ true → (IsTrue second_test ↔ (str_to_ascii_lowercase second ≡ codes "c")) → second_test ≡ false → number ≡ list_all is_ascii_digit second → number ≡ is_copyright (lower_of (runs_of line))
is_copyright-number line first rest second more first_test second_test number runs others is_first passes is_second fails is_number =
    let runs : runs_of line ≡ first ∷ second ∷ runs_of more = runs ∙ ap (λ words. first ∷ words) others in
    let first_is = same-test (str_to_ascii_lowercase first) (codes "copyright") first_test true is_first passes in
    let second_is = same-test (str_to_ascii_lowercase second) (codes "c") second_test false is_second fails in
    sym
    (ap (λ words. is_copyright (lower_of words)) runs
    ∙ ap (λ is. is && (bytes_eq (str_to_ascii_lowercase second) (codes "c") || list_all is_ascii_digit (str_to_ascii_lowercase second))) first_is
    ∙ ap (λ is. is || list_all is_ascii_digit (str_to_ascii_lowercase second)) second_is
    ∙ digits-lower second
    ∙ sym is_number)
