-- The choice that the walk takes is the first with the fewest places without a hit.
use Rattle.std.proofs.Common.{◌≡◌, ◌∙◌, refl, sym, ap, ℕ, ◌+◌, ◌<◌, ◌≤◌, Bool, true, false, cond, not, List, [], ◌∷◌, ◌++◌, map, append_assoc, arith, ltb}
use Rattle.std.specs.Prelude.{All}
use Rattle.std.specs.List.{flat_map}
use Rattle.std.proofs.lemmas.Bool.{ltb-true, ltb-false}
use Rattle.std.proofs.lemmas.List.{map-append}
use Rattle.std.proofs.lemmas.List.Concat.{flat_map-append}
use Rattle.std.proofs.lemmas.List.Sums.{sum_by-append}
use Rattle.std.proofs.lemmas.List.Elements.{All-nil, All-cons, All-append, All-map, All-weaker, All-same, All-head, All-tail}
use Rattle.spdx_core.specs.Grammar.{ExpressionTree, leaf, both, either}
use Rattle.spdx_core.specs.certificates.Choices.{choices_of, misses, IsFirstLeast}
use Rattle.spdx_core.specs.certificates.Marks.{fewest_misses, sides, taken_places}

-- each of some choices with each of others
abbrev pub with_each : List (List ℕ) → List (List ℕ) → List (List ℕ)
with_each some others = flat_map (λ a. map (λ b. a ++ b) others) some

-- of some choices one is the first with the fewest places without a hit, and has so many
pub record Least (has_hit : ℕ → Bool) (choices : List (List ℕ)) (count : ℕ) (choice : List ℕ) : Type 0 where
  pub before : List (List ℕ)
  pub behind : List (List ℕ)
  pub parts : choices ≡ before ++ choice ∷ behind
  pub has : misses has_hit choice ≡ count
  pub more : All (λ other. count < misses has_hit other) before
  pub none_fewer : All (λ other. count ≤ misses has_hit other) behind

pub misses-append : (has_hit : ℕ → Bool) (a b : List ℕ) → misses has_hit (a ++ b) ≡ misses has_hit a + misses has_hit b
misses-append has_hit a b = sum_by-append (λ place. cond (not (has_hit place)) 1 0) a b

-- none of the choices has fewer
pub none_below : (has_hit : ℕ → Bool) (choices : List (List ℕ)) (count : ℕ) (choice : List ℕ) → Least has_hit choices count choice → All (λ other. count ≤ misses has_hit other) choices
none_below has_hit choices count choice least =
    let P : List ℕ → Type 0 = λ other. count ≤ misses has_hit other in
    let front : All (λ other. count ≤ misses has_hit other) least.before =
    All-weaker (λ other. count < misses has_hit other) (λ other. count ≤ misses has_hit other) (λ x h. omega arith) least.before least.more in
    let itself : count ≤ misses has_hit choice = omega (arith, least.has) in
    All-same P choices (least.before ++ choice ∷ least.behind) least.parts
    (All-append P least.before (choice ∷ least.behind) front (All-cons P choice least.behind itself least.none_fewer))

-- what holds of each, holds of each with each
pub All-with_each : (P Q R : List ℕ → Type 0) → ((a b : List ℕ) → P a → Q b → R (a ++ b)) → (some others : List (List ℕ)) → All P some → All Q others → All R (with_each some others)
All-with_each P Q R joins [] others left right = All-nil R
All-with_each P Q R joins (a ∷ some) others left right =
    All-append R (map (λ b. a ++ b) others) (with_each some others)
    (All-map R (λ b. a ++ b) others (All-weaker Q (λ b. R (a ++ b)) (λ b q. joins a b (All-head P a some left) q) others right))
    (All-with_each P Q R joins some others (All-tail P a some left) right)

least_leaf : (has_hit : ℕ → Bool) (place : ℕ) → Least has_hit ((place ∷ []) ∷ []) (cond (has_hit place) 0 1) (place ∷ [])
least_leaf has_hit place = record {
  before = [];
  behind = [];
  parts = refl;
  has = one (has_hit place);
  more = All-nil (λ other. cond (has_hit place) 0 1 < misses has_hit other);
  none_fewer = All-nil (λ other. cond (has_hit place) 0 1 ≤ misses has_hit other);
}
  where
    one : (b : Bool) → 0 + cond (not b) 1 0 ≡ cond b 0 1
    one true = refl
    one false = refl

-- the left side has no more than the right
least_left : (has_hit : ℕ → Bool) (l r : List (List ℕ)) (n : ℕ) (c : List ℕ) → Least has_hit l n c → All (λ other. n ≤ misses has_hit other) r → Least has_hit (l ++ r) n c
least_left has_hit l r n c least right = record {
  before = least.before;
  behind = least.behind ++ r;
  parts = ap (λ all. all ++ r) least.parts ∙ append_assoc least.before (c ∷ least.behind) r;
  has = least.has;
  more = least.more;
  none_fewer = All-append (λ other. n ≤ misses has_hit other) least.behind r least.none_fewer right;
}

-- the right side has fewer than the left
least_right : (has_hit : ℕ → Bool) (l r : List (List ℕ)) (n : ℕ) (c : List ℕ) → Least has_hit r n c → All (λ other. n < misses has_hit other) l → Least has_hit (l ++ r) n c
least_right has_hit l r n c least left = record {
  before = l ++ least.before;
  behind = least.behind;
  parts = ap (λ all. l ++ all) least.parts ∙ sym (append_assoc l least.before (c ∷ least.behind));
  has = least.has;
  more = All-append (λ other. n < misses has_hit other) l least.before left least.more;
  none_fewer = least.none_fewer;
}

-- five lists in a row
regroup : (W B V A : List (List ℕ)) (x : List ℕ) → W ++ ((B ++ x ∷ A) ++ V) ≡ (W ++ B) ++ x ∷ (A ++ V)
regroup W B V A x = ap (λ all. W ++ all) (append_assoc B (x ∷ A) V) ∙ sym (append_assoc W B (x ∷ (A ++ V)))

least_both : (has_hit : ℕ → Bool) (l r : List (List ℕ)) (n m : ℕ) (c d : List ℕ) → Least has_hit l n c → Least has_hit r m d → Least has_hit (with_each l r) (n + m) (c ++ d)
least_both has_hit l r n m c d left right =
    let low : All (λ other. m ≤ misses has_hit other) r = none_below has_hit r m d right in
    let P : List ℕ → Type 0 = λ other. n + m < misses has_hit other in
    let Q : List ℕ → Type 0 = λ other. n + m ≤ misses has_hit other in
    record {
      before = with_each left.before r ++ map (λ b. c ++ b) right.before;
      behind = map (λ b. c ++ b) right.behind ++ with_each left.behind r;
      parts =
          ap (λ some. with_each some r) left.parts
          ∙ flat_map-append (λ a. map (λ b. a ++ b) r) left.before (c ∷ left.behind)
          ∙ ap (λ others. with_each left.before r ++ (map (λ b. c ++ b) others ++ with_each left.behind r)) right.parts
          ∙ ap (λ row. with_each left.before r ++ (row ++ with_each left.behind r)) (map-append (λ b. c ++ b) right.before (d ∷ right.behind))
          ∙ regroup (with_each left.before r) (map (λ b. c ++ b) right.before) (with_each left.behind r) (map (λ b. c ++ b) right.behind) (c ++ d);
      has = misses-append has_hit c d ∙ omega (arith, left.has, right.has);
      more =
          All-append P (with_each left.before r) (map (λ b. c ++ b) right.before)
          (All-with_each (λ a. n < misses has_hit a) (λ b. m ≤ misses has_hit b) P (λ a b p q. omega (arith, misses-append has_hit a b)) left.before r left.more low)
          (All-map P (λ b. c ++ b) right.before (All-weaker (λ b. m < misses has_hit b) (λ b. n + m < misses has_hit (c ++ b)) (λ b h. omega (arith, misses-append has_hit c b, left.has)) right.before right.more));
      none_fewer =
          All-append Q (map (λ b. c ++ b) right.behind) (with_each left.behind r)
          (All-map Q (λ b. c ++ b) right.behind (All-weaker (λ b. m ≤ misses has_hit b) (λ b. n + m ≤ misses has_hit (c ++ b)) (λ b h. omega (arith, misses-append has_hit c b, left.has)) right.behind right.none_fewer))
          (All-with_each (λ a. n ≤ misses has_hit a) (λ b. m ≤ misses has_hit b) Q (λ a b p q. omega (arith, misses-append has_hit a b)) left.behind r left.none_fewer low);
    }

least_either : (has_hit : ℕ → Bool) (l r : List (List ℕ)) (n m : ℕ) (c d : List ℕ) (less : Bool) → ltb m n ≡ less → Least has_hit l n c → Least has_hit r m d → Least has_hit (l ++ r) (cond less m n) (sides false less c d)
least_either has_hit l r n m c d true is left right =
    let below : m < n = ltb-true m n is in
    least_right has_hit l r m d right (All-weaker (λ other. n ≤ misses has_hit other) (λ other. m < misses has_hit other) (λ x h. omega arith) l (none_below has_hit l n c left))
least_either has_hit l r n m c d false is left right =
    let above : n ≤ m = ltb-false m n is in
    least_left has_hit l r n c left (All-weaker (λ other. m ≤ misses has_hit other) (λ other. n ≤ misses has_hit other) (λ x h. omega arith) r (none_below has_hit r m d right))

-- the choice that the walk takes
pub least_taken : (has_hit : ℕ → Bool) (tree : ExpressionTree) → Least has_hit (choices_of tree) (fewest_misses has_hit tree) (taken_places has_hit true false tree)
least_taken has_hit (leaf place) = least_leaf has_hit place
least_taken has_hit (both left right) =
    least_both has_hit (choices_of left) (choices_of right) (fewest_misses has_hit left) (fewest_misses has_hit right) (taken_places has_hit true false left) (taken_places has_hit true false right)
    (least_taken has_hit left) (least_taken has_hit right)
least_taken has_hit (either left right) =
    least_either has_hit (choices_of left) (choices_of right) (fewest_misses has_hit left) (fewest_misses has_hit right) (taken_places has_hit true false left) (taken_places has_hit true false right)
    (ltb (fewest_misses has_hit right) (fewest_misses has_hit left)) refl (least_taken has_hit left) (least_taken has_hit right)

-- in the words of the specification
pub first_least : (has_hit : ℕ → Bool) (tree : ExpressionTree) → IsFirstLeast has_hit (choices_of tree) (taken_places has_hit true false tree)
first_least has_hit tree =
    let least = least_taken has_hit tree in
    record {
      before = least.before;
      behind = least.behind;
      parts = least.parts;
      more = All-weaker (λ other. fewest_misses has_hit tree < misses has_hit other) (λ other. misses has_hit (taken_places has_hit true false tree) < misses has_hit other) (λ x h. omega (arith, least.has)) least.before least.more;
      none_fewer = All-weaker (λ other. fewest_misses has_hit tree ≤ misses has_hit other) (λ other. misses has_hit (taken_places has_hit true false tree) ≤ misses has_hit other) (λ x h. omega (arith, least.has)) least.behind least.none_fewer;
    }
