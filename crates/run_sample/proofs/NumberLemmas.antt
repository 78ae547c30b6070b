-- The numbers of the crates, one after another.
use Rattle.std.proofs.Common.{◌≡◌, ◌∙◌, sym, ap, ℕ, zero, suc, ◌+◌, List, [], ◌∷◌, ◌++◌, append_assoc, append-nil, arith}
use Rattle.std.specs.List.{flat_map, fold, range_with_len}
use Rattle.std.proofs.lemmas.List.Concat.{flat_map-append}
use Rattle.std.proofs.lemmas.List.Sums.{fold-append}
use Rattle.run_sample.specs.Metadata.{numbers}

range_more : (a n : ℕ) → range_with_len a (suc n) ≡ range_with_len a n ++ (a + n) ∷ []
range_more a zero = let e : a ≡ a + 0 = omega arith in ap (λ x. x ∷ []) e
range_more a (suc n) =
    let e : a + 1 + n ≡ a + suc n = omega arith in
    ap (λ rest. a ∷ rest) (range_more (a + 1) n ∙ ap (λ x. range_with_len (a + 1) n ++ x ∷ []) e)

-- one number more
pub numbers_more : (n : ℕ) → numbers (n + 1) ≡ numbers n ++ n ∷ []
numbers_more n =
    let on : n + 1 ≡ suc n = omega arith in
    let same : 0 + n ≡ n = omega arith in
    ap (range_with_len 0) on ∙ range_more 0 n ∙ ap (λ x. range_with_len 0 n ++ x ∷ []) same

pub fold_more : {B : Type 0} (f : B → ℕ → B) (a : B) (n : ℕ) → fold f a (numbers (n + 1)) ≡ f (fold f a (numbers n)) n
fold_more f a n = ap (fold f a) (numbers_more n) ∙ fold-append f a (numbers n) (n ∷ [])

-- the text of one more
pub text_more : (f : ℕ → List ℕ) (start before after : List ℕ) (n : ℕ) → before ≡ start ++ flat_map f (numbers n) → after ≡ before ++ f n → after ≡ start ++ flat_map f (numbers (n + 1))
text_more f start before after n was adds =
    adds
    ∙ ap (λ text. text ++ f n) was
    ∙ append_assoc start (flat_map f (numbers n)) (f n)
    ∙ ap (λ text. start ++ text) (ap (λ text. flat_map f (numbers n) ++ text) (sym (append-nil (f n))) ∙ sym (ap (flat_map f) (numbers_more n) ∙ flat_map-append f (numbers n) (n ∷ [])))
