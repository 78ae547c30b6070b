-- Numbers of texts, which stay as further texts come.
use Rattle.std.proofs.Common.{◌≡◌, ◌∙◌, ℕ, ◌+◌, Bool, true, false, not, cond, ◌||◌, List, [], ◌∷◌, ◌++◌, map, refl, sym, ap, append-nil, append_assoc}
use Rattle.std.specs.List.{fold, list_any, position_or_len}
use Rattle.std.specs.Str.{bytes_eq}
use Rattle.std.proofs.lemmas.Slice.Eq.{bytes_eq-Decides}
use Rattle.graph_core.specs.Krate.{has_text}
use Rattle.check_notice.specs.declared.notice.KeyNumber.{KeyNumber}
use Rattle.check_notice.specs.Notice.{Cite, numbered, text_in}
use Rattle.check_notice.specs.Numbers.{number_in, with_text}

-- ---- searches

-- what some item passes, some item of a longer list does
pub any-front : {A : Type 0} (p : A → Bool) (xs ys : List A) → list_any p xs ≡ true → list_any p (xs ++ ys) ≡ true
any-front p [] ys some = absurd (cc)
any-front p (x ∷ xs) ys some = by (p x) refl (any-front p xs ys)
  where
    by : (b : Bool) → p x ≡ b → (list_any p xs ≡ true → list_any p (xs ++ ys) ≡ true) → list_any p (x ∷ (xs ++ ys)) ≡ true
    by true here rest = ap (λ b. b || list_any p (xs ++ ys)) here
    by false here rest = ap (λ b. b || list_any p (xs ++ ys)) here ∙ rest (sym (ap (λ b. b || list_any p xs) here) ∙ some)

pub any-last : {A : Type 0} (p : A → Bool) (xs : List A) (y : A) → p y ≡ true → list_any p (xs ++ y ∷ []) ≡ true
any-last p [] y here = ap (λ b. b || false) here
any-last p (x ∷ xs) y here = by (p x) refl (any-last p xs y here)
  where
    by : (b : Bool) → p x ≡ b → list_any p (xs ++ y ∷ []) ≡ true → list_any p (x ∷ (xs ++ y ∷ [])) ≡ true
    by true first rest = ap (λ b. b || list_any p (xs ++ y ∷ [])) first
    by false first rest = ap (λ b. b || list_any p (xs ++ y ∷ [])) first ∙ rest

-- the first place of what is there stays
pub position-front : {A : Type 0} (p : A → Bool) (xs ys : List A) → list_any p xs ≡ true → position_or_len p (xs ++ ys) ≡ position_or_len p xs
position-front p [] ys some = absurd (cc)
position-front p (x ∷ xs) ys some = by (p x) refl (position-front p xs ys)
  where
    by : (b : Bool) → p x ≡ b → (list_any p xs ≡ true → position_or_len p (xs ++ ys) ≡ position_or_len p xs) → position_or_len p (x ∷ (xs ++ ys)) ≡ position_or_len p (x ∷ xs)
    by true here rest = ap (λ b. cond (not b) (1 + position_or_len p (xs ++ ys)) 0) here ∙ sym (ap (λ b. cond (not b) (1 + position_or_len p xs) 0) here)
    by false here rest =
        ap (λ b. cond (not b) (1 + position_or_len p (xs ++ ys)) 0) here
        ∙ ap (λ n. 1 + n) (rest (sym (ap (λ b. b || list_any p xs) here) ∙ some))
        ∙ sym (ap (λ b. cond (not b) (1 + position_or_len p xs) 0) here)

-- ---- texts

pub same_text : (text : List ℕ) → bytes_eq text text ≡ true
same_text text = (bytes_eq-Decides text text).1 refl

pub swapped : (a b : List ℕ) → bytes_eq a b ≡ bytes_eq b a
swapped a b = by (bytes_eq a b) (bytes_eq b a) (bytes_eq-Decides a b) (bytes_eq-Decides b a)
  where
    by : (r s : Bool) → (r ≡ true → a ≡ b) × (a ≡ b → r ≡ true) → (s ≡ true → b ≡ a) × (b ≡ a → s ≡ true) → r ≡ s
    by true true p q = refl
    by true false p q = sym (q.1 (sym (p.0 refl)))
    by false true p q = p.1 (sym (q.0 refl))
    by false false p q = refl

pub has_with : (texts : List (List ℕ)) (text : List ℕ) → has_text (with_text texts text) text ≡ true
has_with texts text = by (has_text texts text) refl
  where
    by : (b : Bool) → has_text texts text ≡ b → has_text (cond (has_text texts text) texts (texts ++ text ∷ [])) text ≡ true
    by true there = ap (λ b. has_text (cond b texts (texts ++ text ∷ [])) text) there ∙ there
    by false there = ap (λ b. has_text (cond b texts (texts ++ text ∷ [])) text) there ∙ any-last (λ other. bytes_eq other text) texts text (same_text text)

-- texts only come behind those that are there
pub with_grows : (texts : List (List ℕ)) (text : List ℕ) → (rest : List (List ℕ)) × (with_text texts text ≡ texts ++ rest)
with_grows texts text = by (has_text texts text) refl
  where
    by : (b : Bool) → has_text texts text ≡ b → (rest : List (List ℕ)) × (cond (has_text texts text) texts (texts ++ text ∷ []) ≡ texts ++ rest)
    by true there = ([], ap (λ b. cond b texts (texts ++ text ∷ [])) there ∙ sym (append-nil texts))
    by false there = (text ∷ [], ap (λ b. cond b texts (texts ++ text ∷ [])) there)

pub all_grow : (texts more : List (List ℕ)) → (rest : List (List ℕ)) × (fold with_text texts more ≡ texts ++ rest)
all_grow texts [] = ([], sym (append-nil texts))
all_grow texts (text ∷ more) =
    let one = with_grows texts text in
    let others = all_grow (with_text texts text) more in
    (one.0 ++ others.0, others.1 ∙ ap (λ all. all ++ others.0) one.1 ∙ append_assoc texts one.0 others.0)

pub has_grown : (texts more : List (List ℕ)) (text : List ℕ) → has_text texts text ≡ true → has_text (fold with_text texts more) text ≡ true
has_grown texts more text there =
    let grown = all_grow texts more in
    ap (λ all. has_text all text) grown.1 ∙ any-front (λ other. bytes_eq other text) texts grown.0 there

-- the number of a text stays
pub number_stays : (texts more : List (List ℕ)) (text : List ℕ) → has_text texts text ≡ true → number_in (fold with_text texts more) text ≡ number_in texts text
number_stays texts more text there =
    let grown = all_grow texts more in
    ap (λ all. number_in all text) grown.1 ∙ ap (λ n. n + 1) (position-front (λ one. bytes_eq one text) texts grown.0 there)

-- ---- cites

-- the texts that are cited are there
abbrev pub AreThere : List (List ℕ) → List Cite → Type 0
AreThere texts [] = Unit {0}
AreThere texts (cite ∷ cites) = (has_text texts cite.text ≡ true) × AreThere texts cites

pub are_there : (texts : List (List ℕ)) (cites : List Cite) → AreThere (fold with_text texts (map text_in cites)) cites
are_there texts [] = tt
are_there texts (cite ∷ cites) = (
  has_grown (with_text texts cite.text) (map text_in cites) cite.text (has_with texts cite.text),
  are_there (with_text texts cite.text) cites,
)

pub still_there : (texts more : List (List ℕ)) (cites : List Cite) → AreThere texts cites → AreThere (fold with_text texts more) cites
still_there texts more [] there = tt
still_there texts more (cite ∷ cites) there = (has_grown texts more cite.text there.0, still_there texts more cites there.1)

pub numbers_stay : (texts more : List (List ℕ)) (cites : List Cite) → AreThere texts cites → map (numbered texts) cites ≡ map (numbered (fold with_text texts more)) cites
numbers_stay texts more [] there = refl
numbers_stay texts more (cite ∷ cites) there =
    let first : KeyNumber = numbered (fold with_text texts more) cite in
    ap (λ n. record { key = cite.key; number = n } ∷ map (numbered texts) cites) (sym (number_stays texts more cite.text there.0))
    ∙ ap (λ (keys : List KeyNumber). first ∷ keys) (numbers_stay texts more cites there.1)
