-- Steps of a reading, and what is behind a byte or a text.
use Rattle.std.proofs.Common.{◌≡◌, ◌⊎◌, ◌∙◌, refl, sym, ap, inl, inr, ℕ, ◌&&◌, Bool, true, false, true≢false, cond, eqb, nat_eq, eqb-true, List, [], ◌∷◌, ◌++◌, length, take, drop, drop_at, Option, Some, None}
use Rattle.std.specs.List.{starts_with}
use Rattle.std.proofs.lemmas.Bool.Decides.{Decides-eqb}
use Rattle.std.proofs.lemmas.Slice.Eq.{starts_is}
use Rattle.check_record.specs.Reading.{◌>>=◌, begins, rest_behind, behind_text}

abbrev pub some : {A : Type 0} → A → Option A
some x = Some x

pub some_is : {A : Type 0} (x y : A) → some x ≡ some y → x ≡ y
some_is x y e = cc

-- the value of a step that read something
pub bind_some : {A B : Type 0} (read : Option A) (next : A → Option B) (y : B) → (read >>= next) ≡ Some y → (x : A) × (read ≡ Some x) × (next x ≡ Some y)
bind_some (Some x) next y e = (x, refl, e)
bind_some None next y e = absurd cc

-- which side a test took
pub pick : {A : Type 0} (b : Bool) (x y z : A) → cond b x y ≡ z → ((b ≡ true) × (x ≡ z)) ⊎ ((b ≡ false) × (y ≡ z))
pick true x y z e = inl (refl, e)
pick false x y z e = inr (refl, e)

-- a test without which nothing is read
pub passes : {A : Type 0} (b : Bool) (x : Option A) (y : A) → cond b x None ≡ Some y → (b ≡ true) × (x ≡ Some y)
passes true x y e = (refl, e)
passes false x y e = absurd cc

pub both : (a b : Bool) → (a && b) ≡ true → (a ≡ true) × (b ≡ true)
both true b e = (refl, e)
both false b e = absurd (true≢false (sym e))

pub and_true : (a b : Bool) → a ≡ true → b ≡ true → (a && b) ≡ true
and_true a b p q = rw (p, q) refl

-- ---- bytes

pub begins_is : (byte : ℕ) (bytes : List ℕ) → begins byte bytes ≡ true → bytes ≡ byte ∷ drop 1 bytes
begins_is byte [] e = absurd (true≢false (sym e))
begins_is byte (first ∷ bytes) e = ap (λ (b : ℕ). b ∷ bytes) (eqb-true first byte e)

pub behind_is : (byte : ℕ) (bytes rest : List ℕ) → rest_behind byte bytes ≡ Some rest → bytes ≡ byte ∷ rest
behind_is byte bytes rest e =
    let p = passes (begins byte bytes) (Some (drop 1 bytes)) rest e in
    begins_is byte bytes p.0 ∙ ap (λ (r : List ℕ). byte ∷ r) (some_is (drop 1 bytes) rest p.1)

-- ---- texts

pub behind_text_is : (text bytes rest : List ℕ) → behind_text text bytes ≡ Some rest → bytes ≡ text ++ rest
unfolding behind_text
behind_text_is text bytes rest e =
    let p = passes (starts_with nat_eq bytes text) (Some (drop (length text) bytes)) rest e in
    let found = starts_is Decides-eqb bytes text (starts_with nat_eq bytes text) refl in
    found.0 p.0 ∙ ap (λ (r : List ℕ). text ++ r) (some_is (drop (length text) bytes) rest p.1)

pub behind_text_again : (text rest : List ℕ) → behind_text text (text ++ rest) ≡ Some rest
unfolding behind_text
behind_text_again text rest =
    let found = starts_is Decides-eqb (text ++ rest) text (starts_with nat_eq (text ++ rest) text) refl in
    rw (found.1 rest refl, drop_at text rest (length text) refl) refl
