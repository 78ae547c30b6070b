-- Steps of a reading, and what is behind a text.
use Rattle.std.proofs.Common.{◌≡◌, ◌∙◌, refl, sym, ap, ◌&&◌, Bool, true, false, true≢false, cond, nat_eq, List, ◌++◌, length, drop, drop_at, Option, Some, None, ℕ}
use Rattle.std.specs.List.{starts_with}
use Rattle.std.proofs.lemmas.Bool.Decides.{Decides-eqb}
use Rattle.std.proofs.lemmas.Slice.Eq.{starts_is}
use Rattle.check_bill.specs.Reading.{◌>>=◌, behind_text}

abbrev some : {A : Type 0} → A → Option A
some x = Some x

pub some_is : {A : Type 0} (x y : A) → some x ≡ some y → x ≡ y
some_is x y e = cc

-- the value of a step that read something
pub bind_some : {A B : Type 0} (read : Option A) (next : A → Option B) (y : B) → (read >>= next) ≡ Some y → (x : A) × (read ≡ Some x) × (next x ≡ Some y)
bind_some (Some x) next y e = (x, refl, e)
bind_some None next y e = absurd cc

-- a test without which nothing is read
pub passes : {A : Type 0} (b : Bool) (x : Option A) (y : A) → cond b x None ≡ Some y → (b ≡ true) × (x ≡ Some y)
passes true x y e = (refl, e)
passes false x y e = absurd cc

pub both : (a b : Bool) → (a && b) ≡ true → (a ≡ true) × (b ≡ true)
both true b e = (refl, e)
both false b e = absurd (true≢false (sym e))

pub and_true : (a b : Bool) → a ≡ true → b ≡ true → (a && b) ≡ true
and_true a b p q = rw (p, q) refl

pub behind_text_is : (text bytes rest : List ℕ) → behind_text text bytes ≡ Some rest → bytes ≡ text ++ rest
unfolding behind_text
behind_text_is text bytes rest e =
    let p = passes (starts_with nat_eq bytes text) (Some (drop (length text) bytes)) rest e in
    let found = starts_is Decides-eqb bytes text (starts_with nat_eq bytes text) refl in
    found.0 p.0 ∙ ap (λ (r : List ℕ). text ++ r) (some_is (drop (length text) bytes) rest p.1)

pub behind_text_again : (text rest : List ℕ) → behind_text text (text ++ rest) ≡ Some rest
unfolding behind_text
behind_text_again text rest =
    let found = starts_is Decides-eqb (text ++ rest) text (starts_with nat_eq (text ++ rest) text) refl in
    rw (found.1 rest refl, drop_at text rest (length text) refl) refl
