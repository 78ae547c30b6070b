-- What follows from an answer.
use Rattle.std.proofs.Common.{◌≡◌, ℕ, ◌⊎◌, inl, inr, Bool, true, false, cond, List, Option, Some, None, Ok, Err, option_map, option_and_then, true≢false, refl, ap, sym}
use Rattle.toml_subset.specs.Answer.{TomlReading, then_read, fault_or}
use Rattle.toml_subset.specs.Reading.{edit_reading}
use Rattle.toml_subset.specs.declared.error.SyntaxError.{SyntaxError}

pub map_some : {A B : Type 0} (f : A → B) (o : Option A) (r : B) → option_map f o ≡ Some r → (x : A) × (o ≡ Some x) × (f x ≡ r)
map_some f None r e = absurd (cc)
map_some f (Some x) r e = (x, refl, cc)

pub then_some : {A B : Type 0} (f : A → Option B) (o : Option A) (r : B) → option_and_then f o ≡ Some r → (x : A) × (o ≡ Some x) × (f x ≡ Some r)
then_some f None r e = absurd (cc)
then_some f (Some x) r e = (x, refl, e)

pub is_some : {A : Type 0} (x y : A) → Some x ≡ Some y → x ≡ y
is_some x y e = cc

pub is_ok : {A : Type 0} (x y : A) → ◌≡◌ {A = TomlReading A} (Ok x) (Ok y) → x ≡ y
is_ok x y e = cc

pub not_ok : {A : Type 0} (fault : SyntaxError) (x : A) → ◌≡◌ {A = TomlReading A} (Err fault) (Ok x) → ⊥
not_ok fault x e = cc

pub then_ok : {A B : Type 0} (f : A → TomlReading B) (o : TomlReading A) (r : B) → then_read f o ≡ Ok r → (x : A) × (o ≡ Ok x) × (f x ≡ Ok r)
then_ok f (Err fault) r e = absurd (not_ok fault r e)
then_ok f (Ok x) r e = (x, refl, e)

pub unless_ok : {A : Type 0} (fault : Option SyntaxError) (o : TomlReading A) (r : A) → fault_or fault o ≡ Ok r → (fault ≡ None) × (o ≡ Ok r)
unless_ok (Some fault) o r e = absurd (not_ok fault r e)
unless_ok None o r e = (refl, e)

pub made_ok : {A : Type 0} (text : List ℕ) (o : Option A) (r : A) → edit_reading text o ≡ Ok r → o ≡ Some r
made_ok text (Some x) r e = ap (λ y. Some y) (is_ok x r e)
made_ok text None r e = absurd (not_ok _ r e)

pub if_is : {A : Type 0} (b : Bool) (x y z : A) → cond b x y ≡ z → ((b ≡ true) × (x ≡ z)) ⊎ ((b ≡ false) × (y ≡ z))
if_is true x y z e = inl (refl, e)
if_is false x y z e = inr (refl, e)

pub if_true : {A : Type 0} (b : Bool) (x y : A) → b ≡ true → cond b x y ≡ x
if_true true x y h = refl
if_true false x y h = absurd (true≢false (sym h))

pub if_false : {A : Type 0} (b : Bool) (x y : A) → b ≡ false → cond b x y ≡ y
if_false true x y h = absurd (true≢false h)
if_false false x y h = refl
