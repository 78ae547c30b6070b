-- Tokens that are written one after another.
use Rattle.std.proofs.Common.{◌≡◌, refl, ap, ap₂, subst, ◌∙◌, ℕ, List, [], ◌∷◌, ◌++◌, append_assoc, flat_map, map, decimal, Result, Ok, Err, OnOk}
use Rattle.json.specs.Print.{print}
use Rattle.json.specs.Token.{Token, end_array, key, string, number}
use Rattle.json.specs.Tree.{items_tokens}
use Rattle.json.specs.Written.{Written, Writes}
use Rattle.serde_json.specs.Data.{Data}
use Rattle.serde_json.specs.View.{items_of}
use Rattle.serde_json.specs.Written.{items_outline}
use Rattle.diag_print.specs.JsonTokens.{Adds, data_tokens}

-- items, one behind the other
abbrev pub each_tokens : {A : Type 0} → (A → Data) → List A → List Token
each_tokens f xs = flat_map (λ x. data_tokens (f x)) xs

-- and the closing bracket
pub items_written : {A : Type 0} (f : A → Data) (xs : List A) → each_tokens f xs ++ end_array ∷ [] ≡ items_tokens (items_outline (items_of (map f xs)))
items_written f [] = refl
items_written f (x ∷ xs) = append_assoc (data_tokens (f x)) _ _ ∙ ap (λ tokens. data_tokens (f x) ++ tokens) (items_written f xs)

pub both : (old middle new : Written) (first second : List Token) → Adds old middle first → Adds middle new second → Adds old new (first ++ second)
both old middle new first second one other = record {
  before = other.before ∙ one.before;
  tokens = other.tokens ∙ ap (λ tokens. tokens ++ second) one.tokens ∙ append_assoc old.tokens first second;
}

pub same : (old new : Written) (first second : List Token) → first ≡ second → Adds old new first → Adds old new second
same old new first second e adds = subst (λ tokens. Adds old new tokens) e adds

-- a token that was written
pub one : {E : Type 0} (value : Unit {0}) (old new : Written) (token : Token) → Writes {E = E} (Ok value) old new token → Adds old new (token ∷ [])
one value old new token writes = record { before = writes.room.0; tokens = writes.ok }

-- the last token, where it was written
pub last : {E : Type 0} (result : Result (Unit {0}) E) (old new : Written) (token : Token) → Writes result old new token → OnOk result (Adds old new (token ∷ []))
last (Ok value) old new token writes = one value old new token writes
last (Err error) old new token writes = tt

-- one step, and then all others
pub then : {E : Type 0} (result : Result (Unit {0}) E) (old middle new : Written) (first second : List Token) → Adds old middle first → OnOk result (Adds middle new second) → OnOk result (Adds old new (first ++ second))
then (Ok value) old middle new first second step rest = both old middle new first second step rest
then (Err error) old middle new first second step rest = tt

pub as_wanted : {E : Type 0} (result : Result (Unit {0}) E) (old new : Written) (first second : List Token) → first ≡ second → OnOk result (Adds old new first) → OnOk result (Adds old new second)
as_wanted (Ok value) old new first second e adds = same old new first second e adds
as_wanted (Err error) old new first second e adds = tt

-- a member that is a text, or a number, of which another name is known
pub text_member : (old new : Written) (name text wanted : List ℕ) → text ≡ wanted → Adds old new (key name ∷ string text ∷ []) → Adds old new (key name ∷ string wanted ∷ [])
text_member old new name text wanted e adds = same old new _ _ (ap (λ known. key name ∷ string known ∷ []) e) adds

pub number_member : (old new : Written) (name : List ℕ) (value wanted : ℕ) → value ≡ wanted → Adds old new (key name ∷ number (decimal value) ∷ []) → Adds old new (key name ∷ number (decimal wanted) ∷ [])
number_member old new name value wanted e adds = same old new _ _ (ap (λ known. key name ∷ number (decimal known) ∷ []) e) adds

-- what a writer holds that began behind some bytes
pub held : (start items : List ℕ) (old new : Written) (tokens : List Token) → old.before ≡ start → old.tokens ≡ [] → Adds old new tokens → items ≡ new.before ++ print new.tokens → items ≡ start ++ print tokens
held start items old new tokens before none adds e =
    e ∙ ap₂ (λ bytes written. bytes ++ print written) (adds.before ∙ before) (adds.tokens ∙ ap (λ written. written ++ tokens) none)
