-- The calls of a tree, each with what it answered, as they are stored.
use Rattle.std.specs.Prelude.{◌≡◌, ℕ, ◌⊎◌, Bool, true, false, List, refl}
use Rattle.std.proofs.Common.{inl, inr}
use Rattle.std.specs.Coded.{Coded, code_by, coded×, coded⊎, coded_ℕ, coded_bool, coded_list}

-- what was asked: the bytes of a file, what is in a folder, whether a file is there, whether anything does
pub data CallKind : Type 0 where
  read : CallKind
  list : CallKind
  is_file : CallKind
  exists : CallKind

-- what was answered; an entry is a name and whether it is a file
pub data CallAnswer : Type 0 where
  bytes : List ℕ → CallAnswer
  entries : List (List ℕ × Bool) → CallAnswer
  told : Bool → CallAnswer
  absent : CallAnswer
  wrong_kind : CallAnswer
  failed : CallAnswer
  no_memory : CallAnswer

-- a call: what was asked, the path as it was given, and the answer
pub record Call : Type 0 where
  pub asked : CallKind
  pub path : List ℕ
  pub answer : CallAnswer

abbrev pub asked_parts : CallKind → Bool × Bool
asked_parts read = (false, false)
asked_parts list = (false, true)
asked_parts is_file = (true, false)
asked_parts exists = (true, true)

abbrev pub asked_from : Bool × Bool → CallKind
asked_from (false, false) = read
asked_from (false, true) = list
asked_from (true, false) = is_file
asked_from (true, true) = exists

pub asked_from-asked_parts : (asked : CallKind) → asked_from (asked_parts asked) ≡ asked
asked_from-asked_parts read = refl
asked_from-asked_parts list = refl
asked_from-asked_parts is_file = refl
asked_from-asked_parts exists = refl

abbrev pub Parts : Type 0
Parts = List ℕ ⊎ (List (List ℕ × Bool) ⊎ (Bool ⊎ (Bool × Bool)))

abbrev pub answered_parts : CallAnswer → Parts
answered_parts (bytes items) = inl items
answered_parts (entries items) = inr (inl items)
answered_parts (told answer) = inr (inr (inl answer))
answered_parts absent = inr (inr (inr (false, false)))
answered_parts wrong_kind = inr (inr (inr (false, true)))
answered_parts failed = inr (inr (inr (true, false)))
answered_parts no_memory = inr (inr (inr (true, true)))

abbrev pub refusal_from : Bool × Bool → CallAnswer
refusal_from (false, false) = absent
refusal_from (false, true) = wrong_kind
refusal_from (true, false) = failed
refusal_from (true, true) = no_memory

abbrev pub answered_from : Parts → CallAnswer
answered_from (inl items) = bytes items
answered_from (inr (inl items)) = entries items
answered_from (inr (inr (inl answer))) = told answer
answered_from (inr (inr (inr refusal))) = refusal_from refusal

pub answered_from-answered_parts : (answer : CallAnswer) → answered_from (answered_parts answer) ≡ answer
answered_from-answered_parts (bytes items) = refl
answered_from-answered_parts (entries items) = refl
answered_from-answered_parts (told answer) = refl
answered_from-answered_parts absent = refl
answered_from-answered_parts wrong_kind = refl
answered_from-answered_parts failed = refl
answered_from-answered_parts no_memory = refl

abbrev pub asked_code : Coded CallKind
asked_code = code_by (Bool × Bool) (coded× coded_bool coded_bool) asked_parts asked_from asked_from-asked_parts

abbrev pub answered_code : Coded CallAnswer
answered_code =
    code_by Parts (coded⊎ (coded_list coded_ℕ)
    (coded⊎ (coded_list (coded× (coded_list coded_ℕ) coded_bool)) (coded⊎ coded_bool (coded× coded_bool coded_bool))))
    answered_parts answered_from answered_from-answered_parts

abbrev pub call_code : Coded Call
call_code =
    code_by (CallKind × (List ℕ × CallAnswer)) (coded× asked_code (coded× (coded_list coded_ℕ) answered_code))
    (λ c. (c.asked, (c.path, c.answer))) (λ p. record { asked = p.0; path = p.1.0; answer = p.1.1 }) (λ _. refl)
