-- The looks of a search, by what a tree answered.
use Rattle.std.specs.Prelude.{◌≡◌, ℕ, ◌⊎◌, true, false, List, [], ◌∷◌, ◌++◌, map, Option, Some, None}
use Rattle.tree_core.specs.Call as call
use Rattle.tree_core.specs.Call.{CallAnswer, Call}
use Rattle.tree_core.specs.declared.texts.search.SearchError.{SearchError}
use Rattle.tree_core.specs.declared.texts.search.SearchError.TheVariants.{Failed, Memory}

abbrev pub look_of : List ℕ → CallAnswer → Call
look_of path answer = record { asked = call.exists; path = path; answer = answer }

-- looks that were reported that nothing is there
abbrev pub absent_looks : List (List ℕ) → List Call
absent_looks paths = map (λ path. look_of path (call.told false)) paths

-- one path was looked at last: there something is there
pub record IsHit (paths : List (List ℕ)) (old new : List Call) (found : List ℕ) : Type 0 where
  pub before : List (List ℕ)
  pub rest : List (List ℕ)
  pub parts : paths ≡ before ++ found ∷ rest
  pub made : new ≡ old ++ absent_looks before ++ look_of found (call.told true) ∷ []

-- What a search of paths in order found: at all of them nothing is there, or at the first ones, and then something;
-- none behind it was looked at.
abbrev pub FindsByLooks : List (List ℕ) → List Call → List Call → Option (List ℕ) → Type 0
FindsByLooks paths old new None = new ≡ old ++ absent_looks paths
FindsByLooks paths old new (Some found) = IsHit paths old new found

-- ---- a search that was given up

-- how the call of a look was answered that ended a search
abbrev pub failed_look : SearchError → CallAnswer
failed_look (Failed before after) = call.failed
failed_look Memory = call.no_memory

-- one path was looked at last, behind those at which nothing is there, and this was answered
pub record IsLast (paths : List (List ℕ)) (old new : List Call) (answer : CallAnswer) : Type 0 where
  pub before : List (List ℕ)
  pub last : List ℕ
  pub rest : List (List ℕ)
  pub parts : paths ≡ before ++ last ∷ rest
  pub made : new ≡ old ++ absent_looks before ++ look_of last answer ∷ []

-- the first of the paths were looked at, or none of them, and at these nothing is there
pub record AreFirstLooks (paths : List (List ℕ)) (old new : List Call) : Type 0 where
  pub before : List (List ℕ)
  pub rest : List (List ℕ)
  pub parts : paths ≡ before ++ rest
  pub made : new ≡ old ++ absent_looks before

-- A search of paths in order was given up: at the look that failed, or at the one that memory was wanting for, or, for
-- want of memory too, between two looks.
abbrev pub LookedUntil : List (List ℕ) → List Call → List Call → SearchError → Type 0
LookedUntil paths old new (Failed before after) = IsLast paths old new call.failed
LookedUntil paths old new Memory = AreFirstLooks paths old new ⊎ IsLast paths old new call.no_memory
