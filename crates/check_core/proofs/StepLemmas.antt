-- The entries that are asked, crate by crate.
use Rattle.std.proofs.Common.{◌≡◌, ◌∙◌, refl, sym, subst, ℕ, zero, suc, ◌+◌, ◌<◌, ◌≤◌, Bool, true, false, IsTrue, List, [], ◌∷◌, ◌++◌, length, drop, get_or, arith}
use Rattle.std.specs.Prelude.{◌↔◌}
use Rattle.std.proofs.lemmas.List.{length_push}
use Rattle.gather_core.specs.declared.summary.KrateLicense.{KrateLicense}
use Rattle.policy_core.specs.valid.Policy.{IsPrivate, Policy}
use Rattle.check_core.specs.Steps.{ArePassedOver, entries_for, entries_of_all, entries_of_info}
use Rattle.check_core.specs.Summary.{gathered_of_license, gathered_of_licenses}
use Rattle.check_core.specs.Turns.{GatheredCrate}
use Rattle.check_core.proofs.FrontLemmas.{is_behind, lies_inside}

-- of a crate that is not passed over
pub asked_bound : (policy : Policy) (asked : GatheredCrate) (passed : Bool) (before after : ℕ) → IsTrue passed ↔ IsPrivate policy asked.krate → passed ≡ false
    → after ≤ before + entries_of_info policy asked.exceptions asked.info
    → (private : Bool) → IsTrue private ↔ IsPrivate policy asked.krate → after ≤ before + entries_for private policy asked
asked_bound policy asked passed before after tells asks bound true same =
    let yes : passed ≡ true = tells.1 (same.0 refl) in let never : true ≡ false = sym yes ∙ asks in absurd (cc never)
asked_bound policy asked passed before after tells asks bound false same = bound

-- ---- one crate after another

-- whether a crate is passed over, and what is left behind it
pub record Next (policy : Policy) (licenses : List KrateLicense) (passed : List Bool) (i j : ℕ) (license : KrateLicense) : Type 0 where
  pub private : Bool
  pub tells : IsTrue private ↔ IsPrivate policy (gathered_of_license license).krate
  pub left : entries_of_all policy (drop i (gathered_of_licenses licenses)) (drop i passed)
      ≡ entries_for private policy (gathered_of_license license) + entries_of_all policy (drop j (gathered_of_licenses licenses)) (drop j passed)

next_from : (policy : Policy) (licenses : List KrateLicense) (passed : List Bool) (i : ℕ) (d : KrateLicense) → i < length licenses
    → ArePassedOver policy (gathered_of_licenses licenses) passed → Next policy licenses passed i (suc i) (get_or licenses i d)
next_from policy [] passed i d inside are = absurd (omega arith)
next_from policy (one ∷ more) [] i d inside are = absurd are
next_from policy (one ∷ more) (private ∷ passed) zero d inside are = record { private = private; tells = are.0; left = refl }
next_from policy (one ∷ more) (private ∷ passed) (suc i) d inside are =
    let next = next_from policy more passed i d (omega arith) are.1 in record { private = next.private; tells = next.tells; left = next.left }

-- from some steps on, those so far and the entries of the crates that are left are at most those of all
abbrev pub IsBounded : Policy → List KrateLicense → ℕ → ℕ → ℕ → Type 0
IsBounded policy licenses i start steps = (passed : List Bool) → ArePassedOver policy (gathered_of_licenses licenses) passed
    → steps + entries_of_all policy (drop i (gathered_of_licenses licenses)) (drop i passed) ≤ start + entries_of_all policy (gathered_of_licenses licenses) passed

pub bounded_at_first : (policy : Policy) (licenses : List KrateLicense) (start : ℕ) → IsBounded policy licenses 0 start start
bounded_at_first policy licenses start passed are = omega arith

bounded_step : (policy : Policy) (licenses : List KrateLicense) (i : ℕ) (license : KrateLicense) (start before after : ℕ) → i < length licenses → license ≡ get_or licenses i license
    → ((private : Bool) → IsTrue private ↔ IsPrivate policy (gathered_of_license license).krate → after ≤ before + entries_for private policy (gathered_of_license license))
    → IsBounded policy licenses i start before → IsBounded policy licenses (i + 1) start after
bounded_step policy licenses i license start before after inside is takes bounded passed are =
    let j_is : suc i ≡ i + 1 = omega arith in
    let next : Next policy licenses passed i (i + 1) license =
    subst (λ (j : ℕ). Next policy licenses passed i j license) j_is
    (subst (λ (one : KrateLicense). Next policy licenses passed i (suc i) one) (sym is) (next_from policy licenses passed i license inside are)) in
    let left = next.left in
    let so_far = bounded passed are in
    let here = takes next.private next.tells in
    omega arith

pub bounded_whole : (policy : Policy) (licenses : List KrateLicense) (i start steps : ℕ) → IsBounded policy licenses i start steps
    → (passed : List Bool) → ArePassedOver policy (gathered_of_licenses licenses) passed → steps ≤ start + entries_of_all policy (gathered_of_licenses licenses) passed
bounded_whole policy licenses i start steps bounded passed are = let so_far = bounded passed are in omega arith

-- after one more crate, which is behind those before
pub bounded_next : (policy : Policy) (licenses front rest : List KrateLicense) (license : KrateLicense) (start before after : ℕ) → front ++ license ∷ rest ≡ licenses
    → ((private : Bool) → IsTrue private ↔ IsPrivate policy (gathered_of_license license).krate → after ≤ before + entries_for private policy (gathered_of_license license))
    → IsBounded policy licenses (length front) start before → IsBounded policy licenses (length (front ++ license ∷ [])) start after
bounded_next policy licenses front rest license start before after whole takes bounded =
    subst (λ (place : ℕ). IsBounded policy licenses place start after) (sym (length_push front license))
    (bounded_step policy licenses (length front) license start before after (lies_inside licenses front rest license whole) (is_behind licenses front rest license whole) takes bounded)

pub bounded_after : (policy : Policy) (licenses front rest : List KrateLicense) (license : KrateLicense) (start before after : ℕ) → front ++ license ∷ rest ≡ licenses
    → ((private : Bool) → IsTrue private ↔ IsPrivate policy (gathered_of_license license).krate → after ≤ before + entries_for private policy (gathered_of_license license))
    → IsBounded policy licenses (length front) start before
    → (passed : List Bool) → ArePassedOver policy (gathered_of_licenses licenses) passed → after ≤ start + entries_of_all policy (gathered_of_licenses licenses) passed
bounded_after policy licenses front rest license start before after whole takes bounded =
    bounded_whole policy licenses (length (front ++ license ∷ [])) start after (bounded_next policy licenses front rest license start before after whole takes bounded)
