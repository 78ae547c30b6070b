-- How many entries the check asks at most.
use Rattle.std.specs.Prelude.{◌↔◌, ℕ, ◌+◌, Bool, true, false, IsTrue, List, [], ◌∷◌}
use Rattle.std.specs.List.{AllZip}
use Rattle.gather_core.specs.declared.findings.license.LicenseInfo.{LicenseInfo}
use Rattle.gather_core.specs.declared.findings.license.LicenseInfo.TheVariants.{SpdxExpression, Unlicensed}
use Rattle.policy_core.specs.valid.Policy.{IsPrivate, Policy}
use Rattle.check_core.specs.evaluate.Entries.{entries_of_terms}
use Rattle.check_core.specs.Turns.{GatheredCrate}

-- those for the terms of a crate's expression; none where it has no expression
abbrev pub entries_of_info : Policy → List ℕ → LicenseInfo → ℕ
entries_of_info policy counted Unlicensed = 0
entries_of_info policy counted (SpdxExpression expression nfo) = entries_of_terms policy counted expression.terms

-- none for a crate that is passed over
abbrev pub entries_for : Bool → Policy → GatheredCrate → ℕ
entries_for true policy asked = 0
entries_for false policy asked = entries_of_info policy asked.exceptions asked.info

-- which crates are passed over
abbrev pub ArePassedOver : Policy → List GatheredCrate → List Bool → Type 0
ArePassedOver policy asked passed =
    AllZip (λ (one : GatheredCrate) private. IsTrue private ↔ IsPrivate policy one.krate) asked passed

-- those for all crates, by which of them are passed over
abbrev pub entries_of_all : Policy → List GatheredCrate → List Bool → ℕ
entries_of_all policy [] passed = 0
entries_of_all policy (asked ∷ more) [] = 0
entries_of_all policy (asked ∷ more) (private ∷ passed) =
    entries_for private policy asked + entries_of_all policy more passed
