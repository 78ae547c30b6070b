-- What is reported of each crate, and after all of them.
use Rattle.std.specs.Prelude.{ℕ, Bool, true, false, List, [], ◌∷◌, ◌++◌}
use Rattle.graph_core.specs.Krate.{CrateRecord}
use Rattle.spdx_core.specs.declared.certificates.verdict.Hit.{Hit}
use Rattle.diag_core.specs.declared.pack.Diag.{Diag}
use Rattle.diag_core.specs.Pack.{PackOf}
pub use Rattle.gather_core.specs.findings.License.{expression_of}
use Rattle.gather_core.specs.declared.findings.license.LicenseInfo.{LicenseInfo}
use Rattle.gather_core.specs.declared.findings.license.LicenseInfo.TheVariants.{SpdxExpression, Unlicensed}
use Rattle.policy_core.specs.valid.Policy.{Policy}
use Rattle.check_core.specs.evaluate.Private.{PrivateNumbers}
use Rattle.check_core.specs.evaluate.Entries.{EntryFamilies}
use Rattle.check_core.specs.evaluate.Evaluation.{is_allowed, term_hits}
use Rattle.check_core.specs.unused.Flags.{Flags}
use Rattle.check_core.specs.unused.Unused.{hits_in}
use Rattle.check_core.specs.findings.Findings as findings
use Rattle.check_core.specs.findings.Findings.{verdict_labels, expression_finding, pack_of}

-- a crate, the places of the exceptions that count for it, its licence, what was found on the way to that, and what is
-- noted
pub record GatheredCrate : Type 0 where
  pub krate : CrateRecord
  pub exceptions : List ℕ
  pub info : LicenseInfo
  pub gathered : List Diag
  pub notes : List (List ℕ)

-- ---- of one crate

-- the one verdict finding of a crate that is not passed over
abbrev pub verdict_finding : Policy → CrateRecord → List ℕ → LicenseInfo → List (List ℕ) → Diag
verdict_finding policy krate counted Unlicensed notes = findings.unlicensed_finding krate notes
verdict_finding policy krate counted (SpdxExpression expression nfo) notes =
    expression_finding (is_allowed policy counted expression.terms expression.tree)
    (verdict_labels expression nfo (term_hits policy counted expression.terms)) notes

-- That it is skipped, alone; or else what was gathered, in its order, and then the verdict with the gathered notes.
abbrev pub findings_by : Bool → Policy → GatheredCrate → List Diag
findings_by true policy asked = findings.skipped_finding asked.krate ∷ []
findings_by false policy asked =
    asked.gathered ++ verdict_finding policy asked.krate asked.exceptions asked.info asked.notes ∷ []

abbrev pub pack_by : Bool → Policy → GatheredCrate → PackOf
pack_by private policy asked = pack_of asked.krate (findings_by private policy asked)

-- the hits of all terms of its expression, be they enough or not; a crate that is passed over has none
abbrev pub hits_of : Policy → List ℕ → LicenseInfo → List Hit
hits_of policy counted Unlicensed = []
hits_of policy counted (SpdxExpression expression nfo) = hits_in (term_hits policy counted expression.terms)

abbrev pub hits_by : Bool → Policy → GatheredCrate → List Hit
hits_by true policy asked = []
hits_by false policy asked = hits_of policy asked.exceptions asked.info

-- ---- what is kept from crate to crate

-- for how many nodes of an expression there is room, the families of the policy's entries, the numbers of what makes a
-- crate private, and which entries were hits
pub record CheckerState : Type 0 where
  pub nodes : ℕ
  pub families : EntryFamilies
  pub private : PrivateNumbers
  pub flags : Flags
