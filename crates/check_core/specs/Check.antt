-- What the check tells of all crates, and then of the policy.
use Rattle.std.specs.Prelude.{◌≡◌, ℕ, List, [], ◌∷◌, ◌++◌, map, take}
use Rattle.std.specs.List.{AllZip}
use Rattle.spdx_core.specs.declared.certificates.verdict.Hit.{Hit}
use Rattle.spdx_core.specs.declared.certificates.verdict.Verdict.{Verdict}
use Rattle.diag_core.specs.declared.overrides.ErrorSink.{ErrorSink}
use Rattle.diag_core.specs.Overrides.{pack_overridden}
use Rattle.diag_core.specs.Pack.{PackOf}
use Rattle.gather_core.specs.declared.summary.KrateLicense.{KrateLicense}
use Rattle.check_core.specs.unused.Unused.{last_pack}
use Rattle.policy_core.specs.declared.valid.policy.ValidConfig.{ValidConfig}
use Rattle.policy_core.specs.valid.Policy.{Policy}
use Rattle.policy_core.specs.valid.View.{policy_of}
use Rattle.check_core.specs.Summary.{gathered_of_licenses}
use Rattle.check_core.specs.Turns.{GatheredCrate, expression_of, hits_by, pack_by}
use Rattle.check_core.specs.Verdicts.{IsVerdict, is_skipped}

-- each crate has its verdict, in order
abbrev pub AreVerdicts : Policy → List GatheredCrate → List Verdict → Type 0
AreVerdicts policy asked verdicts =
    AllZip
    (λ (one : GatheredCrate) verdict. IsVerdict policy one.krate one.exceptions (expression_of one.info) verdict) asked
    verdicts

-- the packs of the crates, in order
abbrev pub packs_of : Policy → List GatheredCrate → List Verdict → List PackOf
packs_of policy [] verdicts = []
packs_of policy (asked ∷ more) [] = []
packs_of policy (asked ∷ more) (verdict ∷ verdicts) =
    pack_by (is_skipped verdict) policy asked ∷ packs_of policy more verdicts

-- the hits of all terms of the crates that are not skipped
abbrev pub all_hits : Policy → List GatheredCrate → List Verdict → List Hit
all_hits policy [] verdicts = []
all_hits policy (asked ∷ more) [] = []
all_hits policy (asked ∷ more) (verdict ∷ verdicts) =
    hits_by (is_skipped verdict) policy asked ++ all_hits policy more verdicts

-- All packs of the check: one a crate, and then always one about the policy, which may be empty.
abbrev pub findings_of : ValidConfig → List GatheredCrate → List Verdict → List PackOf
findings_of policy asked verdicts =
    packs_of (policy_of policy) asked verdicts ++ last_pack policy (all_hits (policy_of policy) asked verdicts) ∷ []

-- ---- what a sink has gained

-- a sink with more packs behind its own, each at the levels that its overrides say
abbrev pub sink_with_packs : ErrorSink → List PackOf → ErrorSink
sink_with_packs sink packs = record sink { packs = sink.packs ++ map (pack_overridden sink.overrides) packs }

-- a sink has gained the packs of some first crates, by the verdicts on these, and nothing else
pub record HasFront (policy : Policy) (licenses : List KrateLicense) (old new : ErrorSink) : Type 0 where
  pub count : ℕ
  pub verdicts : List Verdict
  pub are : AreVerdicts policy (gathered_of_licenses (take count licenses)) verdicts
  pub front : new ≡ sink_with_packs old (packs_of policy (gathered_of_licenses (take count licenses)) verdicts)
