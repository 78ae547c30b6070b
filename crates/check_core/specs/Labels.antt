-- Where the labels of what the check tells lie, and what those of terms cut out.
use Rattle.std.specs.Prelude.{◌≡◌, ℕ, List, ◌++◌, All, ⊤}
use Rattle.diag_core.specs.declared.overrides.ErrorSink.{ErrorSink}
use Rattle.diag_core.specs.declared.pack.Diag.{Diag}
use Rattle.diag_core.specs.File.{File}
use Rattle.diag_core.specs.Pack.{PackOf}
use Rattle.gather_core.specs.findings.Cuts.{LabelLies}
use Rattle.gather_core.specs.declared.findings.license.LicenseInfo.{LicenseInfo}
use Rattle.gather_core.specs.declared.findings.license.LicenseInfo.TheVariants.{SpdxExpression, Unlicensed}
use Rattle.policy_core.specs.valid.Policy.{Policy}
use Rattle.check_core.specs.evaluate.Evaluation.{term_hits}
use Rattle.check_core.specs.findings.Laws.{LabelsPoint}
use Rattle.check_core.specs.Turns.{GatheredCrate}

-- each label of each finding lies in its file, between characters
abbrev pub FindingLies : List File → Diag → Type 0
FindingLies files finding = All (LabelLies files) finding.diag.labels

abbrev pub PackLies : List File → PackOf → Type 0
PackLies files pack = All (FindingLies files) pack.findings

-- what a sink has gained lies so
abbrev pub GainLies : List File → ErrorSink → ErrorSink → Type 0
GainLies files old new = (packs : List PackOf) × (new.packs ≡ old.packs ++ packs) × All (PackLies files) packs

-- the labels of a verdict: the first cuts out the expression, and each further one just its own term, or where the text
-- was written with escapes each is the whole string
abbrev pub InfoPoints : List File → Policy → List ℕ → LicenseInfo → Type 0
InfoPoints files policy counted Unlicensed = ⊤
InfoPoints files policy counted (SpdxExpression expression nfo) =
    LabelsPoint files expression nfo (term_hits policy counted expression.terms)

abbrev pub VerdictPoints : List File → Policy → GatheredCrate → Type 0
VerdictPoints files policy asked = InfoPoints files policy asked.exceptions asked.info
