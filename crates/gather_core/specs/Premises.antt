-- Where a policy's places are, and where the places of what was gathered are.
use Rattle.std.specs.Prelude.{◌≡◌, ℕ, List, All, ⊤}
use Rattle.diag_core.specs.declared.label.Coord.{Coord}
use Rattle.diag_core.specs.File.{File}
pub use Rattle.diag_core.specs.File.{Grows}
use Rattle.gather_core.specs.findings.Cuts.{LabelLies, labels_of}
pub use Rattle.gather_core.specs.findings.License.{InfoStands, PlaceLies, StandsIn}
use Rattle.gather_license.specs.declared.settling.LicenseBasis.{LicenseBasis}
use Rattle.gather_license.specs.declared.settling.LicenseBasis.TheVariants.{Clarified, Field, Files}
use Rattle.gather_license.specs.Clarification.{ClarificationView, PlacedFile}
use Rattle.gather_core.specs.declared.summary.KrateLicense.{KrateLicense}
use Rattle.gather_core.specs.Entries.{ClarificationEntry}

-- ---- what is asked of a policy

-- the paths of a clarification's files lie in its own file, and its expression is there
pub record IsClarificationPlaced (files : List File) (one : ClarificationView) : Type 0 where
  pub expression : StandsIn files one.file one.offset one.whole one.expression.text
  pub paths : All (λ (file : PlacedFile). PlaceLies files one.file file.span) one.files

abbrev pub ArePlacedIn : List File → List ClarificationEntry → Type 0
ArePlacedIn files entries =
    All (λ (entry : ClarificationEntry). IsClarificationPlaced files entry.clarification) entries

-- ---- what was taken

abbrev pub CoordLies : List File → Coord → Type 0
CoordLies files at = PlaceLies files at.file at.span

-- an expression of a clarification that settles the licence is in the clarification's file
abbrev pub ByStands : List File → LicenseBasis → Type 0
ByStands files (Clarified held) = StandsIn files held.file held.offset held.whole held.expression.text
ByStands files (Field expression) = ⊤
ByStands files (Files seen joined) = ⊤

-- the expression of a field is its text
abbrev pub TextIs : List ℕ → LicenseBasis → Type 0
TextIs words (Clarified held) = ⊤
TextIs words (Field expression) = expression.text ≡ words
TextIs words (Files seen joined) = ⊤

-- ---- what is left

-- each label lies in its file, between characters, and the expression is in its own
pub record IsPlacedAt (files : List File) (license : KrateLicense) : Type 0 where
  pub labels : All (LabelLies files) (labels_of license.diags)
  pub expression : InfoStands files license.lic_info
