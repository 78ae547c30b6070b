-- What is asked of a crate's field: where it is there, and where its faults lie.
use Rattle.std.specs.Prelude.{ℕ, List, [], IfSome, All, unwrap_or}
use Rattle.spdx_terms.specs.declared.error.ParseError.{ParseError}
use Rattle.diag_core.specs.File.{File}
use Rattle.gather_license.specs.location.Location.{PointsAt}
use Rattle.deny_text.specs.Spans.{LiesBetween}
use Rattle.gather_core.specs.findings.Findings.{UnclarifiedCrateView}

-- the text of the field; empty where there is none
abbrev pub field_text_of : UnclarifiedCrateView → List ℕ
field_text_of case = unwrap_or case.krate.license []

-- the faults lie in the field, between its characters
abbrev pub FaultsLie : List ℕ → List ParseError → Type 0
FaultsLie field faults = All (λ (fault : ParseError). LiesBetween field fault.span) faults

-- the location, where there is one, cuts the field out of its file, between characters
pub record IsFieldPlaced (case : UnclarifiedCrateView) (files : List File) : Type 0 where
  pub located : IfSome case.location (λ at. PointsAt files at (field_text_of case))
  pub faults : FaultsLie (field_text_of case) case.faults
