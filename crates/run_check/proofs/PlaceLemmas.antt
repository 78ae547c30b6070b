-- The labels of what the check tells may be printed.
use Rattle.std.specs.Prelude.{List, All}
use Rattle.std.proofs.lemmas.List.Elements.{All-weaker}
use Rattle.diag_core.specs.File.{File}
use Rattle.diag_core.specs.Pack.{PackOf}
use Rattle.diag_core.specs.declared.label.Label.{Label}
use Rattle.diag_core.specs.declared.pack.Diag.{Diag}
use Rattle.gather_core.specs.findings.Cuts.{LabelLies}
use Rattle.diag_print.specs.Findings.{PacksAreInside}
use Rattle.diag_print.specs.Places.{AllLabelsAreInside, LabelIsInside, LabelsAreInside}
use Rattle.check_core.specs.Labels.{FindingLies, PackLies}

label_inside : (files : List File) (label : Label) → LabelLies files label → LabelIsInside files label
label_inside files label lies = record { live = lies.live; ordered = lies.ordered; starts = lies.starts; ends = lies.ends }

finding_inside : (files : List File) (finding : Diag) → FindingLies files finding → LabelsAreInside files finding.diag
finding_inside files finding lies = All-weaker (LabelLies files) (LabelIsInside files) (λ label own. label_inside files label own) finding.diag.labels lies

pack_inside : (files : List File) (pack : PackOf) → PackLies files pack → AllLabelsAreInside files pack.findings
pack_inside files pack lies =
    All-weaker (FindingLies files) (λ finding. LabelsAreInside files finding.diag) (λ finding own. finding_inside files finding own) pack.findings lies

-- the findings of packs whose labels lie in their files may be printed
pub packs_inside : (files : List File) (packs : List PackOf) → All (PackLies files) packs → PacksAreInside files packs
packs_inside files packs lie = All-weaker (PackLies files) (λ (pack : PackOf). AllLabelsAreInside files pack.findings) (λ pack own. pack_inside files pack own) packs lie
