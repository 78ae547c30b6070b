use Rattle.std.proofs.Common.{◌≡◌, map, take}
use Rattle.std.specs.List.{filter_map}
use Rattle.gather_license.specs.declared.expression.files.ScannedFile.{ScannedFile}
use Rattle.gather_core.specs.findings.Findings.{failure_of}
use Rattle.gather_core.specs.findings.Views.{lent_text}
use Rattle.gather_core.proofs.findings.failures.file_failures.Given as goal

abbrev pub invariant-files : goal.invariant-files
invariant-files l = map lent_text l.words.items ≡ filter_map (λ (file : ScannedFile). failure_of file.scanned) (take l.file-index l.files)
