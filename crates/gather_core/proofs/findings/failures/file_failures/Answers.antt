use Rattle.std.proofs.Common.{◌∙◌, ◌++◌, ap, List, ℕ}
use Rattle.std.specs.Option.{option_to_list}
use Rattle.gather_license.specs.declared.expression.files.ScannedFile.{ScannedFile}
use Rattle.gather_core.specs.findings.Findings.{failure_of}
use Rattle.gather_core.proofs.findings.FindingLemmas.{filter_map_more}
use Rattle.gather_core.proofs.findings.failures.file_failures.Goals as goal

pub files-preserved : goal.files-preserved
files-preserved c =
    let file = c.file-item.result in
    c.in_ok-push_failure.ensures ∙ ap (λ (words : List (List ℕ)). words ++ option_to_list (failure_of file.scanned)) c.files.invariant
    ∙ filter_map_more (λ (one : ScannedFile). failure_of one.scanned) c.args.files.now c.files.file-index file c.files-test.true c.file-item.is
