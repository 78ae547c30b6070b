use Rattle.std.proofs.Common.{◌≡◌, take}
use Rattle.std.specs.List.{flat_map}
use Rattle.diag_core.specs.texts.Synthetic.{written_all}
use Rattle.gather_core.specs.findings.Pieces.{file_pieces}
use Rattle.gather_core.proofs.findings.synthesis.write_files.Given as goal

abbrev pub invariant-files : goal.invariant-files
invariant-files l = l.synthetic ≡ written_all l.fn.synthetic (flat_map (file_pieces l.folder) (take l.file-index l.files))
