-- The texts so far, and those of the rest, are those of all files.
use Rattle.std.proofs.Common.{◌≡◌, ◌++◌, length}
use Rattle.std.specs.List.{filter_map}
use Rattle.gather_license.specs.OwnTexts.{text_in}
use Rattle.gather_license.proofs.texts.texts_in.Given as goal

abbrev pub invariant-files : goal.invariant-files
invariant-files l = l.texts ++ filter_map text_in l.rest ≡ filter_map text_in l.pack.files

abbrev pub decreases-files : goal.decreases-files
decreases-files l = length l.rest
