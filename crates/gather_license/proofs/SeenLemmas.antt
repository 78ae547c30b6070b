-- What is seen of licence files.
use Rattle.std.proofs.Common.{◌≡◌, ◌∙◌, List, map, Option, None, Some, sym, ap}
use Rattle.std.specs.Prelude.{option_map, unwrap_or}
use Rattle.tree_core.specs.declared.file_reads.bad_read.BadRead.{BadRead}
use Rattle.gather_license.specs.files.View.{PackView, unlisted_of}
use Rattle.gather_license.specs.declared.expression.files.ScannedFile.{ScannedFile}
use Rattle.gather_license.specs.expression.Scanned.{Scanner, file_scanned}
use Rattle.gather_license.specs.declared.settling.FilesSeen.TheVariants.{Unlisted, Listed}
use Rattle.gather_license.specs.Steps.{seen_in}

pub seen_unlisted : (scanner : Scanner) (pack : PackView) (error : BadRead) → unlisted_of pack.listing ≡ Some error → Unlisted error ≡ seen_in scanner pack
seen_unlisted scanner pack error is =
    sym (ap (λ (o : Option BadRead). unwrap_or (option_map Unlisted o) (Listed (map (file_scanned scanner) pack.files))) is)

pub seen_listed : (scanner : Scanner) (pack : PackView) (files : List ScannedFile) → unlisted_of pack.listing ≡ None → files ≡ map (file_scanned scanner) pack.files
    → Listed files ≡ seen_in scanner pack
seen_listed scanner pack files none is =
    ap Listed is ∙ sym (ap (λ (o : Option BadRead). unwrap_or (option_map Unlisted o) (Listed (map (file_scanned scanner) pack.files))) none)
