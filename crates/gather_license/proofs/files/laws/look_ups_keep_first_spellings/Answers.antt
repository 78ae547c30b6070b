use Rattle.gather_license.proofs.files.PathLemmas.{look_ups_keep_first_spellings}
use Rattle.gather_license.proofs.files.laws.look_ups_keep_first_spellings.Goals as goal

pub returns : goal.returns
returns c = look_ups_keep_first_spellings
