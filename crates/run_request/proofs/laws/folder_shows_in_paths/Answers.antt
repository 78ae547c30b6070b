use Rattle.run_request.proofs.LawLemmas.{folder_shows}
use Rattle.run_request.proofs.laws.folder_shows_in_paths.Goals as goal

pub returns : goal.returns
returns c = folder_shows
