use Rattle.deny_text.proofs.KeyLemmas.{keys_tell_paths}
use Rattle.deny_text.proofs.path.keys_tell_paths.Goals as goal

pub returns : goal.returns
returns c = keys_tell_paths
