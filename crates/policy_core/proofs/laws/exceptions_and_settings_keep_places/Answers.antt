use Rattle.policy_core.proofs.KeptLemmas.{exceptions_places}
use Rattle.policy_core.proofs.PlaceLemmas.{exceptions_labels, settings_labels}
use Rattle.policy_core.proofs.laws.exceptions_and_settings_keep_places.Goals as goal

pub returns-clause-exceptions_told : goal.returns-clause-exceptions_told
returns-clause-exceptions_told c lists laws hearing old new text loads points = exceptions_labels lists laws hearing old new text loads points

pub returns-clause-exceptions_kept : goal.returns-clause-exceptions_kept
returns-clause-exceptions_kept c lists laws hearing old new text loads stands = exceptions_places lists laws hearing old new text loads stands

pub returns-clause-settings_told : goal.returns-clause-settings_told
returns-clause-settings_told c files file root found placed points = settings_labels files file root found placed points
