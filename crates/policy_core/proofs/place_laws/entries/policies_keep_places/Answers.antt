use Rattle.policy_core.proofs.place_laws.PolicyPlaces.{config_stays, root_stays}
use Rattle.policy_core.proofs.place_laws.entries.policies_keep_places.Goals as goal

pub returns-clause-config : goal.returns-clause-config
returns-clause-config c lists laws text utf8 fits = config_stays text utf8 fits lists laws

pub returns-clause-root : goal.returns-clause-root
returns-clause-root c lists laws text utf8 fits = root_stays text utf8 fits lists laws
