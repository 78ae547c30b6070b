use Rattle.policy_core.proofs.place_laws.SpecPlaces.{spec_stays}
use Rattle.policy_core.proofs.place_laws.EntryPlaces.{licensee_stays, exception_stays, exceptions_file_stays, clarification_stays}
use Rattle.policy_core.proofs.place_laws.entries.entries_keep_places.Goals as goal

pub returns-clause-spec : goal.returns-clause-spec
returns-clause-spec c text utf8 fits = spec_stays text utf8

pub returns-clause-licensee : goal.returns-clause-licensee
returns-clause-licensee c lists laws text utf8 fits = licensee_stays text utf8 fits lists laws

pub returns-clause-exception : goal.returns-clause-exception
returns-clause-exception c lists laws text utf8 fits = exception_stays text utf8 fits lists laws

pub returns-clause-exceptions_file : goal.returns-clause-exceptions_file
returns-clause-exceptions_file c lists laws text utf8 fits = exceptions_file_stays text utf8 fits lists laws

pub returns-clause-clarification : goal.returns-clause-clarification
returns-clause-clarification c text utf8 fits = clarification_stays text utf8
