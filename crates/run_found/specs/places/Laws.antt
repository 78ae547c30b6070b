-- What gathering and the check ask of a policy's places.
use Rattle.std.specs.Prelude.{List}
use Rattle.diag_core.specs.File.{File, Grows}
use Rattle.policy_core.specs.declared.valid.policy.ValidConfig.{ValidConfig}
use Rattle.policy_core.specs.Places.{PolicyStands}
use Rattle.gather_core.specs.Entries.{entries_of}
use Rattle.gather_core.specs.Premises.{ArePlacedIn}
use Rattle.check_core.specs.unused.Laws.{EntriesLie}

-- what gathering asks of the table that is handed to it
abbrev pub ClarificationsArePlaced : Type 0
ClarificationsArePlaced =
    (files : List File) (policy : ValidConfig) → PolicyStands files policy → ArePlacedIn files (entries_of policy)

-- what the check asks of the table that gathering has left
abbrev pub EntriesLieOn : Type 0
EntriesLieOn =
    (files new : List File) (policy : ValidConfig) → PolicyStands files policy → Grows files new → EntriesLie new policy
