-- Clarifications behind one that holds change nothing.
use Rattle.std.proofs.Common.{◌≡◌, ◌∙◌, List, ◌++◌, map, Option, Some, ap}
use Rattle.std.specs.Prelude.{filter, option_map}
use Rattle.std.specs.Option.{option_or}
use Rattle.std.proofs.lemmas.List.{map-append}
use Rattle.std.proofs.lemmas.List.Elements.{filter-append}
use Rattle.std.proofs.lemmas.List.Folds.{find-append}
use Rattle.graph_core.specs.Krate.{CrateRecord}
use Rattle.policy_parts.specs.spec.Matching.{spec_matches}
use Rattle.gather_license.specs.files.KnownReads.{FolderReads, holds}
use Rattle.gather_license.specs.Clarification.{ClarificationView, held_in, named_in}
use Rattle.gather_license.specs.Priority.{by_seen, field_of, files_scanned, holding_clarification, seen_by, settling_by}
use Rattle.gather_core.specs.Entries.{ClarificationEntry, clarifications_of}
use Rattle.gather_core.specs.Laws.{OwnClarificationsSettle}

for_both : (krate : CrateRecord) (own overlays : List ClarificationEntry) → clarifications_of krate (own ++ overlays) ≡ clarifications_of krate own ++ clarifications_of krate overlays
for_both krate own overlays =
    let is_for = λ (entry : ClarificationEntry). spec_matches entry.spec krate in
    let taken = λ (entry : ClarificationEntry). entry.clarification in
    ap (map taken) (filter-append is_for own overlays) ∙ map-append taken (filter is_for own) (filter is_for overlays)

held_first : (known_reads : FolderReads) (own overlays : List ClarificationView) (one : ClarificationView) → holding_clarification known_reads own ≡ Some one
    → holding_clarification known_reads (own ++ overlays) ≡ Some one
held_first known_reads own overlays one is =
    find-append (λ (clarification : ClarificationView). holds known_reads (named_in clarification)) own overlays
    ∙ ap (λ (found : Option ClarificationView). option_or found (holding_clarification known_reads overlays)) is

pub own_settle : OwnClarificationsSettle
own_settle scanner own overlays krate known_reads one is =
    let all = clarifications_of krate (own ++ overlays) in
    let files = by_seen scanner.lists (seen_by known_reads.listing (files_scanned scanner all krate known_reads)) in
    ap (λ (found : Option ClarificationView). settling_by (option_map held_in found) (field_of scanner.lists krate) files)
    (ap (holding_clarification known_reads) (for_both krate own overlays)
    ∙ held_first known_reads (clarifications_of krate own) (clarifications_of krate overlays) one is)
