-- The clarifications of a policy and of its exceptions file, and those that are for a crate.
use Rattle.std.specs.Prelude.{ℕ, List, map, filter, slice_get, Option, option_map}
use Rattle.std.specs.List.{filter_map}
use Rattle.graph_core.specs.Krate.{CrateRecord}
use Rattle.policy_parts.specs.declared.file_source.FileSource.{FileSource}
use Rattle.policy_parts.specs.spec.Matching.{spec_matches}
use Rattle.policy_parts.specs.spec.Spec.{Spec}
use Rattle.policy_core.specs.declared.valid.policy.ValidClarification.{ValidClarification}
use Rattle.policy_core.specs.declared.valid.policy.ValidConfig.{ValidConfig}
use Rattle.gather_license.specs.Clarification.{ClarificationView, PlacedFile}

-- a clarification, and the crates that it is for
pub record ClarificationEntry : Type 0 where
  pub spec : Spec
  pub clarification : ClarificationView

abbrev pub placed_of : FileSource → PlacedFile
placed_of file = record { named = record { path = file.path.value; hash = file.hash }; span = file.path.span }

abbrev pub clarification_view : ValidClarification → ClarificationView
clarification_view entry = record {
  expression = entry.expression;
  file = entry.file_id;
  overlay = entry.overlay;
  offset = entry.expr_offset;
  whole = entry.whole;
  files = map placed_of entry.license_files;
}

abbrev pub clarification_entry : ValidClarification → ClarificationEntry
clarification_entry entry = record { spec = entry.spec; clarification = clarification_view entry }

-- all clarifications of a policy, in its order, those of its exceptions file last
abbrev pub entries_of : ValidConfig → List ClarificationEntry
entries_of policy = map clarification_entry policy.clarifications

-- the clarifications whose spec matches a crate, in the policy's order
abbrev pub clarifications_of : CrateRecord → List ClarificationEntry → List ClarificationView
clarifications_of krate entries =
    map (λ entry. entry.clarification) (filter (λ entry. spec_matches entry.spec krate) entries)

-- ---- found by places

abbrev pub specs_of : List ClarificationEntry → List Spec
specs_of entries = map (λ entry. entry.spec) entries

-- the clarification at a place, if there is one
abbrev pub clarification_at : List ClarificationEntry → ℕ → Option ClarificationView
clarification_at entries place = option_map (λ entry. entry.clarification) (slice_get entries place)

abbrev pub clarifications_at : List ClarificationEntry → List ℕ → List ClarificationView
clarifications_at entries places = filter_map (clarification_at entries) places
