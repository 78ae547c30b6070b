-- What a request asks for, and the crates that it looks at.
use Rattle.std.specs.Prelude.{◌≡◌, ◌↔◌, ◌⊎◌, ℕ, ◌||◌, Bool, false, List, ◌++◌, length}
use Rattle.std.specs.Prelude.{Option, Some, None, is_none, Result, Ok, Err}
use Rattle.std.specs.Prelude.{if◌then◌else◌}
use Rattle.std.specs.List.{filter_map, list_any}
use Rattle.tree_core.specs.Call.{Call}
use Rattle.run_request.specs.declared.context.KrateContext.{KrateContext}
use Rattle.run_context.specs.declared.gather.AskedMetadata.{AskedMetadata}
use Rattle.run_context.specs.declared.gather.LeftOut.{LeftOut}
use Rattle.graph_core.specs.selection.Choice.{Choice, choice_of, is_unsupported, spec_read}
use Rattle.graph_core.specs.selection.Listed.{ReachedCrates}
use Rattle.graph_workspace.specs.declared.error.KratesError.{KratesError}
use Rattle.graph_workspace.specs.declared.error.KratesError.TheVariants.{Memory, NotCarried}
use Rattle.graph_workspace.specs.declared.error.UnsupportedPart.{UnsupportedPart}
use Rattle.graph_workspace.specs.declared.error.UnsupportedPart.TheVariants.{MetadataPath, ExcludeSpec}
use Rattle.graph_workspace.specs.Krates.{GathersBy, ReadsGraphBy}

-- ---- what is not carried

-- The first of the parts that are not carried: no path of metadata, a spec with such a sign, be it the request's or the
-- policy's.
abbrev pub unsupported_part : KrateContext → List (List ℕ) → Option UnsupportedPart
unsupported_part context cfg_excludes =
    if is_none context.metadata_path then Some MetadataPath
    else (if list_any is_unsupported context.exclude || list_any is_unsupported cfg_excludes then Some ExcludeSpec
    else None)

-- ---- what it selects by

-- what a policy leaves out: specs, and where its flags say so dev dependencies and members that are published nowhere
pub record LeavesOut : Type 0 where
  pub exclude : List (List ℕ)
  pub exclude_dev : Bool
  pub exclude_unpublished : Bool

abbrev pub left_out : LeftOut → LeavesOut
left_out policy = record {
  exclude = policy.exclude.now;
  exclude_dev = policy.exclude_dev;
  exclude_unpublished = policy.exclude_unpublished;
}

-- specs alone
abbrev pub by_specs : List (List ℕ) → LeavesOut
by_specs exclude = record { exclude = exclude; exclude_dev = false; exclude_unpublished = false }

-- The readable specs, those of the policy behind those of the request; and what the request or the policy says of dev
-- dependencies and of members that are published nowhere.
abbrev pub choice_asked : KrateContext → LeavesOut → Choice
choice_asked context policy = record {
  workspace = context.workspace;
  exclude = filter_map spec_read context.exclude ++ filter_map spec_read policy.exclude;
  exclude_dev = context.exclude_dev || policy.exclude_dev;
  exclude_unpublished = context.exclude_unpublished || policy.exclude_unpublished;
}

-- ---- what is answered

-- a request is refused as not carried exactly for the first such part
abbrev pub IsRefused : {X : Type 0} → KrateContext → List (List ℕ) → Result X KratesError → Type 0
IsRefused {X} context cfg_excludes result =
    (what : UnsupportedPart) → (result ≡ Err (NotCarried what)) ↔ (unsupported_part context cfg_excludes ≡ Some what)

-- where a part is not carried, no call is made
abbrev pub IsUnasked : KrateContext → List (List ℕ) → List Call → List Call → Type 0
IsUnasked context cfg_excludes old new =
    (what : UnsupportedPart) → unsupported_part context cfg_excludes ≡ Some what → new ≡ old

-- else the file at its path is read, and the crates are gathered by what its answer says; memory may be wanting before
-- the read
abbrev pub IsAnswerBy : KrateContext → LeavesOut → ℕ → ℕ → List Call → List Call → Result ReachedCrates KratesError
    → Type 0
IsAnswerBy context policy before after old new result =
    (path : List ℕ) → context.metadata_path ≡ Some path → unsupported_part context policy.exclude ≡ None
    → ((result ≡ Err Memory) × (new ≡ old)) ⊎ GathersBy (choice_asked context policy) before after old new path result

-- ---- the metadata alone

-- what the metadata tells is this graph, and this is selected of it, by so many specs of the request
pub record IsMetadataAsked (context : KrateContext) (policy : LeavesOut) (before after : ℕ) (old new : List Call)
    (path : List ℕ) (asked : AskedMetadata) : Type 0 where
  pub read : ReadsGraphBy before after old new path (Ok asked.metadata)
  pub choice : choice_of asked.selection ≡ choice_asked context policy
  pub own : asked.own_specs ≡ length (filter_map spec_read context.exclude)

abbrev pub ReadsMetadataBy : KrateContext → LeavesOut → ℕ → ℕ → List Call → List Call → List ℕ
    → Result AskedMetadata KratesError → Type 0
ReadsMetadataBy context policy before after old new path (Ok asked) =
    IsMetadataAsked context policy before after old new path asked
ReadsMetadataBy context policy before after old new path (Err error) =
    ReadsGraphBy before after old new path (Err error)

-- where all parts are carried, the file at the path is read; memory may be wanting before the read
abbrev pub IsMetadataBy : KrateContext → LeavesOut → ℕ → ℕ → List Call → List Call → Result AskedMetadata KratesError
    → Type 0
IsMetadataBy context policy before after old new result =
    (path : List ℕ) → context.metadata_path ≡ Some path → unsupported_part context policy.exclude ≡ None
    → ((result ≡ Err Memory) × (new ≡ old)) ⊎ ReadsMetadataBy context policy before after old new path result
