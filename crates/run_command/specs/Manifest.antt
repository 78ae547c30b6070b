-- The look at the manifest, which is the first call of a run.
use Rattle.std.specs.Prelude.{◌≡◌, ◌≢◌, ◌⊎◌, ℕ, Bool, true, false, List, [], ◌∷◌, codes, Option, Some, None, Result, Ok}
use Rattle.std.specs.Prelude.{Err, if◌then◌else◌}
use Rattle.std.specs.Option.{option_map_or}
use Rattle.std.specs.Str.{bytes_eq}
use Rattle.deny_text.specs.Path.{file_name_of}
use Rattle.tree_core.specs.Call as call
use Rattle.tree_core.specs.Call.{CallAnswer, Call}
use Rattle.graph_workspace.specs.declared.error.UnsupportedPart.{UnsupportedPart}
use Rattle.run_found.specs.declared.error.Error.{Error}
use Rattle.run_found.specs.declared.error.Error.TheVariants.{Memory, ManifestPath, ManifestRead}
use Rattle.run_found.specs.Hearing.{MadeOn, TreeSeen}

-- the last part of the path is the name `Cargo.toml`
abbrev pub is_manifest : List ℕ → Bool
is_manifest path = option_map_or (λ name. bytes_eq name (codes "Cargo.toml")) (file_name_of path) false

-- the path that is looked at: one with that name, where no part of the request is left unsupported
abbrev pub manifest_due : Option UnsupportedPart → List ℕ → Option (List ℕ)
manifest_due None path = if is_manifest path then Some path else None
manifest_due (Some what) path = None

-- what the look comes to
pub data ManifestLook : Type 0 where
  -- it failed
  manifest_failed : ManifestLook
  -- no file is there
  no_manifest : ManifestLook
  manifest_there : ManifestLook
  -- memory was wanting, or it was not made
  unlooked : ManifestLook

abbrev pub look_by : CallAnswer → ManifestLook
look_by (call.bytes items) = unlooked
look_by (call.entries items) = unlooked
look_by (call.told true) = manifest_there
look_by (call.told false) = no_manifest
look_by call.absent = unlooked
look_by call.wrong_kind = unlooked
look_by call.failed = manifest_failed
look_by call.no_memory = unlooked

abbrev pub look_in : Option CallAnswer → ManifestLook
look_in None = unlooked
look_in (Some answer) = look_by answer

abbrev pub manifest_call : List ℕ → CallAnswer → Call
manifest_call path answer = record { asked = call.is_file; path = path; answer = answer }

-- its call, where it was due and made
abbrev pub manifest_calls : Option (List ℕ) → Option CallAnswer → List Call
manifest_calls None answer = []
manifest_calls (Some path) None = []
manifest_calls (Some path) (Some answer) = manifest_call path answer ∷ []

-- nothing, where a file is there, or the refusal, with the counts when the run began and behind the look
abbrev pub found_by : ℕ → ℕ → List ℕ → ManifestLook → Result (Unit {0}) Error
found_by begun after path manifest_failed = Err (ManifestRead begun after)
found_by begun after path no_manifest = Err (ManifestPath path)
found_by begun after path manifest_there = Ok tt
found_by begun after path unlooked = Ok tt

-- so of a path with another name, which is not looked at
abbrev pub manifest_found : ℕ → ℕ → List ℕ → Option CallAnswer → Result (Unit {0}) Error
manifest_found begun after path answer =
    if is_manifest path then found_by begun after path (look_in answer) else Err (ManifestPath path)

-- it was made where it was due, and something was read by it
abbrev pub IsLookedWhereDue : Option (List ℕ) → Option CallAnswer → Type 0
IsLookedWhereDue None answer = answer ≡ None
IsLookedWhereDue (Some path) answer = look_in answer ≢ unlooked

-- ---- the step

-- it is answered by what was read, or memory was wanting before the look, in it or behind it
abbrev pub AnswersLook : ℕ → ℕ → List ℕ → Option CallAnswer → Result (Unit {0}) Error → Type 0
AnswersLook before after path answer result =
    (result ≡ Err Memory)
    ⊎ (IsLookedWhereDue (manifest_due None path) answer × (manifest_found before after path answer ≡ result))

-- the look was made where it is due, and no other call, and it is answered so
pub record LooksAtManifest (path : List ℕ) (tree : TreeSeen) (result : Result (Unit {0}) Error) : Type 0 where
  pub answer : Option CallAnswer
  pub made : MadeOn tree (manifest_calls (manifest_due None path) answer)
  pub answers : AnswersLook tree.count_before tree.count_after path answer result
