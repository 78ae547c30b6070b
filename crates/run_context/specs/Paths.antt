-- Where a request's policy and exceptions file are, by what a tree answered.
use Rattle.std.specs.Prelude.{◌≡◌, ℕ, List, Option, Some, None}
use Rattle.deny_text.specs.Path.{join_of}
use Rattle.tree_core.specs.Call.{Call}
use Rattle.run_request.specs.declared.context.KrateContext.{KrateContext}
use Rattle.tree_core.specs.texts.Looked.{FindsByLooks, LookedUntil}
use Rattle.tree_core.specs.declared.texts.search.SearchError.{SearchError}
use Rattle.tree_core.specs.declared.texts.search.SearchError.TheVariants.{Memory}
use Rattle.tree_core.specs.declared.texts.search.SoughtFile.TheVariants.{Policy, Exceptions}
use Rattle.tree_core.specs.texts.Search.{candidates}

-- at a path that is given nothing is looked at; else the looks of the search were made, up to the first at which
-- something is there
abbrev pub LooksForPath : KrateContext → List Call → List Call → Option (List ℕ) → Option (List ℕ) → Type 0
LooksForPath context old new (Some path) found = (found ≡ Some (join_of context.cwd path)) × (new ≡ old)
LooksForPath context old new None found = FindsByLooks (candidates Policy context.manifest_path) old new found

-- the policy's path
abbrev pub IsConfigPath : KrateContext → List Call → List Call → Option (List ℕ) → Type 0
IsConfigPath context old new found = LooksForPath context old new context.config_path found

-- the exceptions file's path
abbrev pub IsExceptionsPath : KrateContext → List Call → List Call → Option (List ℕ) → Type 0
IsExceptionsPath context old new found = FindsByLooks (candidates Exceptions context.manifest_path) old new found

-- why there is none, and the looks that were made before
abbrev pub PathUntil : KrateContext → List Call → List Call → Option (List ℕ) → SearchError → Type 0
PathUntil context old new (Some path) error = (error ≡ Memory) × (new ≡ old)
PathUntil context old new None error = LookedUntil (candidates Policy context.manifest_path) old new error

abbrev pub ConfigPathUntil : KrateContext → List Call → List Call → SearchError → Type 0
ConfigPathUntil context old new error = PathUntil context old new context.config_path error

abbrev pub ExceptionsPathUntil : KrateContext → List Call → List Call → SearchError → Type 0
ExceptionsPathUntil context old new error = LookedUntil (candidates Exceptions context.manifest_path) old new error
