-- The folder above that of a manifest.
use Rattle.std.proofs.Common.{◌≡◌, ℕ, List, ◌∷◌, slice_get, Option, Some, None, refl, ap, ◌∙◌}
use Rattle.std.specs.Option.{option_and_then}
use Rattle.deny_text.specs.Path.{ancestors_of, ancestors_from, parent_of, file_name_of}
use Rattle.deny_text.proofs.PathLemmas.{ancestors_of-cons}
use Rattle.graph_core.specs.source.Reading.{folder_above}

first-above : (path : Option (List ℕ)) → slice_get (ancestors_from path) 0 ≡ path
first-above None = refl
first-above (Some path) = ap (λ paths. slice_get paths 0) (ancestors_of-cons path)

second-above : (path : Option (List ℕ)) → slice_get (ancestors_from path) 1 ≡ option_and_then parent_of path
second-above None = refl
second-above (Some path) = ap (λ paths. slice_get paths 1) (ancestors_of-cons path) ∙ first-above (parent_of path)

-- its name is that of the parent's parent
pub folder_above-parents : (manifest : List ℕ)
    → folder_above manifest ≡ option_and_then file_name_of (option_and_then parent_of (parent_of manifest))
folder_above-parents manifest =
    ap (λ paths. option_and_then file_name_of (slice_get paths 2)) (ancestors_of-cons manifest)
    ∙ ap (option_and_then file_name_of) (second-above (parent_of manifest))

pub ruleset folders = (folder_above-parents)
