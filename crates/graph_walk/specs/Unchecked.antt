-- Why a crate of the metadata is not checked: the first cause that holds.
use Rattle.std.specs.Prelude.{◌≡◌, ℕ, ◌<◌, Bool, false, List, take, drop, IsTrue, Option, Some, None}
use Rattle.std.specs.Prelude.{codes, is_some, not, ◌||◌, if◌then◌else◌}
use Rattle.graph_core.specs.declared.edge.DepKind.{DepKind}
use Rattle.graph_core.specs.declared.edge.DepKind.TheVariants.{Dev, Build}
use Rattle.graph_core.specs.Krate.{CrateRecord}
use Rattle.graph_core.specs.Metadata.{Graph}
use Rattle.graph_core.specs.declared.selection.selection.Include.{Include}
use Rattle.graph_core.specs.declared.selection.exclude.ExcludeSpec.{ExcludeSpec}
use Rattle.graph_core.specs.selection.Choice.{Choice, exclude_spec_of, excludes, is_excluded}
use Rattle.graph_core.specs.selection.Roots.{is_unpublished_base}
use Rattle.graph_core.specs.selection.Walks.{Reached, Selected}
use Rattle.graph_walk.specs.Shortest.{AreShortest, walk_at}
use Rattle.graph_walk.specs.declared.unchecked.Led.{Led}
use Rattle.graph_walk.specs.declared.unchecked.Unchecked.{Unchecked}
use Rattle.graph_walk.specs.declared.unchecked.Unchecked.TheVariants.{LeftOutByWords, LeftOutByPolicy, NeverPublished}
use Rattle.graph_walk.specs.declared.unchecked.Unchecked.TheVariants.{OnlyDev, OnlyBuild, NotLedTo}

-- walks lead to a crate, but none without this kind of dependency, which is not included
abbrev pub IsOnlyBy : Graph → Choice → List ℕ → Bool → DepKind → Type 0
IsOnlyBy graph choice id included kind =
    (included ≡ false) × Reached graph choice None id × (Reached graph choice (Some kind) id → ⊥)

-- Each cause. The first specs of the choice, so many, are those of the words; the others are the policy's.
abbrev pub HasCause : Graph → Choice → ℕ → Include → CrateRecord → Unchecked → Type 0
HasCause graph choice words include krate LeftOutByWords = IsTrue (is_excluded (take words choice.exclude) krate)
HasCause graph choice words include krate LeftOutByPolicy = IsTrue (is_excluded (drop words choice.exclude) krate)
HasCause graph choice words include krate NeverPublished = IsTrue (is_unpublished_base graph choice krate)
HasCause graph choice words include krate OnlyDev = IsOnlyBy graph choice krate.id include.dev Dev
HasCause graph choice words include krate OnlyBuild = IsOnlyBy graph choice krate.id include.build Build
HasCause graph choice words include krate NotLedTo = Reached graph choice None krate.id → ⊥

-- the order of causes
abbrev pub number_of : Unchecked → ℕ
number_of LeftOutByWords = 0
number_of LeftOutByPolicy = 1
number_of NeverPublished = 2
number_of OnlyDev = 3
number_of OnlyBuild = 4
number_of NotLedTo = 5

-- a cause that holds, and before which none does
pub record IsFirstCause (graph : Graph) (choice : Choice) (words : ℕ) (include : Include) (krate : CrateRecord)
    (cause : Unchecked) : Type 0 where
  pub holds : HasCause graph choice words include krate cause
  pub first : (other : Unchecked) → number_of other < number_of cause
      → HasCause graph choice words include krate other → ⊥

-- a crate that is not selected has its first cause, one that is selected has none
abbrev pub UncheckedIs : Graph → Choice → ℕ → Include → CrateRecord → Option Unchecked → Type 0
UncheckedIs graph choice words include krate None = Selected graph choice include krate.id
UncheckedIs graph choice words include krate (Some cause) =
    (Selected graph choice include krate.id → ⊥) × IsFirstCause graph choice words include krate cause

-- the words for it
abbrev pub unchecked_text : Unchecked → List ℕ
unchecked_text LeftOutByWords = codes "left out by --exclude"
unchecked_text LeftOutByPolicy = codes "left out by exclude of the policy"
unchecked_text NeverPublished = codes "left out, since it is never published"
unchecked_text OnlyDev = codes "only dev-dependencies lead to it"
unchecked_text OnlyBuild = codes "only build-dependencies lead to it"
unchecked_text NotLedTo = codes "nothing that is checked leads to it"

-- ---- by what is known of a crate

-- whether a spec leaves a crate out
abbrev pub leaves_out : CrateRecord → ExcludeSpec → Bool
leaves_out krate spec = excludes (exclude_spec_of spec) krate

-- whether walks lead to the crate at a place: over all edges, and without the dependencies of a kind
abbrev pub led_by : List (Option (List ℕ)) → List (Option (List ℕ)) → List (Option (List ℕ)) → ℕ → Led
led_by all without_dev without_build place = record {
  all = is_some (walk_at all place);
  without_dev = is_some (walk_at without_dev place);
  without_build = is_some (walk_at without_build place);
}

-- what is only led to by dependencies that are not included, or by nothing
abbrev pub unled_by : Include → Led → Option Unchecked
unled_by include led =
    if not led.all then Some NotLedTo
    else (if not (include.dev || led.without_dev) then Some OnlyDev
    else (if not (include.build || led.without_build) then Some OnlyBuild else None))

-- with what leaves it out, where it is not selected
abbrev pub cause_by : Bool → Bool → Bool → Option Unchecked → Option Unchecked
cause_by words policy unpublished None = None
cause_by words policy unpublished (Some unled) =
    if words then Some LeftOutByWords
    else (if policy then Some LeftOutByPolicy else (if unpublished then Some NeverPublished else Some unled))

-- three lists of walks: over all edges, without dev dependencies, and without build ones
pub record AreSelecting (graph : Graph) (choice : Choice) (all without_dev without_build : List (Option (List ℕ)))
    : Type 0 where
  pub all_are : AreShortest graph choice None all
  pub without_dev_are : AreShortest graph choice (Some Dev) without_dev
  pub without_build_are : AreShortest graph choice (Some Build) without_build
