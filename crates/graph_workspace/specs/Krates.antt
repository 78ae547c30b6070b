-- The crates that metadata tells of, from what was read of its file.
use Rattle.std.specs.Prelude.{◌≡◌, ℕ, List, [], ◌∷◌, ◌++◌, codes, Option, Some, None, Result, Ok, Err}
use Rattle.tree_core.specs.Call.{CallAnswer, Call}
use Rattle.graph_core.specs.Metadata.{Graph}
use Rattle.graph_metadata.specs.declared.fault.MetaError.{MetaError}
use Rattle.graph_metadata.specs.declared.fault.MetaError.TheVariants as records
use Rattle.graph_metadata.specs.Records.{metadata_of}
use Rattle.graph_metadata.specs.Told.{MetadataReading}
use Rattle.graph_core.specs.declared.selection.selection.BuildError.{BuildError}
use Rattle.graph_core.specs.declared.selection.selection.BuildError.TheVariants as build
use Rattle.graph_core.specs.selection.Choice.{Choice}
use Rattle.graph_core.specs.selection.Listed.{ReachedCrates, IsChosen}
use Rattle.graph_core.specs.selection.Roots.{HasRoot, LacksRoots}
use Rattle.tree_core.specs.declared.texts.fault.ReadFault.{ReadFault}
use Rattle.tree_core.specs.declared.texts.fault.ReadFault.TheVariants.{Failed}
use Rattle.graph_workspace.specs.declared.error.KratesError.{KratesError}
use Rattle.graph_workspace.specs.declared.error.KratesError.TheVariants.{Memory, NotCarried, MetadataRead}
use Rattle.graph_workspace.specs.declared.error.KratesError.TheVariants.{MetadataSyntax, MetadataShape, NoRoots}
use Rattle.tree_core.specs.texts.Cause.{Cause, no_memory, told, failed_read}
use Rattle.tree_core.specs.texts.Heard.{IsTextRead, read_of}

-- why a refusal comes
abbrev pub krates_cause : KratesError → Cause
krates_cause Memory = no_memory
krates_cause (MetadataRead (Failed before after)) = failed_read before after
krates_cause _ = told

-- a refusal for another cause than a request that is not carried
abbrev pub IsCarried : KratesError → Type 0
IsCarried (NotCarried what) = ⊥
IsCarried _ = Unit {0}

abbrev pub error_of_records : MetaError → KratesError
error_of_records records.Memory = Memory
error_of_records records.Syntax = MetadataSyntax
error_of_records (records.Shape fault) = MetadataShape fault

abbrev pub error_of_build : BuildError → KratesError
error_of_build build.Memory = Memory
error_of_build (build.NoRoots base excluded unpublished) = NoRoots base excluded unpublished

-- ---- the graph that the file tells

-- the name of the folder in which cargo keeps crates of the sparse index of crates.io
abbrev pub sparse_dir : List ℕ
sparse_dir = codes "index.crates.io-1949cf8c6b5b557f"

-- what a text tells: no JSON, a fault, or a graph
abbrev pub graph_or_error : Option (MetadataReading Graph) → Result Graph KratesError
graph_or_error None = Err MetadataSyntax
graph_or_error (Some (Err fault)) = Err (MetadataShape fault)
graph_or_error (Some (Ok graph)) = Ok graph

-- the graph, from what was read of the metadata's file
abbrev pub graph_in : Result (List ℕ) ReadFault → Result Graph KratesError
graph_in (Ok text) = graph_or_error (metadata_of text sparse_dir)
graph_in (Err fault) = Err (MetadataRead fault)

-- a call answers what is reported, or for want of memory
abbrev pub AnswersGraph : Result Graph KratesError → Result Graph KratesError → Type 0
AnswersGraph asked (Err Memory) = Unit {0}
AnswersGraph asked result = asked ≡ result

-- ---- the crates that a choice reaches in it

-- the crates that a choice reaches in the graph that is reported
pub record AreReached (choice : Choice) (asked : Result Graph KratesError) (chosen : ReachedCrates) : Type 0 where
  pub graph : Graph
  pub tells : asked ≡ Ok graph
  pub rooted : HasRoot graph choice
  pub reached : IsChosen graph choice chosen

-- no root is left of the graph that is reported
pub record AreRootless (choice : Choice) (asked : Result Graph KratesError)
    (base excluded unpublished : ℕ) : Type 0 where
  pub graph : Graph
  pub tells : asked ≡ Ok graph
  pub lacks : LacksRoots graph choice base excluded unpublished

-- the crates, or why there are none; want of memory may come in the place of any answer
abbrev pub AreOf : Choice → Result Graph KratesError → Result ReachedCrates KratesError → Type 0
AreOf choice asked (Ok chosen) = AreReached choice asked chosen
AreOf choice asked (Err Memory) = Unit {0}
AreOf choice asked (Err (NoRoots base excluded unpublished)) = AreRootless choice asked base excluded unpublished
AreOf choice asked (Err error) = asked ≡ Err error

abbrev pub AreFrom : Choice → Result (List ℕ) ReadFault → Result ReachedCrates KratesError → Type 0
AreFrom choice heard result = AreOf choice (graph_in heard) result

-- ---- the graph that is read from a tree, by what it answered

-- one call was made, the read of the path; what its answer says, and what the graph is by it
pub record IsGraphRead (begun after : ℕ) (old new : List Call) (path : List ℕ) (result : Result Graph KratesError)
    : Type 0 where
  pub heard : Result (List ℕ) ReadFault
  pub read : IsTextRead begun after old new path heard
  pub told : AnswersGraph (graph_in heard) result

-- the same, unless memory was refused: then the read was made too, whatever was answered
abbrev pub ReadsGraphBy : ℕ → ℕ → List Call → List Call → List ℕ → Result Graph KratesError → Type 0
ReadsGraphBy begun after old new path (Err Memory) = (answer : CallAnswer) × (new ≡ old ++ read_of path answer ∷ [])
ReadsGraphBy begun after old new path result = IsGraphRead begun after old new path result

-- ---- the crates that are gathered from a tree, by what it answered

-- one call was made, the read of the path; what its answer says, and the crates from it
pub record AreKratesRead (choice : Choice) (begun after : ℕ) (old new : List Call) (path : List ℕ)
    (result : Result ReachedCrates KratesError) : Type 0 where
  pub heard : Result (List ℕ) ReadFault
  pub read : IsTextRead begun after old new path heard
  pub from : AreFrom choice heard result

-- the same, unless memory was refused: then the read was made too, whatever was answered
abbrev pub GathersBy : Choice → ℕ → ℕ → List Call → List Call → List ℕ → Result ReachedCrates KratesError → Type 0
GathersBy choice begun after old new path (Err Memory) = (answer : CallAnswer) × (new ≡ old ++ read_of path answer ∷ [])
GathersBy choice begun after old new path result = AreKratesRead choice begun after old new path result
