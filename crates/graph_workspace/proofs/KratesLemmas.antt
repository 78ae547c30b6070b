-- The crates from what was read of the metadata's file, by what each step answers.
use Rattle.std.proofs.Common.{◌≡◌, ◌∙◌, sym, ap, subst, ℕ, List, Option, Some, None, Result, Ok, Err, IfErr}
use Rattle.tree_core.specs.Call.{Call}
use Rattle.tree_core.specs.texts.Heard.{IsTextRead}
use Rattle.graph_core.specs.Metadata.{Graph}
use Rattle.graph_metadata.specs.declared.fault.MetaError.{MetaError}
use Rattle.graph_metadata.specs.declared.fault.MetaError.TheVariants as records
use Rattle.graph_metadata.specs.Records.{metadata_of, IsMetaCause}
use Rattle.graph_metadata.specs.Told.{MetadataReading}
use Rattle.graph_core.specs.declared.selection.selection.BuildError.{BuildError}
use Rattle.graph_core.specs.declared.selection.selection.BuildError.TheVariants as build
use Rattle.graph_core.specs.selection.Choice.{Choice}
use Rattle.graph_core.specs.selection.Listed.{ReachedCrates}
use Rattle.graph_core.specs.selection.Roots as roots
use Rattle.tree_core.specs.declared.texts.fault.ReadFault.{ReadFault}
use Rattle.tree_core.specs.declared.texts.fault.ReadFault.TheVariants.{Failed, Absent, Folder, NotUtf8}
use Rattle.graph_workspace.specs.declared.error.KratesError.{KratesError}
use Rattle.graph_workspace.specs.declared.error.KratesError.TheVariants.{Memory, NotCarried, MetadataRead, MetadataSyntax, MetadataShape, NoRoots}
use Rattle.tree_core.specs.texts.Cause.{heard_cause, ReadCounts}
use Rattle.graph_workspace.specs.Krates.{krates_cause, error_of_build, error_of_records, graph_in, graph_or_error, sparse_dir, AreFrom, GathersBy, ReadsGraphBy, AnswersGraph}

-- ---- what is reported

error_told : (told : Option (MetadataReading Graph)) (error : MetaError) → IsMetaCause error told → AnswersGraph (graph_or_error told) (Err (error_of_records error))
error_told told records.Memory cause = tt
error_told told records.Syntax cause = ap graph_or_error cause
error_told told (records.Shape fault) cause = ap graph_or_error cause

-- the refusal of a text
pub text_refused : (text dir : List ℕ) (heard : Result (List ℕ) ReadFault) (error : MetaError) → heard ≡ Ok text → dir ≡ sparse_dir
    → IsMetaCause error (metadata_of text dir) → AnswersGraph (graph_in heard) (Err (error_of_records error))
text_refused text dir heard error is named cause =
    subst (λ one. AnswersGraph (graph_in one) (Err (error_of_records error))) (sym is)
    (error_told (metadata_of text sparse_dir) error (subst (λ one. IsMetaCause error (metadata_of text one)) named cause))

-- the graph of a text
pub text_told : (text dir : List ℕ) (heard : Result (List ℕ) ReadFault) (graph : Graph) → heard ≡ Ok text → dir ≡ sparse_dir
    → metadata_of text dir ≡ Some (Ok graph) → graph_in heard ≡ Ok graph
text_told text dir heard graph is named tells =
    ap graph_in is ∙ (ap (λ one. graph_or_error (metadata_of text one)) (sym named) ∙ ap graph_or_error tells)

-- ---- the crates

rootless : (told : Option (MetadataReading Graph)) (base excluded unpublished : ℕ) → graph_or_error told ≡ Err (NoRoots base excluded unpublished) → ⊥
rootless None base excluded unpublished e = cc
rootless (Some (Err fault)) base excluded unpublished e = cc
rootless (Some (Ok graph)) base excluded unpublished e = cc

never_rootless : (heard : Result (List ℕ) ReadFault) (base excluded unpublished : ℕ) → graph_in heard ≡ Err (NoRoots base excluded unpublished) → ⊥
never_rootless (Ok text) base excluded unpublished e = rootless (metadata_of text sparse_dir) base excluded unpublished e
never_rootless (Err fault) base excluded unpublished e = cc

-- the refusal of the graph
pub graph_refused : (choice : Choice) (heard : Result (List ℕ) ReadFault) (error : KratesError) → AnswersGraph (graph_in heard) (Err error)
    → AreFrom choice heard (Err error)
graph_refused choice heard Memory tells = tt
graph_refused choice heard (NotCarried what) tells = tells
graph_refused choice heard (MetadataRead fault) tells = tells
graph_refused choice heard MetadataSyntax tells = tells
graph_refused choice heard (MetadataShape fault) tells = tells
graph_refused choice heard (NoRoots base excluded unpublished) tells = absurd (never_rootless heard base excluded unpublished tells)

-- the refusal of the selection
pub build_refused : (choice : Choice) (heard : Result (List ℕ) ReadFault) (graph : Graph) (error : BuildError) → graph_in heard ≡ Ok graph
    → roots.IsRootsCause graph choice error → AreFrom choice heard (Err (error_of_build error))
build_refused choice heard graph build.Memory tells cause = tt
build_refused choice heard graph (build.NoRoots base excluded unpublished) tells cause = record { graph = graph; tells = tells; lacks = cause }

-- ---- counts

read_told : (told : Option (MetadataReading Graph)) (fault : ReadFault) → graph_or_error told ≡ Err (MetadataRead fault) → ⊥
read_told None fault e = cc
read_told (Some (Err other)) fault e = cc
read_told (Some (Ok graph)) fault e = cc

same_fault : (x y : ReadFault) → ◌≡◌ {A = Result Graph KratesError} (Err (MetadataRead x)) (Err (MetadataRead y)) → x ≡ y
same_fault x y e = cc

read_fault : (heard : Result (List ℕ) ReadFault) (fault : ReadFault) → graph_in heard ≡ Err (MetadataRead fault) → heard ≡ Err fault
read_fault (Ok text) fault e = absurd (read_told (metadata_of text sparse_dir) fault e)
read_fault (Err other) fault e = ap Err (same_fault other fault e)

-- a failed read has the counts of the step
pub krates_counts : (choice : Choice) (begun before after : ℕ) (heard : Result (List ℕ) ReadFault) (result : Result ReachedCrates KratesError)
    → ReadCounts begun before after (heard_cause heard) → AreFrom choice heard result → IfErr result (λ error. ReadCounts begun before after (krates_cause error))
krates_counts choice begun before after heard (Ok chosen) counts from = tt
krates_counts choice begun before after heard (Err Memory) counts from = tt
krates_counts choice begun before after heard (Err (NotCarried what)) counts from = tt
krates_counts choice begun before after heard (Err (MetadataRead (Failed first last))) counts from =
    subst (λ one. ReadCounts begun before after (heard_cause one)) (read_fault heard (Failed first last) from) counts
krates_counts choice begun before after heard (Err (MetadataRead Absent)) counts from = tt
krates_counts choice begun before after heard (Err (MetadataRead Folder)) counts from = tt
krates_counts choice begun before after heard (Err (MetadataRead (NotUtf8 at))) counts from = tt
krates_counts choice begun before after heard (Err MetadataSyntax) counts from = tt
krates_counts choice begun before after heard (Err (MetadataShape fault)) counts from = tt
krates_counts choice begun before after heard (Err (NoRoots base excluded unpublished)) counts from = tt

-- ---- by the answer of the read

pub gathered_by : (choice : Choice) (begun after : ℕ) (old new : List Call) (path : List ℕ) (heard : Result (List ℕ) ReadFault) (result : Result ReachedCrates KratesError)
    → IsTextRead begun after old new path heard → AreFrom choice heard result → GathersBy choice begun after old new path result
gathered_by choice begun after old new path heard (Ok chosen) read from = record { heard = heard; read = read; from = from }
gathered_by choice begun after old new path heard (Err Memory) read from = (read.answer, read.made)
gathered_by choice begun after old new path heard (Err (NotCarried what)) read from = record { heard = heard; read = read; from = from }
gathered_by choice begun after old new path heard (Err (MetadataRead fault)) read from = record { heard = heard; read = read; from = from }
gathered_by choice begun after old new path heard (Err MetadataSyntax) read from = record { heard = heard; read = read; from = from }
gathered_by choice begun after old new path heard (Err (MetadataShape fault)) read from = record { heard = heard; read = read; from = from }
gathered_by choice begun after old new path heard (Err (NoRoots base excluded unpublished)) read from = record { heard = heard; read = read; from = from }

-- ---- the graph alone

pub graph_counts : (begun before after : ℕ) (heard : Result (List ℕ) ReadFault) (result : Result Graph KratesError)
    → ReadCounts begun before after (heard_cause heard) → AnswersGraph (graph_in heard) result → IfErr result (λ error. ReadCounts begun before after (krates_cause error))
graph_counts begun before after heard (Ok graph) counts tells = tt
graph_counts begun before after heard (Err Memory) counts tells = tt
graph_counts begun before after heard (Err (NotCarried what)) counts tells = tt
graph_counts begun before after heard (Err (MetadataRead (Failed first last))) counts tells =
    subst (λ one. ReadCounts begun before after (heard_cause one)) (read_fault heard (Failed first last) tells) counts
graph_counts begun before after heard (Err (MetadataRead Absent)) counts tells = tt
graph_counts begun before after heard (Err (MetadataRead Folder)) counts tells = tt
graph_counts begun before after heard (Err (MetadataRead (NotUtf8 at))) counts tells = tt
graph_counts begun before after heard (Err MetadataSyntax) counts tells = tt
graph_counts begun before after heard (Err (MetadataShape fault)) counts tells = tt
graph_counts begun before after heard (Err (NoRoots base excluded unpublished)) counts tells = tt

pub graph_by : (begun after : ℕ) (old new : List Call) (path : List ℕ) (heard : Result (List ℕ) ReadFault) (result : Result Graph KratesError)
    → IsTextRead begun after old new path heard → AnswersGraph (graph_in heard) result → ReadsGraphBy begun after old new path result
graph_by begun after old new path heard (Ok graph) read told = record { heard = heard; read = read; told = told }
graph_by begun after old new path heard (Err Memory) read told = (read.answer, read.made)
graph_by begun after old new path heard (Err (NotCarried what)) read told = record { heard = heard; read = read; told = told }
graph_by begun after old new path heard (Err (MetadataRead fault)) read told = record { heard = heard; read = read; told = told }
graph_by begun after old new path heard (Err MetadataSyntax) read told = record { heard = heard; read = read; told = told }
graph_by begun after old new path heard (Err (MetadataShape fault)) read told = record { heard = heard; read = read; told = told }
graph_by begun after old new path heard (Err (NoRoots base excluded unpublished)) read told = record { heard = heard; read = read; told = told }
