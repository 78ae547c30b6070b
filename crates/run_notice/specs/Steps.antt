-- What the steps of a run for a notice answer. Only the contracts of private calls cite it.
use Rattle.std.specs.Prelude.{◌≡◌, ◌⊎◌, ℕ, List, [], ◌∷◌, map, Option, Some, None, Result, Ok, Err}
use Rattle.graph_core.specs.Krate.{CrateRecord}
use Rattle.gather_core.specs.Calls.{ReadsOfCrate, calls_of_all}
use Rattle.check_core.specs.declared.report.CrateReport.{CrateReport}
use Rattle.check_notice.specs.Notice.{AnswersNotice, IsNotice, NoticedCrate, first_missing, noticed_as}
use Rattle.check_notice.specs.Sources.{TextSources}
use Rattle.run_found.specs.declared.error.Error.{Error}
use Rattle.run_found.specs.declared.error.Error.TheVariants.{Memory, NotAccepted, NoText}
use Rattle.run_found.specs.declared.reads.CrateRead.{CrateRead}
use Rattle.run_found.specs.Hearing.{MadeOn, TreeSeen}
use Rattle.run_found.specs.own_names.Given.{TextsGiven}
use Rattle.run_check.specs.declared.judged.JudgedCrates.{JudgedCrates}
use Rattle.run_check.specs.Judged.{crates_judged}
use Rattle.run_check.specs.Reads.{reads_told}
use Rattle.run_notice.specs.declared.making.MadeNotice.{MadeNotice}
use Rattle.run_notice.specs.declared.noticed.NoticedCrates.{NoticedCrates}
use Rattle.run_notice.specs.declared.own.CrateTexts.{CrateTexts}
use Rattle.run_notice.specs.Noticed.{noticed_heard, sources_by, unaccepted_id}
use Rattle.run_notice.specs.Own.{AreOwnReads, IsOwnCut, own_read_told}

-- ---- the notice of the crates that were judged

-- crates, each with the report on it and the texts that it comes with
abbrev pub noticed_by : List CrateRecord → List CrateReport → List CrateTexts → List NoticedCrate
noticed_by [] reports own = []
noticed_by (krate ∷ crates) [] own = []
noticed_by (krate ∷ crates) (report ∷ reports) [] = []
noticed_by (krate ∷ crates) (report ∷ reports) (one ∷ own) =
    noticed_as krate report one.own.texts ∷ noticed_by crates reports own

-- a crate, where there is a report on it, with the texts that it comes with
abbrev pub source_at : CrateRecord → Option CrateReport → Option CrateTexts → List NoticedCrate
source_at krate None own = []
source_at krate (Some report) None = []
source_at krate (Some report) (Some own) = noticed_as krate report own.own.texts ∷ []

abbrev pub judged_sources : TextsGiven → JudgedCrates → TextSources
judged_sources texts judged = sources_by texts judged.report.policy.confidence_threshold

-- the crates have their own reads, which are all the calls, and this is so by them
pub record MakesOwn (judged : JudgedCrates) (tree : TreeSeen) (IsSo : List ReadsOfCrate → Type 0) : Type 0 where
  pub own : List ReadsOfCrate
  pub made : MadeOn tree (calls_of_all own)
  pub are : AreOwnReads (crates_judged judged) tree.count_before own
  pub is_so : IsSo own

pub record MakesAll (texts : TextsGiven) (judged : JudgedCrates) (noticed : NoticedCrates)
    (own : List ReadsOfCrate) : Type 0 where
  pub accepted : unaccepted_id judged.report.crates ≡ None
  pub notice : IsNotice (judged_sources texts judged) (noticed_heard own judged.report.crates) noticed.notice
  pub reads : noticed.reads ≡ reads_told judged.report.crates
  pub own_reads : noticed.own ≡ map own_read_told own

pub record LacksText (texts : TextsGiven) (judged : JudgedCrates) (id key : List ℕ) (reads own_reads : List CrateRead)
    (own : List ReadsOfCrate) : Type 0 where
  pub accepted : unaccepted_id judged.report.crates ≡ None
  pub missing : first_missing (judged_sources texts judged) (noticed_heard own judged.report.crates)
      ≡ Some (record { id = id; key = key })
  pub reads_are : reads ≡ reads_told judged.report.crates
  pub own_reads_are : own_reads ≡ map own_read_told own

-- the notice of the crates by the texts that they come with, or why there is none; and the records of the reads
pub record IsMade (texts : TextsGiven) (judged : JudgedCrates) (made : MadeNotice) (own : List ReadsOfCrate)
    : Type 0 where
  pub answers : AnswersNotice (judged_sources texts judged) (noticed_heard own judged.report.crates) made.made
  pub own_reads : made.own ≡ map own_read_told own

-- memory was wanting before a crate's own read, or among these
abbrev pub LacksOwn : JudgedCrates → TreeSeen → Type 0
LacksOwn judged tree = MadeOn tree [] ⊎ IsOwnCut (crates_judged judged) tree

-- a crate is rejected or has no licence, and no call was made
pub record IsUnaccepted (judged : JudgedCrates) (tree : TreeSeen) (id : List ℕ) (reads : List CrateRead) : Type 0 where
  pub made : MadeOn tree []
  pub first : unaccepted_id judged.report.crates ≡ Some id
  pub reads_are : reads ≡ reads_told judged.report.crates

-- memory was wanting before a crate's own read, or among these where each crate is accepted
pub record IsGivenUp (judged : JudgedCrates) (tree : TreeSeen) : Type 0 where
  pub accepted : unaccepted_id judged.report.crates ≡ None
  pub cut : IsOwnCut (crates_judged judged) tree

abbrev pub MakesNotice : TextsGiven → JudgedCrates → TreeSeen → Result NoticedCrates Error → Type 0
MakesNotice texts judged tree (Ok noticed) = MakesOwn judged tree (MakesAll texts judged noticed)
MakesNotice texts judged tree (Err Memory) = MadeOn tree [] ⊎ IsGivenUp judged tree
MakesNotice texts judged tree (Err (NotAccepted id reads)) = IsUnaccepted judged tree id reads
MakesNotice texts judged tree (Err (NoText id key reads own)) =
    MakesOwn judged tree (LacksText texts judged id key reads own)
MakesNotice texts judged tree (Err _) = ⊥

-- the refusal of such a crate, or for want of memory
abbrev pub RefusesUnaccepted : List ℕ → JudgedCrates → Error → Type 0
RefusesUnaccepted id judged Memory = Unit {0}
RefusesUnaccepted id judged (NotAccepted own reads) = (own ≡ id) × (reads ≡ reads_told judged.report.crates)
RefusesUnaccepted id judged _ = ⊥
