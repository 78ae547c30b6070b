-- What a run for a notice answers and writes.
use Rattle.std.specs.Prelude.{◌≡◌, ◌⊎◌, ℕ, ℤ, List, [], ◌∷◌, ◌++◌, find, map, option_map, All, Option, Some, None}
use Rattle.std.specs.Prelude.{Result, Ok, Err}
use Rattle.tree_core.specs.Call.{Call}
use Rattle.tree_core.specs.Faults.{Gained, GainedPrefix}
use Rattle.tree_core.specs.Trace.{faults_after}
use Rattle.gather_license.specs.files.Calls.{IsFront}
use Rattle.gather_core.specs.Calls.{ReadsOfCrate, calls_of_all}
use Rattle.gather_core.specs.Gathered.{threshold_of}
use Rattle.check_core.specs.declared.report.CrateReport.{CrateReport}
use Rattle.check_notice.specs.Notice.{IsNotice, NoticedCrate, first_missing, is_against, noticed_as}
use Rattle.check_notice.specs.Sources.{TextSources}
use Rattle.check_notice.specs.Written.{notice_text}
use Rattle.run_found.specs.declared.error.Error.{Error}
use Rattle.run_found.specs.declared.error.Error.TheVariants.{Memory, NotAccepted, NoText}
use Rattle.run_found.specs.declared.reads.CrateRead.{CrateRead}
use Rattle.run_found.specs.Hearing.{MadeOn, RequestHearing, TreeSeen, crates_heard}
use Rattle.run_found.specs.own_names.Given.{TextsGiven, texts_given}
use Rattle.run_found.specs.Written.{IsSilent, SinkSeen}
use Rattle.run_command.specs.Found.{calls_of, load_heard}
use Rattle.run_command.specs.Given.{CommandArguments}
use Rattle.run_command.specs.Settled.{HearsSo}
use Rattle.run_command.specs.Stops.{Stops}
use Rattle.run_command.specs.Written.{IsWriteFault}
use Rattle.run_check.specs.declared.report.Report.{Report}
use Rattle.run_check.specs.Reads.{reads_told}
use Rattle.run_check.specs.Report.{IsReport}
use Rattle.run_notice.specs.declared.noticed.NoticedCrates.{NoticedCrates}
use Rattle.run_notice.specs.Own.{AreOwnReads, IsOwnBegun, ReadsOwnTexts, crates_in, own_heard, own_read_told}

-- ---- what a notice is made of

-- what texts are found by: those that count in a run, and the least score of a policy
abbrev pub sources_by : TextsGiven → ℤ → TextSources
sources_by texts threshold =
    record { match_of = texts.match_of; text_of = texts.text_of; threshold = threshold_of threshold }

abbrev pub sources_of : (List ℕ → Option (List ℕ)) → CommandArguments → Report → TextSources
sources_of text_of given report = sources_by (texts_given given.match_of text_of) report.policy.confidence_threshold

-- crates, each with the report on it and the texts that it comes with, by what the answers to its own reads say
abbrev pub noticed_heard : List ReadsOfCrate → List CrateReport → List NoticedCrate
noticed_heard [] reports = []
noticed_heard (one ∷ own) [] = []
noticed_heard (one ∷ own) (report ∷ reports) = noticed_as one.krate report (own_heard one) ∷ noticed_heard own reports

-- the id of the first crate that is rejected, or has no licence
abbrev pub unaccepted_id : List CrateReport → Option (List ℕ)
unaccepted_id reports = option_map (λ (report : CrateReport). report.id) (find is_against reports)

-- ---- what was read

-- What a check reads was read, and behind that, from a count of faults on, of each crate in order its own reads; the
-- calls of these were made, and no other; all that is printed of the load was written; and this is so of what was read.
pub record HearsOwn (given : CommandArguments) (tree : TreeSeen) (err : SinkSeen)
    (IsSo : RequestHearing → List ReadsOfCrate → Type 0) : Type 0 where
  pub hearing : RequestHearing
  pub own : List ReadsOfCrate
  pub begun : hearing.begun ≡ tree.count_before
  pub made : MadeOn tree (calls_of given hearing ++ calls_of_all own)
  pub are : AreOwnReads (crates_heard hearing) (faults_after tree.count_before (calls_of given hearing)) own
  pub written : Gained err.old err.new (load_heard given hearing)
  pub is_so : IsSo hearing own

-- What was read asks for this report of a check, in which no crate is rejected or without a licence.
pub record IsAccepted (given : CommandArguments) (hearing : RequestHearing) (report : Report) : Type 0 where
  pub is : IsReport given hearing report
  pub accepted : unaccepted_id report.crates ≡ None

-- ---- the answers

-- By that report no text is missing, and this is the notice of the crates that are asked for, with the reads of each.
pub record TellsNotice (text_of : List ℕ → Option (List ℕ)) (given : CommandArguments) (noticed : NoticedCrates)
    (hearing : RequestHearing) (own : List ReadsOfCrate) : Type 0 where
  pub report : Report
  pub is : IsAccepted given hearing report
  pub notice : IsNotice (sources_of text_of given report) (noticed_heard own report.crates) noticed.notice
  pub reads : noticed.reads ≡ reads_told report.crates
  pub own_reads : noticed.own ≡ map own_read_told own

-- By that report this is the first crate with a term for which there is no text, and the key of its first such term.
pub record TellsMissing (text_of : List ℕ → Option (List ℕ)) (given : CommandArguments) (id key : List ℕ)
    (reads own_reads : List CrateRead) (hearing : RequestHearing) (own : List ReadsOfCrate) : Type 0 where
  pub report : Report
  pub is : IsAccepted given hearing report
  pub missing : first_missing (sources_of text_of given report) (noticed_heard own report.crates)
      ≡ Some (record { id = id; key = key })
  pub reads_are : reads ≡ reads_told report.crates
  pub own_reads_are : own_reads ≡ map own_read_told own

-- What was read asks for a report of a check, and this is the id of the first crate that is rejected or has no licence.
pub record TellsUnaccepted (given : CommandArguments) (id : List ℕ) (reads : List CrateRead)
    (hearing : RequestHearing) : Type 0 where
  pub report : Report
  pub is : IsReport given hearing report
  pub first : unaccepted_id report.crates ≡ Some id
  pub reads_are : reads ≡ reads_told report.crates

-- Memory was wanting behind what a check reads: the first ones of the crates that are asked for, all of which are
-- accepted, have their own reads, and perhaps those of one more were begun.
pub record LacksMemory (given : CommandArguments) (tree : TreeSeen) (err : SinkSeen) : Type 0 where
  pub hearing : RequestHearing
  pub report : Report
  pub own : List ReadsOfCrate
  pub lost : List Call
  pub begun : hearing.begun ≡ tree.count_before
  pub made : MadeOn tree (calls_of given hearing ++ (calls_of_all own ++ lost))
  pub is : IsAccepted given hearing report
  pub due : All ReadsOwnTexts own
  pub among : IsFront (crates_in own) (crates_heard hearing)
  pub ends : (lost ≡ []) ⊎ IsOwnBegun (crates_heard hearing) (crates_in own) lost
  pub written : Gained err.old err.new (load_heard given hearing)

-- ---- the command

-- a refusal of its own: for a crate no own text was read
abbrev pub RefusesNotice : (List ℕ → Option (List ℕ)) → CommandArguments → TreeSeen → SinkSeen → Error → Type 0
RefusesNotice text_of given tree err Memory = LacksMemory given tree err
RefusesNotice text_of given tree err (NotAccepted id reads) = HearsSo given tree err (TellsUnaccepted given id reads)
RefusesNotice text_of given tree err (NoText id key reads own) =
    HearsOwn given tree err (TellsMissing text_of given id key reads own)
RefusesNotice text_of given tree err _ = ⊥

-- There is a notice, or it is refused, or the command was refused before it did its own.
abbrev pub FindsNotice : (List ℕ → Option (List ℕ)) → CommandArguments → TreeSeen → SinkSeen
    → Result NoticedCrates Error → Type 0
FindsNotice text_of given tree err (Ok noticed) = HearsOwn given tree err (TellsNotice text_of given noticed)
FindsNotice text_of given tree err (Err error) =
    Stops given tree err error ⊎ RefusesNotice text_of given tree err error

-- a prefix of the notice was written, behind which a write was refused
pub record CutsNotice (text_of : List ℕ → Option (List ℕ)) (given : CommandArguments) (tree : TreeSeen)
    (err out : SinkSeen) (error : Error) : Type 0 where
  pub noticed : NoticedCrates
  pub hears : HearsOwn given tree err (TellsNotice text_of given noticed)
  pub refused : IsWriteFault out.before out.after error
  pub front : GainedPrefix out.old out.new (notice_text noticed.notice)

-- The notice is written. A refusal leaves nothing on `out`, or it is that of the write.
abbrev pub Notices : (List ℕ → Option (List ℕ)) → CommandArguments → TreeSeen → SinkSeen → SinkSeen
    → Result NoticedCrates Error → Type 0
Notices text_of given tree err out (Ok noticed) =
    HearsOwn given tree err (TellsNotice text_of given noticed) × Gained out.old out.new (notice_text noticed.notice)
Notices text_of given tree err out (Err error) =
    (FindsNotice text_of given tree err (Err error) × IsSilent out)
    ⊎ CutsNotice text_of given tree err out error
