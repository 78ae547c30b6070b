-- What `why` prints: of each crate that it is asked for the answer of the check, or why the crate is not checked.
use Rattle.std.specs.Prelude.{◌≡◌, ◌⊎◌, ℕ, List, [], ◌∷◌, length, find, slice_get, bytes_eq}
use Rattle.std.specs.Prelude.{Option, Some, None, Result, Ok, Err, if◌then◌else◌}
use Rattle.tree_core.specs.Faults.{Gained, GainedPrefix}
use Rattle.std.specs.List.{AllZip, filter_map, flat_map}
use Rattle.spdx_core.specs.declared.certificates.verdict.Verdict.{Verdict}
use Rattle.diag_core.specs.File.{File}
use Rattle.diag_print.specs.declared.context.Format.{Format}
use Rattle.diag_print.specs.declared.context.Format.TheVariants.{Json}
use Rattle.graph_core.specs.Krate.{CrateRecord}
use Rattle.graph_core.specs.Metadata.{Graph}
use Rattle.graph_core.specs.declared.selection.selection.Include.{Include}
use Rattle.graph_core.specs.selection.Choice.{Choice, spec_read}
use Rattle.graph_core.specs.selection.Roots.{crates_of}
use Rattle.graph_walk.specs.declared.unchecked.Unchecked.{Unchecked}
use Rattle.graph_walk.specs.Shortest.{ShortestWalk, before_end, kind_left_out}
use Rattle.graph_walk.specs.Unchecked.{UncheckedIs, unchecked_text}
use Rattle.policy_core.specs.declared.valid.policy.ValidConfig.{ValidConfig}
use Rattle.gather_license.specs.expression.Scanned.{Scanner}
use Rattle.gather_core.specs.Calls.{CrateTurn}
use Rattle.gather_core.specs.Turns.{records_in}
use Rattle.check_why.specs.declared.answer.CrateAnswer.{CrateAnswer}
use Rattle.check_why.specs.declared.answer.CrateTitle.{CrateTitle}
use Rattle.check_why.specs.Answer.{CheckedCrate, answer_of, title_of}
use Rattle.check_why.specs.Lines.{answer_lines, unchecked_lines}
use Rattle.check_why.specs.Object.{answer_object, unchecked_object}
use Rattle.run_found.specs.Hearing.{RequestHearing, TreeSeen}
use Rattle.run_found.specs.Selection.{PolicyAndCrates, included_in}
use Rattle.run_found.specs.declared.error.Error.{Error}
use Rattle.run_found.specs.declared.error.Error.TheVariants.{NoSuchCrate}
use Rattle.run_found.specs.declared.reads.CrateRead.{CrateRead}
use Rattle.run_found.specs.Written.{IsSilent, SinkSeen}
use Rattle.run_command.specs.Found.{choice_in, scanner_of_given, turns_in}
use Rattle.run_command.specs.Settled.{HearsSo}
use Rattle.run_command.specs.Stops.{Asks, Stops}
use Rattle.run_command.specs.Written.{IsWriteFault}
use Rattle.run_check.specs.declared.report.Report.{Report}
use Rattle.run_check.specs.Found.{gathered_in}
use Rattle.run_check.specs.Headline.{is_against}
use Rattle.run_check.specs.Reads.{reads_told}
use Rattle.run_check.specs.Report.{IsReport, verdicts_in}
use Rattle.run_why.specs.declared.whying.WhyFound.{WhyFound}
use Rattle.run_why.specs.Given.{WhyArguments}
use Rattle.run_why.specs.Named.{first_unknown, named_among}

-- ---- in the format that is asked for

abbrev pub answer_text : Format → CrateAnswer → List ℕ
answer_text Json answer = answer_object answer
answer_text _ answer = answer_lines answer

abbrev pub because_text : Format → CrateTitle → List ℕ → List ℕ
because_text Json title because = unchecked_object title because
because_text _ title because = unchecked_lines title because

-- ---- one crate

-- the crate with an id, and the crates with some ids, in their order
abbrev pub crate_with : Graph → List ℕ → Option CrateRecord
crate_with graph id = find (λ krate. bytes_eq krate.id id) (crates_of graph)

abbrev pub crates_with : Graph → List (List ℕ) → List CrateRecord
crates_with graph ids = filter_map (crate_with graph) ids

-- a crate by its turn, the verdict that the check reports of it, and the walk that leads to it
abbrev pub checked_in : CrateTurn → Verdict → List CrateRecord → CheckedCrate
checked_in own verdict needed_by = record {
  gathered = gathered_in own.turn;
  reads = records_in own.turn;
  known_reads = own.turn.known_reads;
  verdict = verdict;
  needed_by = needed_by;
}

-- What all crates are told by: the format, the graph and what is selected of it, with how many of the specs are the
-- words'; what texts are identified by, the policy and the table of files that the check has left; and the turns of the
-- crates that are checked, with the verdicts on them.
pub record WhyBasis : Type 0 where
  pub format : Format
  pub graph : Graph
  pub choice : Choice
  pub words_excluded : ℕ
  pub include : Include
  pub scanner : Scanner
  pub policy : ValidConfig
  pub files : List File
  pub turns : List CrateTurn
  pub verdicts : List Verdict

-- a crate that is checked: its turn, its verdict, and the shortest walk to it
pub record IsCheckedText (basis : WhyBasis) (krate : CrateRecord) (text : List ℕ) : Type 0 where
  pub place : ℕ
  pub own : CrateTurn
  pub is_own : slice_get basis.turns place ≡ Some own
  pub of_crate : own.turn.krate ≡ krate
  pub verdict : Verdict
  pub is_verdict : slice_get basis.verdicts place ≡ Some verdict
  pub walk : List (List ℕ)
  pub shortest : ShortestWalk basis.graph basis.choice (kind_left_out basis.include) krate.id (Some walk)
  pub told : text ≡ answer_text basis.format
      (answer_of basis.files basis.scanner basis.policy
      (checked_in own verdict (crates_with basis.graph (before_end walk))))

-- one that is not: the first cause
pub record IsUncheckedText (basis : WhyBasis) (krate : CrateRecord) (text : List ℕ) : Type 0 where
  pub cause : Unchecked
  pub is_cause : UncheckedIs basis.graph basis.choice basis.words_excluded basis.include krate (Some cause)
  pub told : text ≡ because_text basis.format (title_of krate) (unchecked_text cause)

abbrev pub IsWhyText : WhyBasis → CrateRecord → List ℕ → Type 0
IsWhyText basis krate text = IsCheckedText basis krate text ⊎ IsUncheckedText basis krate text

-- ---- all crates

-- the crates that the verdicts are against
abbrev pub crates_against : List CrateTurn → List Verdict → List CrateRecord
crates_against [] verdicts = []
crates_against (own ∷ turns) [] = []
crates_against (own ∷ turns) (verdict ∷ verdicts) =
    if is_against verdict then own.turn.krate ∷ crates_against turns verdicts else crates_against turns verdicts

-- without words the crates that the check is against, else those of the metadata that the words name
abbrev pub crates_told : List (List ℕ) → WhyBasis → List CrateRecord
crates_told [] basis = crates_against basis.turns basis.verdicts
crates_told (word ∷ words) basis = named_among (word ∷ words) (crates_of basis.graph)

-- by what was read, and the report that the check makes of it
abbrev pub basis_of : WhyArguments → RequestHearing → PolicyAndCrates → Report → WhyBasis
basis_of given hearing asked report = record {
  format = given.command.request.log.format;
  graph = asked.graph;
  choice = choice_in given.command asked.policy;
  words_excluded = length (filter_map spec_read given.command.request.context.exclude);
  include = included_in asked.policy;
  scanner = scanner_of_given given.command report.policy;
  policy = report.policy;
  files = report.files;
  turns = turns_in given.command hearing report.policy;
  verdicts = verdicts_in report;
}

-- ---- what is written

-- What was read asks for a check with this report; no word names no crate; and each crate that is asked for has its
-- text, in the order of ids.
pub record IsWhy (given : WhyArguments) (found : WhyFound) (hearing : RequestHearing) : Type 0 where
  pub report : IsReport given.command hearing found.report
  pub asked : PolicyAndCrates
  pub asks : Asks given.command hearing asked
  pub known : first_unknown given.words (crates_of asked.graph) ≡ None
  pub texts : AllZip (IsWhyText (basis_of given hearing asked found.report))
      (crates_told given.words (basis_of given hearing asked found.report)) found.texts

-- the texts, one after another
abbrev pub why_text : WhyFound → List ℕ
why_text found = flat_map (λ text. text) found.texts

-- A word names no crate of the metadata: the first such word is told, once the crates are selected and before any of
-- their files is read.
pub record IsNoSuchCrate (given : WhyArguments) (word : List ℕ) (hearing : RequestHearing) : Type 0 where
  pub asked : PolicyAndCrates
  pub asks : Asks given.command hearing asked
  pub unread : hearing.crates ≡ []
  pub first : first_unknown given.words (crates_of asked.graph) ≡ Some word

abbrev pub StopsAtWord : WhyArguments → TreeSeen → SinkSeen → Error → Type 0
StopsAtWord given tree err (NoSuchCrate word) = HearsSo given.command tree err (IsNoSuchCrate given word)
StopsAtWord given tree err _ = ⊥

-- ---- the command

-- what is told is found, or the command was refused before it did its own, or a word names no crate
abbrev pub FindsWhy : WhyArguments → TreeSeen → SinkSeen → Result WhyFound Error → Type 0
FindsWhy given tree err (Ok found) = HearsSo given.command tree err (IsWhy given found)
FindsWhy given tree err (Err error) = Stops given.command tree err error ⊎ StopsAtWord given tree err error

-- a prefix of what is told was written, behind which a write was refused
pub record CutsWhy (given : WhyArguments) (tree : TreeSeen) (err out : SinkSeen) (error : Error) : Type 0 where
  pub found : WhyFound
  pub hears : HearsSo given.command tree err (IsWhy given found)
  pub refused : IsWriteFault out.before out.after error
  pub front : GainedPrefix out.old out.new (why_text found)

-- What is told is written, and the reads of the crates are reported. A refusal leaves nothing on `out`, or it is that
-- of the write.
pub record TellsAll (given : WhyArguments) (tree : TreeSeen) (err out : SinkSeen) (reads : List CrateRead)
    : Type 0 where
  pub found : WhyFound
  pub hears : HearsSo given.command tree err (IsWhy given found)
  pub written : Gained out.old out.new (why_text found)
  pub reads_are : reads ≡ reads_told found.report.crates

abbrev pub Tells : WhyArguments → TreeSeen → SinkSeen → SinkSeen → Result (List CrateRead) Error → Type 0
Tells given tree err out (Ok reads) = TellsAll given tree err out reads
Tells given tree err out (Err error) =
    (FindsWhy given tree err (Err error) × IsSilent out) ⊎ CutsWhy given tree err out error
