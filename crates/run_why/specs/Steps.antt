-- What the steps of a run for `why` answer. Only the contracts of private calls cite it.
use Rattle.std.specs.Prelude.{◌≡◌, ◌⊎◌, ℕ, suc, ◌-◌, take, Bool, true, false, List, [], ◌∷◌, ◌++◌, length, map}
use Rattle.std.specs.Prelude.{slice_get, slice_index_or, All, Option, Some, None, if◌then◌else◌}
use Rattle.std.specs.Prelude.{Result, Ok, Err}
use Rattle.std.specs.List.{filter_map, flat_map}
use Rattle.std.specs.Option.{option_map_or}
use Rattle.tree_core.specs.Faults.{Gained, GainedPrefix}
use Rattle.spdx_core.specs.declared.certificates.verdict.Verdict.{Verdict}
use Rattle.diag_core.specs.File.{File}
use Rattle.diag_print.specs.declared.context.Format.{Format}
use Rattle.graph_core.specs.declared.krate.Krate.{Krate}
use Rattle.graph_core.specs.Krate.{CrateRecord, record_of}
use Rattle.graph_core.specs.declared.selection.selection.Include.{Include}
use Rattle.graph_core.specs.declared.selection.standing.Standing.{Standing}
use Rattle.graph_core.specs.selection.Choice.{choice_of, spec_read}
use Rattle.graph_core.specs.selection.Places.{standings_in}
use Rattle.graph_core.specs.selection.Roots.{crates_of}
use Rattle.graph_walk.specs.declared.unchecked.Unchecked.{Unchecked}
use Rattle.graph_walk.specs.Shortest.{kind_left_out, walk_at}
use Rattle.graph_walk.specs.Unchecked.{AreSelecting, UncheckedIs, unchecked_text}
use Rattle.graph_core.specs.declared.edge.DepKind.{DepKind}
use Rattle.graph_core.specs.declared.edge.DepKind.TheVariants.{Normal, Dev, Build}
use Rattle.check_core.specs.declared.report.CrateReport.{CrateReport}
use Rattle.check_why.specs.declared.answer.CrateTitle.{CrateTitle}
use Rattle.check_why.specs.Answer.{title_of}
use Rattle.check_why.specs.Indexes.{IndexesPolicy}
use Rattle.check_why.specs.Made.{answer_by}
use Rattle.run_context.specs.declared.gather.AskedMetadata.{AskedMetadata}
use Rattle.run_found.specs.declared.error.Error.{Error}
use Rattle.run_found.specs.declared.error.Error.TheVariants.{Memory}
use Rattle.run_found.specs.declared.reads.CrateRead.{CrateRead}
use Rattle.run_found.specs.Hearing.{TreeSeen}
use Rattle.run_found.specs.Written.{IsSilent, SinkSeen}
use Rattle.run_command.specs.declared.crates.MetadataFound.{MetadataFound}
use Rattle.run_command.specs.Crates.{ChoosesCrates}
use Rattle.run_command.specs.Stops.{Stops}
use Rattle.run_command.specs.Written.{IsWriteFault}
use Rattle.policy_core.specs.Places.{PolicyStands}
use Rattle.gather_core.specs.Gathered.{include_of}
use Rattle.check_why.specs.Made.{IsReportInside}
use Rattle.run_check.specs.declared.judged.JudgedCrates.{JudgedCrates}
use Rattle.run_check.specs.declared.report.Report.{Report}
use Rattle.run_check.specs.Headline.{is_against}
use Rattle.run_check.specs.Judged.{crates_judged}
use Rattle.run_check.specs.Reads.{reads_told}
use Rattle.run_why.specs.declared.graph.GraphTold.{GraphTold}
use Rattle.run_why.specs.declared.telling.Telling.{Telling}
use Rattle.run_why.specs.declared.whying.WhyCrates.{WhyCrates}
use Rattle.run_why.specs.declared.whying.WhyFound.{WhyFound}
use Rattle.run_why.specs.Given.{WhyArguments}
use Rattle.run_why.specs.Named.{first_unknown, is_named}
use Rattle.run_why.specs.Why.{StopsAtWord, answer_text, because_text, why_text}

-- ---- what is known of the metadata

abbrev pub titles_in : List Krate → List CrateTitle
titles_in krates = map (λ krate. title_of (record_of krate)) krates

abbrev pub AreStandings : AskedMetadata → List Standing → Type 0
AreStandings asked standings = standings ≡ standings_in asked.metadata (choice_of asked.selection)

abbrev pub title_at : List CrateTitle → ℕ → Option CrateTitle
title_at titles place = slice_get titles place

abbrev pub cause_at : List (Option Unchecked) → ℕ → Option Unchecked
cause_at causes place = slice_index_or causes place None

abbrev pub mark_at : List Bool → ℕ → Bool
mark_at marks place = slice_index_or marks place false

-- of each crate the first cause for which it is not checked
pub record AreCauses (asked : AskedMetadata) (include : Include) (causes : List (Option Unchecked)) : Type 0 where
  pub counted : length causes ≡ length (crates_of asked.metadata)
  pub each : (place : ℕ) (krate : CrateRecord) → slice_get (crates_of asked.metadata) place ≡ Some krate
      → UncheckedIs asked.metadata (choice_of asked.selection) asked.own_specs include krate (cause_at causes place)

pub record IsGraphTold (words : List (List ℕ)) (asked : AskedMetadata) (include : Include) (told : GraphTold)
    : Type 0 where
  pub titles : told.titles ≡ map title_of (crates_of asked.metadata)
  pub causes : AreCauses asked include told.causes.items
  pub named : told.named.items ≡ map (is_named words) (crates_of asked.metadata)
  pub walks : AreSelecting asked.metadata (choice_of asked.selection)
      told.walks.all told.walks.without_dev told.walks.without_build
  pub include_is : told.include ≡ include

-- the walks that the selection follows
abbrev pub walks_by : GraphTold → Option DepKind → List (Option (List ℕ))
walks_by told None = told.walks.all
walks_by told (Some Normal) = told.walks.all
walks_by told (Some Dev) = told.walks.without_dev
walks_by told (Some Build) = told.walks.without_build

abbrev pub followed : GraphTold → List (Option (List ℕ))
followed told = walks_by told (kind_left_out told.include)

-- the places of a walk before the one that it leads to
abbrev pub before_last : List ℕ → List ℕ
before_last places = take (length places - 1) places

-- the titles at some places
abbrev pub copied_titles : List CrateTitle → List ℕ → List CrateTitle
copied_titles titles places = filter_map (title_at titles) places

-- of the shortest walk that leads to a crate, without itself
abbrev pub needed_titles : GraphTold → ℕ → List CrateTitle
needed_titles told place =
    option_map_or (λ walk. copied_titles told.titles (before_last walk)) (walk_at (followed told) place) []

-- ---- the crates that are chosen

-- of metadata in which each word names a crate, with what is known of it
pub record ChoosesAsked (given : WhyArguments) (tree : TreeSeen) (err : SinkSeen) (files : List File)
    (asked : WhyCrates) : Type 0 where
  pub found : MetadataFound
  pub chosen : ChoosesCrates given.command tree err files found asked.crates
  pub same : asked.crates.policy ≡ found.policy
  pub told : IsGraphTold given.words found.asked (include_of found.policy) asked.told
  pub own : found.asked.own_specs ≡ length (filter_map spec_read given.command.request.context.exclude)
  pub known : first_unknown given.words (crates_of found.asked.metadata) ≡ None

abbrev pub FindsAsked : WhyArguments → TreeSeen → SinkSeen → List File → Result WhyCrates Error → Type 0
FindsAsked given tree err files (Ok asked) = ChoosesAsked given tree err files asked
FindsAsked given tree err files (Err error) = Stops given.command tree err error ⊎ StopsAtWord given tree err error

-- ---- the texts

-- whether there are words
abbrev pub has_any : List (List ℕ) → Bool
has_any [] = false
has_any (word ∷ words) = true

-- with words the crates that these name, else those that the check is against
abbrev pub wants : Bool → GraphTold → ℕ → Verdict → Bool
wants has_words told place verdict = if has_words then mark_at told.named.items place else is_against verdict

abbrev pub checked_texts : Telling → ℕ → CrateRecord → CrateReport → List (List ℕ)
checked_texts telling place krate report =
    if wants telling.has_words telling.told.now place report.verdict
    then answer_text telling.format (answer_by telling.report.now.files telling.report.now.policy krate report
    (needed_titles telling.told.now place)) ∷ []
    else []

abbrev pub because_texts : Format → Option CrateTitle → List ℕ → List (List ℕ)
because_texts format None because = []
because_texts format (Some title) because = because_text format title because ∷ []

abbrev pub unchecked_texts : Telling → ℕ → List ℕ → List (List ℕ)
unchecked_texts telling place because =
    if mark_at telling.told.now.named.items place
    then because_texts telling.format (title_at telling.told.now.titles place) because else []

-- a checked crate with its report, where both are left
abbrev pub next_texts : Telling → ℕ → Option CrateRecord → Option CrateReport → List (List ℕ)
next_texts telling place (Some krate) (Some report) = checked_texts telling place krate report
next_texts telling place (Some krate) None = []
next_texts telling place None report = []

-- what is told of the crate at a place: why it is not checked, or what the next report says
abbrev pub texts_at : Telling → ℕ → Option Unchecked → Option CrateRecord → Option CrateReport → List (List ℕ)
texts_at telling place (Some cause) krate report = unchecked_texts telling place (unchecked_text cause)
texts_at telling place None krate report = next_texts telling place krate report

-- the number of the next checked crate behind it
abbrev pub behind : Option Unchecked → ℕ → ℕ
behind (Some cause) next = next
behind None next = suc next

-- from a place on, where so many checked crates are before it
abbrev pub texts_from : Telling → ℕ → ℕ → List (Option Unchecked) → List CrateRecord → List CrateReport → List (List ℕ)
texts_from telling place next [] krates reports = []
texts_from telling place next (cause ∷ causes) krates reports =
    texts_at telling place cause (slice_get krates next) (slice_get reports next)
    ++ texts_from telling (suc place) (behind cause next) causes krates reports

abbrev pub texts_of : Telling → List CrateRecord → List (List ℕ)
texts_of telling krates =
    texts_from telling 0 0 telling.told.now.causes.items krates telling.report.now.crates

pub record AreTexts (telling : Telling) (krates : List CrateRecord) (texts : List (List ℕ)) : Type 0 where
  pub are : texts ≡ texts_of telling krates

-- a walk and a cause for each crate
pub record IsWhole (told : GraphTold) : Type 0 where
  pub causes : length told.causes.items ≡ length told.titles
  pub walks : length (followed told) ≡ length told.titles

-- the places of the policy and of the reports lie in their files
pub record LieInFiles (report : Report) : Type 0 where
  pub policy : PolicyStands report.files report.policy
  pub reports : All (IsReportInside report.files) report.crates

-- what all crates are told by
pub record CanTell (telling : Telling) : Type 0 where
  pub index : IndexesPolicy telling.report.now.policy telling.index
  pub lie : LieInFiles telling.report.now
  pub whole : IsWhole telling.told.now

-- by the report, with where the entries of each family are in its policy
pub record TellsTexts (format : Format) (has_words : Bool) (told : GraphTold) (judged : JudgedCrates)
    (texts : List (List ℕ)) : Type 0 where
  pub telling : Telling
  pub format_is : telling.format ≡ format
  pub words_are : telling.has_words ≡ has_words
  pub told_is : telling.told.now ≡ told
  pub report_is : telling.report.now ≡ judged.report
  pub texts_are : texts ≡ texts_of telling (crates_judged judged)

-- ---- what is written

abbrev pub joined_texts : List (List ℕ) → List ℕ
joined_texts texts = flat_map (λ text. text) texts

-- the texts were written
pub record PutsAll (found : WhyFound) (out : SinkSeen) (reads : List CrateRead) : Type 0 where
  pub texts : Gained out.old out.new (why_text found)
  pub reads_are : reads ≡ reads_told found.report.crates

-- a prefix of them was, behind which a write was refused
pub record CutsTexts (found : WhyFound) (out : SinkSeen) (error : Error) : Type 0 where
  pub refused : IsWriteFault out.before out.after error
  pub front : GainedPrefix out.old out.new (why_text found)

-- or memory was wanting before
abbrev pub Puts : WhyFound → SinkSeen → Result (List CrateRead) Error → Type 0
Puts found out (Ok reads) = PutsAll found out reads
Puts found out (Err error) = ((error ≡ Memory) × IsSilent out) ⊎ CutsTexts found out error
