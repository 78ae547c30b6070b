-- A listing that is asked for, from the crates of a policy and their licences.
use Rattle.std.proofs.Common.{◌≡◌, ◌∙◌, inl, inr, refl, ap, subst, sym, ℕ, ℤ, false, List, map, Option, Some, None, Result, Ok, Err, IfErr, IfOk}
use Rattle.std.specs.List.{AllZip}
use Rattle.tree_core.specs.Call.{Call}
use Rattle.tree_core.specs.Content.{Content}
use Rattle.tree_core.specs.Faults.{Gained}
use Rattle.tree_core.specs.texts.Cause.{Cause, ReadCounts, no_memory, told, failed_read, refused_write}
use Rattle.diag_core.specs.File.{File}
use Rattle.diag_print.specs.declared.context.LogContext.{LogContext}
use Rattle.policy_core.specs.declared.valid.policy.ValidConfig.{ValidConfig}
use Rattle.gather_core.specs.declared.summary.KrateLicense.{KrateLicense}
use Rattle.run_request.specs.declared.context.KrateContext.{KrateContext}
use Rattle.run_request.specs.declared.level.LintLevels.{LintLevels}
use Rattle.run_request.specs.declared.list.ListArgs.{ListArgs}
use Rattle.run_found.specs.declared.error.Error.{Error}
use Rattle.run_found.specs.declared.error.Error.TheVariants.{Memory}
use Rattle.run_found.specs.Error.{cause_of}
use Rattle.run_found.specs.Found.{files_loaded}
use Rattle.run_found.specs.Hearing.{RequestHearing, TreeSeen, tree_seen}
use Rattle.run_found.specs.Licenses.{IsGatheredOn}
use Rattle.run_found.specs.Reads.{reads_gathered}
use Rattle.run_found.specs.Written.{IsSilent, SinkSeen}
use Rattle.run_found.proofs.StageLemmas.{gather_cut}
use Rattle.run_list_text.specs.Listed.{listed_of}
use Rattle.run_command.specs.declared.crates.CratesFound.{CratesFound}
use Rattle.run_command.specs.Carried.{no_levels, unsupported_of}
use Rattle.run_command.specs.Crates.{HasCrates}
use Rattle.run_command.specs.Found.{choice_in, scanner_of_given}
use Rattle.run_command.specs.Given.{CommandOptions}
use Rattle.run_command.specs.Settled.{HearsSo, IsCutBy, IsLicenseHeard, IsSettled}
use Rattle.run_command.specs.Stops.{Stops}
use Rattle.run_command.proofs.SettledLemmas.{cut_stops, hears_so, is_settled}
use Rattle.run_command.proofs.TurnLemmas.{licenses_heard, own_files}
use Rattle.run_list.specs.declared.crates.CrateListing.{CrateListing}
use Rattle.run_list.specs.Given.{ListArguments, list_options}
use Rattle.run_list.specs.Listed.{IsReadOf, listing_text}
use Rattle.run_list.specs.Listing.{FindsListing, IsListing, Lists}
use Rattle.run_list.proofs.ListedLemmas.{all_are_listed, reads_answered}

-- the options of a listing all of which is carried
abbrev pub carried_options : LintLevels → ℤ → CommandOptions
carried_options levels threshold = record { unsupported = None; levels = levels; with_flags = false; threshold = Some threshold; keeps = false }

pub options_are : (log : LogContext) (args : ListArgs) (context : KrateContext) (levels : LintLevels) (threshold : ℤ) → unsupported_of log context ≡ None → levels ≡ no_levels → threshold ≡ args.threshold
    → carried_options levels threshold ≡ list_options log args context
options_are log args context levels threshold carried none score =
    ap (λ own. carried_options own threshold) none
    ∙ ap (carried_options no_levels) score
    ∙ ap (λ own. let it : CommandOptions = record { unsupported = own; levels = no_levels; with_flags = false; threshold = Some args.threshold; keeps = false } in it) (sym carried)

-- what was not written of a listing comes of no read
pub cut_counts : (out : SinkSeen) (text : List ℕ) (begun before after : ℕ) (cause : Cause) → IsCutBy out text cause → ReadCounts begun before after cause
cut_counts out text begun before after no_memory cut = tt
cut_counts out text begun before after told cut = absurd cut
cut_counts out text begun before after (failed_read first last) cut = absurd cut
cut_counts out text begun before after (refused_write first last) cut = tt

-- want of memory comes of no read
pub memory_counts : (begun before after : ℕ) (answer : Result CrateListing Error) → IfErr answer (λ error. error ≡ Memory) → IfErr answer (λ error. ReadCounts begun before after (cause_of error))
memory_counts begun before after (Ok listing) memory = tt
memory_counts begun before after (Err error) memory = subst (λ own. ReadCounts begun before after (cause_of own)) (sym memory) tt

-- ---- the listing

module _ (given : ListArguments) where
  -- what is listed of licences that were settled
  is_listing : (hearing : RequestHearing) (policy : ValidConfig) (licenses : List KrateLicense) (last : List File) → IsSettled given.command hearing policy licenses last
      → (listing : CrateListing) → listing.crates ≡ map listed_of licenses → listing.reads ≡ reads_gathered licenses → IsListing given listing hearing
  is_listing hearing policy licenses last settled listing crates_are reads_are =
      let scanner = scanner_of_given given.command policy in
      let files = files_loaded given.command.request hearing in
      let heard : AllZip (IsLicenseHeard scanner policy) hearing.crates licenses = licenses_heard scanner policy files hearing.crates licenses last settled.turns.each in
      record {
        policy = policy;
        licenses = licenses;
        last = last;
        settled = settled;
        listed = crates_are ∙ all_are_listed scanner policy hearing.crates licenses heard;
        files = own_files scanner policy files hearing.crates licenses last settled.turns.each;
        answered = subst (AllZip IsReadOf hearing.crates) (sym reads_are) (reads_answered scanner policy hearing.crates licenses heard);
      }

  -- behind the crates
  module _ (carried : given.command.options.unsupported ≡ None) (told_first middle tells : Option Content) (begun mid after : ℕ) (old between more : List Call) (err : SinkSeen) (files : List File) (found : CratesFound)
      (has : HasCrates given.command (tree_seen told_first middle begun mid old between) err files found) where
    listing_ends : (last : List File) (licenses : List KrateLicense)
        (gathered : IsGatheredOn (scanner_of_given given.command found.policy) found.policy (tree_seen middle tells mid after between more) files last has.graph (choice_in given.command has.policy) licenses)
        (listing : CrateListing) → listing.crates ≡ map listed_of licenses → listing.reads ≡ reads_gathered licenses
        → HearsSo given.command (tree_seen told_first tells begun after old more) err (IsListing given listing)
    listing_ends last licenses gathered listing crates_are reads_are =
        let settled = is_settled given.command told_first middle tells begun mid after old between more err files found has carried last licenses gathered in
        hears_so given.command told_first middle tells begun mid after old between more err files found has carried last licenses gathered (IsListing given listing)
        (is_listing _ found.policy licenses last settled listing crates_are reads_are)

    -- what is answered of licences that were settled: the listing, or that memory was wanting
    pub listing_answers : (last : List File) (licenses : List KrateLicense)
        (gathered : IsGatheredOn (scanner_of_given given.command found.policy) found.policy (tree_seen middle tells mid after between more) files last has.graph (choice_in given.command has.policy) licenses)
        (answer : Result CrateListing Error) → IfOk answer (λ listing. listing.crates ≡ map listed_of licenses) → IfOk answer (λ listing. listing.reads ≡ reads_gathered licenses)
        → IfErr answer (λ error. error ≡ Memory)
        → FindsListing given (tree_seen told_first tells begun after old more) err answer
    listing_answers last licenses gathered (Ok listing) crates_are reads_are _ = listing_ends last licenses gathered listing crates_are reads_are
    listing_answers last licenses gathered (Err error) _ _ memory =
        let scanner = scanner_of_given given.command found.policy in
        let cut = gather_cut scanner found.policy (tree_seen middle tells mid after between more) files last has.graph (choice_in given.command has.policy) licenses gathered in
        subst (Stops given.command (tree_seen told_first tells begun after old more) err) (sym memory)
        (cut_stops given.command told_first middle tells begun mid after old between more err files found has cut)

-- ---- what is written of it

module _ (given : ListArguments) (tree : TreeSeen) (err out : SinkSeen) where
  pub stops_first : (error : Error) → Stops given.command tree err error → IsSilent out → Lists given tree err out (Err error)
  stops_first error stops silent = inl (stops, silent)

  module _ (listing : CrateListing) (hears : HearsSo given.command tree err (IsListing given listing)) where
    pub lists_all : Gained out.old out.new (listing_text given listing.crates) → Lists given tree err out (Ok listing.reads)
    lists_all written = record { value = listing; hears = hears; written = written; is_answer = refl }

    pub lists_cut : (error : Error) → IsCutBy out (listing_text given listing.crates) (cause_of error) → Lists given tree err out (Err error)
    lists_cut error cut = inr (record { value = listing; hears = hears; cut = cut })
