-- The ends of a run for `why`: what is told is by the report that the check makes of what was read.
use Rattle.std.proofs.Common.{◌≡◌, ◌∙◌, refl, sym, ap, subst, ℕ, suc, Bool, true, List, [], ◌∷◌, length, map, All, Option, None}
use Rattle.std.specs.List.{AllZip, filter_map}
use Rattle.std.proofs.lemmas.List.{length-map}
use Rattle.std.proofs.lemmas.List.Elements.{All-from_recursion, recursion_from_All}
use Rattle.spdx_terms.specs.catalog.Catalog.{CatalogLists}
use Rattle.spdx_terms.specs.declared.catalog.identifier.Match.{Match}
use Rattle.tree_core.specs.Call.{Call}
use Rattle.tree_core.specs.Content.{Content}
use Rattle.diag_core.specs.File.{File}
use Rattle.diag_print.specs.declared.context.Format.{Format}
use Rattle.diag_print.specs.declared.context.LogContext.{LogContext}
use Rattle.graph_core.specs.Krate.{CrateRecord}
use Rattle.graph_core.specs.Metadata.{AreRising, Graph, ids_of}
use Rattle.graph_core.specs.declared.selection.selection.Include.{Include}
use Rattle.graph_core.specs.selection.Choice.{Choice, choice_of, spec_read}
use Rattle.graph_core.specs.selection.Listed.{IsListOf, selected_in}
use Rattle.graph_core.specs.selection.Roots.{crates_of}
use Rattle.graph_core.specs.selection.Walks.{Selected}
use Rattle.graph_metadata.proofs.RisingLemmas.{graph-rising}
use Rattle.graph_walk.specs.declared.unchecked.Unchecked.{Unchecked}
use Rattle.graph_workspace.specs.Krates.{sparse_dir}
use Rattle.graph_workspace.specs.declared.error.KratesError.TheVariants as krates
use Rattle.policy_core.specs.Places.{PolicyStands}
use Rattle.policy_core.specs.declared.valid.policy.ValidConfig.{ValidConfig}
use Rattle.policy_core.specs.valid.View.{policy_of}
use Rattle.gather_license.specs.expression.Scanned.{Scanner}
use Rattle.gather_core.specs.Calls.{CrateTurn, HasOwnReads, ReadsOfCrate}
use Rattle.gather_core.specs.Gathered.{include_of, krate_of}
use Rattle.gather_core.specs.Rules.{rules_of}
use Rattle.gather_core.proofs.CrateTurns.{krates_told}
use Rattle.check_core.specs.Labels.{VerdictPoints}
use Rattle.check_core.specs.Summary.{gathered_of_licenses}
use Rattle.check_core.specs.declared.report.CrateReport.{CrateReport}
use Rattle.check_why.specs.Made.{IsReportInside}
use Rattle.check_why.proofs.InsideLemmas.{reports_inside}
use Rattle.run_request.specs.declared.context.KrateContext.{KrateContext}
use Rattle.run_found.specs.Found.{files_loaded}
use Rattle.run_found.specs.Hearing.{RequestHearing, TreeSeen, crates_heard, tree_seen}
use Rattle.run_found.specs.Licenses.{scanner_of_policy}
use Rattle.run_found.specs.Selection.{included_in}
use Rattle.run_found.specs.Written.{SinkSeen}
use Rattle.run_found.proofs.ByteLemmas.{bytes_of_graph}
use Rattle.run_command.specs.Carried.{no_levels}
use Rattle.run_command.specs.declared.crates.CratesFound.{CratesFound}
use Rattle.run_command.specs.declared.crates.MetadataFound.{MetadataFound}
use Rattle.run_command.specs.Crates.{ChoosesCrates, HasCrates}
use Rattle.run_command.specs.Found.{choice_in, scanner_of_given, turns_in}
use Rattle.run_command.specs.Given.{CommandArguments, command_arguments_of}
use Rattle.run_command.specs.Settled.{HearsSo, IsSettled}
use Rattle.run_command.proofs.SettledLemmas.{hears, hears_so, is_settled}
use Rattle.run_check.specs.declared.judged.JudgedCrates.{JudgedCrates}
use Rattle.run_check.specs.declared.report.Report.{Report}
use Rattle.run_check.specs.Judged.{crates_judged}
use Rattle.run_check.specs.Report.{IsReport, verdicts_in}
use Rattle.run_check.specs.Steps.{IsJudgedOn, checked_by, report_with}
use Rattle.run_check.proofs.ReportLemmas.{crates_are, is_reported}
use Rattle.run_why.specs.declared.graph.GraphTold.{GraphTold}
use Rattle.run_why.specs.declared.telling.Telling.{Telling}
use Rattle.run_why.specs.Given.{WhyArguments, unsupported_of, why_options}
use Rattle.run_why.specs.Named.{first_unknown}
use Rattle.run_why.specs.Steps.{IsGraphTold, LieInFiles, TellsTexts, has_any, texts_from}
use Rattle.run_why.specs.Why.{IsWhy, IsWhyText, WhyBasis, crates_against, crates_told}
use Rattle.run_why.proofs.AmongLemmas.{among_are}
use Rattle.run_why.proofs.ChosenLemmas.{asks_at, flags_same}
use Rattle.run_why.proofs.TextLemmas.{IsTold, checked_among, krate_of_turn, picks, picks_against, picks_named, texts_are}
use Rattle.run_why.proofs.WhyLemmas.{all_told, krates_turned, turns_known}

-- ---- which crates are told

zip_length : {A B : Type 0} (R : A → B → Type 0) (xs : List A) (ys : List B) → AllZip R xs ys → length xs ≡ length ys
zip_length R [] [] all = refl
zip_length R [] (y ∷ ys) all = absurd all
zip_length R (x ∷ xs) [] all = absurd all
zip_length R (x ∷ xs) (y ∷ ys) all = ap suc (zip_length R xs ys all.1)

-- with words or without
told_are : (words : List (List ℕ)) (basis : WhyBasis) (causes : List (Option Unchecked)) (reports : List CrateReport) → length causes ≡ length (crates_of basis.graph)
    → checked_among (crates_of basis.graph) causes ≡ map krate_of_turn basis.turns → length basis.turns ≡ length reports
    → basis.verdicts ≡ map (λ (report : CrateReport). report.verdict) reports
    → picks (has_any words) words (crates_of basis.graph) causes reports ≡ crates_told words basis
told_are [] basis causes reports counted among many verdicts =
    picks_against (crates_of basis.graph) causes basis.turns reports among ∙ ap (crates_against basis.turns) (sym verdicts)
told_are (word ∷ words) basis causes reports counted among many verdicts =
    picks_named (word ∷ words) (crates_of basis.graph) causes reports counted (ap length among ∙ length-map basis.turns krate_of_turn ∙ many)

module _ (lists : CatalogLists) (match_of : List ℕ → Match) (log : LogContext) (context : KrateContext) (words : List (List ℕ)) (carried : unsupported_of log context words ≡ None) where
  abbrev given : CommandArguments
  given = command_arguments_of lists match_of log context (why_options log context words)

  abbrev pub asked_why : WhyArguments
  asked_why = record { command = given; words = words }

  -- ---- the check was made

  module _ (heard middle tells : Option Content) (begun mid after : ℕ) (old between more : List Call) (err : SinkSeen) (files : List File) (found : MetadataFound) (crates : CratesFound)
      (chosen : ChoosesCrates given (tree_seen heard middle begun mid old between) err files found crates) (judged : JudgedCrates)
      (one : IsJudgedOn (scanner_of_policy true lists match_of crates.policy) no_levels crates (tree_seen middle tells mid after between more) files chosen.has.graph (choice_in given chosen.has.policy) judged) where
    abbrev front : TreeSeen
    front = tree_seen heard middle begun mid old between

    abbrev pub whole : TreeSeen
    whole = tree_seen heard tells begun after old more

    abbrev has : HasCrates given front err files crates
    has = chosen.has

    abbrev last : List File
    last = judged.report.files

    abbrev later : List ReadsOfCrate
    later = one.is.gathered.crates

    abbrev hearing : RequestHearing
    hearing = hears given heard middle tells begun mid after old between more err files crates has later

    settled : IsSettled given hearing crates.policy one.is.licenses last
    settled = is_settled given heard middle tells begun mid after old between more err files crates has carried last one.is.licenses one.is.gathered

    report_is : judged.report ≡ report_with (checked_by no_levels crates.policy one.is.licenses one.is.check.verdicts) last
    report_is = one.report ∙ ap (λ checked. report_with checked last) one.is.check.is

    policy_is : judged.report.policy ≡ crates.policy
    policy_is = ap (λ (report : Report). report.policy) report_is

    reported : IsReport given hearing judged.report
    reported =
        subst (IsReport given hearing) (sym one.report)
        (is_reported given hearing crates.policy one.is.licenses last settled one.checked one.is.check one.is.points)

    -- places of reports lie in their files
    pub lies_of : PolicyStands judged.report.files judged.report.policy → LieInFiles judged.report
    lies_of stands = record {
      policy = stands;
      reports =
          subst (All (IsReportInside last))
          (sym (ap (λ (report : Report). report.crates) report_is))
          (All-from_recursion (IsReportInside last) _
          (reports_inside last (policy_of crates.policy) one.is.licenses one.is.check.verdicts (recursion_from_All (VerdictPoints last (policy_of crates.policy)) (gathered_of_licenses one.is.licenses) one.is.points)));
    }

    -- ---- the crates

    rising : AreRising (ids_of has.graph)
    rising = let at = bytes_of_graph given.request hearing has.graph has.graph_is in graph-rising at.text sparse_dir has.graph at.tells

    turned : crates_heard hearing ≡ map krate_of one.is.licenses
    turned = krates_told (scanner_of_given given crates.policy) (rules_of crates.policy) (files_loaded given.request hearing) later one.is.licenses last settled.turns

    turns_listed : map krate_of_turn (turns_in given hearing crates.policy) ≡ crates_heard hearing
    turns_listed = krates_turned (scanner_of_given given crates.policy) (rules_of crates.policy) (files_loaded given.request hearing) later

    judged_listed : crates_judged judged ≡ crates_heard hearing
    judged_listed =
        ap (λ (policy : ValidConfig). selected_in (include_of policy) judged.krates) policy_is
        ∙ ap (selected_in (include_of crates.policy)) one.krates
        ∙ crates_are given hearing crates.policy one.is.licenses last settled has.graph rising (choice_in given has.policy) crates.krates has.chosen one.is.gathered.selected

    -- ---- their texts

    module _ (same : crates.policy ≡ found.policy) (told : GraphTold) (is : IsGraphTold words found.asked (include_of found.policy) told) (texts : List (List ℕ)) (tells_texts : TellsTexts log.format (has_any words) told judged texts)
        (own : found.asked.own_specs ≡ length (filter_map spec_read context.exclude)) where
      abbrev report : Report
      report = judged.report

      abbrev telling : Telling
      telling = tells_texts.telling

      abbrev graph : Graph
      graph = found.asked.metadata

      abbrev choice : Choice
      choice = choice_of found.asked.selection

      abbrev include : Include
      include = include_of found.policy

      abbrev scanner : Scanner
      scanner = scanner_of_given given report.policy

      abbrev turns : List CrateTurn
      turns = turns_in given hearing report.policy

      is_telling : IsGraphTold words found.asked include telling.told.now
      is_telling = subst (IsGraphTold words found.asked include) (sym tells_texts.told_is) is

      turns_are : map krate_of_turn turns ≡ crates_heard hearing
      turns_are = ap (λ (policy : ValidConfig). map krate_of_turn (turns_in given hearing policy)) policy_is ∙ turns_listed

      rising_there : AreRising (ids_of graph)
      rising_there = subst (λ (graph : Graph). AreRising (ids_of graph)) chosen.graph rising

      listed_with : IsListOf graph (Selected graph choice include) (map krate_of one.is.licenses)
      listed_with =
          subst (λ (policy : ValidConfig). IsListOf graph (Selected graph choice (include_of policy)) (map krate_of one.is.licenses)) same
          (subst (λ (choice : Choice). IsListOf graph (Selected graph choice (include_of crates.policy)) (map krate_of one.is.licenses)) (sym chosen.choice)
          (subst (λ (graph : Graph). IsListOf graph (Selected graph (choice_in given has.policy) (include_of crates.policy)) (map krate_of one.is.licenses)) chosen.graph one.is.gathered.selected))

      among : checked_among (crates_of graph) telling.told.now.causes.items ≡ map krate_of_turn turns
      among =
          among_are graph rising_there choice found.asked.own_specs include telling.told.now.causes.items is_telling.causes.counted is_telling.causes.each (map krate_of one.is.licenses) listed_with
          ∙ sym turned ∙ sym turns_are

      fits : AllZip (IsTold scanner) turns telling.report.now.crates
      fits =
          subst (λ (report : Report). AllZip (IsTold scanner) turns report.crates) (sym tells_texts.report_is)
          (all_told scanner turns report.crates reported.turns reported.sources (recursion_from_All HasOwnReads turns reported.own)
          (turns_known scanner (rules_of report.policy) (files_loaded given.request hearing) later))

      -- by what the words, the policy and the metadata say, with the report
      abbrev basis_with : Format → Graph → Choice → ℕ → Include → Report → WhyBasis
      basis_with format graph choice own include telling_report = record {
        format = format;
        graph = graph;
        choice = choice;
        words_excluded = own;
        include = include;
        scanner = scanner;
        policy = telling_report.policy;
        files = telling_report.files;
        turns = turns;
        verdicts = verdicts_in telling_report;
      }

      abbrev own_basis : WhyBasis
      own_basis = basis_with log.format has.graph (choice_in given has.policy) (length (filter_map spec_read context.exclude)) (included_in has.policy) report

      basis_is : basis_with telling.format graph choice found.asked.own_specs include telling.report.now ≡ own_basis
      basis_is =
          ap (λ (format : Format). basis_with format graph choice found.asked.own_specs include telling.report.now) tells_texts.format_is
          ∙ ap (λ (graph : Graph). basis_with log.format graph choice found.asked.own_specs include telling.report.now) (sym chosen.graph)
          ∙ ap (λ (choice : Choice). basis_with log.format has.graph choice found.asked.own_specs include telling.report.now) chosen.choice
          ∙ ap (λ (own : ℕ). basis_with log.format has.graph (choice_in given has.policy) own include telling.report.now) own
          ∙ ap (λ (include : Include). basis_with log.format has.graph (choice_in given has.policy) (length (filter_map spec_read context.exclude)) include telling.report.now)
          (ap include_of (sym same) ∙ flags_same given front err files crates has)
          ∙ ap (basis_with log.format has.graph (choice_in given has.policy) (length (filter_map spec_read context.exclude)) (included_in has.policy)) tells_texts.report_is

      told_there : AllZip (IsWhyText (basis_with telling.format graph choice found.asked.own_specs include telling.report.now))
          (picks telling.has_words words (crates_of graph) telling.told.now.causes.items telling.report.now.crates)
          (texts_from telling 0 0 telling.told.now.causes.items (map krate_of_turn turns) telling.report.now.crates)
      told_there = texts_are telling words found.asked include is_telling scanner refl turns rising_there among fits

      picked : picks telling.has_words words (crates_of graph) telling.told.now.causes.items telling.report.now.crates ≡ crates_told words own_basis
      picked =
          ap (λ (b : Bool). picks b words (crates_of graph) telling.told.now.causes.items telling.report.now.crates) tells_texts.words_are
          ∙ told_are words (basis_with telling.format graph choice found.asked.own_specs include telling.report.now) telling.told.now.causes.items telling.report.now.crates
          is_telling.causes.counted among (zip_length (IsTold scanner) turns telling.report.now.crates fits) refl
          ∙ ap (crates_told words) basis_is

      written : texts_from telling 0 0 telling.told.now.causes.items (map krate_of_turn turns) telling.report.now.crates ≡ texts
      written =
          ap (λ (krates : List CrateRecord). texts_from telling 0 0 telling.told.now.causes.items krates telling.report.now.crates) (turns_are ∙ sym judged_listed)
          ∙ sym tells_texts.texts_are

      all_texts : AllZip (IsWhyText own_basis) (crates_told words own_basis) texts
      all_texts =
          subst (AllZip (IsWhyText own_basis) (crates_told words own_basis)) written
          (subst (λ (those : List CrateRecord). AllZip (IsWhyText own_basis) those (texts_from telling 0 0 telling.told.now.causes.items (map krate_of_turn turns) telling.report.now.crates)) picked
          (subst (λ (basis : WhyBasis). AllZip (IsWhyText basis) (picks telling.has_words words (crates_of graph) telling.told.now.causes.items telling.report.now.crates)
          (texts_from telling 0 0 telling.told.now.causes.items (map krate_of_turn turns) telling.report.now.crates)) basis_is told_there))

      pub why_ends : first_unknown words (crates_of graph) ≡ None → HearsSo given whole err (IsWhy asked_why (record { report = judged.report; texts = texts }))
      why_ends known =
          hears_so given heard middle tells begun mid after old between more err files crates has carried last one.is.licenses one.is.gathered (IsWhy asked_why (record { report = judged.report; texts = texts }))
          (record {
            report = reported;
            asked = record { policy = has.policy; graph = has.graph; crates = map krate_of one.is.licenses };
            asks = asks_at given carried front err files crates has later (map krate_of one.is.licenses) one.is.gathered.selected;
            known = ap (λ (graph : Graph). first_unknown words (crates_of graph)) chosen.graph ∙ known;
            texts = all_texts;
          })
