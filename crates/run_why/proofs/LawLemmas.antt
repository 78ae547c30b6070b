-- That `why` tells the verdicts of the check: nothing of them depends on whether it is kept what each licence file is.
use Rattle.std.proofs.Common.{◌≡◌, ◌∙◌, refl, sym, ap, ap₂, subst, ℕ, Bool, true, false, List, [], ◌∷◌, map, Option, Some, None, Result, Ok}
use Rattle.std.specs.Prelude.{option_map}
use Rattle.std.specs.List.{AllZip}
use Rattle.spdx_terms.specs.catalog.Catalog.{CatalogLists}
use Rattle.spdx_terms.specs.declared.catalog.identifier.Match.{Match}
use Rattle.spdx_core.specs.Reading.{ExpressionView}
use Rattle.spdx_core.specs.declared.certificates.verdict.Hit.{Hit}
use Rattle.spdx_core.specs.declared.certificates.verdict.Verdict.{Verdict}
use Rattle.spdx_core.specs.declared.certificates.verdict.Verdict.TheVariants.{Accepted, Rejected, Skipped, Unlicensed}
use Rattle.spdx_core.specs.certificates.Certificates.{hit_at}
use Rattle.tree_core.specs.file_reads.Heard.{ReadResult, failed, absent, wrong_kind, not_utf8, text, entries}
use Rattle.diag_print.specs.declared.context.LogContext.{LogContext}
use Rattle.graph_core.specs.Krate.{CrateRecord}
use Rattle.policy_core.specs.Policy.{PolicyFound}
use Rattle.policy_core.specs.valid.Policy.{IsPrivate, Policy}
use Rattle.policy_core.specs.valid.View.{policy_of}
use Rattle.policy_core.specs.validate.Order.{PutsPolicyInOrder}
use Rattle.policy_core.specs.declared.valid.policy.ValidConfig.{ValidConfig}
use Rattle.gather_license.specs.Clarification.{named_files, held_in}
use Rattle.gather_license.specs.Priority.{answer_in, by_seen, field_of, files_heard, holding_clarification, seen_by, settling_by}
use Rattle.gather_license.specs.declared.expression.files.FileResult.{FileResult}
use Rattle.gather_license.specs.declared.expression.files.ScannedFile.{ScannedFile}
use Rattle.gather_license.specs.expression.Scanned.{Scanner, file_scanned, scanned_of}
use Rattle.gather_license.specs.files.KnownReads.{known_reads_by}
use Rattle.gather_license.specs.files.Pack.{pack_paths}
use Rattle.gather_core.specs.Calls.{ReadsOfCrate}
use Rattle.gather_core.specs.Entries.{clarifications_of, entries_of}
use Rattle.check_core.specs.evaluate.Evaluation.{term_hits}
use Rattle.check_core.specs.Verdicts.{IsVerdict, IsVerdictShown, is_skipped, judgement_in, verdict_of}
use Rattle.check_core.proofs.LawLemmas.{same_test}
use Rattle.check_core.specs.declared.report.CrateReport.{CrateReport}
use Rattle.run_request.specs.declared.context.KrateContext.{KrateContext}
use Rattle.run_request.specs.declared.level.LintLevels.{LintLevels}
use Rattle.run_found.specs.declared.error.Error.{Error}
use Rattle.run_found.specs.Hearing.{RequestHearing}
use Rattle.run_found.specs.Licenses.{counted_heard, expression_in, priority_heard, scanner_of_policy}
use Rattle.run_found.proofs.ByteLemmas.{found_by_bytes}
use Rattle.run_command.specs.Found.{scanner_of_given}
use Rattle.run_command.specs.Given.{CommandArguments, command_arguments_of}
use Rattle.run_check.specs.declared.report.Report.{Report}
use Rattle.run_check.specs.Given.{report_options}
use Rattle.run_check.specs.Report.{IsReport, IsReportOf, verdicts_in}
use Rattle.run_check.proofs.OrderAlike.{policy_alike}
use Rattle.run_why.specs.Given.{why_options}

-- ---- what texts are identified as

module _ (lists : CatalogLists) (match_of : List ℕ → Match) (policy : ValidConfig) where
  abbrev keeping : Bool → Scanner
  keeping keeps = scanner_of_policy keeps lists match_of policy

  scanned_same : (a b : Bool) (read : ReadResult) → scanned_of (keeping a) read ≡ scanned_of (keeping b) read
  scanned_same a b (failed before after) = refl
  scanned_same a b absent = refl
  scanned_same a b wrong_kind = refl
  scanned_same a b not_utf8 = refl
  scanned_same a b (text normal) = refl
  scanned_same a b (entries listed) = refl

  files_same : (a b : Bool) (files : List (List ℕ × ReadResult)) → map (file_scanned (keeping a)) files ≡ map (file_scanned (keeping b)) files
  files_same a b [] = refl
  files_same a b (file ∷ files) =
      ap₂ (λ (scanned : FileResult) (rest : List ScannedFile). (let it : ScannedFile = record { path = file.0; scanned = scanned } in it) ∷ rest)
      (scanned_same a b file.1) (files_same a b files)

  pub priority_same : (a b : Bool) (one : ReadsOfCrate) → priority_heard (keeping a) policy one ≡ priority_heard (keeping b) policy one
  priority_same a b one =
      let known_reads = known_reads_by one.reads in
      let clarifications = clarifications_of one.krate (entries_of policy) in
      ap (λ (files : List ScannedFile). answer_in (settling_by (option_map held_in (holding_clarification known_reads clarifications)) (field_of lists one.krate) (by_seen lists (seen_by known_reads.listing files))))
      (files_same a b (files_heard known_reads (pack_paths known_reads one.krate.license_file (named_files clarifications))))

-- ---- a verdict, with what shows it

some_inner : {A : Type 0} (x y : A) → ◌≡◌ {A = Option A} (Some x) (Some y) → x ≡ y
some_inner x y e = cc

some_first : {A : Type 0} (x y : A) (xs ys : List A) → ◌≡◌ {A = List (Option A)} (Some x ∷ map Some xs) (Some y ∷ map Some ys) → x ≡ y
some_first x y xs ys e = cc

some_rest : {A : Type 0} (x y : A) (xs ys : List A) → ◌≡◌ {A = List (Option A)} (Some x ∷ map Some xs) (Some y ∷ map Some ys) → ◌≡◌ {A = List (Option A)} (map Some xs) (map Some ys)
some_rest x y xs ys e = cc

all_inner : {A : Type 0} (xs ys : List A) → ◌≡◌ {A = List (Option A)} (map Some xs) (map Some ys) → xs ≡ ys
all_inner [] [] e = refl
all_inner [] (y ∷ ys) e = absurd (cc e)
all_inner (x ∷ xs) [] e = absurd (cc e)
all_inner {A = A} (x ∷ xs) (y ∷ ys) e = ap₂ (λ (one : A) (rest : List A). one ∷ rest) (some_first x y xs ys e) (all_inner xs ys (some_rest x y xs ys e))

module _ (policy : Policy) (krate : CrateRecord) (counted : List ℕ) where
  accepted_same : (expression : Option ExpressionView) (choice other : List ℕ) (hits more : List Hit)
      → IsVerdictShown false policy counted expression (Accepted choice hits) → IsVerdictShown false policy counted expression (Accepted other more)
      → ◌≡◌ {A = Verdict} (Accepted choice hits) (Accepted other more)
  accepted_same None choice other hits more first second = absurd (cc first)
  accepted_same (Some expression) choice other hits more first second =
      let choices : choice ≡ other = some_inner choice other (sym first.first ∙ second.first) in
      let same : hits ≡ more = all_inner hits more (first.place_by_place ∙ ap (map (hit_at (term_hits policy counted expression.terms))) choices ∙ sym second.place_by_place) in
      ap₂ (λ (choice : List ℕ) (hits : List Hit). Accepted choice hits) choices same

  rejected_same : (expression : Option ExpressionView) (least other blocks more : List ℕ)
      → IsVerdictShown false policy counted expression (Rejected least blocks) → IsVerdictShown false policy counted expression (Rejected other more)
      → ◌≡◌ {A = Verdict} (Rejected least blocks) (Rejected other more)
  rejected_same None least other blocks more first second = absurd (cc first)
  rejected_same (Some expression) least other blocks more first second =
      ap₂ (λ (least blocks : List ℕ). Rejected least blocks) (some_inner least other (sym first.least_is ∙ second.least_is)) (first.blocks_are ∙ sym second.blocks_are)

  shown_same : (expression : Option ExpressionView) (one other : Verdict) → judgement_in one ≡ judgement_in other
      → IsVerdictShown (is_skipped one) policy counted expression one → IsVerdictShown (is_skipped other) policy counted expression other → one ≡ other
  shown_same expression Skipped Skipped e first second = refl
  shown_same expression Skipped Unlicensed e first second = absurd (cc e)
  shown_same expression Skipped (Accepted other more) e first second = absurd (cc e)
  shown_same expression Skipped (Rejected other more) e first second = absurd (cc e)
  shown_same expression Unlicensed Skipped e first second = absurd (cc e)
  shown_same expression Unlicensed Unlicensed e first second = refl
  shown_same expression Unlicensed (Accepted other more) e first second = absurd (cc e)
  shown_same expression Unlicensed (Rejected other more) e first second = absurd (cc e)
  shown_same expression (Accepted choice hits) Skipped e first second = absurd (cc e)
  shown_same expression (Accepted choice hits) Unlicensed e first second = absurd (cc e)
  shown_same expression (Accepted choice hits) (Accepted other more) e first second = accepted_same expression choice other hits more first second
  shown_same expression (Accepted choice hits) (Rejected other more) e first second = absurd (cc e)
  shown_same expression (Rejected least blocks) Skipped e first second = absurd (cc e)
  shown_same expression (Rejected least blocks) Unlicensed e first second = absurd (cc e)
  shown_same expression (Rejected least blocks) (Accepted other more) e first second = absurd (cc e)
  shown_same expression (Rejected least blocks) (Rejected other more) e first second = rejected_same expression least other blocks more first second

  pub verdict_alike : (expression : Option ExpressionView) (one other : Verdict) → IsVerdict policy krate counted expression one → IsVerdict policy krate counted expression other → one ≡ other
  verdict_alike expression one other first second =
      let private = same_test first.judged.private second.judged.private (λ (own : IsPrivate policy krate). own) (λ (own : IsPrivate policy krate). own) first.judged.tells second.judged.tells in
      shown_same expression one other
      (first.judged.is ∙ ap (λ (private : Bool). verdict_of private policy counted expression) private ∙ sym second.judged.is)
      first.shown second.shown

-- ---- all verdicts

module _ (given others : CommandArguments) (policy : ValidConfig)
    (same : (one : ReadsOfCrate) → priority_heard (scanner_of_given given policy) policy one ≡ priority_heard (scanner_of_given others policy) policy one) where
  crate_same : (one : ReadsOfCrate) (report other : CrateReport) → IsReportOf given policy one report → IsReportOf others policy one other → report.verdict ≡ other.verdict
  crate_same one report other first second =
      let expressions : report.expression ≡ other.expression = first.expression ∙ ap expression_in (same one) ∙ sym second.expression in
      verdict_alike (policy_of policy) one.krate (counted_heard policy one) report.expression report.verdict other.verdict first.verdict
      (subst (λ (expression : Option ExpressionView). IsVerdict (policy_of policy) one.krate (counted_heard policy one) expression other.verdict) (sym expressions) second.verdict)

  crates_same : (crates : List ReadsOfCrate) (reports more : List CrateReport) → AllZip (IsReportOf given policy) crates reports → AllZip (IsReportOf others policy) crates more
      → map (λ (report : CrateReport). report.verdict) reports ≡ map (λ (report : CrateReport). report.verdict) more
  crates_same [] [] [] first second = refl
  crates_same [] [] (other ∷ more) first second = absurd second
  crates_same [] (report ∷ reports) more first second = absurd first
  crates_same (one ∷ crates) [] more first second = absurd first
  crates_same (one ∷ crates) (report ∷ reports) [] first second = absurd second
  crates_same (one ∷ crates) (report ∷ reports) (other ∷ more) first second =
      ap₂ (λ (verdict : Verdict) (rest : List Verdict). verdict ∷ rest) (crate_same one report other first.0 second.0) (crates_same crates reports more first.1 second.1)

module _ (lists : CatalogLists) (match_of : List ℕ → Match) (log : LogContext) (context : KrateContext) (words : List (List ℕ)) (levels : LintLevels) (hearing : RequestHearing) (why check : Report) where
  abbrev telling : CommandArguments
  telling = command_arguments_of lists match_of log context (why_options log context words)

  abbrev checking : CommandArguments
  checking = command_arguments_of lists match_of log context (report_options levels None)

  module _ (first : IsReport telling hearing why) (second : IsReport checking hearing check) where
    found_inner : (one other : PolicyFound) → ◌≡◌ {A = Result PolicyFound Error} (Ok one) (Ok other) → one ≡ other
    found_inner one other e = cc

    found_same : first.verdicts.settled.asked.policy ≡ second.verdicts.settled.asked.policy
    found_same =
        found_inner first.verdicts.settled.asked.policy second.verdicts.settled.asked.policy
        (sym (found_by_bytes telling.request hearing first.verdicts.settled.asked.policy first.verdicts.settled.asks.policy)
        ∙ found_by_bytes checking.request hearing second.verdicts.settled.asked.policy second.verdicts.settled.asks.policy)

    policies_same : why.policy ≡ check.policy
    policies_same =
        policy_alike second.verdicts.settled.asked.policy.licenses why.policy check.policy
        (subst (λ (found : PolicyFound). PutsPolicyInOrder found.licenses why.policy) found_same first.verdicts.settled.ordered)
        second.verdicts.settled.ordered

    pub verdicts_of_check : verdicts_in why ≡ verdicts_in check
    verdicts_of_check =
        crates_same telling checking check.policy (priority_same lists match_of check.policy true false) hearing.crates why.crates check.crates
        (subst (λ (policy : ValidConfig). AllZip (IsReportOf telling policy) hearing.crates why.crates) policies_same first.verdicts.gives.verdicts)
        second.verdicts.gives.verdicts
