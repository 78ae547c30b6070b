-- What is said by the report of the check is what is said by the crate's turn.
use Rattle.std.proofs.Common.{◌≡◌, ◌∙◌, ℕ, true, List, [], ◌∷◌, map, Option, Some, None, refl, sym, ap, ap₂}
use Rattle.deny_text.specs.Path.{components_of}
use Rattle.tree_core.specs.declared.reads.ReadAnswer.{ReadAnswer as Answer}
use Rattle.tree_core.specs.declared.reads.ReadAnswer.TheVariants.{Got, Absent, WrongKind, NotUtf8, Failed}
use Rattle.tree_core.specs.declared.reads.ReadKind.{ReadKind}
use Rattle.tree_core.specs.declared.reads.ReadKind.TheVariants.{Manifest, Listing, LicenseFile}
use Rattle.tree_core.specs.declared.reads.ReadRecord.{ReadRecord}
use Rattle.tree_core.specs.file_reads.Heard.{ReadResult, failed, absent, wrong_kind, not_utf8, text, entries}
use Rattle.gather_license.specs.declared.expression.kept.KeptFile.{KeptFile}
use Rattle.gather_license.specs.expression.Kept.{file_kept, files_kept, kept_by, kept_of, kept_where}
use Rattle.gather_license.specs.expression.Scanned.{Scanner}
use Rattle.gather_license.specs.files.KnownReads.{FolderReads, known_reads_by}
use Rattle.gather_license.specs.files.View.{normal_heard}
use Rattle.tree_core.specs.file_reads.Read.{AnsweredRead, records_of_reads}
use Rattle.diag_core.specs.File.{File}
use Rattle.spdx_core.specs.Reading.{ExpressionView}
use Rattle.spdx_core.specs.declared.certificates.verdict.Hit.{Hit}
use Rattle.spdx_core.specs.declared.certificates.verdict.Verdict.{Verdict}
use Rattle.policy_core.specs.declared.valid.policy.ValidConfig.{ValidConfig}
use Rattle.gather_core.specs.declared.findings.license.LicenseExprSource.{LicenseExprSource}
use Rattle.gather_core.specs.declared.findings.license.LicenseInfo.{LicenseInfo}
use Rattle.gather_core.specs.declared.findings.license.LicenseInfo.TheVariants.{SpdxExpression, Unlicensed}
use Rattle.check_core.specs.declared.report.CrateReport.{CrateReport}
use Rattle.check_core.specs.declared.report.ExpressionPlace.{ExpressionPlace}
use Rattle.check_core.specs.Reports.{license_place, license_source}
use Rattle.check_core.specs.Turns.{expression_of}
use Rattle.check_why.specs.declared.answer.CrateAnswer.{CrateAnswer}
use Rattle.check_why.specs.declared.answer.LicenseAnswer.{LicenseAnswer}
use Rattle.check_why.specs.declared.answer.UnmetAnswer.{UnmetAnswer}
use Rattle.check_why.specs.declared.answer.ReadAnswer.{ReadAnswer}
use Rattle.check_why.specs.declared.answer.ReadSaid.{ReadSaid}
use Rattle.check_why.specs.Answer as answer
use Rattle.check_why.specs.Answer.{CheckedCrate, answer_of, title_of, titles_of}
use Rattle.check_why.specs.Kept.{answers_by, kept_said, read_said, unmet_answers}
use Rattle.check_why.specs.Made.{IsReportOn, answer_by, license_by}
use Rattle.check_why.specs.Reads as reads
use Rattle.check_why.specs.Reads.{file_said, read_answer, read_answers}
use Rattle.check_why.specs.Unmet as unmet
use Rattle.check_why.proofs.UnmetLemmas.{unmet_same}

-- ---- reads

kept_same : (scanner : Scanner) (heard : ReadResult) → kept_said (kept_of scanner (normal_heard heard)) ≡ file_said scanner heard
kept_same scanner (failed before after) = refl
kept_same scanner absent = refl
kept_same scanner wrong_kind = refl
kept_same scanner not_utf8 = refl
kept_same scanner (text bytes) = refl
kept_same scanner (entries listed) = refl

module _ (scanner : Scanner) (known_reads : FolderReads) where
  abbrev answer_as : List ℕ → ReadSaid → ReadAnswer
  answer_as path said = record { path = path; said = said }

  -- a read of a licence file has the first of those that are kept
  file_same : (path : List ℕ) (answer : Answer) (rest : List KeptFile)
      → read_said LicenseFile answer (file_kept scanner known_reads path ∷ rest) ≡ reads.read_said scanner LicenseFile answer (known_reads.file (components_of path))
  file_same path Got rest = kept_same scanner (known_reads.file (components_of path))
  file_same path Absent rest = refl
  file_same path WrongKind rest = refl
  file_same path NotUtf8 rest = refl
  file_same path (Failed before after) rest = refl

  manifest_same : (heard : ReadResult) (answer : Answer) (kept : List KeptFile) → read_said Manifest answer kept ≡ reads.read_said scanner Manifest answer heard
  manifest_same heard Got kept = refl
  manifest_same heard Absent kept = refl
  manifest_same heard WrongKind kept = refl
  manifest_same heard NotUtf8 kept = refl
  manifest_same heard (Failed before after) kept = refl

  listing_same : (heard : ReadResult) (answer : Answer) (kept : List KeptFile) → read_said Listing answer kept ≡ reads.read_said scanner Listing answer heard
  listing_same heard Got kept = refl
  listing_same heard Absent kept = refl
  listing_same heard WrongKind kept = refl
  listing_same heard NotUtf8 kept = refl
  listing_same heard (Failed before after) kept = refl

  abbrev read_as : ReadKind → List ℕ → Answer → ReadRecord
  read_as kind path answer = record { kind = kind; path = path; answer = answer }

  one_more : (kind : ReadKind) (path : List ℕ) (answer : Answer) (more : List ReadRecord)
      → answers_by more (files_kept scanner known_reads more) ≡ read_answers scanner known_reads more
      → answers_by (read_as kind path answer ∷ more) (files_kept scanner known_reads (read_as kind path answer ∷ more))
      ≡ read_answers scanner known_reads (read_as kind path answer ∷ more)
  one_more Manifest path answer more same =
      ap₂ (λ said rest. answer_as path said ∷ rest) (manifest_same (known_reads.file (components_of path)) answer (files_kept scanner known_reads more)) same
  one_more Listing path answer more same =
      ap₂ (λ said rest. answer_as path said ∷ rest) (listing_same (known_reads.file (components_of path)) answer (files_kept scanner known_reads more)) same
  one_more LicenseFile path answer more same =
      ap₂ (λ said rest. answer_as path said ∷ rest) (file_same path answer (files_kept scanner known_reads more)) same

  -- by what is kept of the licence files as by what is read of them
  pub answers_same : (all : List ReadRecord) → answers_by all (files_kept scanner known_reads all) ≡ read_answers scanner known_reads all
  answers_same [] = refl
  answers_same (read ∷ more) = one_more read.kind read.path read.answer more (answers_same more)

-- ---- the expression

license_same : (files : List File) (info : LicenseInfo) → license_by files (expression_of info) (license_source info) (license_place info) ≡ answer.license_answer files info
license_same files Unlicensed = refl
license_same files (SpdxExpression expression nfo) = refl

-- ---- all of it

module _ (files : List File) (scanner : Scanner) (policy : ValidConfig) (one : CheckedCrate) (all : List AnsweredRead) (keeps : scanner.keeps ≡ true)
    (known_are : one.known_reads ≡ known_reads_by all) (reads_are : one.reads ≡ records_of_reads all) where
  abbrev hits_with : List ℕ → Option ExpressionView → List (Option Hit)
  hits_with counted expression = answer.hits_for policy counted expression

  abbrev answer_with : Option ExpressionView → Option LicenseExprSource → Option ExpressionPlace → List ℕ → List (List ℕ) → List ReadRecord → List KeptFile → Verdict → CrateAnswer
  answer_with expression source place counted notes records kept verdict = record {
    title = title_of one.gathered.krate;
    verdict = answer.verdict_answer (hits_with counted expression) verdict;
    license = license_by files expression source place;
    terms = answer.terms_by files policy expression verdict (hits_with counted expression);
    needed_by = titles_of one.needed_by;
    reads = answers_by records kept;
    unmet = unmet_answers files policy one.gathered.krate kept;
    notes = notes;
  }

  kept_are : (kept : List KeptFile) → kept ≡ kept_by scanner one.known_reads one.reads → kept ≡ files_kept scanner one.known_reads one.reads
  kept_are kept is = is ∙ ap (λ keeps. kept_where keeps (files_kept scanner one.known_reads one.reads)) keeps

  unmet_are : unmet_answers files policy one.gathered.krate (files_kept scanner one.known_reads one.reads) ≡ unmet.unmet_answers files policy one.gathered.krate one.known_reads
  unmet_are =
      ap₂ (λ (known_reads : FolderReads) (records : List ReadRecord). unmet_answers files policy one.gathered.krate (files_kept scanner known_reads records)) known_are reads_are
      ∙ unmet_same scanner all files one.gathered.krate policy
      ∙ ap (unmet.unmet_answers files policy one.gathered.krate) (sym known_are)

  -- by the report as by the turn
  pub answer_same : (report : CrateReport) → IsReportOn scanner one report → answer_by files policy one.gathered.krate report (titles_of one.needed_by) ≡ answer_of files scanner policy one
  answer_same report is =
      let info = one.gathered.info in
      let kept = files_kept scanner one.known_reads one.reads in
      ap (λ (own : Option ExpressionView). answer_with own report.source report.place report.exceptions report.notes report.reads report.kept report.verdict) is.expression
      ∙ ap (λ (own : Option LicenseExprSource). answer_with (expression_of info) own report.place report.exceptions report.notes report.reads report.kept report.verdict) is.source
      ∙ ap (λ (own : Option ExpressionPlace). answer_with (expression_of info) (license_source info) own report.exceptions report.notes report.reads report.kept report.verdict) is.place
      ∙ ap (λ (own : List ℕ). answer_with (expression_of info) (license_source info) (license_place info) own report.notes report.reads report.kept report.verdict) is.exceptions
      ∙ ap (λ (own : List (List ℕ)). answer_with (expression_of info) (license_source info) (license_place info) one.gathered.exceptions own report.reads report.kept report.verdict) is.notes
      ∙ ap (λ (own : List ReadRecord). answer_with (expression_of info) (license_source info) (license_place info) one.gathered.exceptions one.gathered.notes own report.kept report.verdict) is.reads
      ∙ ap (λ (own : List KeptFile). answer_with (expression_of info) (license_source info) (license_place info) one.gathered.exceptions one.gathered.notes one.reads own report.verdict) (kept_are report.kept is.kept)
      ∙ ap (answer_with (expression_of info) (license_source info) (license_place info) one.gathered.exceptions one.gathered.notes one.reads kept) is.verdict
      ∙ ap (λ (license : Option LicenseAnswer). told_with license (answers_by one.reads kept) (unmet_answers files policy one.gathered.krate kept)) (license_same files info)
      ∙ ap₂ (told_with (answer.license_answer files info)) (answers_same scanner one.known_reads one.reads) unmet_are
    where
      told_with : Option LicenseAnswer → List ReadAnswer → List UnmetAnswer → CrateAnswer
      told_with license read_ones unmet_ones = record {
        title = title_of one.gathered.krate;
        verdict = answer.verdict_answer (hits_with one.gathered.exceptions (expression_of one.gathered.info)) one.verdict;
        license = license;
        terms = answer.terms_by files policy (expression_of one.gathered.info) one.verdict (hits_with one.gathered.exceptions (expression_of one.gathered.info));
        needed_by = titles_of one.needed_by;
        reads = read_ones;
        unmet = unmet_ones;
        notes = one.gathered.notes;
      }
