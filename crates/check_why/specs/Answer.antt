-- What `why` says of a crate that is checked, of what the check reports of it.
use Rattle.std.specs.Prelude.{ℕ, Bool, true, false, not, List, [], map, filter, Option, Some, None}
use Rattle.semver.specs.Identifiers.{parts_text}
use Rattle.spdx_core.specs.Reading.{ExpressionView}
use Rattle.spdx_core.specs.declared.certificates.verdict.Hit.{Hit}
use Rattle.spdx_core.specs.declared.certificates.verdict.Verdict.{Verdict}
use Rattle.spdx_core.specs.declared.certificates.verdict.Verdict.TheVariants.{Skipped, Unlicensed, Accepted, Rejected}
use Rattle.spdx_core.specs.certificates.Certificates.{has_hit}
use Rattle.tree_core.specs.declared.reads.ReadRecord.{ReadRecord}
use Rattle.graph_core.specs.Krate.{CrateRecord}
use Rattle.diag_core.specs.File.{File}
use Rattle.policy_core.specs.declared.valid.policy.ValidConfig.{ValidConfig}
use Rattle.policy_core.specs.valid.View.{policy_of}
use Rattle.gather_license.specs.expression.Scanned.{Scanner}
use Rattle.gather_license.specs.files.KnownReads.{FolderReads}
use Rattle.gather_core.specs.declared.findings.license.LicenseExprInfo.{LicenseExprInfo}
use Rattle.gather_core.specs.declared.findings.license.LicenseInfo.{LicenseInfo}
use Rattle.gather_core.specs.declared.findings.license.LicenseInfo.TheVariants as info
use Rattle.check_core.specs.Turns.{GatheredCrate, expression_of}
use Rattle.check_core.specs.evaluate.Evaluation.{term_hits}
use Rattle.check_core.specs.Reports.{place_of}
use Rattle.check_core.specs.findings.Sources.{source_text}
use Rattle.check_why.specs.declared.answer.CrateAnswer.{CrateAnswer}
use Rattle.check_why.specs.declared.answer.CrateTitle.{CrateTitle}
use Rattle.check_why.specs.declared.answer.LicenseAnswer.{LicenseAnswer}
use Rattle.check_why.specs.declared.answer.TermAnswer.{TermAnswer}
use Rattle.check_why.specs.declared.answer.VerdictAnswer.{VerdictAnswer}
use Rattle.check_why.specs.declared.answer.VerdictAnswer.TheVariants as answer
use Rattle.check_why.specs.Place.{begin_of, place_at, term_answers}
use Rattle.check_why.specs.Reads.{read_answers}
use Rattle.check_why.specs.Unmet.{unmet_answers}

abbrev pub title_of : CrateRecord → CrateTitle
title_of krate = record { id = krate.id; name = krate.name; version = parts_text krate.version }

-- ---- the expression

-- with what it was retrieved via, as the label of the whole expression has it, and where it begins
abbrev pub license_answer : List File → LicenseInfo → Option LicenseAnswer
license_answer files info.Unlicensed = None
license_answer files (info.SpdxExpression expression nfo) =
    Some (record {
      text = expression.text;
      source = source_text nfo.source;
      place = place_at files nfo.file_id (begin_of (place_of nfo));
    })

-- ---- the verdict

-- the hits of the terms of an expression, if there is one
abbrev pub hits_for : ValidConfig → List ℕ → Option ExpressionView → List (Option Hit)
hits_for policy counted None = []
hits_for policy counted (Some expression) = term_hits (policy_of policy) counted expression.terms

-- of a choice the places of the terms that have no hit
abbrev pub failing : List (Option Hit) → List ℕ → List ℕ
failing hits choice = filter (λ place. not (has_hit hits place)) choice

abbrev pub verdict_answer : List (Option Hit) → Verdict → VerdictAnswer
verdict_answer hits Skipped = answer.PassedOver
verdict_answer hits Unlicensed = answer.Unlicensed
verdict_answer hits (Accepted choice by) = answer.Accepted choice
verdict_answer hits (Rejected least blocks) = answer.Rejected (failing hits least) blocks

-- the terms of an expression, each by its own hit
abbrev pub terms_in : List File → ValidConfig → Option ExpressionView → List (Option Hit) → List TermAnswer
terms_in files policy None hits = []
terms_in files policy (Some expression) hits = term_answers files policy expression.terms hits

-- of a crate that is not passed over
abbrev pub terms_by : List File → ValidConfig → Option ExpressionView → Verdict → List (Option Hit) → List TermAnswer
terms_by files policy expression Skipped hits = []
terms_by files policy expression Unlicensed hits = terms_in files policy expression hits
terms_by files policy expression (Accepted choice by) hits = terms_in files policy expression hits
terms_by files policy expression (Rejected least blocks) hits = terms_in files policy expression hits

-- ---- all of it

-- what is known of a checked crate: what was gathered, its reads, what they say, its verdict, and the crates of the
-- shortest walk to it, without itself
pub record CheckedCrate : Type 0 where
  pub gathered : GatheredCrate
  pub reads : List ReadRecord
  pub known_reads : FolderReads
  pub verdict : Verdict
  pub needed_by : List CrateRecord

abbrev pub titles_of : List CrateRecord → List CrateTitle
titles_of crates = map title_of crates

-- under a policy, with the table of files as the check has left it, and what texts are identified by
abbrev pub answer_of : List File → Scanner → ValidConfig → CheckedCrate → CrateAnswer
answer_of files scanner policy one = record {
  title = title_of one.gathered.krate;
  verdict = verdict_answer (hits_for policy one.gathered.exceptions (expression_of one.gathered.info)) one.verdict;
  license = license_answer files one.gathered.info;
  terms = terms_by files policy (expression_of one.gathered.info) one.verdict
      (hits_for policy one.gathered.exceptions (expression_of one.gathered.info));
  needed_by = titles_of one.needed_by;
  reads = read_answers scanner one.known_reads one.reads;
  unmet = unmet_answers files policy one.gathered.krate one.known_reads;
  notes = one.gathered.notes;
}
