-- A verdict against a crate is reported by a finding that is an error.
use Rattle.std.proofs.Common.{◌≡◌, ◌∙◌, refl, sym, ℕ, zero, suc, ◌+◌, Bool, true, false, cond, nat_lt, count_by, List, [], ◌∷◌, ◌++◌, map, Option, Some, arith}
use Rattle.std.specs.Prelude.{◌^◌, ◌-◌, min}
use Rattle.std.specs.List.{AllByRecursion as ByRecursion, sum_by}
use Rattle.std.proofs.lemmas.Bool.Decides.{nat_tests}
use Rattle.std.proofs.lemmas.List.Sums.{sum_by-cons}
use Rattle.diag_core.specs.Pack.{PackOf, with_crate}
use Rattle.diag_core.specs.Severity.{is_same_severity}
use Rattle.diag_core.specs.declared.label.Label.{Label}
use Rattle.diag_core.specs.declared.pack.Diag.{Diag}
use Rattle.diag_core.specs.declared.severity.Severity.TheVariants as severity
use Rattle.gather_core.specs.declared.findings.license.LicenseInfo.{LicenseInfo}
use Rattle.gather_core.specs.declared.findings.license.LicenseInfo.TheVariants as license_info
use Rattle.spdx_core.specs.declared.certificates.verdict.Verdict.{Verdict}
use Rattle.spdx_core.specs.declared.certificates.verdict.Verdict.TheVariants.{Accepted, Rejected, Skipped, Unlicensed}
use Rattle.check_core.specs.evaluate.Evaluation.{is_allowed}
use Rattle.graph_core.specs.Krate.{CrateRecord}
use Rattle.policy_core.specs.valid.Policy.{Policy}
use Rattle.check_core.specs.findings.Findings.{expression_finding}
use Rattle.check_core.specs.Check.{AreVerdicts, packs_of}
use Rattle.check_core.specs.Turns.{GatheredCrate, expression_of, pack_by, verdict_finding}
use Rattle.check_core.specs.Verdicts.{IsVerdict, accepted, is_skipped, rejected, unlicensed, verdict_of}
use Rattle.check_core.specs.declared.report.CrateReport.{CrateReport}
use Rattle.diag_stats.specs.Counts.{count_in}
use Rattle.run_check.specs.Headline.{is_against}

abbrev is_error : Diag → Bool
is_error finding = is_same_severity finding.diag.severity severity.Error

one_none : (test : Bool) (others : ℕ) → cond test 1 0 + others ≡ 0 → (test ≡ false) × (others ≡ 0)
one_none true others e = absurd (omega arith)
one_none false others e = (refl, omega arith)

both_none : (one others : ℕ) → one + others ≡ 0 → (one ≡ 0) × (others ≡ 0)
both_none one others e = (omega arith, omega arith)

-- a last finding is counted
last_counts : (kid : Option (List ℕ)) (front : List Diag) (last : Diag) → count_by is_error (map (with_crate kid) (front ++ last ∷ [])) ≡ 0 → is_error last ≡ false
last_counts kid [] last e = (one_none (is_error last) (count_by is_error []) (sym (sum_by-cons (λ one. cond (is_error one) 1 0) (with_crate kid last) []) ∙ e)).0
last_counts kid (first ∷ front) last e =
    let rest : List Diag = map (with_crate kid) (front ++ last ∷ []) in
    last_counts kid front last (one_none (is_error first) (count_by is_error rest) (sym (sum_by-cons (λ one. cond (is_error one) 1 0) (with_crate kid first) rest) ∙ e)).1

-- ---- the verdict's own finding

rejected_by : (test : Bool) (labels : List Label) (notes : List (List ℕ)) → rejected ≡ cond test accepted rejected → is_error (expression_finding test labels notes) ≡ true
rejected_by true labels notes is = absurd (cc)
rejected_by false labels notes is = refl

apart_by : (test : Bool) → unlicensed ≡ cond test accepted rejected → ⊥
apart_by true is = absurd (cc)
apart_by false is = absurd (cc)

rejected_told : (private : Bool) (policy : Policy) (krate : CrateRecord) (counted : List ℕ) (info : LicenseInfo) (notes : List (List ℕ))
    → rejected ≡ verdict_of private policy counted (expression_of info) → is_error (verdict_finding policy krate counted info notes) ≡ true
rejected_told true policy krate counted info notes is = absurd (cc)
rejected_told false policy krate counted license_info.Unlicensed notes is = absurd (cc)
rejected_told false policy krate counted (license_info.SpdxExpression expression nfo) notes is = rejected_by (is_allowed policy counted expression.terms expression.tree) _ notes is

unlicensed_told : (private : Bool) (policy : Policy) (krate : CrateRecord) (counted : List ℕ) (info : LicenseInfo) (notes : List (List ℕ))
    → unlicensed ≡ verdict_of private policy counted (expression_of info) → is_error (verdict_finding policy krate counted info notes) ≡ true
unlicensed_told true policy krate counted info notes is = absurd (cc)
unlicensed_told false policy krate counted license_info.Unlicensed notes is = refl
unlicensed_told false policy krate counted (license_info.SpdxExpression expression nfo) notes is = absurd (apart_by (is_allowed policy counted expression.terms expression.tree) is)

true_false : (test : Bool) → test ≡ true → test ≡ false → ⊥
true_false true one other = absurd (cc)
true_false false one other = absurd (cc)

-- of a crate none of whose findings is an error
clear_one : (policy : Policy) (looked : GatheredCrate) (verdict : Verdict) → IsVerdict policy looked.krate looked.exceptions (expression_of looked.info) verdict
    → count_in severity.Error (pack_by (is_skipped verdict) policy looked) ≡ 0 → is_against verdict ≡ false
clear_one policy looked Skipped is none = refl
clear_one policy looked (Accepted choice hits) is none = refl
clear_one policy looked Unlicensed is none =
    let finding = verdict_finding policy looked.krate looked.exceptions looked.info looked.notes in
    absurd (true_false (is_error finding) (unlicensed_told is.judged.private policy looked.krate looked.exceptions looked.info looked.notes is.judged.is)
    (last_counts (Some looked.krate.id) looked.gathered finding none))
clear_one policy looked (Rejected least blocks) is none =
    let finding = verdict_finding policy looked.krate looked.exceptions looked.info looked.notes in
    absurd (true_false (is_error finding) (rejected_told is.judged.private policy looked.krate looked.exceptions looked.info looked.notes is.judged.is)
    (last_counts (Some looked.krate.id) looked.gathered finding none))

clear_all : (policy : Policy) (looked : List GatheredCrate) (verdicts : List Verdict) (more : List PackOf) → AreVerdicts policy looked verdicts
    → sum_by (count_in severity.Error) (packs_of policy looked verdicts ++ more) ≡ 0 → ByRecursion (λ verdict. is_against verdict ≡ false) verdicts
clear_all policy [] [] more are none = tt
clear_all policy [] (verdict ∷ verdicts) more are none = absurd are
clear_all policy (one ∷ looked) [] more are none = absurd are
clear_all policy (one ∷ looked) (verdict ∷ verdicts) more are none =
    let pack : PackOf = pack_by (is_skipped verdict) policy one in
    let rest : List PackOf = packs_of policy looked verdicts ++ more in
    let both = both_none (count_in severity.Error pack) (sum_by (count_in severity.Error) rest) (sym (sum_by-cons (count_in severity.Error) pack rest) ∙ none) in
    (clear_one policy one verdict are.0 both.0, clear_all policy looked verdicts more are.1 both.1)

of_crates : (crates : List CrateReport) → ByRecursion (λ verdict. is_against verdict ≡ false) (map (λ (crate : CrateReport). crate.verdict) crates)
    → ByRecursion (λ (crate : CrateReport). is_against crate.verdict ≡ false) crates
of_crates [] clear = tt
of_crates (crate ∷ crates) clear = (clear.0, of_crates crates clear.1)

-- no verdict is against a crate where no finding is an error
pub none_against : (policy : Policy) (looked : List GatheredCrate) (crates : List CrateReport) (more : List PackOf)
    → AreVerdicts policy looked (map (λ (crate : CrateReport). crate.verdict) crates)
    → sum_by (count_in severity.Error) (packs_of policy looked (map (λ (crate : CrateReport). crate.verdict) crates) ++ more) ≡ 0
    → ByRecursion (λ (crate : CrateReport). is_against crate.verdict ≡ false) crates
none_against policy looked crates more are none = of_crates crates (clear_all policy looked (map (λ (crate : CrateReport). crate.verdict) crates) more are none)

-- ---- from the counts

zero_errors : (count : ℕ) → nat_lt 0 count ≡ false → count ≡ 0
zero_errors zero e = refl
zero_errors (suc count) e = absurd (grind (arith, nat_tests))

none_by_least : (count : ℕ) → min count (2 ^ 64 - 1) ≡ 0 → count ≡ 0
none_by_least count e = omega arith

-- where no error is counted, no finding is an error
pub none_counted : (count : ℕ) → nat_lt 0 (min count (2 ^ 64 - 1)) ≡ false → count ≡ 0
none_counted count e = none_by_least count (zero_errors (min count (2 ^ 64 - 1)) e)
