-- More entries never reject a crate.
use Rattle.std.specs.Prelude.{◌≡◌, ◌⊎◌, ℕ, false, List, [], ◌∷◌, ◌++◌, Option}
use Rattle.std.specs.Option.{option_to_list}
use Rattle.spdx_terms.specs.declared.term.LicenseReq.{LicenseReq}
use Rattle.spdx_core.specs.Reading.{ExpressionView}
use Rattle.graph_core.specs.Krate.{CrateRecord}
use Rattle.policy_core.specs.declared.valid.policy.ValidConfig.{ValidConfig}
use Rattle.policy_core.specs.declared.valid.policy.ValidException.{ValidException}
use Rattle.policy_core.specs.valid.Policy.{Grant, Policy, first_exception}
use Rattle.policy_core.specs.valid.Version.{is_version_3}
use Rattle.policy_core.specs.valid.View.{policy_of}
use Rattle.gather_license.specs.files.KnownReads.{FolderReads}
use Rattle.gather_core.specs.Exceptions.{counted_of, exception_rules}
use Rattle.check_core.specs.evaluate.Laws.{with_allowed, with_exception}
use Rattle.check_core.specs.Verdicts.{Judgement, skipped, unlicensed, accepted, rejected, IsJudged}

-- a judgement stays what it is, but that a rejected crate may come to be accepted
abbrev pub IsAsGood : Judgement → Judgement → Type 0
IsAsGood skipped after = after ≡ skipped
IsAsGood unlicensed after = after ≡ unlicensed
IsAsGood accepted after = after ≡ accepted
IsAsGood rejected after = (after ≡ rejected) ⊎ (after ≡ accepted)

-- one more allowed licensee, at any place of the sorted list
abbrev pub MoreAllowedIsAsGood : Type 0
MoreAllowedIsAsGood =
    (policy : Policy) (krate : CrateRecord) (counted : List ℕ) (expression : Option ExpressionView) (place : ℕ)
    (licensee : LicenseReq) (before after : Judgement)
    → IsJudged policy krate counted expression before
    → IsJudged (with_allowed policy place licensee) krate counted expression after → IsAsGood before after

-- one more exception behind all others, and perhaps more that count behind those that counted
abbrev pub MoreExceptionsAreAsGood : Type 0
MoreExceptionsAreAsGood =
    (policy : Policy) (krate : CrateRecord) (counted more : List ℕ) (expression : Option ExpressionView) (grant : Grant)
    (before after : Judgement)
    → IsJudged policy krate counted expression before
    → IsJudged (with_exception policy grant) krate (counted ++ more) expression after → IsAsGood before after

-- ---- of a whole policy, by what is read of a crate

-- a policy with one more exception behind all others
abbrev pub with_further : ValidConfig → ValidException → ValidConfig
with_further policy exception = record policy { exceptions = policy.exceptions ++ exception ∷ [] }

-- under another version than 3 the first exception for a crate counts alone, whatever is read of the crate
abbrev pub FirstExceptionCounts : Type 0
FirstExceptionCounts =
    (policy : ValidConfig) (krate : CrateRecord) (known_reads : FolderReads) → is_version_3 policy.version ≡ false
    → counted_of (exception_rules policy) krate known_reads
    ≡ option_to_list (first_exception (policy_of policy) krate)

-- whether each exception that holds counts or the first alone
abbrev pub FurtherExceptionIsAsGood : Type 0
FurtherExceptionIsAsGood =
    (policy : ValidConfig) (exception : ValidException) (krate : CrateRecord) (known_reads : FolderReads)
    (expression : Option ExpressionView) (before after : Judgement)
    → IsJudged (policy_of policy) krate (counted_of (exception_rules policy) krate known_reads) expression before
    → IsJudged (policy_of (with_further policy exception)) krate
    (counted_of (exception_rules (with_further policy exception)) krate known_reads) expression after
    → IsAsGood before after
