-- What is asked of a crate's recorded verdict.
use Rattle.std.specs.Prelude.{ℕ, Bool, List, Option, Some, None, if◌then◌else◌}
use Rattle.std.specs.List.{list_any}
use Rattle.graph_core.specs.Krate.{CrateRecord}
use Rattle.spdx_core.specs.Reading.{ExpressionView}
use Rattle.spdx_core.specs.declared.certificates.verdict.Hit.{Hit}
use Rattle.policy_core.specs.valid.Policy.{Policy}
use Rattle.check_record.specs.declared.items.RecordVerdict.{RecordVerdict}
use Rattle.check_record.specs.declared.items.RecordVerdict.TheVariants.{Skipped, Unlicensed, Accepted, Rejected}
use Rattle.check_verify.specs.declared.answer.VerdictFault.{VerdictFault}
use Rattle.check_verify.specs.declared.answer.VerdictFault.TheVariants.{Variant, NotAChoice, NotSatisfied, HasHit}
use Rattle.check_verify.specs.declared.answer.VerdictFault.TheVariants.{NotBlocking}
use Rattle.check_verify.specs.Terms.{are_allowed, hit_or_none_by, is_choice, meet_each}

-- a crate as it is now: the places of the exceptions that count for it, whether the policy passes it over, and its
-- expression
pub record SeenCrate : Type 0 where
  pub krate : CrateRecord
  pub exceptions : List ℕ
  pub private : Bool
  pub expression : Option ExpressionView

-- the first thing that is wrong with a choice and its hits
abbrev pub choice_fault : Policy → List ℕ → ExpressionView → List ℕ → List Hit → Option VerdictFault
choice_fault policy counted expression choice hits =
    if is_choice expression.tree choice
    then (if are_allowed policy counted expression.terms choice hits then None else Some NotSatisfied)
    else Some NotAChoice

-- the first thing that is wrong with places that are to stand in the way
abbrev pub blocks_fault : Policy → List ℕ → ExpressionView → List ℕ → Option VerdictFault
blocks_fault policy counted expression blocks =
    if list_any (hit_or_none_by policy counted expression.terms) blocks then Some HasHit
    else (if meet_each expression.tree blocks then None else Some NotBlocking)

-- a verdict on an expression
abbrev pub certificate_fault : Policy → List ℕ → ExpressionView → RecordVerdict → Option VerdictFault
certificate_fault policy counted expression Skipped = Some Variant
certificate_fault policy counted expression Unlicensed = Some Variant
certificate_fault policy counted expression (Accepted choice hits) = choice_fault policy counted expression choice hits
certificate_fault policy counted expression (Rejected blocks) = blocks_fault policy counted expression blocks

-- a verdict that says of which kind it is: skipped, or without an expression
abbrev pub skipped_fault : RecordVerdict → Option VerdictFault
skipped_fault Skipped = None
skipped_fault Unlicensed = Some Variant
skipped_fault (Accepted choice hits) = Some Variant
skipped_fault (Rejected blocks) = Some Variant

abbrev pub unlicensed_fault : RecordVerdict → Option VerdictFault
unlicensed_fault Skipped = Some Variant
unlicensed_fault Unlicensed = None
unlicensed_fault (Accepted choice hits) = Some Variant
unlicensed_fault (Rejected blocks) = Some Variant

-- of a crate that is not passed over
abbrev pub asked_fault : Policy → List ℕ → Option ExpressionView → RecordVerdict → Option VerdictFault
asked_fault policy counted None verdict = unlicensed_fault verdict
asked_fault policy counted (Some expression) verdict = certificate_fault policy counted expression verdict

-- by whether the policy passes the crate over
abbrev pub fault_by : Bool → Policy → List ℕ → Option ExpressionView → RecordVerdict → Option VerdictFault
fault_by private policy counted expression verdict =
    if private then skipped_fault verdict else asked_fault policy counted expression verdict

-- the first thing that is wrong with a crate's verdict
abbrev pub fault_of : Policy → SeenCrate → RecordVerdict → Option VerdictFault
fault_of policy seen verdict = fault_by seen.private policy seen.exceptions seen.expression verdict
