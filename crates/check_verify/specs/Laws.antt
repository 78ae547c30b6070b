-- What the tests of places mean, and what a record is against which there is no reason.
use Rattle.std.specs.Prelude.{◌≡◌, ◌↔◌, ℕ, IsTrue, List, None, IfSome, Contains}
use Rattle.std.specs.List.{AllZip}
use Rattle.spdx_core.specs.Expressions.{IsExpression}
use Rattle.spdx_core.specs.Grammar.{ExpressionTree}
use Rattle.spdx_core.specs.declared.certificates.verdict.Verdict.{Verdict}
use Rattle.spdx_core.specs.certificates.Choices.{MeetEach, choices_of}
use Rattle.policy_core.specs.valid.Policy.{IsPrivate, Policy}
use Rattle.check_core.specs.Verdicts.{IsVerdict}
use Rattle.check_record.specs.declared.items.RecordItem.{RecordItem}
use Rattle.check_verify.specs.Crates.{SeenCrate}
use Rattle.check_verify.specs.Reasons.{reason_of}
use Rattle.check_verify.specs.Recorded.{recorded_of}
use Rattle.check_verify.specs.Right.{IsRight}
use Rattle.check_verify.specs.Terms.{is_choice, meet_each}

-- ---- places

-- places are a choice exactly where they are one of the choices
abbrev pub ChoicesAreHeld : Type 0
ChoicesAreHeld =
    (tree : ExpressionTree) (places : List ℕ) → IsTrue (is_choice tree places) ↔ Contains (choices_of tree) places

-- places meet each choice exactly where every choice holds one of them
abbrev pub MeetingIsTold : Type 0
MeetingIsTold =
    (tree : ExpressionTree) (places : List ℕ) → IsTrue (meet_each tree places) ↔ MeetEach places (choices_of tree)

-- ---- records

-- there is no reason against a record exactly where it is right
abbrev pub NoReasonIsRight : Type 0
NoReasonIsRight = (policy : Policy) (crates : List SeenCrate) (items : List RecordItem)
    → (reason_of policy crates items ≡ None) ↔ IsRight policy crates items

-- What `record` writes of a crate: its id, and what is recorded of the verdict that the check gives by the exceptions
-- that count for it. The crate is flagged as the policy has it; its expression has, as each that is read, the places of
-- its terms.
pub record IsItemOf (policy : Policy) (seen : SeenCrate) (item : RecordItem) : Type 0 where
  pub flagged : IsTrue seen.private ↔ IsPrivate policy seen.krate
  pub expression : IfSome seen.expression (λ view. IsExpression view.text view.terms view.tree)
  pub id : item.id ≡ seen.krate.id
  pub verdict : Verdict
  pub is : IsVerdict policy seen.krate seen.exceptions seen.expression verdict
  pub recorded : item.verdict ≡ recorded_of verdict

-- against that there is none
abbrev pub RecordedIsRight : Type 0
RecordedIsRight = (policy : Policy) (crates : List SeenCrate) (items : List RecordItem)
    → AllZip (IsItemOf policy) crates items → reason_of policy crates items ≡ None
