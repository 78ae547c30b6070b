-- What a record says that is right: the ids of the crates, for each crate the verdict that the policy gives, and beside
-- it what shows that.
use Rattle.std.specs.Prelude.{◌≡◌, ℕ, List, slice_get, Option, Some, None, IsSomeAnd, All, Contains, ⊤}
use Rattle.std.specs.List.{AllZip}
use Rattle.spdx_terms.specs.Satisfaction.{Satisfies}
use Rattle.spdx_terms.specs.declared.term.ExpressionReq.{ExpressionReq}
use Rattle.spdx_terms.specs.declared.term.LicenseReq.{LicenseReq}
use Rattle.spdx_core.specs.Reading.{ExpressionView}
use Rattle.spdx_core.specs.declared.certificates.verdict.Hit.{Hit}
use Rattle.spdx_core.specs.declared.certificates.verdict.Hit.TheVariants.{Allowed, Exception}
use Rattle.spdx_core.specs.certificates.Choices.{MeetEach, choices_of}
use Rattle.graph_core.specs.Krate.{CrateRecord}
use Rattle.policy_core.specs.valid.Policy.{Policy, granted_licensees, hit_of}
use Rattle.check_core.specs.Verdicts.{IsJudged, Judgement, skipped, unlicensed, accepted, rejected, verdict_of}
use Rattle.check_record.specs.Items.{ids_of}
use Rattle.check_record.specs.declared.items.RecordItem.{RecordItem}
use Rattle.check_record.specs.declared.items.RecordVerdict.{RecordVerdict}
use Rattle.check_record.specs.declared.items.RecordVerdict.TheVariants.{Skipped, Unlicensed, Accepted, Rejected}
use Rattle.check_verify.specs.Crates.{SeenCrate}
use Rattle.check_verify.specs.Reasons.{ids_seen}

-- ---- entries of a policy, and terms

-- a licensee is at this place of a list, and it satisfies a term
pub record SatisfiesAt (licensees : List LicenseReq) (entry : ℕ) (term : LicenseReq) : Type 0 where
  pub licensee : LicenseReq
  pub is_there : slice_get licensees entry ≡ Some licensee
  pub satisfies : Satisfies licensee term

-- the entry satisfies a term of a crate: it is an allowed one, or one of an exception that counts for the crate
abbrev pub AllowsTerm : Policy → List ℕ → LicenseReq → Hit → Type 0
AllowsTerm policy counted term (Allowed entry) = SatisfiesAt policy.allowed entry term
AllowsTerm policy counted term (Exception exception entry) =
    Contains counted exception × SatisfiesAt (granted_licensees policy.exceptions exception) entry term

-- at a place of an expression there is a term, and the recorded entry satisfies it
pub record HasEntry (policy : Policy) (counted : List ℕ) (terms : List ExpressionReq) (place : ℕ)
    (hit : Hit) : Type 0 where
  pub term : ExpressionReq
  pub is_there : slice_get terms place ≡ Some term
  pub allowed : AllowsTerm policy counted term.req hit

-- at a place of an expression there is a term, and no entry of the policy allows it
pub record HasNoEntry (policy : Policy) (counted : List ℕ) (terms : List ExpressionReq) (place : ℕ) : Type 0 where
  pub term : ExpressionReq
  pub is_there : slice_get terms place ≡ Some term
  pub no_hit : hit_of policy counted term.req ≡ None

-- ---- what shows a verdict

-- of an accepted crate: places that are one of the ways to satisfy its expression, each with an entry that satisfies
-- the term there
pub record ShowsAllowed (policy : Policy) (counted : List ℕ) (expression : ExpressionView) (choice : List ℕ)
    (hits : List Hit) : Type 0 where
  pub is_choice : Contains (choices_of expression.tree) choice
  pub entries : AllZip (HasEntry policy counted expression.terms) choice hits

-- of a rejected crate: places of terms that nothing allows, and each way to satisfy its expression holds one of them
pub record ShowsBlocked (policy : Policy) (counted : List ℕ) (expression : ExpressionView)
    (blocks : List ℕ) : Type 0 where
  pub no_entries : All (HasNoEntry policy counted expression.terms) blocks
  pub meet_each : MeetEach blocks (choices_of expression.tree)

-- a skipped crate, and one without an expression, have nothing that would show it
abbrev pub IsShown : Policy → List ℕ → Option ExpressionView → RecordVerdict → Type 0
IsShown policy counted expression Skipped = ⊤
IsShown policy counted expression Unlicensed = ⊤
IsShown policy counted expression (Accepted choice hits) =
    IsSomeAnd expression (λ view. ShowsAllowed policy counted view choice hits)
IsShown policy counted expression (Rejected blocks) =
    IsSomeAnd expression (λ view. ShowsBlocked policy counted view blocks)

-- ---- verdicts

-- a recorded verdict without what shows it
abbrev pub judgement_recorded : RecordVerdict → Judgement
judgement_recorded Skipped = skipped
judgement_recorded Unlicensed = unlicensed
judgement_recorded (Accepted choice hits) = accepted
judgement_recorded (Rejected blocks) = rejected

-- The recorded verdict is the one that the policy gives the crate: skipped exactly where it is flagged as private, else
-- unlicensed exactly where it has no expression, else accepted exactly where some choice has a hit at each place, else
-- rejected. And what is recorded beside it shows it.
pub record IsVerdictRight (policy : Policy) (seen : SeenCrate) (item : RecordItem) : Type 0 where
  pub verdict : judgement_recorded item.verdict ≡ verdict_of seen.private policy seen.exceptions seen.expression
  pub shown : IsShown policy seen.exceptions seen.expression item.verdict

-- A record is right about crates: its ids are theirs, in order, and so is each verdict.
pub record IsRight (policy : Policy) (crates : List SeenCrate) (items : List RecordItem) : Type 0 where
  pub ids : ids_of items ≡ ids_seen crates
  pub verdicts : AllZip (IsVerdictRight policy) crates items

-- ---- the same of a crate's record and its expression, by what the policy says of private crates

-- it is recorded under the crate's id; it is the verdict that the policy gives; and what is recorded beside it shows it
pub record IsRightOf (policy : Policy) (krate : CrateRecord) (counted : List ℕ) (expression : Option ExpressionView)
    (item : RecordItem) : Type 0 where
  pub id : item.id ≡ krate.id
  pub verdict : IsJudged policy krate counted expression (judgement_recorded item.verdict)
  pub shown : IsShown policy counted expression item.verdict
