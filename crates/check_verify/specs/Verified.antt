-- What verifying answers, and how many steps it takes.
use Rattle.std.specs.Prelude.{◌≡◌, ◌↔◌, ℕ, ◌+◌, Bool, IsTrue, List, [], ◌∷◌, length, map, sum_by, Option}
use Rattle.std.specs.List.{AllZip}
use Rattle.std.specs.Option.{option_map_or}
use Rattle.spdx_terms.specs.declared.term.ExpressionReq.{ExpressionReq}
use Rattle.spdx_core.specs.Reading.{ExpressionView}
use Rattle.gather_core.specs.findings.License.{expression_of}
use Rattle.gather_core.specs.declared.summary.KrateLicense.{KrateLicense}
use Rattle.gather_core.specs.Gathered.{krate_of}
use Rattle.policy_core.specs.valid.Policy.{IsPrivate, Policy}
use Rattle.check_record.specs.declared.items.RecordItem.{RecordItem}
use Rattle.check_record.specs.declared.items.RecordVerdict.{RecordVerdict}
use Rattle.check_record.specs.declared.items.RecordVerdict.TheVariants.{Skipped, Unlicensed, Accepted, Rejected}
use Rattle.check_verify.specs.declared.answer.VerifyAnswer.{VerifyAnswer}
use Rattle.check_verify.specs.declared.answer.NoReason.{NoReason}
use Rattle.check_verify.specs.Crates.{SeenCrate}
use Rattle.check_verify.specs.Reasons.{answer_by, first_reason, reason_of}
use Rattle.check_verify.specs.Terms.{entries_at}

-- a crate is seen as it was gathered, with the exceptions that count for it now, and flagged where the policy passes it
-- over
pub record IsSeen (policy : Policy) (license : KrateLicense) (seen : SeenCrate) : Type 0 where
  pub krate : seen.krate ≡ krate_of license
  pub exceptions : seen.exceptions ≡ license.exceptions
  pub private : IsTrue seen.private ↔ IsPrivate policy (krate_of license)
  pub expression : seen.expression ≡ expression_of license.lic_info

-- the answer is that over the crates as they are seen
pub record IsVerified (policy : Policy) (licenses : List KrateLicense) (items : List RecordItem)
    (answer : VerifyAnswer) : Type 0 where
  pub crates : List SeenCrate
  pub seen : AllZip (IsSeen policy) licenses crates
  pub is : answer ≡ answer_by (reason_of policy crates items)

-- ---- the same by lists of flags. Only the contracts of private calls cite these.

-- whether the policy passes a crate over
abbrev pub IsFlagged : Policy → KrateLicense → Bool → Type 0
IsFlagged policy license private = IsTrue private ↔ IsPrivate policy (krate_of license)

abbrev pub seen_as : KrateLicense → Bool → SeenCrate
seen_as license private = record {
  krate = krate_of license;
  exceptions = license.exceptions;
  private = private;
  expression = expression_of license.lic_info;
}

abbrev pub all_seen : List KrateLicense → List Bool → List SeenCrate
all_seen [] flags = []
all_seen (license ∷ licenses) [] = []
all_seen (license ∷ licenses) (private ∷ flags) = seen_as license private ∷ all_seen licenses flags

abbrev pub IsFirst : Policy → List KrateLicense → List Bool → List RecordItem → Option NoReason → Type 0
IsFirst policy licenses flags items reason = reason ≡ first_reason policy (all_seen licenses flags) items

abbrev pub ids_gathered : List KrateLicense → List (List ℕ)
ids_gathered licenses = map (λ license. (krate_of license).id) licenses

-- ---- steps

abbrev pub terms_in : Option ExpressionView → List ExpressionReq
terms_in expression = option_map_or (λ (view : ExpressionView). view.terms) expression []

-- One for each recorded hit, and for each recorded place of a rejected crate as many as there are entries for its term:
-- those of its licence family.
abbrev pub steps_for : Policy → List ℕ → Option ExpressionView → RecordVerdict → ℕ
steps_for policy counted expression Skipped = 0
steps_for policy counted expression Unlicensed = 0
steps_for policy counted expression (Accepted choice hits) = length hits
steps_for policy counted expression (Rejected blocks) =
    sum_by (entries_at policy counted (terms_in expression)) blocks

abbrev pub steps_at : Policy → KrateLicense → RecordItem → ℕ
steps_at policy license item = steps_for policy license.exceptions (expression_of license.lic_info) item.verdict

abbrev pub all_steps : Policy → List KrateLicense → List RecordItem → ℕ
all_steps policy [] items = 0
all_steps policy (license ∷ licenses) [] = 0
all_steps policy (license ∷ licenses) (item ∷ items) = steps_at policy license item + all_steps policy licenses items
