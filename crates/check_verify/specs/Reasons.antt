-- Why a record is not right about crates.
use Rattle.std.specs.Prelude.{ℕ, List, [], ◌∷◌, map, Option, Some, None, option_map, if◌then◌else◌}
use Rattle.std.specs.Option.{option_or}
use Rattle.std.specs.Cmp.Lexicographic.{pointwise}
use Rattle.std.specs.Str.{bytes_eq}
use Rattle.policy_core.specs.valid.Policy.{Policy}
use Rattle.check_record.specs.declared.items.RecordItem.{RecordItem}
use Rattle.check_record.specs.Items.{ids_of}
use Rattle.check_verify.specs.declared.answer.VerifyAnswer.{VerifyAnswer}
use Rattle.check_verify.specs.declared.answer.VerifyAnswer.TheVariants.{Yes, No}
use Rattle.check_verify.specs.declared.answer.VerdictFault.{VerdictFault}
use Rattle.check_verify.specs.declared.answer.VerdictFault.TheVariants as fault
use Rattle.check_verify.specs.declared.answer.NoReason.{NoReason}
use Rattle.check_verify.specs.declared.answer.NoReason.TheVariants.{Crates, Variant, NotAChoice, NotSatisfied, HasHit}
use Rattle.check_verify.specs.declared.answer.NoReason.TheVariants.{NotBlocking}
use Rattle.check_verify.specs.Crates.{SeenCrate, fault_of}

-- a fault with the id of its crate
abbrev pub reason_with : List ℕ → VerdictFault → NoReason
reason_with id fault.Variant = Variant id
reason_with id fault.NotAChoice = NotAChoice id
reason_with id fault.NotSatisfied = NotSatisfied id
reason_with id fault.HasHit = HasHit id
reason_with id fault.NotBlocking = NotBlocking id

abbrev pub ids_seen : List SeenCrate → List (List ℕ)
ids_seen crates = map (λ seen. seen.krate.id) crates

-- crate after crate, the first fault
abbrev pub first_reason : Policy → List SeenCrate → List RecordItem → Option NoReason
first_reason policy [] items = None
first_reason policy (seen ∷ crates) [] = None
first_reason policy (seen ∷ crates) (item ∷ items) =
    option_or (option_map (reason_with seen.krate.id) (fault_of policy seen item.verdict))
    (first_reason policy crates items)

-- that the ids differ, or else the first fault
abbrev pub reason_of : Policy → List SeenCrate → List RecordItem → Option NoReason
reason_of policy crates items =
    if pointwise bytes_eq (ids_seen crates) (ids_of items) then first_reason policy crates items else Some Crates

-- the answer is yes exactly where there is no reason
abbrev pub answer_by : Option NoReason → VerifyAnswer
answer_by None = Yes
answer_by (Some reason) = No reason
