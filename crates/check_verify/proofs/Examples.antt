-- Crates named `a`, policies, recorded verdicts, and why they are not right, worked out by hand from the rules.
use Rattle.std.proofs.Common.{◌≡◌, ℕ, Bool, true, false, List, [], ◌∷◌, map, Option, Some, None, codes, refl}
use Rattle.graph_core.specs.Krate.{CrateRecord}
use Rattle.spdx_terms.specs.declared.term.ExpressionReq.{ExpressionReq}
use Rattle.spdx_terms.specs.declared.term.LicenseItem.TheVariants.{Spdx}
use Rattle.spdx_terms.specs.declared.term.LicenseReq.{LicenseReq}
use Rattle.spdx_core.specs.Grammar.{ExpressionTree, leaf, both, either}
use Rattle.spdx_core.specs.Reading.{ExpressionView}
use Rattle.spdx_core.specs.declared.certificates.verdict.Hit.TheVariants.{Allowed, Exception}
use Rattle.spdx_core.specs.declared.certificates.verdict.Verdict.TheVariants as verdict
use Rattle.policy_core.specs.valid.Policy.{Policy}
use Rattle.policy_core.specs.valid.Rows.{crate_a, grant, isc, mit, policy, zlib}
use Rattle.check_record.specs.declared.items.RecordItem.{RecordItem}
use Rattle.check_record.specs.declared.items.RecordVerdict.{RecordVerdict}
use Rattle.check_record.specs.declared.items.RecordVerdict.TheVariants.{Skipped, Unlicensed, Accepted, Rejected}
use Rattle.check_verify.specs.declared.answer.NoReason.{NoReason}
use Rattle.check_verify.specs.declared.answer.NoReason.TheVariants.{Crates, Variant, NotAChoice, NotSatisfied, HasHit, NotBlocking}
use Rattle.check_verify.specs.Crates.{SeenCrate}
use Rattle.check_verify.specs.Reasons.{reason_of}
use Rattle.check_verify.specs.Recorded.{recorded_of}
use Rattle.check_verify.specs.Verified.{steps_for}

-- ---- crates

abbrev term : LicenseReq → ExpressionReq
term req = record { req = req; span = record { start = 0; end = 0 } }

abbrev of_terms : ExpressionTree → List LicenseReq → Option ExpressionView
of_terms tree terms = Some (record { text = []; terms = map term terms; tree = tree })

abbrev apache : LicenseReq
apache = record { item = Spdx (codes "Apache-2.0") 6 20 false false; exception = None }

abbrev gpl : LicenseReq
gpl = record { item = Spdx (codes "GPL-2.0-only") 5 20 false false; exception = None }

abbrev gpl3 : LicenseReq
gpl3 = record { item = Spdx (codes "GPL-3.0-only") 5 30 false false; exception = None }

abbrev only_mit : Option ExpressionView
only_mit = of_terms (leaf 0) (mit ∷ [])

abbrev mit_or_mit : Option ExpressionView
mit_or_mit = of_terms (either (leaf 0) (leaf 1)) (mit ∷ mit ∷ [])

abbrev mit_and_mit : Option ExpressionView
mit_and_mit = of_terms (both (leaf 0) (leaf 1)) (mit ∷ mit ∷ [])

abbrev mit_and_isc : Option ExpressionView
mit_and_isc = of_terms (both (leaf 0) (leaf 1)) (mit ∷ isc ∷ [])

abbrev isc_and_zlib : Option ExpressionView
isc_and_zlib = of_terms (both (leaf 0) (leaf 1)) (isc ∷ zlib ∷ [])

abbrev mit_and_either : Option ExpressionView
mit_and_either = of_terms (both (leaf 0) (either (leaf 1) (leaf 2))) (mit ∷ apache ∷ gpl ∷ [])

abbrev the_id : List ℕ
the_id = codes "a 1.0.0"

abbrev crate_b : CrateRecord
crate_b = record crate_a { name = codes "b"; id = codes "b 1.0.0" }

-- of a crate for which no exception counts
abbrev seen : CrateRecord → Bool → Option ExpressionView → SeenCrate
seen krate private expression = record { krate = krate; exceptions = []; private = private; expression = expression }

abbrev item : List ℕ → RecordVerdict → RecordItem
item id verdict = record { id = id; verdict = verdict }

-- why a recorded verdict on the crate alone is not right, by the exceptions that count for it
abbrev reason_by : List ℕ → Policy → Option ExpressionView → RecordVerdict → Option NoReason
reason_by counted policy expression verdict =
    reason_of policy (record { krate = crate_a; exceptions = counted; private = false; expression = expression } ∷ []) (item the_id verdict ∷ [])

-- where none counts
abbrev reason : Policy → Option ExpressionView → RecordVerdict → Option NoReason
reason policy expression verdict = reason_by [] policy expression verdict

abbrev mit_alone : Policy
mit_alone = policy (mit ∷ []) []

-- in the order of the list
abbrev isc_and_mit : Policy
isc_and_mit = policy (isc ∷ mit ∷ []) []

abbrev an_exception : Policy
an_exception = policy (mit ∷ []) (grant (codes "a") (mit ∷ []) ∷ [])

abbrev two_exceptions : Policy
two_exceptions = policy [] (grant (codes "a") (isc ∷ []) ∷ grant (codes "a") (mit ∷ []) ∷ [])

abbrev alike_exceptions : Policy
alike_exceptions = policy [] (grant (codes "a") (mit ∷ []) ∷ grant (codes "a") (mit ∷ []) ∷ [])

abbrev by_the_first : RecordVerdict
by_the_first = Accepted (0 ∷ []) (Allowed 0 ∷ [])

-- ---- crates that differ

the_same_crates : reason mit_alone only_mit by_the_first ≡ None
the_same_crates = refl

other_crates : (reason_of mit_alone (seen crate_a false only_mit ∷ seen crate_b false only_mit ∷ []) (item the_id by_the_first ∷ []) ≡ Some Crates)
    × (reason_of mit_alone (seen crate_a false only_mit ∷ []) [] ≡ Some Crates)
    × (reason_of mit_alone [] (item the_id by_the_first ∷ []) ≡ Some Crates)
    × (reason_of mit_alone (seen crate_a false only_mit ∷ []) (item (codes "a 2.0.0") by_the_first ∷ []) ≡ Some Crates)
    × (reason_of mit_alone [] [] ≡ None)
other_crates = (refl, refl, refl, refl, refl)

-- ---- another kind of verdict

of_private_crates : (reason_of mit_alone (seen crate_a true only_mit ∷ []) (item the_id by_the_first ∷ []) ≡ Some (Variant the_id))
    × (reason_of mit_alone (seen crate_a true None ∷ []) (item the_id Unlicensed ∷ []) ≡ Some (Variant the_id))
    × (reason_of mit_alone (seen crate_a true only_mit ∷ []) (item the_id Skipped ∷ []) ≡ None)
of_private_crates = (refl, refl, refl)

of_other_kinds : (reason mit_alone None by_the_first ≡ Some (Variant the_id)) × (reason mit_alone None Skipped ≡ Some (Variant the_id))
    × (reason mit_alone None (Rejected (0 ∷ [])) ≡ Some (Variant the_id)) × (reason mit_alone None Unlicensed ≡ None)
    × (reason mit_alone only_mit Skipped ≡ Some (Variant the_id)) × (reason mit_alone only_mit Unlicensed ≡ Some (Variant the_id))
of_other_kinds = (refl, refl, refl, refl, refl, refl)

-- ---- choices: any of them, and not both sides at once

choices : (reason mit_alone mit_or_mit by_the_first ≡ None) × (reason mit_alone mit_or_mit (Accepted (1 ∷ []) (Allowed 0 ∷ [])) ≡ None)
    × (reason mit_alone mit_or_mit (Accepted (0 ∷ 1 ∷ []) (Allowed 0 ∷ Allowed 0 ∷ [])) ≡ Some (NotAChoice the_id))
    × (reason mit_alone mit_and_mit by_the_first ≡ Some (NotAChoice the_id))
    × (reason mit_alone only_mit (Accepted (7 ∷ []) (Allowed 0 ∷ [])) ≡ Some (NotAChoice the_id))
choices = (refl, refl, refl, refl, refl)

-- ---- entries, by their places in the lists

entries : (reason (policy (isc ∷ []) []) only_mit by_the_first ≡ Some (NotSatisfied the_id))
    × (reason isc_and_mit mit_and_isc (Accepted (0 ∷ 1 ∷ []) (Allowed 0 ∷ Allowed 1 ∷ [])) ≡ Some (NotSatisfied the_id))
    × (reason isc_and_mit mit_and_isc (Accepted (0 ∷ 1 ∷ []) (Allowed 1 ∷ Allowed 0 ∷ [])) ≡ None)
    × (reason mit_alone only_mit (Accepted (0 ∷ []) (Allowed 1 ∷ [])) ≡ Some (NotSatisfied the_id))
entries = (refl, refl, refl, refl)

-- an entry of exception 0, 1 or 2
abbrev by_exception : ℕ → ℕ → RecordVerdict
by_exception exception entry = Accepted (0 ∷ []) (Exception exception entry ∷ [])

-- that of an exception that counts, or an allowed one, whichever is recorded
of_exceptions : (reason_by (0 ∷ []) an_exception only_mit by_the_first ≡ None)
    × (reason_by (0 ∷ []) an_exception only_mit (by_exception 0 0) ≡ None)
    × (reason_by (0 ∷ []) an_exception only_mit (by_exception 0 1) ≡ Some (NotSatisfied the_id))
    × (reason an_exception only_mit (by_exception 0 0) ≡ Some (NotSatisfied the_id))
    × (reason_by (0 ∷ []) two_exceptions only_mit (by_exception 1 0) ≡ Some (NotSatisfied the_id))
of_exceptions = (refl, refl, refl, refl, refl)

-- of several that count any may be recorded whose entry satisfies; a place behind the list is none
of_several_exceptions : (reason_by (0 ∷ 1 ∷ []) two_exceptions only_mit (by_exception 1 0) ≡ None)
    × (reason_by (0 ∷ 1 ∷ []) two_exceptions only_mit (by_exception 0 0) ≡ Some (NotSatisfied the_id))
    × (reason_by (0 ∷ 1 ∷ []) alike_exceptions only_mit (by_exception 0 0) ≡ None)
    × (reason_by (0 ∷ 1 ∷ []) alike_exceptions only_mit (by_exception 1 0) ≡ None)
    × (reason_by (0 ∷ 1 ∷ []) alike_exceptions only_mit (by_exception 2 0) ≡ Some (NotSatisfied the_id))
    × (reason_by (0 ∷ 1 ∷ 2 ∷ []) alike_exceptions only_mit (by_exception 2 0) ≡ Some (NotSatisfied the_id))
    × (reason_by (1 ∷ []) two_exceptions only_mit (Rejected (0 ∷ [])) ≡ Some (HasHit the_id))
    × (reason_by (0 ∷ []) two_exceptions only_mit (Rejected (0 ∷ [])) ≡ None)
of_several_exceptions = (refl, refl, refl, refl, refl, refl, refl, refl)

-- ---- places that stand in the way, also more than are needed

blocks : (reason mit_alone isc_and_zlib (Rejected (0 ∷ [])) ≡ None) × (reason mit_alone isc_and_zlib (Rejected (1 ∷ [])) ≡ None)
    × (reason mit_alone isc_and_zlib (Rejected (0 ∷ 1 ∷ [])) ≡ None) × (reason mit_alone mit_and_either (Rejected (1 ∷ 2 ∷ [])) ≡ None)
    × (reason mit_alone mit_and_either (Rejected (1 ∷ [])) ≡ Some (NotBlocking the_id))
    × (reason mit_alone mit_and_either (Rejected (0 ∷ 1 ∷ 2 ∷ [])) ≡ Some (HasHit the_id))
blocks = (refl, refl, refl, refl, refl, refl)

-- outside of the expression
of_no_term : (reason mit_alone only_mit (Rejected (7 ∷ [])) ≡ Some (HasHit the_id))
    × (reason mit_alone only_mit (Rejected (18446744073709551615 ∷ [])) ≡ Some (HasHit the_id))
of_no_term = (refl, refl)

-- the reason of the first crate that has one is reported
the_first_crate : reason_of mit_alone (seen crate_a false only_mit ∷ seen crate_b false only_mit ∷ [])
    (item the_id (Rejected (0 ∷ [])) ∷ item (codes "b 1.0.0") (Accepted (0 ∷ []) (Allowed 9 ∷ [])) ∷ []) ≡ Some (HasHit the_id)
the_first_crate = refl

the_second_crate : reason_of mit_alone (seen crate_a false only_mit ∷ seen crate_b false only_mit ∷ [])
    (item the_id by_the_first ∷ item (codes "b 1.0.0") (Accepted (0 ∷ []) (Allowed 9 ∷ [])) ∷ []) ≡ Some (NotSatisfied (codes "b 1.0.0"))
the_second_crate = refl

-- ---- what is recorded

recorded : map recorded_of (verdict.Skipped ∷ verdict.Unlicensed ∷ verdict.Accepted (0 ∷ []) (Allowed 0 ∷ []) ∷ verdict.Rejected (0 ∷ 1 ∷ []) (1 ∷ []) ∷ [])
    ≡ Skipped ∷ Unlicensed ∷ by_the_first ∷ Rejected (1 ∷ []) ∷ []
recorded = refl

-- ---- steps: one a recorded hit, and the entries of its family for each recorded place of a rejected crate

abbrev versions : Policy
versions = policy (gpl3 ∷ gpl3 ∷ mit ∷ []) (grant (codes "a") (gpl3 ∷ isc ∷ []) ∷ grant (codes "a") (gpl3 ∷ []) ∷ [])

-- where the first of two exceptions counts
abbrev steps : Policy → Option ExpressionView → RecordVerdict → ℕ
steps policy expression verdict = steps_for policy (0 ∷ []) expression verdict

-- where both do
by_both : steps_for versions (0 ∷ 1 ∷ []) mit_and_either (Rejected (1 ∷ 2 ∷ [])) ≡ 4
by_both = refl

how_many : (steps versions mit_and_either (Rejected (1 ∷ 2 ∷ [])) ≡ 3) × (steps versions mit_and_either (Rejected (2 ∷ 7 ∷ [])) ≡ 3)
    × (steps versions mit_and_either (Accepted (0 ∷ 2 ∷ []) (Allowed 2 ∷ Allowed 0 ∷ [])) ≡ 2)
    × (steps versions mit_and_either Skipped ≡ 0) × (steps versions None (Rejected (0 ∷ [])) ≡ 0)
how_many = (refl, refl, refl, refl, refl)
