-- A record has no reason against it exactly where it is right; what is recorded of the check's verdicts is.
use Rattle.std.proofs.Common.{◌≡◌, ◌∙◌, refl, sym, ap, ap₂, subst, ℕ, ◌<◌, Bool, true, false, true≢false, cond, List, [], ◌∷◌, length, Option, Some, None}
use Rattle.std.specs.Prelude.{IfSome, option_map}
use Rattle.std.specs.List.{AllZip, list_all, list_any}
use Rattle.std.specs.Option.{option_or}
use Rattle.std.specs.Cmp.Lexicographic.{pointwise}
use Rattle.std.specs.Str.{bytes_eq}
use Rattle.std.proofs.lemmas.Bool.{cond-true, cond-false}
use Rattle.std.proofs.lemmas.List.Elements.{All-from_recursion, All-weaker, recursion_from_All}
use Rattle.std.proofs.lemmas.Slice.Eq.{bytes_eq-Decides, slice_eq-Decides}
use Rattle.spdx_core.specs.Expressions.{IsExpression}
use Rattle.spdx_core.specs.Reading.{ExpressionView}
use Rattle.spdx_core.specs.declared.certificates.verdict.Hit.{Hit}
use Rattle.spdx_core.specs.declared.certificates.verdict.Verdict.{Verdict}
use Rattle.spdx_core.specs.declared.certificates.verdict.Verdict.TheVariants as verdict
use Rattle.spdx_core.specs.certificates.Certificates.{has_hit}
use Rattle.spdx_core.specs.certificates.Choices.{choices_of}
use Rattle.spdx_core.proofs.certificates.LawLemmas.{no_blocks}
use Rattle.graph_core.specs.Krate.{CrateRecord}
use Rattle.policy_core.specs.valid.Policy.{Policy}
use Rattle.gather_core.specs.Gathered.{krate_of}
use Rattle.gather_core.specs.findings.License.{expression_of}
use Rattle.gather_core.specs.declared.summary.KrateLicense.{KrateLicense}
use Rattle.check_core.specs.evaluate.Evaluation.{is_allowed, term_hits}
use Rattle.check_core.specs.Verdicts.{IsVerdictShown, skipped, unlicensed, accepted, rejected, is_skipped, judgement_in, verdict_of}
use Rattle.check_core.proofs.LawLemmas.{same_test}
use Rattle.check_record.specs.Items.{ids_of}
use Rattle.check_record.specs.declared.items.RecordItem.{RecordItem}
use Rattle.check_record.specs.declared.items.RecordVerdict.{RecordVerdict}
use Rattle.check_record.specs.declared.items.RecordVerdict.TheVariants.{Skipped, Unlicensed, Accepted, Rejected}
use Rattle.check_verify.specs.declared.answer.NoReason.{NoReason}
use Rattle.check_verify.specs.declared.answer.NoReason.TheVariants.{Crates}
use Rattle.check_verify.specs.declared.answer.VerdictFault.{VerdictFault}
use Rattle.check_verify.specs.declared.answer.VerdictFault.TheVariants.{Variant, NotAChoice, NotSatisfied, HasHit, NotBlocking}
use Rattle.check_verify.specs.declared.answer.VerifyAnswer.{VerifyAnswer}
use Rattle.check_verify.specs.declared.answer.VerifyAnswer.TheVariants.{Yes, No}
use Rattle.check_verify.specs.Crates.{SeenCrate, asked_fault, blocks_fault, choice_fault, fault_of, skipped_fault}
use Rattle.check_verify.specs.Laws.{IsItemOf, NoReasonIsRight, RecordedIsRight}
use Rattle.check_verify.specs.Reasons.{answer_by, first_reason, ids_seen, reason_of, reason_with}
use Rattle.check_verify.specs.Recorded.{recorded_of}
use Rattle.check_verify.specs.Right.{IsRight, IsRightOf, IsShown, IsVerdictRight, HasNoEntry, ShowsAllowed, ShowsBlocked, judgement_recorded}
use Rattle.check_verify.specs.Terms.{are_allowed, hit_or_none_by, is_choice, meet_each}
use Rattle.check_verify.specs.Verified.{IsSeen, IsVerified}
use Rattle.check_verify.proofs.Choices.{Has, any_from, choice_has, find_at, has_choice}
use Rattle.check_verify.proofs.EntryLemmas.{all_hit, entries_allowed, entries_kept, entries_of, nil_apart, no_entries_found, no_entries_of, no_hit_kept, none_kept, same_head, same_tail}
use Rattle.check_verify.proofs.LawLemmas.{choices_held, meeting_told}
use Rattle.check_verify.proofs.Rising.{blocks_within}

some_apart : {A : Type 0} (x : A) → Some x ≡ None → ⊥
some_apart x e = absurd cc

not_true : (b : Bool) → (b ≡ true → ⊥) → b ≡ false
not_true true other = absurd (other refl)
not_true false other = refl

-- ---- two tests, one behind the other

choice_passes : (one other : Bool) (first second : VerdictFault) → cond one (cond other None (Some first)) (Some second) ≡ None → (one ≡ true) × (other ≡ true)
choice_passes true true first second e = (refl, refl)
choice_passes true false first second e = absurd (some_apart first e)
choice_passes false other first second e = absurd (some_apart second e)

passes_choice : (one other : Bool) (first second : VerdictFault) → one ≡ true → other ≡ true → cond one (cond other None (Some first)) (Some second) ≡ None
passes_choice true true first second e f = refl
passes_choice true false first second e f = absurd (true≢false (sym f))
passes_choice false other first second e f = absurd (true≢false (sym e))

blocks_pass : (one other : Bool) (first second : VerdictFault) → cond one (Some first) (cond other None (Some second)) ≡ None → (one ≡ false) × (other ≡ true)
blocks_pass true other first second e = absurd (some_apart first e)
blocks_pass false true first second e = (refl, refl)
blocks_pass false false first second e = absurd (some_apart second e)

pass_blocks : (one other : Bool) (first second : VerdictFault) → one ≡ false → other ≡ true → cond one (Some first) (cond other None (Some second)) ≡ None
pass_blocks true other first second e f = absurd (true≢false e)
pass_blocks false true first second e f = refl
pass_blocks false false first second e f = absurd (true≢false (sym f))

-- ---- a verdict on an expression

-- neither kind is that of an expression
skipped_other : (b : Bool) → skipped ≡ cond b accepted rejected → ⊥
skipped_other true e = absurd (let bad : skipped ≡ accepted = e in cc)
skipped_other false e = absurd (let bad : skipped ≡ rejected = e in cc)

unlicensed_other : (b : Bool) → unlicensed ≡ cond b accepted rejected → ⊥
unlicensed_other true e = absurd (let bad : unlicensed ≡ accepted = e in cc)
unlicensed_other false e = absurd (let bad : unlicensed ≡ rejected = e in cc)

module _ (policy : Policy) (counted : List ℕ) (view : ExpressionView) where
  abbrev allowed : Bool
  allowed = is_allowed policy counted view.terms view.tree

  abbrev kept : ℕ → Bool
  kept = has_hit (term_hits policy counted view.terms)

  abbrev Without : ℕ → Type 0
  Without = HasNoEntry policy counted view.terms

  abbrev blocked : ℕ → Bool
  blocked = hit_or_none_by policy counted view.terms

  -- a choice of which each place has its entry is allowed
  choice_allows : (choice : List ℕ) (hits : List Hit) → ShowsAllowed policy counted view choice hits → allowed ≡ true
  choice_allows choice hits shown =
      any_from (list_all kept) (choices_of view.tree) choice (choice_has view.tree choice ((choices_held view.tree choice).1 shown.is_choice))
      (all_hit policy counted view.terms choice hits shown.entries)

  -- places without one that meet each choice leave none allowed
  blocks_reject : (blocks : List ℕ) → ShowsBlocked policy counted view blocks → allowed ≡ false
  blocks_reject blocks shown =
      not_true allowed (λ accepts.
      no_blocks kept view.tree blocks accepts (All-weaker Without (λ place. kept place ≡ false) (no_hit_kept policy counted view.terms) blocks shown.no_entries) shown.meet_each)

  accepted_right : (choice : List ℕ) (hits : List Hit) → choice_fault policy counted view choice hits ≡ None → (accepted ≡ cond allowed accepted rejected) × ShowsAllowed policy counted view choice hits
  accepted_right choice hits e =
      let tests = choice_passes (is_choice view.tree choice) (are_allowed policy counted view.terms choice hits) NotSatisfied NotAChoice e in
      let shown : ShowsAllowed policy counted view choice hits =
      record { is_choice = (choices_held view.tree choice).0 tests.0; entries = entries_of policy counted view.terms choice hits tests.1 } in
      (sym (cond-true allowed accepted rejected (choice_allows choice hits shown)), shown)

  right_accepted : (choice : List ℕ) (hits : List Hit) → ShowsAllowed policy counted view choice hits → choice_fault policy counted view choice hits ≡ None
  right_accepted choice hits shown =
      passes_choice (is_choice view.tree choice) (are_allowed policy counted view.terms choice hits) NotSatisfied NotAChoice
      ((choices_held view.tree choice).1 shown.is_choice) (entries_allowed policy counted view.terms choice hits shown.entries)

  rejected_right : (blocks : List ℕ) → blocks_fault policy counted view blocks ≡ None → (rejected ≡ cond allowed accepted rejected) × ShowsBlocked policy counted view blocks
  rejected_right blocks e =
      let tests = blocks_pass (list_any blocked blocks) (meet_each view.tree blocks) HasHit NotBlocking e in
      let shown : ShowsBlocked policy counted view blocks =
      record { no_entries = All-from_recursion Without blocks (no_entries_of policy counted view.terms blocks tests.0); meet_each = (meeting_told view.tree blocks).0 tests.1 } in
      (sym (cond-false allowed accepted rejected (blocks_reject blocks shown)), shown)

  right_rejected : (blocks : List ℕ) → ShowsBlocked policy counted view blocks → blocks_fault policy counted view blocks ≡ None
  right_rejected blocks shown =
      pass_blocks (list_any blocked blocks) (meet_each view.tree blocks) HasHit NotBlocking
      (no_entries_found policy counted view.terms blocks (recursion_from_All Without blocks shown.no_entries)) ((meeting_told view.tree blocks).1 shown.meet_each)

-- ---- a verdict

module _ (policy : Policy) (counted : List ℕ) where
  abbrev fault_by : Bool → Option ExpressionView → RecordVerdict → Option VerdictFault
  fault_by private expression recorded = cond private (skipped_fault recorded) (asked_fault policy counted expression recorded)

  right_by : (private : Bool) (expression : Option ExpressionView) (recorded : RecordVerdict) → fault_by private expression recorded ≡ None
      → (judgement_recorded recorded ≡ verdict_of private policy counted expression) × IsShown policy counted expression recorded
  right_by true expression Skipped e = (refl, tt)
  right_by true expression Unlicensed e = absurd (some_apart Variant e)
  right_by true expression (Accepted choice hits) e = absurd (some_apart Variant e)
  right_by true expression (Rejected blocks) e = absurd (some_apart Variant e)
  right_by false None Skipped e = absurd (some_apart Variant e)
  right_by false None Unlicensed e = (refl, tt)
  right_by false None (Accepted choice hits) e = absurd (some_apart Variant e)
  right_by false None (Rejected blocks) e = absurd (some_apart Variant e)
  right_by false (Some view) Skipped e = absurd (some_apart Variant e)
  right_by false (Some view) Unlicensed e = absurd (some_apart Variant e)
  right_by false (Some view) (Accepted choice hits) e = accepted_right policy counted view choice hits e
  right_by false (Some view) (Rejected blocks) e = rejected_right policy counted view blocks e

  none_by : (private : Bool) (expression : Option ExpressionView) (recorded : RecordVerdict) → judgement_recorded recorded ≡ verdict_of private policy counted expression
      → IsShown policy counted expression recorded → fault_by private expression recorded ≡ None
  none_by true expression Skipped is shown = refl
  none_by true expression Unlicensed is shown = absurd (let bad : unlicensed ≡ skipped = is in cc)
  none_by true expression (Accepted choice hits) is shown = absurd (let bad : accepted ≡ skipped = is in cc)
  none_by true expression (Rejected blocks) is shown = absurd (let bad : rejected ≡ skipped = is in cc)
  none_by false None Skipped is shown = absurd (let bad : skipped ≡ unlicensed = is in cc)
  none_by false None Unlicensed is shown = refl
  none_by false None (Accepted choice hits) is shown = absurd shown
  none_by false None (Rejected blocks) is shown = absurd shown
  none_by false (Some view) Skipped is shown = absurd (skipped_other (is_allowed policy counted view.terms view.tree) is)
  none_by false (Some view) Unlicensed is shown = absurd (unlicensed_other (is_allowed policy counted view.terms view.tree) is)
  none_by false (Some view) (Accepted choice hits) is shown = right_accepted policy counted view choice hits shown
  none_by false (Some view) (Rejected blocks) is shown = right_rejected policy counted view blocks shown

-- ---- a record

none_parts : (make : VerdictFault → NoReason) (one : Option VerdictFault) (other : Option NoReason) → option_or (option_map make one) other ≡ None → (one ≡ None) × (other ≡ None)
none_parts make None other e = (refl, e)
none_parts make (Some fault) other e = absurd (some_apart (make fault) e)

parts_none : (make : VerdictFault → NoReason) (one : Option VerdictFault) (other : Option NoReason) → one ≡ None → other ≡ None → option_or (option_map make one) other ≡ None
parts_none make None other e f = f
parts_none make (Some fault) other e f = absurd (some_apart fault e)

module _ (policy : Policy) where
  each_right : (crates : List SeenCrate) (items : List RecordItem) → ids_of items ≡ ids_seen crates → first_reason policy crates items ≡ None → AllZip (IsVerdictRight policy) crates items
  each_right [] [] same e = tt
  each_right [] (item ∷ items) same e = absurd (nil_apart item.id (ids_of items) same)
  each_right (seen ∷ crates) [] same e = absurd (nil_apart seen.krate.id (ids_seen crates) (sym same))
  each_right (seen ∷ crates) (item ∷ items) same e =
      let parts = none_parts (reason_with seen.krate.id) (fault_of policy seen item.verdict) (first_reason policy crates items) e in
      let right = right_by policy seen.exceptions seen.private seen.expression item.verdict parts.0 in
      (record { verdict = right.0; shown = right.1 }, each_right crates items (same_tail item.id seen.krate.id (ids_of items) (ids_seen crates) same) parts.1)

  right_each : (crates : List SeenCrate) (items : List RecordItem) → AllZip (IsVerdictRight policy) crates items → first_reason policy crates items ≡ None
  right_each [] [] each = refl
  right_each [] (item ∷ items) each = absurd each
  right_each (seen ∷ crates) [] each = absurd each
  right_each (seen ∷ crates) (item ∷ items) each =
      parts_none (reason_with seen.krate.id) (fault_of policy seen item.verdict) (first_reason policy crates items)
      (none_by policy seen.exceptions seen.private seen.expression item.verdict each.0.verdict each.0.shown) (right_each crates items each.1)

  module _ (crates : List SeenCrate) (items : List RecordItem) where
    abbrev same_ids : Bool
    same_ids = pointwise bytes_eq (ids_seen crates) (ids_of items)

    ids_by : (same_ids ≡ true → ids_seen crates ≡ ids_of items) × (ids_seen crates ≡ ids_of items → same_ids ≡ true)
    ids_by = slice_eq-Decides bytes_eq-Decides (ids_seen crates) (ids_of items) same_ids refl

    right_where : (same : Bool) → same_ids ≡ same → cond same (first_reason policy crates items) (Some Crates) ≡ None → IsRight policy crates items
    right_where true is e = let ids = sym (ids_by.0 is) in record { ids = ids; verdicts = each_right crates items ids e }
    right_where false is e = absurd (some_apart Crates e)

    pub right_of : reason_of policy crates items ≡ None → IsRight policy crates items
    right_of e = right_where same_ids refl e

    pub no_reason : IsRight policy crates items → reason_of policy crates items ≡ None
    no_reason right = ap (λ (b : Bool). cond b (first_reason policy crates items) (Some Crates)) (ids_by.1 (sym right.ids)) ∙ right_each crates items right.verdicts

pub no_reason_is_right : NoReasonIsRight
no_reason_is_right policy crates items = (right_of policy crates items, no_reason policy crates items)

-- ---- what is recorded of the check's verdicts

recorded_kind : (one : Verdict) → judgement_recorded (recorded_of one) ≡ judgement_in one
recorded_kind verdict.Skipped = refl
recorded_kind verdict.Unlicensed = refl
recorded_kind (verdict.Accepted choice hits) = refl
recorded_kind (verdict.Rejected least blocks) = refl

recorded_shown : (policy : Policy) (counted : List ℕ) (expression : Option ExpressionView) (one : Verdict) → IfSome expression (λ view. IsExpression view.text view.terms view.tree)
    → IsVerdictShown (is_skipped one) policy counted expression one → IsShown policy counted expression (recorded_of one)
recorded_shown policy counted expression verdict.Skipped facts shown = tt
recorded_shown policy counted expression verdict.Unlicensed facts shown = tt
recorded_shown policy counted None (verdict.Accepted choice hits) facts shown = absurd cc
recorded_shown policy counted (Some view) (verdict.Accepted choice hits) facts shown = record {
  is_choice = (choices_held view.tree choice).0 (has_choice view.tree choice (find_at (list_all (has_hit (term_hits policy counted view.terms))) (choices_of view.tree) choice shown.first).0);
  entries = entries_kept policy counted view.terms choice hits shown.place_by_place;
}
recorded_shown policy counted None (verdict.Rejected least blocks) facts shown = absurd cc
recorded_shown policy counted (Some view) (verdict.Rejected least blocks) facts shown =
    let kept = has_hit (term_hits policy counted view.terms) in
    let inside : (place : ℕ) → Has blocks place → place < length view.terms =
    λ place held. (blocks_within kept 0 (length view.terms) view.tree facts.places place (subst (λ (places : List ℕ). Has places place) shown.blocks_are held)).1 in
    record {
      no_entries =
          All-from_recursion (HasNoEntry policy counted view.terms) blocks
          (none_kept policy counted view.terms blocks inside (recursion_from_All (λ place. kept place ≡ false) blocks shown.without_hit));
      meet_each = shown.meet_each;
    }

module _ (policy : Policy) where
  recorded_right : (seen : SeenCrate) (item : RecordItem) → IsItemOf policy seen item → IsVerdictRight policy seen item
  recorded_right seen item of =
      let private : of.is.judged.private ≡ seen.private = same_test of.is.judged.private seen.private (λ p. p) (λ p. p) of.is.judged.tells of.flagged in
      record {
        verdict = ap judgement_recorded of.recorded ∙ recorded_kind of.verdict ∙ of.is.judged.is ∙ ap (λ (b : Bool). verdict_of b policy seen.exceptions seen.expression) private;
        shown = subst (IsShown policy seen.exceptions seen.expression) (sym of.recorded) (recorded_shown policy seen.exceptions seen.expression of.verdict of.expression of.is.shown);
      }

  all_recorded : (crates : List SeenCrate) (items : List RecordItem) → AllZip (IsItemOf policy) crates items → (ids_of items ≡ ids_seen crates) × AllZip (IsVerdictRight policy) crates items
  all_recorded [] [] each = (refl, tt)
  all_recorded [] (item ∷ items) each = absurd each
  all_recorded (seen ∷ crates) [] each = absurd each
  all_recorded (seen ∷ crates) (item ∷ items) each =
      let rest = all_recorded crates items each.1 in
      (ap₂ (λ (id : List ℕ) (ids : List (List ℕ)). id ∷ ids) each.0.id rest.0, (recorded_right seen item each.0, rest.1))

pub recorded_is_right : RecordedIsRight
recorded_is_right policy crates items each = let all = all_recorded policy crates items each in no_reason policy crates items (record { ids = all.0; verdicts = all.1 })

-- ---- a yes about licences

none_told : (reason : Option NoReason) → answer_by reason ≡ Yes → reason ≡ None
none_told None e = refl
none_told (Some reason) e = absurd (let bad : No reason ≡ Yes = e in cc)

module _ (policy : Policy) where
  abbrev pub IsRightAbout : KrateLicense → RecordItem → Type 0
  IsRightAbout license item = IsRightOf policy (krate_of license) license.exceptions (expression_of license.lic_info) item

  right_about : (license : KrateLicense) (seen : SeenCrate) (item : RecordItem) → IsSeen policy license seen → item.id ≡ seen.krate.id → IsVerdictRight policy seen item → IsRightAbout license item
  right_about license seen item of id right = record {
    id = id ∙ ap (λ (krate : CrateRecord). krate.id) of.krate;
    verdict = record {
      private = seen.private;
      tells = of.private;
      is = right.verdict ∙ ap₂ (λ (counted : List ℕ) (expression : Option ExpressionView). verdict_of seen.private policy counted expression) of.exceptions of.expression;
    };
    shown = subst (λ (expression : Option ExpressionView). IsShown policy license.exceptions expression item.verdict) of.expression
        (subst (λ (counted : List ℕ). IsShown policy counted seen.expression item.verdict) of.exceptions right.shown);
  }

  all_about : (licenses : List KrateLicense) (crates : List SeenCrate) (items : List RecordItem) → AllZip (IsSeen policy) licenses crates → ids_of items ≡ ids_seen crates
      → AllZip (IsVerdictRight policy) crates items → AllZip IsRightAbout licenses items
  all_about [] [] [] seen ids each = tt
  all_about [] [] (item ∷ items) seen ids each = absurd each
  all_about [] (one ∷ crates) items seen ids each = absurd seen
  all_about (license ∷ licenses) [] items seen ids each = absurd seen
  all_about (license ∷ licenses) (one ∷ crates) [] seen ids each = absurd each
  all_about (license ∷ licenses) (one ∷ crates) (item ∷ items) seen ids each = (
    right_about license one item seen.0 (same_head item.id one.krate.id (ids_of items) (ids_seen crates) ids) each.0,
    all_about licenses crates items seen.1 (same_tail item.id one.krate.id (ids_of items) (ids_seen crates) ids) each.1,
  )

  -- each recorded verdict is right about its crate
  pub yes_right : (licenses : List KrateLicense) (items : List RecordItem) (answer : VerifyAnswer) → IsVerified policy licenses items answer → answer ≡ Yes → AllZip IsRightAbout licenses items
  yes_right licenses items answer verified agree =
      let right = right_of policy verified.crates items (none_told (reason_of policy verified.crates items) (sym verified.is ∙ agree)) in
      all_about licenses verified.crates items verified.seen right.ids right.verdicts
