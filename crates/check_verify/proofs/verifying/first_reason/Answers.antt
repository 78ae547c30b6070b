use Rattle.std.proofs.Common.{◌∙◌, ◌+◌, ◌≤◌, ◌<◌, sym, ap, length, false, arith}
use Rattle.std.proofs.lemmas.List.{drop_more}
use Rattle.policy_core.specs.valid.View.{policy_of}
use Rattle.check_verify.specs.Reasons.{reason_with}
use Rattle.check_verify.specs.Verified.{IsFlagged, steps_at}
use Rattle.check_verify.proofs.Walk.{as_many, at_index, at_item, first_here, none_here, none_left, none_of, past_items, steps_left}
use Rattle.check_verify.proofs.verifying.first_reason.Goals as goal

pub returns-in_default-clause-reason : goal.returns-in_default-clause-reason
returns-in_default-clause-reason g c =
    let policy = policy_of c.args.policy.now in
    let place = c.crates.place in
    let past = past_items c.args.items.now place c.get.result c.get.ensures.lookup c.in_default.not-Some in
    sym (none_left policy c.args.licenses.now c.args.flags.now c.args.items.now place past) ∙ c.crates.invariant.reason

pub bounds-flags-place : goal.bounds-flags-place
bounds-flags-place g c =
    let same = as_many (IsFlagged (policy_of c.args.policy.now)) c.args.licenses.now c.args.flags.now c.requires.flags in
    let below = c.crates-test.true in
    omega arith

pub returns-in-Some-fault-clause-reason : goal.returns-in-Some-fault-clause-reason
returns-in-Some-fault-clause-reason g c =
    let policy = policy_of c.args.policy.now in
    let licenses = c.args.licenses.now in
    let flags = c.args.flags.now in
    let place = c.crates.place in
    let license = c.index-licenses-place.result in
    let same = as_many (IsFlagged policy) licenses flags c.requires.flags in
    let inside = c.crates-test.true in
    let below : place < length flags = omega (arith, same, inside) in
    first_here policy licenses flags c.args.items.now place license _ c.in-Some.item.now (at_index licenses place license inside c.index-licenses-place.is) (drop_more flags place false below)
    (at_item c.args.items.now place c.in-Some.item c.in-Some.ensures.lookup) c.in-Some-fault.fault (sym c.in-Some-fault.is ∙ c.in_ok-fault.ensures.fault) c.with_id.result
    (c.with_id.ensures ∙ ap (λ id. reason_with id c.in-Some-fault.fault) (c.in_ok-id.ensures ∙ c.as_str.ensures))
    ∙ c.crates.invariant.reason

pub crates-preserved : goal.crates-preserved
crates-preserved g c =
    let policy = policy_of c.args.policy.now in
    let licenses = c.args.licenses.now in
    let flags = c.args.flags.now in
    let items = c.args.items.now in
    let place = c.crates.place in
    let license = c.index-licenses-place.result in
    let item = c.in-Some.item.now in
    let same = as_many (IsFlagged policy) licenses flags c.requires.flags in
    let inside = c.crates-test.true in
    let below : place < length flags = omega (arith, same, inside) in
    let of_license = at_index licenses place license inside c.index-licenses-place.is in
    let of_item = at_item items place c.in-Some.item c.in-Some.ensures.lookup in
    let fewer = steps_left policy licenses flags items place license item of_license of_item in
    let before = c.crates.invariant.steps in
    let taken : c.fault_of.new.steps ≤ c.crates.steps + steps_at policy license item = c.in_ok-fault.ensures.bound in
    let later = c.in_ok-fault.ensures.steps in
    let since = c.crates.invariant.later in
    record {
      reason = none_here policy licenses flags items place license _ item of_license (drop_more flags place false below) of_item (none_of c.in_ok-fault.fault c.in_default-fault.not-Some ∙ c.in_ok-fault.ensures.fault)
          ∙ c.crates.invariant.reason;
      later = omega (arith, since, later);
      steps = omega (arith, fewer, before, taken);
    }
