use Rattle.std.proofs.Common.{◌∙◌, ap, map, sym, length, List, ℕ, arith}
use Rattle.std.proofs.lemmas.List.{drop_all}
use Rattle.std.specs.List.{filter}
use Rattle.policy_parts.specs.spec.Index.{first_of}
use Rattle.policy_core.specs.valid.View.{req_of}
use Rattle.check_core.proofs.evaluate.FamilyLemmas.{first_of_family, left_behind, satisfied_at}
use Rattle.check_core.proofs.evaluate.PlaceLemmas.{first_here}
use Rattle.check_core.proofs.evaluate.hits.first_entry.Goals as goal

pub places-preserved : goal.places-preserved
places-preserved g c =
    let licensees = map req_of c.args.licensees.now in
    let term = c.args.term.now in
    let so_far = c.places.invariant in
    let steps = so_far.steps in
    let bound = so_far.bound in
    let later = c.satisfies_at.ensures.steps in
    let once = c.satisfies_at.ensures.bound in
    record {
      first = so_far.first
          ∙ left_behind (satisfied_at licensees term) c.args.places.now c.places.place-index c.places-test.true
          (sym c.satisfies_at.ensures.answer ∙ c.if-satisfies_at.false);
      steps = omega arith;
      bound = omega arith;
    }

pub returns-then-satisfies_at-clause-entry : goal.returns-then-satisfies_at-clause-entry
returns-then-satisfies_at-clause-entry g c =
    let licensees = map req_of c.args.licensees.now in
    let term = c.args.term.now in
    let places = c.args.places.now in
    sym (first_here (satisfied_at licensees term) places c.places.place-index c.places-test.true (sym c.satisfies_at.ensures.answer ∙ c.if-satisfies_at.true))
    ∙ sym c.places.invariant.first
    ∙ first_of_family term licensees places c.requires

pub returns-then-satisfies_at-clause-bound : goal.returns-then-satisfies_at-clause-bound
returns-then-satisfies_at-clause-bound g c =
    let all = ap length c.requires in
    let inside = c.places-test.true in
    let bound = c.places.invariant.bound in
    let once = c.satisfies_at.ensures.bound in
    omega arith

pub returns-clause-entry : goal.returns-clause-entry
returns-clause-entry g c =
    let licensees = map req_of c.args.licensees.now in
    let term = c.args.term.now in
    let places = c.args.places.now in
    let passes = satisfied_at licensees term in
    sym (ap (λ (l : List ℕ). first_of (filter passes l)) (drop_all c.places.place-index places c.places-test.false))
    ∙ sym c.places.invariant.first
    ∙ first_of_family term licensees places c.requires

pub returns-clause-bound : goal.returns-clause-bound
returns-clause-bound g c =
    let all = ap length c.requires in
    let bound = c.places.invariant.bound in
    omega arith
