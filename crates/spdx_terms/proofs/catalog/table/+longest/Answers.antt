use Rattle.std.proofs.Common.{◌≡◌, ℕ, ◌≤◌, List, ◌∷◌, length, map, Contains, arith, rules, true}
use Rattle.spdx_terms.specs.declared.catalog.table.Meaning.{Meaning}
use Rattle.spdx_terms.specs.catalog.Catalog.{BeginsText}
use Rattle.spdx_terms.proofs.catalog.ImpreciseLemmas.{kept_if, kept_longest, new_longest}
use Rattle.spdx_terms.proofs.catalog.table.+longest.Goals.{in_default-via-in-Some-behind+else-first-found, in_default-via-in_default}
use Rattle.spdx_terms.proofs.catalog.table.+longest.Goals as goal

pub returns-then-not-begins-clause-found : goal.returns-then-not-begins-clause-found
returns-then-not-begins-clause-found t c =
    let no : ¬ BeginsText c.in-Some.first.now.text.now c.args.text.now = λ begins. let yes : c.begins.result ≡ true = c.begins.ensures.1 begins in absurd (cc) in
    let is : c.args.meanings.now ≡ c.in-Some.first.now ∷ c.in-Some.rest.now = search rules in
    rw is (kept_if (c.in-Some.first.now.text.now, c.in-Some.first.now.name.now) _ c.args.text.now c.longest-behind.result c.longest-behind.ensures.found no)

pub returns-in-Some-behind-clause-found : goal.returns-in-Some-behind-clause-found
returns-in-Some-behind-clause-found t c =
    let is : c.args.meanings.now ≡ c.in-Some.first.now ∷ c.in-Some.rest.now = search rules in
    rw is (kept_longest (c.in-Some.first.now.text.now, c.in-Some.first.now.name.now) _ c.args.text.now _ _ c.in-Some-behind.ensures.found (λ begins. omega (arith, c.if-first-found.true)))

pub returns-in_default-clause-found : goal.returns-in_default-clause-found
returns-in_default-clause-found t c =
    let is : c.args.meanings.now ≡ c.in-Some.first.now ∷ c.in-Some.rest.now = search rules in
    let begins : BeginsText c.in-Some.first.now.text.now c.args.text.now = c.begins.ensures.0 c.if-not-begins.false in
    let rest : List (List ℕ × List ℕ) = map (λ (one : Meaning). (one.text.now, one.name.now)) c.in-Some.rest.now in
    let longer : (other : List ℕ × List ℕ) → Contains rest other → BeginsText other.0 c.args.text.now → length other.0 ≤ length c.in-Some.first.now.text.now =
    λ other listed begins_too. elim c.in_default.branch as (λ _. length other.0 ≤ length c.in-Some.first.now.text.now) [
      | in_default-via-in-Some-behind+else-first-found w ↦ let longest : length other.0 ≤ w.in-Some-behind.found.len = w.in-Some-behind.ensures.found.longest other listed begins_too in omega (arith, longest, w.if-first-found.false)
      | in_default-via-in_default w ↦ absurd (w.in_default.ensures.none other listed begins_too)
    ] in
    rw is (new_longest (c.in-Some.first.now.text.now, c.in-Some.first.now.name.now) rest c.args.text.now begins longer)
