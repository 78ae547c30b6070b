-- Each end of `chosen_of`: what is known of the metadata, the crates, and a word that names none.
use Rattle.std.proofs.Common.{◌∙◌, inl, inr, sym, ap, subst, ℕ, List}
use Rattle.std.proofs.lemmas.Result.{err_from_is_err_and}
use Rattle.graph_core.specs.selection.Roots.{crates_of}
use Rattle.gather_core.specs.Gathered.{include_of}
use Rattle.run_why.specs.Named.{first_unknown}
use Rattle.run_why.specs.Steps.{IsGraphTold}
use Rattle.run_why.proofs.ChosenLemmas.{lost_told, no_such_crate, whole_of}
use Rattle.run_why.proofs.whying.chosen_of.Goals as goal

pub returns-in_err-known-clause-chooses : goal.returns-in_err-known-clause-chooses
returns-in_err-known-clause-chooses c given tree err files same carried has =
    let p = err_from_is_err_and c.from_residual.result c.from_residual.ensures.1 in
    rw (p.1, p.2) (inl (lost_told given.command tree err files c.args.found has))

pub returns-in_err-crates-clause-chooses : goal.returns-in_err-crates-clause-chooses
returns-in_err-crates-clause-chooses c given tree err files same carried has =
    let p = err_from_is_err_and c.from_residual-in_err-crates.result c.from_residual-in_err-crates.ensures.1 in
    rw (p.1, p.2) (inl (c.in_err-crates.ensures.found given.command tree err files has))

pub returns-in_err-crates-clause-told : goal.returns-in_err-crates-clause-told
returns-in_err-crates-clause-told c =
    let p = err_from_is_err_and c.from_residual-in_err-crates.result c.from_residual-in_err-crates.ensures.1 in
    rw (p.1, p.2) c.in_err-crates.ensures.told

pub returns-in-Some-clause-chooses : goal.returns-in-Some-clause-chooses
returns-in-Some-clause-chooses c given tree err files same carried has =
    inr (no_such_crate given carried tree err files c.args.found c.in_ok-crates.crates (c.in_ok-crates.ensures.found given.command tree err files has) c.in-Some.word
    (ap (λ (words : List (List ℕ)). first_unknown words (crates_of c.args.found.asked.metadata)) same ∙ sym c.in_ok-known.ensures.unknown ∙ c.in-Some.is))

pub returns-in-None-clause-chooses : goal.returns-in-None-clause-chooses
returns-in-None-clause-chooses c given tree err files same carried has =
    let found = c.args.found in
    record {
      found = found;
      chosen = c.in_ok-crates.ensures.found given.command tree err files has;
      same = c.in_ok-crates.ensures.policy;
      told = subst (λ (words : List (List ℕ)). IsGraphTold words found.asked (include_of found.policy) c.in_ok-known.known.told) (sym same) c.in_ok-known.ensures.told;
      own = has.own;
      known = ap (λ (words : List (List ℕ)). first_unknown words (crates_of found.asked.metadata)) same ∙ sym c.in_ok-known.ensures.unknown ∙ c.in-None.is;
    }

pub returns-in-None-clause-whole : goal.returns-in-None-clause-whole
returns-in-None-clause-whole c = whole_of c.args.words.now c.args.found.asked (include_of c.args.found.policy) c.in_ok-known.known.told c.in_ok-known.ensures.told
