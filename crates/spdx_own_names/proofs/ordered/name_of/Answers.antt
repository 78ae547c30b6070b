use Rattle.std.proofs.Common.{ℕ, List, rules, subst, sym}
use Rattle.std.specs.List.{Contains}
use Rattle.std.specs.Cmp.Lexicographic.{slice_cmp}
use Rattle.std.specs.Ordering.{nat_cmp}
use Rattle.std.specs.Str.{str_to_ascii_lowercase}
use Rattle.std.specs.declared.cmp.Ordering.{Ordering}
use Rattle.std.proofs.lemmas.Fn.{always_returns_same}
use Rattle.spdx_own_names.specs.IndexView.{meanings_listed}
use Rattle.spdx_own_names.specs.declared.meanings.Meaning.{Meaning}
use Rattle.spdx_own_names.proofs.OrderLemmas.{found_at, none_by}
use Rattle.spdx_own_names.proofs.ordered.name_of.Goals as goal

pub returns-in-Ok-clause-found : goal.returns-in-Ok-clause-found
returns-in-Ok-clause-found c =
    let key = str_to_ascii_lowercase c.args.start.now in
    let order : Meaning → Ordering = λ meaning. slice_cmp nat_cmp meaning.text key in
    let equal = c.in-Ok.ensures.position order (always_returns_same _ _ _ (λ a r f called. search rules)) in
    subst (λ (name : List ℕ). Contains (meanings_listed c.args.ordered.now) (key, name)) (sym c.as_str.ensures)
    (found_at c.args.ordered.now key c.in-Ok.place c.index-ordered-place.result c.in-Ok.ensures.bound equal)

pub returns-in-Err-clause-none : goal.returns-in-Err-clause-none
returns-in-Err-clause-none c =
    let key = str_to_ascii_lowercase c.args.start.now in
    let order : Meaning → Ordering = λ meaning. slice_cmp nat_cmp meaning.text key in
    let place = c.binary_search_by.ensures.position order (always_returns_same _ _ _ (λ a r f called. search rules)) in
    none_by c.args.ordered.now key c.binary_search_by.result c.in-Err.field-0 c.requires c.in-Err.is place
