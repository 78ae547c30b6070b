use Rattle.std.proofs.Common.{◌≡◌, ◌∙◌, ℕ, List, position, slice_get, Some, None, ap, sym}
use Rattle.std.specs.Option.{option_copied}
use Rattle.std.specs.Str.{bytes_eq}
use Rattle.spdx_terms.proofs.catalog.PlaceLemmas.{none_found, place_found}
use Rattle.spdx_terms.specs.catalog.StorePlaces.{all_named}
use Rattle.spdx_terms.proofs.catalog.StoreLemmas.{item_at, named_at, no_name_behind}
use Rattle.spdx_terms.proofs.catalog.store.LicenseStore.named.Goals as goal

pub returns-in_err-place : goal.returns-in_err-place
returns-in_err-place c =
    let texts = c.args.self.now in
    let test = λ (known : List ℕ). bytes_eq known c.args.name.now in
    let view : c.self.inside.texts ≡ texts = cc in
    let place : None ≡ position test (all_named texts) = c.in_err-place.ensures ∙ c.self.invariant.by_names c.args.name.now ∙ ap (λ known. position test (all_named known)) view in
    ap option_copied c.from_residual.ensures
    ∙ sym (named_at texts c.args.name.now ∙ no_name_behind texts _ (none_found test (all_named texts) place))

pub returns : goal.returns
returns c =
    let texts = c.args.self.now in
    let test = λ (known : List ℕ). bytes_eq known c.args.name.now in
    let view : c.self.inside.texts ≡ texts = cc in
    let at : ℕ = c.in_ok-place.field-0.now in
    let place : Some at ≡ position test (all_named texts) = c.in_ok-place.ensures ∙ c.self.invariant.by_names c.args.name.now ∙ ap (λ known. position test (all_named known)) view in
    let got : option_copied c.get-2.result ≡ slice_get texts at = item_at c.items.result.now at c.get-2.result c.get-2.ensures.lookup ∙ ap (λ items. slice_get items at) (cc) in
    got
    ∙ ap (λ n. slice_get texts n) (place_found test (all_named texts) at place).0
    ∙ sym (named_at texts c.args.name.now)
