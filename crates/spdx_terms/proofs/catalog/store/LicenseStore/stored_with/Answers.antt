use Rattle.std.proofs.Common.{◌≡◌, ◌∙◌, ℕ, ◌<◌, List, length, position, slice_get, Some, None, ap, sym, arith}
use Rattle.std.specs.Option.{option_copied}
use Rattle.std.specs.Str.{bytes_eq}
use Rattle.spdx_terms.proofs.catalog.PlaceLemmas.{none_found, place_found}
use Rattle.spdx_terms.specs.catalog.StorePlaces.{all_spelled}
use Rattle.spdx_terms.proofs.catalog.StoreLemmas.{item_at, none_behind, none_stored, stored_at}
use Rattle.spdx_terms.proofs.catalog.store.LicenseStore.stored_with.Goals as goal

pub returns-then-is_empty : goal.returns-then-is_empty
returns-then-is_empty c = λ text is. let none : length c.args.words.now ≡ 0 = grind arith in sym (none_stored c.args.self.now text c.args.words.now is none)

pub returns-in_err-place : goal.returns-in_err-place
returns-in_err-place c = λ text is.
    let texts = c.args.self.now in
    let test = λ (known : List ℕ). bytes_eq known c.args.words.now in
    let some : 0 < length c.args.words.now = grind arith in
    let view : c.self.inside.texts ≡ texts = cc in
    let place : None ≡ position test (all_spelled texts) = c.in_err-place.ensures ∙ c.self.invariant.by_words c.args.words.now ∙ ap (λ known. position test (all_spelled known)) view in
    ap option_copied c.from_residual.ensures
    ∙ sym (stored_at texts text c.args.words.now is some ∙ none_behind texts _ (none_found test (all_spelled texts) place))

pub returns : goal.returns
returns c = λ text is.
    let texts = c.args.self.now in
    let test = λ (known : List ℕ). bytes_eq known c.args.words.now in
    let some : 0 < length c.args.words.now = grind arith in
    let view : c.self.inside.texts ≡ texts = cc in
    let at : ℕ = c.in_ok-place.field-0.now in
    let place : Some at ≡ position test (all_spelled texts) = c.in_ok-place.ensures ∙ c.self.invariant.by_words c.args.words.now ∙ ap (λ known. position test (all_spelled known)) view in
    let got : option_copied c.get-2.result ≡ slice_get texts at = item_at c.items.result.now at c.get-2.result c.get-2.ensures.lookup ∙ ap (λ items. slice_get items at) (cc) in
    got
    ∙ ap (λ n. slice_get texts n) (place_found test (all_spelled texts) at place).0
    ∙ sym (stored_at texts text c.args.words.now is some)
