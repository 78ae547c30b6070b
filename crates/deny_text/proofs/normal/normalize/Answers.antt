use Rattle.std.proofs.Common.{◌≡◌, ◌++◌, [], sym, ap, ◌∙◌, append-nil, eqb-true}
use Rattle.std.specs.String.{string_bytes}
use Rattle.std.proofs.lemmas.List.{nil_from_length}
use Rattle.deny_text.specs.Normal.{normal_of}
use Rattle.deny_text.proofs.normal.normalize.Goals as goal

pub returns : goal.returns
unfolding normal_of
returns c =
    let written = string_bytes c.lines.normal in
    let over : c.lines.rest.now ≡ [] = nil_from_length c.lines.rest.now (eqb-true _ 0 (sym c.is_empty.ensures ∙ c.lines-test.false)) in
    c.from.ensures ∙ sym (append-nil written) ∙ ap (λ rest. written ++ normal_of rest) (sym over) ∙ c.lines.invariant.1
