use Rattle.std.proofs.Common.{◌≡◌, true, sym, ap, ◌∙◌, arith}
use Rattle.toml_subset.specs.Bytes.{backslash}
use Rattle.toml_subset.specs.Places.{stands}
use Rattle.toml_subset.proofs.Escapes.{behind_byte, escape_goes_on}
use Rattle.toml_subset.proofs.strings.special_at.Goals as goal

pub escape_at-requires : goal.escape_at-requires
escape_at-requires c =
    let text = c.args.text.now in
    let here : stands text c.args.place backslash ≡ true =
    sym (ap (λ s. stands s c.args.place backslash) c.as_bytes-bytes.ensures.value) ∙ sym c.stands-then-has_escapes.ensures ∙ c.if-stands-2.true in
    (behind_byte text c.utf8.text c.args.place backslash (omega arith) here).1

pub returns-then-stands-2-clause-goes : goal.returns-then-stands-2-clause-goes
returns-then-stands-2-clause-goes c =
    let text = c.args.text.now in
    let here : stands text c.args.place backslash ≡ true =
    sym (ap (λ s. stands s c.args.place backslash) c.as_bytes-bytes.ensures.value) ∙ sym c.stands-then-has_escapes.ensures ∙ c.if-stands-2.true in
    escape_goes_on text c.args.place c.escape_at.result (behind_byte text c.utf8.text c.args.place backslash (omega arith) here).0 c.escape_at.ensures.border
