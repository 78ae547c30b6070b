use Rattle.std.proofs.Common.{◌≡◌, Ok, ◌∙◌, sym, ap, subst}
use Rattle.std.specs.Prelude.{string_bytes}
use Rattle.std.specs.Str.{IsUtf8, valid_up_to}
use Rattle.std.specs.Str.Lossy.{utf8_valid_len}
use Rattle.std.proofs.lemmas.Str.{IsUtf8-string_bytes}
use Rattle.tree_core.proofs.texts.HeardLemmas.{heard_text, heard_bad}
use Rattle.tree_core.proofs.texts.read.text_of.Goals as goal

pub returns-in-Ok : goal.returns-in-Ok
returns-in-Ok c =
    let same : string_bytes c.in-Ok.text ≡ c.args.bytes = ap (λ vec. vec.items) c.in-Ok.ensures.ok ∙ c.into_vec.ensures in
    ap (λ text. Ok text) (c.from.ensures ∙ same) ∙ sym (heard_text c.args.bytes (subst IsUtf8 same (IsUtf8-string_bytes c.in-Ok.text)))

pub returns-in-Err : goal.returns-in-Err
returns-in-Err c =
    sym (heard_bad c.args.bytes c.valid_up_to.result
    (λ utf8. let both = c.in-Err.ensures.succeeds (subst IsUtf8 (sym c.into_vec.ensures) utf8) in cc)
    (c.valid_up_to.ensures ∙ (ap valid_up_to c.utf8_error.ensures ∙ (c.in-Err.ensures.valid_len ∙ ap utf8_valid_len c.into_vec.ensures))))
