use Rattle.std.proofs.Common.{◌≡◌, ◌∙◌, sym, ap, subst}
use Rattle.std.specs.Prelude.{string_bytes}
use Rattle.std.specs.Str.{IsUtf8}
use Rattle.std.proofs.lemmas.Str.{IsUtf8-string_bytes}
use Rattle.tree_core.specs.file_reads.Heard.{text}
use Rattle.tree_core.proofs.file_reads.TextLemmas.{heard_text, heard_no_text}
use Rattle.tree_core.proofs.file_reads.reading.text_of.Goals as goal

pub returns-in-Ok : goal.returns-in-Ok
returns-in-Ok c =
    let same : string_bytes c.in-Ok.text ≡ c.args.bytes = ap (λ vec. vec.items) c.in-Ok.ensures.ok ∙ c.into_vec.ensures in
    ap (λ bytes. text bytes) (c.from.ensures ∙ same) ∙ sym (heard_text c.args.bytes (subst IsUtf8 same (IsUtf8-string_bytes c.in-Ok.text)))

pub returns : goal.returns
returns c =
    sym (heard_no_text c.args.bytes (λ utf8. let both = c.in-Err.ensures.succeeds (subst IsUtf8 (sym c.into_vec.ensures) utf8) in cc))
