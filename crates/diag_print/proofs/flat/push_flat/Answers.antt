use Rattle.std.proofs.Common.{◌++◌, ◌∙◌, ap, string_bytes, sym}
use Rattle.diag_print.proofs.FlatLemmas.{flat-none, OnOk-appended}
use Rattle.diag_print.proofs.flat.push_flat.Goals as goal

pub returns : goal.returns
returns c =
    let plain = flat-none c.args.text.now (sym c.has_feed.ensures ∙ c.if-has_feed.false) in
    OnOk-appended c.push_str.result _ c.args.text.now _ _ c.push_str.ensures.bytes (ap (λ text. string_bytes c.args.out.now ++ text) (sym plain))
