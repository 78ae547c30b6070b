use Rattle.std.proofs.Common.{rules, ◌∙◌, ap, ◌++◌, sym, Some, None, string_bytes, lit<}
use Rattle.std.proofs.lemmas.Str.Pattern.{split_parts}
use Rattle.diag_print.proofs.FlatLemmas.{flat-plain, flat_step, OnOk-appended}
use Rattle.diag_print.proofs.flat.push_feeds.Goals as goal

pub lines-preserved : goal.lines-preserved
lines-preserved c =
    let parts = split_parts 10 c.lines.rest.now (Some (c.in-Some.line, c.in-Some.after)) c.in-Some.ensures.cases (lit< tt) in
    let space = c.in_ok-push.ensures.bytes ∙ ap (λ text. string_bytes c.push_str.new.self ++ text) (c.in_ok-push.ensures.ascii (lit< tt)) in
    (search rules, flat_step _ _ _ c.in-Some.line.now c.in-Some.after.now c.lines.rest.now _ parts.0 parts.1 c.in_ok-push_str.ensures.bytes space c.lines.invariant.1)

pub returns : goal.returns
returns c =
    let plain = flat-plain c.lines.rest.now (split_parts 10 c.lines.rest.now None c.in_default.ensures.cases (lit< tt)) in
    OnOk-appended c.push_str-2.result _ c.lines.rest.now _ _ c.push_str-2.ensures.bytes (ap (λ text. string_bytes c.lines.out ++ text) (sym plain) ∙ c.lines.invariant.1)
