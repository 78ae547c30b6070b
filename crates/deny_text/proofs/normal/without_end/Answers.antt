use Rattle.std.proofs.Common.{rules, None, sym, ap, refl, ◌∙◌, Some, lit<}
use Rattle.std.proofs.lemmas.Str.Pattern.{strip_suffix_char}
use Rattle.deny_text.specs.Normal.{line_feed, carriage_return, line_body}
use Rattle.deny_text.proofs.NormalLemmas.{line_body-end, line_body-same}
use Rattle.deny_text.proofs.normal.without_end.Goals as goal

pub ends-preserved-in-Some : goal.ends-preserved-in-Some
ends-preserved-in-Some c =
    let front = c.in-Some.front.now in
    let cut = strip_suffix_char carriage_return c.ends.body.now (Some c.in-Some.front) c.in-Some.ensures.cases (lit< tt) in
    (search rules, sym (line_body-end front carriage_return refl) ∙ ap line_body (sym cut) ∙ c.ends.invariant.1)

pub ends-preserved : goal.ends-preserved
ends-preserved c =
    let front = c.in-Some-strip_suffix.front.now in
    let cut = strip_suffix_char line_feed c.ends.body.now (Some c.in-Some-strip_suffix.front) c.in-Some-strip_suffix.ensures.cases (lit< tt) in
    (search rules, sym (line_body-end front line_feed refl) ∙ ap line_body (sym cut) ∙ c.ends.invariant.1)

pub returns-in_default-strip_suffix : goal.returns-in_default-strip_suffix
returns-in_default-strip_suffix c =
    let no_return = strip_suffix_char carriage_return c.ends.body.now None c.in_default.ensures.cases (lit< tt) in
    let no_feed = strip_suffix_char line_feed c.ends.body.now None c.in_default-strip_suffix.ensures.cases (lit< tt) in
    sym (line_body-same c.ends.body.now no_return no_feed) ∙ c.ends.invariant.1
