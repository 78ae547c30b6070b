use Rattle.toml_subset.proofs.Escapes.{white_border}
use Rattle.toml_subset.proofs.strings.trimming_escape.Goals as goal

pub returns-then-is_some-clause-border : goal.returns-then-is_some-clause-border
returns-then-is_some-clause-border c =
    let same = c.as_bytes-bytes.ensures.value in
    let ends = rw same at c.after_white.ensures.end in
    rw ends (white_border c.args.text.now c.utf8.text _ c.requires)
