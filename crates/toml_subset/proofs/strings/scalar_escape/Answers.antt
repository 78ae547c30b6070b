use Rattle.std.proofs.Common.{sym, ap, ◌∙◌}
use Rattle.std.specs.Prelude.{option_map, encode_utf8}
use Rattle.toml_subset.proofs.Escapes.{scalar_border}
use Rattle.toml_subset.proofs.strings.scalar_escape.Goals as goal

pub returns-in-Some-clause-border : goal.returns-in-Some-clause-border
returns-in-Some-clause-border c =
    let same = c.as_bytes.ensures.value in
    let found = rw same at c.scalar_at.ensures in
    scalar_border c.args.text.now c.utf8.text _ c.args.digits c.requires.some (encode_utf8 c.in-Some.character)
    (sym found ∙ ap (option_map encode_utf8) c.in-Some.is)
