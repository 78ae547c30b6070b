use Rattle.std.proofs.Common.{◌≡◌, Some, sym, ◌∙◌}
use Rattle.toml_subset.specs.Strings.{letter_escape}
use Rattle.toml_subset.proofs.Escapes.{letter_border}
use Rattle.toml_subset.proofs.strings.escape_by.Goals as goal

pub returns-in-Some-clause-border : goal.returns-in-Some-clause-border
returns-in-Some-clause-border c =
    let means : letter_escape c.args.letter ≡ Some c.in-Some.character = sym c.letter_escape.ensures ∙ c.in-Some.is in
    letter_border c.args.text.now c.utf8.text c.args.place c.args.letter c.in-Some.character c.requires.there means
