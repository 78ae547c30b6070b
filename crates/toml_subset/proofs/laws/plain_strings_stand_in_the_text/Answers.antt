use Rattle.toml_subset.proofs.PlainStrings.{plain_string}
use Rattle.toml_subset.proofs.laws.plain_strings_stand_in_the_text.Goals as goal

pub returns : goal.returns
returns c = plain_string
