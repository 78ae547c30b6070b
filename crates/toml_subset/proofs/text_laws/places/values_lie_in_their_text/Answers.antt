use Rattle.toml_subset.proofs.text_laws.Texts.{text_placed}
use Rattle.toml_subset.proofs.text_laws.places.values_lie_in_their_text.Goals as goal

pub returns : goal.returns
returns c = λ text value utf8 is. text_placed text utf8 value is
