use Rattle.toml_subset.proofs.Law.Whole.{text_sound, text_complete}
use Rattle.toml_subset.proofs.laws.reading_answers_where_a_value_stands.Goals as goal

pub returns-clause-answers : goal.returns-clause-answers
returns-clause-answers c = text_complete

pub returns-clause-stands : goal.returns-clause-stands
returns-clause-stands c = text_sound
