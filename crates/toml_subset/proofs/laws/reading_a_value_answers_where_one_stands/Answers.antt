use Rattle.std.proofs.Common.{arith}
use Rattle.toml_subset.specs.Reading.{call_bound}
use Rattle.toml_subset.proofs.Law.Inside.{value_in}
use Rattle.toml_subset.proofs.Law.Values.{value_sound, value_read}
use Rattle.toml_subset.proofs.laws.reading_a_value_answers_where_one_stands.Goals as goal

pub returns-clause-answers : goal.returns-clause-answers
returns-clause-answers c above text i span content next stands =
    let inside = value_in text i span stands.raw next stands.is in
    value_read (call_bound text) text above i span stands.raw next content stands.is stands.means stands.shallow inside (omega arith)

pub returns-clause-stands : goal.returns-clause-stands
returns-clause-stands c above text i span content next low read =
    let found = value_sound (call_bound text) text above i (span, content, next) low read in
    record { raw = found.0; is = found.1; means = found.2; shallow = found.3 }
