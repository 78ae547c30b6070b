-- What `clap` reads of an option, by its rows.
use Rattle.std.proofs.Common.{◌≡◌, option_map}
use Rattle.clap.specs.Words.{first_value, matched_of, raw_values, first_of, all_of, rows_of, Text}
use Rattle.clap.specs.declared.parser.matches.Found.{Found}
use Rattle.clap.proofs.WalkLemmas.{first_value-rows, raw_values-rows}

pub first_word : (found : Found) (option : Text) → first_value found option ≡ first_of option (rows_of found)
first_word = first_value-rows

pub all_words : (found : Found) (option : Text) → option_map raw_values (matched_of found option) ≡ all_of option (rows_of found)
all_words = raw_values-rows
