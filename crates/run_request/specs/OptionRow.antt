-- The rules of the rows of the table of options, and the subcommands that have such rows.
use Rattle.std.specs.Prelude.{List, [], ◌∷◌, Option, None, Some, map}
use Rattle.std.specs.Borrow.{Bor}
use Rattle.clap.specs.Words.{Text, Rule, Shape, App, with_rule, with_subcommand}
use Rattle.run_request.specs.declared.options.OptionUse.{OptionUse}
use Rattle.run_request.specs.declared.options.OptionUse.TheVariants.{One, Once, Many, Flag, Words, Word}
use Rattle.run_request.specs.declared.options.OptionRow.{OptionRow}
use Rattle.run_request.specs.declared.options.SubcommandRow.{SubcommandRow}
use Rattle.run_request.specs.Cli.{option_rule, required_rule, many_rule, flag_rule, words_rule, word_rule}
use Rattle.run_request.specs.Cli.{subcommand_shape}

-- a use of that kind, under this name
abbrev pub rule_of_kind : OptionUse → Text → Rule
rule_of_kind One name = option_rule name
rule_of_kind Once name = required_rule name
rule_of_kind Many name = many_rule name
rule_of_kind Flag name = flag_rule name
rule_of_kind Words name = words_rule name
rule_of_kind Word name = word_rule name

-- the values of an option that is not used
abbrev pub defaults_of : Option (Bor Text) → List Text
defaults_of None = []
defaults_of (Some value) = value.now ∷ []

-- the rule of a row
abbrev pub rule_of_row : OptionRow → Rule
rule_of_row row = record (rule_of_kind row.kind row.name.now) { short = row.letter; defaults = defaults_of row.default }

-- a command with rules added in turn
abbrev pub app_with_rules : List Rule → App → App
app_with_rules [] app = app
app_with_rules (rule ∷ rules) app = app_with_rules rules (with_rule app rule)

-- the subcommand of a row
abbrev pub shape_of_row : SubcommandRow → Shape
shape_of_row row = subcommand_shape row.name.now (map rule_of_row row.rows.now)

-- a command with subcommands added in turn
abbrev pub with_all : List Shape → App → App
with_all [] app = app
with_all (shape ∷ shapes) app = with_all shapes (with_subcommand app shape)
