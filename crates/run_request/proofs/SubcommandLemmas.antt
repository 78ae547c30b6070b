-- A subcommand that is made row by row.
use Rattle.std.proofs.Common.{◌≡◌, ◌∙◌, ◌++◌, List, [], ◌∷◌, sym, ap, append-nil}
use Rattle.std.proofs.lemmas.List.{append_assoc}
use Rattle.clap.specs.Words.{Text, Rule, App, new_app, with_rule}
use Rattle.run_request.specs.Cli.{app_of_shape, subcommand_shape}
use Rattle.run_request.specs.OptionRow.{app_with_rules}

abbrev with_all_rules : App → List Rule → App
with_all_rules app rules = record app { top = record app.top { rules = rules } }

-- rules that are added in turn are behind those that are there
grown_adds : (rules : List Rule) (app : App) → app_with_rules rules app ≡ with_all_rules app (app.top.rules ++ rules)
grown_adds [] app = ap (with_all_rules app) (sym (append-nil app.top.rules))
grown_adds (rule ∷ rules) app = grown_adds rules (with_rule app rule) ∙ ap (with_all_rules app) (append_assoc app.top.rules (rule ∷ []) rules)

-- a new command with rules added in turn is the subcommand that has these rules
pub grown_new : (rules : List Rule) (name : Text) → app_with_rules rules (new_app name) ≡ app_of_shape (subcommand_shape name rules)
grown_new rules name = grown_adds rules (new_app name)
