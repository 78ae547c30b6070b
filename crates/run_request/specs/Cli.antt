-- The command line that is taken, as a value: each option with its spelling, its default and how often it may be used.
-- Each value is any text. What is required is a subcommand, the file of `verify`, the number of `sample`, and of `bill`
-- what it is called and when it is made.
use Rattle.std.specs.Prelude.{ℕ, true, false, List, [], ◌∷◌, Some, codes}
use Rattle.clap.specs.Words.{Text, Rule, Shape, App, new_rule, new_app}
use Rattle.clap.specs.declared.builder.action.ArgAction.TheVariants.{Set, Append, SetTrue}

-- an option with one value, used once at most
abbrev pub option_rule : Text → Rule
option_rule name = record (new_rule name) { long = Some name; action = Some Set; value_names = 1 }

-- the same, and it is required
abbrev pub required_rule : Text → Rule
required_rule name = record (option_rule name) { required = true }

-- an option with a value where it is not used
abbrev pub default_rule : Text → Text → Rule
default_rule name value = record (option_rule name) { defaults = value ∷ [] }

-- an option with one value a use
abbrev pub many_rule : Text → Rule
many_rule name = record (option_rule name) { action = Some Append }

-- an option without a value, used once at most
abbrev pub flag_rule : Text → Rule
flag_rule name = record (new_rule name) { long = Some name; action = Some SetTrue }

-- words without a name
abbrev pub words_rule : Text → Rule
words_rule name = record (new_rule name) { action = Some Append; value_names = 1 }

-- one word without a name, which is required
abbrev pub word_rule : Text → Rule
word_rule name = record (new_rule name) { action = Some Set; value_names = 1; required = true }

-- a rule under a letter too
abbrev pub with_letter : ℕ → Rule → Rule
with_letter letter rule = record rule { short = Some letter }

-- the options that are before the subcommand; the letters are L, f, c and t
abbrev pub main_rules : List Rule
main_rules =
    with_letter 76 (default_rule (codes "log-level") (codes "warn"))
    ∷ with_letter 102 (default_rule (codes "format") (codes "human"))
    ∷ with_letter 99 (default_rule (codes "color") (codes "auto"))
    ∷ option_rule (codes "manifest-path")
    ∷ option_rule (codes "metadata-path")
    ∷ option_rule (codes "config")
    ∷ option_rule (codes "catalog")
    ∷ option_rule (codes "store")
    ∷ with_letter 116 (option_rule (codes "target"))
    ∷ many_rule (codes "exclude")
    ∷ many_rule (codes "features")
    ∷ flag_rule (codes "workspace")
    ∷ flag_rule (codes "all-features")
    ∷ flag_rule (codes "no-default-features")
    ∷ flag_rule (codes "frozen")
    ∷ flag_rule (codes "offline")
    ∷ flag_rule (codes "locked")
    ∷ flag_rule (codes "exclude-dev")
    ∷ flag_rule (codes "exclude-unpublished")
    ∷ []

-- the options of `check`, and the checks that it is asked for; the letters are g, s, W, A and D
abbrev pub check_rules : List Rule
check_rules =
    with_letter 103 (option_rule (codes "graph"))
    ∷ flag_rule (codes "hide-inclusion-graph")
    ∷ flag_rule (codes "audit-compatible-output")
    ∷ with_letter 115 (flag_rule (codes "show-stats"))
    ∷ with_letter 87 (many_rule (codes "warn"))
    ∷ with_letter 65 (many_rule (codes "allow"))
    ∷ with_letter 68 (many_rule (codes "deny"))
    ∷ option_rule (codes "feature-depth")
    ∷ words_rule (codes "WHICH")
    ∷ []

-- the options of `list`; the letters are t, f and l
abbrev pub list_rules : List Rule
list_rules =
    with_letter 116 (default_rule (codes "threshold") (codes "0.8"))
    ∷ with_letter 102 (default_rule (codes "format") (codes "human"))
    ∷ with_letter 108 (default_rule (codes "layout") (codes "license"))
    ∷ []

-- the verdict file that `verify` reads
abbrev pub verify_rules : List Rule
verify_rules = word_rule (codes "FILE") ∷ []

-- what the document of `bill` is called, when it is made, and the bill that it is compared with
abbrev pub bill_rules : List Rule
bill_rules =
    required_rule (codes "name")
    ∷ required_rule (codes "namespace")
    ∷ required_rule (codes "created")
    ∷ option_rule (codes "against")
    ∷ []

-- the crates that `why` tells
abbrev pub why_rules : List Rule
why_rules = words_rule (codes "CRATE") ∷ []

-- how many crates `sample` is to have
abbrev pub sample_rules : List Rule
sample_rules = word_rule (codes "N") ∷ []

-- a subcommand with these options
abbrev pub subcommand_shape : Text → List Rule → Shape
subcommand_shape name rules = record (new_app name).top { rules = rules }

abbrev pub check_shape : Shape
check_shape = subcommand_shape (codes "check") check_rules

abbrev pub list_shape : Shape
list_shape = subcommand_shape (codes "list") list_rules

abbrev pub record_shape : Shape
record_shape = subcommand_shape (codes "record") []

abbrev pub verify_shape : Shape
verify_shape = subcommand_shape (codes "verify") verify_rules

abbrev pub bill_shape : Shape
bill_shape = subcommand_shape (codes "bill") bill_rules

abbrev pub notice_shape : Shape
notice_shape = subcommand_shape (codes "notice") []

abbrev pub why_shape : Shape
why_shape = subcommand_shape (codes "why") why_rules

abbrev pub sample_shape : Shape
sample_shape = subcommand_shape (codes "sample") sample_rules

-- the subcommands, in the order in which help lists them
abbrev pub subcommand_shapes : List Shape
subcommand_shapes =
    check_shape ∷ list_shape ∷ record_shape ∷ verify_shape ∷ bill_shape ∷ notice_shape ∷ why_shape ∷ sample_shape ∷ []

-- a command without subcommands
abbrev pub app_of_shape : Shape → App
app_of_shape shape = record { top = shape; subs = [] }

-- the command line but for its subcommands: it tells its version, and asks for a subcommand
abbrev pub top_shape : Shape
top_shape =
    record (new_app (codes "cargo-deny")).top { rules = main_rules; has_version = true; subcommand_required = true }

-- the whole command line
abbrev pub cli : App
cli = record {
  top = record (new_app (codes "cargo-deny")).top {
    rules = main_rules;
    is_leaf = false;
    has_version = true;
    subcommand_required = true;
  };
  subs = subcommand_shapes;
}
