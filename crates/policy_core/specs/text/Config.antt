-- The policy as it is written, from its text, and why there is none.
use Rattle.std.specs.Prelude.{◌≡◌, ℕ, List, Result, Ok, Err, if◌then◌else◌, ⊤}
use Rattle.std.specs.List.{list_any}
use Rattle.spdx_terms.specs.catalog.Catalog.{CatalogLists}
use Rattle.toml_subset.specs.Answer.{TomlReading}
use Rattle.toml_subset.specs.Data.{Toml}
use Rattle.toml_subset.specs.Reading.{read_text}
use Rattle.toml_subset.specs.declared.error.TomlError.{TomlError}
use Rattle.toml_subset.specs.declared.error.TomlError.TheVariants as toml
use Rattle.toml_subset.specs.shapes.Shaped.{ShapeReading, HasFaults}
use Rattle.toml_subset.specs.declared.shapes.shape.DeserError.{DeserError}
use Rattle.toml_subset.specs.declared.shapes.shape.DeserError.TheVariants as shape
use Rattle.policy_core.specs.config.Root.{root_of}
use Rattle.policy_core.specs.declared.config.root.RootConfig.{RootConfig}
use Rattle.graph_core.specs.selection.Choice.{is_unsupported}
use Rattle.policy_core.specs.declared.text.error.ConfigError.{ConfigError}
use Rattle.policy_core.specs.declared.text.error.ConfigError.TheVariants.{Memory, ConfigRead, ConfigSyntax}
use Rattle.policy_core.specs.declared.text.error.ConfigError.TheVariants.{ConfigShape, NotCarried}

-- ---- what is reported

-- the next step, where the one before was not refused
abbrev pub then_config : {X Y : Type 0} → (X → Result Y ConfigError) → Result X ConfigError
    → Result Y ConfigError
then_config next (Ok value) = next value
then_config next (Err error) = Err error

-- the value of a text, or where the text stands for none its first fault
abbrev pub or_syntax : TomlReading Toml → Result Toml ConfigError
or_syntax (Ok value) = Ok value
or_syntax (Err fault) = Err (ConfigSyntax fault)

abbrev pub value_of_text : List ℕ → Result Toml ConfigError
value_of_text text = or_syntax (read_text text)

-- what a value says, or all that is wrong with its shape
abbrev pub or_shape : ShapeReading RootConfig → Result RootConfig ConfigError
or_shape (Ok config) = Ok config
or_shape (Err faults) = Err (ConfigShape faults)

abbrev pub config_of_value : CatalogLists → Toml → Result RootConfig ConfigError
config_of_value lists value = or_shape (root_of lists value)

-- no spec of crates to be left out holds a sign that is not carried
abbrev pub if_carried : RootConfig → Result RootConfig ConfigError
if_carried config = if list_any is_unsupported config.graph.exclude then Err NotCarried else Ok config

-- The policy that a text is, as it is written, or the first refusal: of the text, of the shape of its value,
-- of the specs.
abbrev pub config_of_text : CatalogLists → List ℕ → Result RootConfig ConfigError
config_of_text lists text =
    then_config (λ value. then_config if_carried (config_of_value lists value)) (value_of_text text)

-- ---- what is answered

-- a call answers what is reported, or for want of memory
abbrev pub AnswersConfigBy : {X Y : Type 0} → (Y → X) → Result X ConfigError → Result Y ConfigError → Type 0
AnswersConfigBy view told (Ok value) = told ≡ Ok (view value)
AnswersConfigBy view told (Err Memory) = ⊤
AnswersConfigBy view told (Err error) = told ≡ Err error

abbrev pub AnswersConfig : {X : Type 0} → Result X ConfigError → Result X ConfigError → Type 0
AnswersConfig told result = AnswersConfigBy (λ value. value) told result

-- a refusal of the shape tells one fault at least
abbrev pub HasAFault : ConfigError → Type 0
HasAFault (ConfigShape faults) = HasFaults faults
HasAFault _ = ⊤

-- a refusal of the text, and not of its read
abbrev pub IsOfText : ConfigError → Type 0
IsOfText (ConfigRead fault) = ⊥
IsOfText _ = ⊤

abbrev pub error_of_toml : TomlError → ConfigError
error_of_toml (toml.Syntax fault) = ConfigSyntax fault
error_of_toml toml.Memory = Memory

abbrev pub error_of_shape : DeserError → ConfigError
error_of_shape (shape.Faults faults) = ConfigShape faults
error_of_shape shape.Memory = Memory
