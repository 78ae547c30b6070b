-- What holds of every validation of a policy whose places lie in the text of its file, and of what comes behind it.
use Rattle.std.specs.Prelude.{◌≡◌, ℕ, List, ◌++◌, Some}
use Rattle.spdx_terms.specs.catalog.Catalog.{CatalogLists, IsCatalog}
use Rattle.diag_core.specs.File.{File, source_of_file}
use Rattle.diag_core.specs.declared.diagnostic.Diagnostic.{Diagnostic}
use Rattle.policy_core.specs.place_laws.Policies.{ConfigKeeps}
use Rattle.policy_core.specs.declared.config.config.Config.{Config}
use Rattle.policy_core.specs.declared.config.root.RootConfig.{RootConfig}
use Rattle.policy_core.specs.declared.valid.policy.ValidConfig.{ValidConfig}
use Rattle.policy_core.specs.validate.Order.{PutsPolicyInOrder}
use Rattle.policy_core.specs.validate.Valid.{valid_part, validation_findings}
use Rattle.policy_core.specs.Findings.{target_findings, graph_key_findings, output_key_findings}
use Rattle.policy_core.specs.Heard.{IsFileText, IsTextHeard, LoadState, TakesExceptions}
use Rattle.policy_core.specs.Places.{IsConfigPlaced, PointInto, PolicyStands}
use Rattle.policy_core.specs.declared.exceptions.ExceptionsHeard.{ExceptionsHeard}

-- a configuration that was read from the text of the file of that number
pub record IsConfigIn (files : List File) (file : ℕ) (config : Config) : Type 0 where
  pub text : List ℕ
  pub source : source_of_file files file ≡ Some text
  pub is_text : IsFileText text
  pub keeps : ConfigKeeps text config

-- what is reported of it points into its file
abbrev pub ValidationsPoint : Type 0
ValidationsPoint =
    (lists : CatalogLists) → IsCatalog lists → (files : List File) (file : ℕ) (config : Config)
    → IsConfigIn files file config
    → PointInto files (validation_findings lists file config)

-- and what is valid of it, in order, keeps places of its file
abbrev pub ValidPoliciesStand : Type 0
ValidPoliciesStand =
    (lists : CatalogLists) (files : List File) (file : ℕ) (config : Config) (valid : ValidConfig)
    → IsConfigIn files file config
    → PutsPolicyInOrder (valid_part lists file config) valid → PolicyStands files valid

-- ---- what comes behind the validation, where what was reported and kept before keeps its places

-- what is reported of an exceptions file points into its file
abbrev pub ExceptionsPoint : Type 0
ExceptionsPoint =
    (lists : CatalogLists) → IsCatalog lists → (hearing : ExceptionsHeard) (old new : LoadState) → IsTextHeard hearing
    → TakesExceptions lists hearing old new → PointInto old.files old.found → PointInto new.files new.found

-- and what is kept of it keeps places of its file
abbrev pub ExceptionsStand : Type 0
ExceptionsStand =
    (lists : CatalogLists) → IsCatalog lists → (hearing : ExceptionsHeard) (old new : LoadState) → IsTextHeard hearing
    → TakesExceptions lists hearing old new → PolicyStands old.files old.policy → PolicyStands new.files new.policy

-- what is reported of settings points into the policy's file
abbrev pub SettingsPoint : Type 0
SettingsPoint =
    (files : List File) (file : ℕ) (root : RootConfig) (found : List Diagnostic) → IsConfigPlaced files file root
    → PointInto files found
    → PointInto files
    (found ++ target_findings file root ++ graph_key_findings file root ++ output_key_findings file root)
