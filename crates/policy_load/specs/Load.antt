-- The load of a policy: what comes of what is read of its files.
use Rattle.std.specs.Prelude.{ℕ, Bool, true, List, [], ◌∷◌, ◌++◌, length, map, codes, Option, Some, None, Result, Ok}
use Rattle.std.specs.Prelude.{Err, if◌then◌else◌}
use Rattle.std.specs.List.{list_any}
use Rattle.spdx_terms.specs.catalog.Catalog.{CatalogLists}
use Rattle.diag_core.specs.File.{File}
use Rattle.diag_core.specs.declared.diagnostic.Diagnostic.{Diagnostic}
use Rattle.tree_core.specs.declared.texts.fault.ReadFault.{ReadFault}
use Rattle.policy_core.specs.declared.config.root.RootConfig.{RootConfig}
use Rattle.policy_core.specs.Exceptions.{shape_diagnostic}
use Rattle.policy_core.specs.Heard.{heard_file_of, exceptions_read_of}
use Rattle.policy_core.specs.Load.{numbers_at}
use Rattle.policy_core.specs.Policy.{PolicyFound, absence_findings, policy_found}
use Rattle.policy_core.specs.declared.exceptions.ExceptionsHeard.{ExceptionsHeard}
use Rattle.policy_core.specs.text.Config.{config_of_text}
use Rattle.policy_core.specs.text.Text.{config_text_of}
use Rattle.policy_core.specs.declared.text.error.ConfigError.{ConfigError}
use Rattle.policy_core.specs.declared.text.error.ConfigError.TheVariants as config
use Rattle.policy_core.specs.declared.text.text.ConfigText.{ConfigText}
use Rattle.policy_load.specs.Heard.{LoadHeard, exceptions_heard}
use Rattle.diag_print.specs.Findings.{is_error}
use Rattle.policy_load.specs.declared.error.LoadError.{LoadError}
use Rattle.policy_load.specs.declared.error.LoadError.TheVariants.{Memory, ConfigRead, ConfigSyntax, ConfigShape}
use Rattle.policy_load.specs.declared.error.LoadError.TheVariants.{NotCarried, ConfigInvalid}
use Rattle.policy_load.specs.declared.loading.PolicyPaths.{PolicyPaths}

-- what comes of a load: the files that are added, the findings that are printed, and the policy or why there is none
pub record LoadResult : Type 0 where
  pub files : List File
  pub findings : List Diagnostic
  pub answer : Result PolicyFound LoadError

-- ---- the refusals of the policy's text

abbrev pub error_of_config : ConfigError → LoadError
error_of_config config.Memory = Memory
error_of_config (config.ConfigRead fault) = ConfigRead fault
error_of_config (config.ConfigSyntax fault) = ConfigSyntax fault
error_of_config (config.ConfigShape faults) = ConfigShape faults
error_of_config config.NotCarried = NotCarried

-- what is printed of a refusal: all that is wrong with the shape
abbrev pub refusal_findings : ℕ → ConfigError → List Diagnostic
refusal_findings file (config.ConfigShape faults) = map (shape_diagnostic file) faults
refusal_findings file _ = []

-- ---- the policy

-- the name of the policy's file: its path, where it has one
abbrev pub policy_name : Option (List ℕ) → List ℕ
policy_name None = codes "deny.default.toml"
policy_name (Some path) = path

abbrev pub policy_file : Option (List ℕ) → List ℕ → File
policy_file path text = record { name = policy_name path; source = text; has_path = true }

-- a policy is refused where a finding is an error
abbrev pub unless_error : PolicyFound → Result PolicyFound LoadError
unless_error found = if list_any is_error found.findings then Err (ConfigInvalid found.findings) else Ok found

-- the policy whose file was added last, and what is reported of it
abbrev pub found_by : CatalogLists → List File → ℕ → PolicyPaths → Bool → ExceptionsHeard → RootConfig → PolicyFound
found_by lists files number paths is_there exceptions root =
    policy_found lists (numbers_at number files) (absence_findings is_there paths.policy)
    (exceptions_read_of exceptions) root

-- the policy's file and the exceptions file, where one was read as a text, are added
abbrev pub loaded_by : File → ExceptionsHeard → PolicyFound → LoadResult
loaded_by file exceptions found =
    record { files = file ∷ heard_file_of exceptions; findings = found.findings; answer = unless_error found }

-- by the policy as it is written, or its refusal, and what is read of the exceptions file
abbrev pub load_by_config : CatalogLists → List File → PolicyPaths → ExceptionsHeard → ConfigText
    → Result RootConfig ConfigError → LoadResult
load_by_config lists old paths exceptions text (Err error) = record {
  files = policy_file paths.policy text.text ∷ [];
  findings = refusal_findings (length old) error;
  answer = Err (error_of_config error);
}
load_by_config lists old paths exceptions text (Ok root) =
    let file = policy_file paths.policy text.text in
    loaded_by file exceptions (found_by lists (old ++ file ∷ []) (length old) paths text.is_there exceptions root)

-- the files that are known once the policy's is added
abbrev pub with_policy : List File → PolicyPaths → ConfigText → List File
with_policy old paths text = old ++ policy_file paths.policy text.text ∷ []

-- by the policy's text, or its refusal
abbrev pub load_by_text : CatalogLists → List File → PolicyPaths → Result (List ℕ) ReadFault
    → Result ConfigText ConfigError → LoadResult
load_by_text lists old paths exceptions (Err error) =
    record { files = []; findings = []; answer = Err (error_of_config error) }
load_by_text lists old paths exceptions (Ok text) =
    load_by_config lists old paths (exceptions_heard (with_policy old paths text) paths.exceptions exceptions) text
    (config_of_text lists text.text)

-- What comes of what is read, where these files are known: of the policy's text, its value, its shape, its specs of
-- crates to be left out, and then of all findings, the first refusal; else the policy.
abbrev pub load_of : CatalogLists → List File → PolicyPaths → LoadHeard → LoadResult
load_of lists old paths heard = load_by_text lists old paths heard.exceptions (config_text_of heard.policy)
