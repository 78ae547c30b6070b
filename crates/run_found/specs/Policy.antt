-- The policy's bytes: when its two files are a policy, in words of texts, values and shapes.
use Rattle.std.specs.Prelude.{◌≡◌, ℕ, false, List, [], ◌∷◌, Option, Some, None, Result, Ok}
use Rattle.std.specs.List.{list_any}
use Rattle.spdx_terms.specs.catalog.Catalog.{CatalogLists}
use Rattle.graph_core.specs.selection.Choice.{is_unsupported}
use Rattle.diag_core.specs.File.{File, file_id_at}
use Rattle.tree_core.specs.declared.texts.fault.ReadFault.{ReadFault}
use Rattle.policy_load.specs.Heard.{LoadHeard}
use Rattle.policy_load.specs.Load.{policy_file}
use Rattle.diag_print.specs.Findings.{is_error}
use Rattle.policy_load.specs.declared.loading.PolicyPaths.{PolicyPaths}
use Rattle.policy_core.specs.config.Root.{root_of}
use Rattle.policy_core.specs.declared.config.root.RootConfig.{RootConfig}
use Rattle.policy_core.specs.Exceptions.{ExceptionsRead, no_file, value}
use Rattle.policy_core.specs.Policy.{PolicyFound, absence_findings, policy_found}
use Rattle.policy_parts.specs.entries.Exceptions.{exceptions_file_of}
use Rattle.policy_core.specs.text.Text.{config_text_of}
use Rattle.policy_core.specs.declared.text.text.ConfigText.{ConfigText}
use Rattle.toml_subset.specs.shapes.Shaped.{faults_in}
use Rattle.toml_subset.specs.Data.{Toml}
use Rattle.toml_subset.specs.Reading.{read_text}
use Rattle.graph_core.specs.Metadata.{Graph}
use Rattle.graph_metadata.specs.Records.{metadata_of}
use Rattle.graph_workspace.specs.Krates.{sparse_dir}
use Rattle.run_found.specs.Given.{RequestArguments}
use Rattle.run_found.specs.Hearing.{RequestHearing}
use Rattle.run_found.specs.Found.{config_in, exceptions_in, load_heard, metadata_heard}

-- the policy's text: that of its file, or the empty one where no file is there
abbrev pub IsTextOf : Result (List ℕ) ReadFault → ConfigText → Type 0
IsTextOf heard text = config_text_of heard ≡ Ok text

-- An exceptions file that is there: its path is another one than the policy's, it is a text, the text has a value, and
-- nothing is wrong with the shape of the value.
pub record ExceptionsFileAt (lists : CatalogLists) (files : List File) (path : List ℕ)
    (heard : Result (List ℕ) ReadFault) (read : ExceptionsRead) : Type 0 where
  pub apart : file_id_at files path ≡ None
  pub text : List ℕ
  pub text_heard : heard ≡ Ok text
  pub toml : Toml
  pub reads : read_text text ≡ Ok toml
  pub shape : faults_in (exceptions_file_of lists toml) ≡ []
  pub is : read ≡ value toml

-- there is no exceptions file, or there is one
abbrev pub ExceptionsAt : CatalogLists → List File → Option (List ℕ) → Result (List ℕ) ReadFault → ExceptionsRead
    → Type 0
ExceptionsAt lists files None heard read = read ≡ no_file
ExceptionsAt lists files (Some path) heard read = ExceptionsFileAt lists files path heard read

-- What is read of the two files is a policy: the policy's text has a value, the value has the shape of a policy, which
-- leaves out no crate by a spec that is not carried; an exceptions file that is there is one; and nothing that is
-- reported of the two is an error.
pub record IsPolicyAt (lists : CatalogLists) (paths : PolicyPaths) (heard : LoadHeard)
    (found : PolicyFound) : Type 0 where
  pub text : ConfigText
  pub text_of : IsTextOf heard.policy text
  pub toml : Toml
  pub reads : read_text text.text ≡ Ok toml
  pub root : RootConfig
  pub shape : root_of lists toml ≡ Ok root
  pub carried : list_any is_unsupported root.graph.exclude ≡ false
  pub read : ExceptionsRead
  pub exceptions : ExceptionsAt lists (policy_file paths.policy text.text ∷ []) paths.exceptions heard.exceptions read
  pub is : found
      ≡ policy_found lists (record { policy = 0; exceptions = 1 }) (absence_findings text.is_there paths.policy)
      read root
  pub valid : list_any is_error found.findings ≡ false

-- ---- over a hearing

-- The policy's bytes: the looks say where its two files are, and what is read at the two paths is this policy.
pub record PolicyAt (given : RequestArguments) (hearing : RequestHearing) (policy : PolicyFound) : Type 0 where
  pub config : Option (List ℕ)
  pub config_found : config_in given hearing ≡ Ok config
  pub exceptions : Option (List ℕ)
  pub exceptions_found : exceptions_in given hearing ≡ Ok exceptions
  pub is : IsPolicyAt given.lists (record { policy = config; exceptions = exceptions })
      (load_heard given hearing) policy

-- the metadata's bytes: the file is a text, and as metadata it tells of this graph
pub record GraphAt (given : RequestArguments) (hearing : RequestHearing) (graph : Graph) : Type 0 where
  pub text : List ℕ
  pub heard : metadata_heard given hearing ≡ Ok text
  pub tells : metadata_of text sparse_dir ≡ Some (Ok graph)
