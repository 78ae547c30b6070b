-- What is read of the sample's files, and that it asks for a check.
use Rattle.std.proofs.Common.{◌≡◌, ◌∙◌, refl, sym, ap, subst, ℕ, ◌+◌, ◌≤◌, ◌^◌, true, false, cond, List, [], ◌∷◌, ◌++◌, map, codes, Some, None, is_some, Result, Ok, Err, arith}
use Rattle.std.proofs.lemmas.List.Elements.{All-from_recursion}
use Rattle.std.proofs.lemmas.Str.{is_utf8-from_IsUtf8}
use Rattle.std.specs.List.{AllByRecursion, list_any}
use Rattle.std.specs.Option.{option_and_then}
use Rattle.std.specs.Path.{path_components, path_join, path_names, path_parent, rsplit_once, split_last_component, trim_trailing}
use Rattle.std.specs.Str.{is_utf8}
use Rattle.std.specs.Str.Lossy.{utf8_valid_len}
use Rattle.json.proofs.Printed.Utf8.{IsUtf8-are_ascii}
use Rattle.deny_text.specs.Path.{ancestors_of}
use Rattle.tree_core.specs.Call as call
use Rattle.tree_core.specs.Content.{Content, file, node_at}
use Rattle.tree_core.specs.Trace.{read_answer}
use Rattle.tree_core.specs.texts.Heard.{heard_of}
use Rattle.tree_core.specs.texts.Search.{candidates}
use Rattle.tree_core.specs.declared.texts.search.SoughtFile.TheVariants.{Exceptions}
use Rattle.tree_core.specs.declared.texts.fault.ReadFault.TheVariants.{NotUtf8}
use Rattle.spdx_terms.specs.catalog.Table.{table_lists, single_names, families, gnu_families}
use Rattle.spdx_terms.specs.declared.catalog.identifier.Match.{Match}
use Rattle.graph_metadata.specs.Records.{graph_of}
use Rattle.graph_core.specs.selection.Choice.{is_unsupported}
use Rattle.graph_core.specs.selection.Roots.{HasRoot}
use Rattle.graph_workspace.specs.Krates.{sparse_dir}
use Rattle.toml_subset.specs.Answer.{TomlReading}
use Rattle.toml_subset.specs.Data.{TomlContent, Entries, Toml, no_entry, table}
use Rattle.toml_subset.specs.Reading.{read_text}
use Rattle.policy_core.specs.config.Root.{root_in, root_of}
use Rattle.policy_core.specs.declared.config.root.RootConfig.{RootConfig}
use Rattle.policy_core.specs.Exceptions.{no_file}
use Rattle.policy_core.specs.Policy.{PolicyFound, absence_findings, empty_table, policy_found as policy_by}
use Rattle.policy_load.specs.Load.{with_policy}
use Rattle.policy_load.specs.declared.loading.PolicyPaths.{PolicyPaths}
use Rattle.policy_core.specs.text.Config.{config_of_text}
use Rattle.policy_core.specs.text.Text.{config_text_of}
use Rattle.policy_core.specs.declared.text.error.ConfigError.{ConfigError}
use Rattle.diag_core.specs.File.{File}
use Rattle.diag_print.specs.Findings.{is_error}
use Rattle.run_found.specs.Found.{config_in, count_looked, due_behind, due_by_text, exceptions_due, exceptions_in, load_heard, looked_behind, metadata_heard, path_by, paths_found, paths_looked, policy_due}
use Rattle.run_found.specs.Given.{RequestArguments}
use Rattle.run_found.specs.Hearing.{RequestHearing, TellsContent, IsReadWhereDue, look_calls, looks_by, nowhere, read_calls, unended}
use Rattle.run_found.specs.Policy.{GraphAt, PolicyAt}
use Rattle.run_found.specs.Steps.{◌>>=◌, unless_refused}
use Rattle.run_found.proofs.ByteLemmas.{found_by_bytes, graph_by_bytes}
use Rattle.run_found.proofs.FoundLemmas.{bind-Ok}
use Rattle.run_command.specs.Complete.{IsHeardOf}
use Rattle.run_command.specs.Found.{HearsAllDue, calls_of, choice_in, input_of, metadata_by, metadata_due, policy_asked}
use Rattle.run_command.specs.Given.{CommandArguments}
use Rattle.run_command.proofs.FoundLemmas.{asked-once, input-graph}
use Rattle.run_sample.specs.Files.{sample_content, sample_policy}
use Rattle.run_sample.specs.Metadata.{sample_metadata}
use Rattle.run_sample.specs.Request.{sample_request}
use Rattle.run_sample.proofs.AsciiLemmas.{sample_is_text}
use Rattle.run_sample.proofs.GraphLemmas.{graph_told, has_root}
use Rattle.run_sample.proofs.PathLemmas.{folder_of_manifest}
use Rattle.run_sample.proofs.RowLemmas.{sample_rows}
use Rattle.run_sample.proofs.StandLemmas.{IsForeign, metadata_there, nothing_there, policy_there}

-- ---- the policy

abbrev value_or : TomlReading Toml → Toml → Toml
value_or (Ok value) other = value
value_or (Err fault) other = other

abbrev entries_or : TomlContent → Entries → Entries
entries_or (table entries) other = entries
entries_or _ other = other

abbrev policy_value : Toml
policy_value = value_or (read_text sample_policy) empty_table

abbrev policy_root : RootConfig
policy_root = root_in table_lists (entries_or policy_value.content no_entry)

abbrev policy_path : List ℕ
policy_path = codes "/s/p.toml"

abbrev pub sample_found : PolicyFound
sample_found = policy_by table_lists (record { policy = 0; exceptions = 1 }) (absence_findings true (Some policy_path)) no_file policy_root

policy_reads : read_text sample_policy ≡ Ok policy_value
policy_reads = refl

policy_shape : root_of table_lists policy_value ≡ Ok policy_root
unfolding single_names families gnu_families
policy_shape = refl

policy_carried : list_any is_unsupported policy_root.graph.exclude ≡ false
policy_carried = refl

policy_valid : list_any is_error sample_found.findings ≡ false
unfolding single_names families gnu_families
policy_valid = refl

-- ---- what is read

heard_text : (bytes : List ℕ) → is_utf8 bytes ≡ true → heard_of (Some (file bytes)) ≡ Ok bytes
unfolding heard_of
heard_text bytes is = ap (λ b. cond b (Ok bytes) (Err (NotUtf8 (utf8_valid_len bytes)))) is

abbrev looked : List (List ℕ)
looked = candidates Exceptions (codes "/s/c0/Cargo.toml")

looks_none : (paths : List (List ℕ)) → looks_by paths (map (λ path. call.told false) paths) ≡ nowhere
looks_none [] = refl
looks_none (path ∷ paths) = looks_none paths

abbrev pub sample_hearing : ℕ → RequestHearing
sample_hearing n = record {
  begun = 0;
  sought = [];
  looks = map (λ path. call.told false) looked;
  policy = Some (call.bytes sample_policy);
  exceptions = None;
  metadata = Some (call.bytes (sample_metadata n));
  crates = [];
}

-- ---- the calls

all_append : {A : Type 0} (P : A → Type 0) (xs ys : List A) → AllByRecursion P xs → AllByRecursion P ys → AllByRecursion P (xs ++ ys)
all_append P [] ys first second = second
all_append P (x ∷ xs) ys first second = (first.0, all_append P xs ys first.1 second)

tells_looks : (content : Content) (paths : List (List ℕ)) → AllByRecursion (λ path. node_at content path ≡ None) paths
    → AllByRecursion (TellsContent content) (look_calls paths (map (λ path. call.told false) paths))
tells_looks content [] none = tt
tells_looks content (path ∷ paths) none = (sym (ap (λ node. call.told (is_some node)) none.0), tells_looks content paths none.1)

of_d : IsForeign 100
of_d = ((λ e. omega (arith, e), λ e. omega (arith, e), λ e. omega (arith, e), λ e. omega (arith, e)), λ e. omega (arith, e), λ e. omega (arith, e))

of_dot : IsForeign 46
of_dot = ((λ e. omega (arith, e), λ e. omega (arith, e), λ e. omega (arith, e), λ e. omega (arith, e)), λ e. omega (arith, e), λ e. omega (arith, e))

looked_absent : (n : ℕ) → n ≤ 2 ^ 32 → AllByRecursion (λ path. node_at (sample_content n) path ≡ None) looked
unfolding ancestors_of path_components path_names path_parent split_last_component trim_trailing rsplit_once path_join
looked_absent n small = (
  nothing_there n small (codes "/s/c0/deny.exceptions.toml") of_d,
  (
    nothing_there n small (codes "/s/c0/.deny.exceptions.toml") of_dot,
    (
      nothing_there n small (codes "/s/c0/.cargo/deny.exceptions.toml") of_d,
      (
        nothing_there n small (codes "/s/deny.exceptions.toml") of_d,
        (
          nothing_there n small (codes "/s/.deny.exceptions.toml") of_dot,
          (
            nothing_there n small (codes "/s/.cargo/deny.exceptions.toml") of_d,
            (
              nothing_there n small (codes "/deny.exceptions.toml") of_d,
              (
                nothing_there n small (codes "/.deny.exceptions.toml") of_dot,
                (nothing_there n small (codes "/.cargo/deny.exceptions.toml") of_d, tt),
              ),
            ),
          ),
        ),
      ),
    ),
  ),
)

due_none : (files : List File) (read : Result RootConfig ConfigError) → due_behind files None read ≡ None
due_none files (Ok root) = refl
due_none files (Err refused) = refl

apart : nowhere ≡ unended → ⊥
apart e = cc e

policy_is_text : is_utf8 sample_policy ≡ true
policy_is_text = is_utf8-from_IsUtf8 sample_policy (IsUtf8-are_ascii sample_policy refl)

module _ (match_of : List ℕ → Match) (n : ℕ) (small : n ≤ 2 ^ 32) (some : 1 ≤ n) where
  abbrev given : CommandArguments
  given = sample_request table_lists match_of

  abbrev request : RequestArguments
  request = given.request

  abbrev hearing : RequestHearing
  hearing = sample_hearing n

  abbrev paths : PolicyPaths
  paths = record { policy = Some policy_path; exceptions = None }

  config_is : config_in request hearing ≡ Ok (Some policy_path)
  unfolding path_join
  config_is = refl

  looked_is : paths_looked request hearing ≡ looked
  looked_is = ap (looked_behind (codes "/s/c0/Cargo.toml")) config_is

  came : looks_by (paths_looked request hearing) hearing.looks ≡ nowhere
  came = ap (λ own. looks_by own hearing.looks) looked_is ∙ looks_none looked

  exceptions_is : exceptions_in request hearing ≡ Ok None
  exceptions_is = ap (path_by 0 (count_looked request hearing)) came

  paths_are : paths_found request hearing ≡ Ok paths
  paths_are =
      bind-Ok (config_in request hearing) (λ config. exceptions_in request hearing >>= λ exceptions. Ok (record { policy = config; exceptions = exceptions })) (Some policy_path) (Ok paths) config_is
      (bind-Ok (exceptions_in request hearing) (λ exceptions. Ok (record { policy = Some policy_path; exceptions = exceptions })) None (Ok paths) exceptions_is refl)

  policy_heard : (load_heard request hearing).policy ≡ Ok sample_policy
  policy_heard = heard_text sample_policy policy_is_text

  text_heard : metadata_heard request hearing ≡ Ok (sample_metadata n)
  text_heard = heard_text (sample_metadata n) (sample_is_text n small)

  policy_at : PolicyAt request hearing sample_found
  policy_at = record {
    config = Some policy_path;
    config_found = config_is;
    exceptions = None;
    exceptions_found = exceptions_is;
    is = record {
      text = record { text = sample_policy; is_there = true };
      text_of = ap config_text_of policy_heard;
      toml = policy_value;
      reads = policy_reads;
      root = policy_root;
      shape = policy_shape;
      carried = policy_carried;
      read = no_file;
      exceptions = refl;
      is = refl;
      valid = policy_valid;
    };
  }

  asked : policy_asked given hearing ≡ Ok sample_found
  asked = asked-once given hearing sample_found (found_by_bytes request hearing sample_found policy_at) refl

  graph_at : GraphAt request hearing (graph_of (sample_rows n))
  graph_at = record {
    text = sample_metadata n;
    heard = text_heard;
    tells = graph_told n small some sparse_dir (λ i less. folder_of_manifest i (omega (arith, less)));
  }

  -- what it asks for
  pub sample_input : input_of given hearing ≡ Ok (record { policy = sample_found; graph = graph_of (sample_rows n) })
  sample_input = input-graph given hearing sample_found asked (Ok (graph_of (sample_rows n))) (graph_by_bytes request hearing (graph_of (sample_rows n)) graph_at)

  pub sample_root : HasRoot (graph_of (sample_rows n)) (choice_in given sample_found)
  sample_root = has_root n small some

  policy_due_is : policy_due request hearing ≡ Some policy_path
  policy_due_is = ap (λ own. option_and_then (λ (one : PolicyPaths). one.policy) (unless_refused own)) paths_are

  exceptions_due_is : exceptions_due request hearing ≡ None
  exceptions_due_is =
      ap (λ own. option_and_then (λ one. due_by_text table_lists one (config_text_of (load_heard request hearing).policy)) (unless_refused own)) paths_are
      ∙ ap (λ heard. due_by_text table_lists paths (config_text_of heard)) policy_heard
      ∙ due_none (with_policy [] paths (record { text = sample_policy; is_there = true })) (config_of_text table_lists sample_policy)

  metadata_due_is : metadata_due given hearing ≡ Some (codes "/s/m.json")
  metadata_due_is = ap (metadata_by given) asked

  all_due : HearsAllDue given hearing
  all_due = record {
    policy = record {
      looks = record { sought = apart; looks = λ e. apart (sym came ∙ e) };
      policy = subst (λ own. IsReadWhereDue own hearing.policy) (sym policy_due_is) refl;
      exceptions = subst (λ own. IsReadWhereDue own hearing.exceptions) (sym exceptions_due_is) refl;
    };
    metadata = subst (λ own. IsReadWhereDue own hearing.metadata) (sym metadata_due_is) refl;
  }

  abbrev content : Content
  content = sample_content n

  tells_policy : AllByRecursion (TellsContent content) (read_calls (policy_due request hearing) hearing.policy)
  tells_policy =
      subst (λ own. AllByRecursion (TellsContent content) (read_calls own hearing.policy)) (sym policy_due_is) (sym (ap read_answer (policy_there n small)), tt)

  tells_exceptions : AllByRecursion (TellsContent content) (read_calls (exceptions_due request hearing) hearing.exceptions)
  tells_exceptions = subst (λ own. AllByRecursion (TellsContent content) (read_calls own hearing.exceptions)) (sym exceptions_due_is) tt

  tells_metadata : AllByRecursion (TellsContent content) (read_calls (metadata_due given hearing) hearing.metadata)
  tells_metadata =
      subst (λ own. AllByRecursion (TellsContent content) (read_calls own hearing.metadata)) (sym metadata_due_is) (sym (ap read_answer (metadata_there n small)), tt)

  tells_sought : AllByRecursion (TellsContent content) (look_calls (paths_looked request hearing) hearing.looks)
  tells_sought = subst (λ own. AllByRecursion (TellsContent content) (look_calls own hearing.looks)) (sym looked_is) (tells_looks content looked (looked_absent n small))

  tells_calls : AllByRecursion (TellsContent content) (calls_of given hearing)
  tells_calls =
      let P = TellsContent content in
      all_append P _ _ (all_append P _ _ (all_append P _ _ (all_append P _ _ tells_sought tells_policy) tells_exceptions) tells_metadata) tt

  -- it is read of the sample's files
  pub sample_heard : IsHeardOf given content 0 hearing
  sample_heard = record { begun = refl; due = all_due; tells = All-from_recursion (TellsContent content) (calls_of given hearing) tells_calls }
