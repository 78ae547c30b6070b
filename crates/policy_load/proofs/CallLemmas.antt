-- The calls of a load, by what a tree answered.
use Rattle.std.proofs.Common.{◌≡◌, ◌∙◌, ◌⊎◌, inl, inr, refl, sym, ap, subst, ℕ, List, [], ◌∷◌, ◌++◌, append_assoc, length, Option, Some, Result, Ok, Err, IfOk}
use Rattle.std.specs.Prelude.{OnErr}
use Rattle.spdx_terms.specs.catalog.Catalog.{CatalogLists}
use Rattle.tree_core.specs.Call.{Call, no_memory}
use Rattle.tree_core.specs.Content.{Content}
use Rattle.tree_core.specs.Hearing.{MadeSome}
use Rattle.tree_core.specs.Trace.{faults_after}
use Rattle.tree_core.proofs.MadeLemmas.{made_these}
use Rattle.diag_core.specs.File.{File, Grows}
use Rattle.diag_core.specs.declared.diagnostic.Diagnostic.{Diagnostic}
use Rattle.tree_core.specs.texts.Heard.{IsTextRead, read_of as call_of}
use Rattle.tree_core.specs.declared.texts.fault.ReadFault.{ReadFault}
use Rattle.tree_core.specs.declared.texts.fault.ReadFault.TheVariants.{Absent}
use Rattle.diag_print.specs.declared.context.LogContext.{LogContext}
use Rattle.policy_core.specs.declared.config.root.RootConfig.{RootConfig}
use Rattle.policy_core.specs.text.Config.{AnswersConfig, config_of_text}
use Rattle.policy_core.specs.text.Text.{config_text_of}
use Rattle.policy_core.specs.declared.text.error.ConfigError.{ConfigError}
use Rattle.policy_core.specs.declared.text.error.ConfigError.TheVariants as config
use Rattle.policy_core.specs.declared.text.text.ConfigText.{ConfigText}
use Rattle.policy_core.specs.Policy.{absence_findings}
use Rattle.policy_core.specs.declared.exceptions.ExceptionsHeard.{ExceptionsHeard}
use Rattle.policy_core.specs.declared.exceptions.ExceptionsHeard.TheVariants.{NoPath}
use Rattle.policy_core.specs.declared.load.LoadedPolicy.{LoadedPolicy}
use Rattle.policy_load.specs.Answer.{Comes, EndsLoad, IsCutLoad, IsUnprinted, LoadsBy, LoadsPolicyBy, LoadsRootBy, LoadsTextBy, MayReadFurther, Prints, ReadsBehind, ReadsFurther, refused_by}
use Rattle.policy_load.specs.Heard.{IsPolicyRead, IsReadOf, MayReadOf, MayReadPolicy, exceptions_heard}
use Rattle.policy_load.specs.Load.{error_of_config, load_by_config, load_by_text, with_policy}
use Rattle.diag_print.specs.Findings.{printed_findings}
use Rattle.policy_load.specs.declared.error.LoadError.{LoadError}
use Rattle.policy_load.specs.declared.loading.PolicyPaths.{PolicyPaths}
use Rattle.policy_load.proofs.HeardLemmas.{read_so, text_of, unread_of}
use Rattle.policy_load.proofs.LoadLemmas.{refused_comes}
use Rattle.policy_load.proofs.StageLemmas.{refused_text_comes, root_comes, root_text_comes}

-- ---- the policy's file

pub policy_read : {E : Type 0} (begun after : ℕ) (calls more : List Call) (path : Option (List ℕ)) (own : List ℕ) (result : Result (Result (List ℕ) ReadFault) E) → path ≡ Some own
    → IfOk result (IsTextRead begun after calls more own) → IfOk result (IsPolicyRead begun after calls more path)
policy_read begun after calls more path own (Ok told) is read = subst (λ one. IsPolicyRead begun after calls more one told) (sym is) read
policy_read begun after calls more path own (Err error) is read = tt

pub policy_wanting : {E : Type 0} (calls more : List Call) (path : Option (List ℕ)) (own : List ℕ) (result : Result (Result (List ℕ) ReadFault) E) → path ≡ Some own
    → OnErr result (more ≡ calls ++ call_of own no_memory ∷ []) → OnErr result (MayReadPolicy calls more path)
policy_wanting calls more path own (Ok told) is made = tt
policy_wanting calls more path own (Err error) is made = subst (λ one. MayReadPolicy calls more one) (sym is) (inr (no_memory, made))

-- ---- files that are known

-- a file was added, and then others
pub grows_behind : (files middle new : List File) (file : File) → middle ≡ files ++ file ∷ [] → Grows middle new → Grows files new
grows_behind files middle new file added grows = (
  file ∷ grows.0,
  grows.1 ∙ ap (λ front. front ++ grows.0) added ∙ append_assoc files (file ∷ []) grows.0,
)

-- ---- a policy that has its shape

pub reads_root : (lists : CatalogLists) (context : LogContext) (file : ℕ) (absence : List Diagnostic) (root : RootConfig) (path : Option (List ℕ))
    (mid after : ℕ) (calls more : List Call) (old new : List File) (found : List Diagnostic) (before behind : Option (List ℕ)) (policy : LoadedPolicy) (result : Result LoadedPolicy LoadError)
    → LoadsPolicyBy lists mid after calls more file absence root path (record { files = old; found = [] }) (record { files = new; found = found }) policy
    → EndsLoad policy found result → Prints before behind (printed_findings context new found) result
    → LoadsRootBy lists context file absence root path mid after calls more old new before behind result
reads_root lists context file absence root path mid after calls more old new found before behind policy result loads ends prints = record {
  exceptions = loads.hearing;
  reads = loads.reads;
  comes = root_comes lists context file absence root loads.hearing old new found before behind policy result loads.keeps ends prints;
}

-- ---- the policy's text

-- no further call was made
pub unread_further : (calls : List Call) (files : List File) (path : Option (List ℕ)) (config : Result RootConfig ConfigError) → MayReadFurther calls calls files path config
unread_further calls files path (Ok root) = unread_of calls files path
unread_further calls files path (Err refused) = refl

module _ (lists : CatalogLists) (context : LogContext) (paths : PolicyPaths) (text : ConfigText) (mid after : ℕ) (calls : List Call)
    (old new : List File) (before behind : Option (List ℕ)) where
  root_reads : (more : List Call) (root : RootConfig) (result : Result LoadedPolicy LoadError) → config_of_text lists text.text ≡ Ok root
      → LoadsRootBy lists context (length old) (absence_findings text.is_there paths.policy) root paths.exceptions mid after calls more (with_policy old paths text) new before behind result
      → LoadsTextBy lists context paths text mid after calls more old new before behind result
  root_reads more root result told loads = record {
    exceptions = loads.exceptions;
    reads = subst (ReadsFurther mid after calls more (with_policy old paths text) paths.exceptions loads.exceptions) (sym told) loads.reads;
    comes = root_text_comes lists context paths text old new before behind root loads.exceptions result told loads.comes;
  }

  -- a policy that has its shape
  pub reads_by_root : (more : List Call) (root : RootConfig) (result : Result LoadedPolicy LoadError) → config_of_text lists text.text ≡ Ok root
      → (IsUnprinted before behind result × MayReadOf calls more (with_policy old paths text) paths.exceptions)
      ⊎ LoadsRootBy lists context (length old) (absence_findings text.is_there paths.policy) root paths.exceptions mid after calls more (with_policy old paths text) new before behind result
      → (IsUnprinted before behind result × MayReadFurther calls more (with_policy old paths text) paths.exceptions (config_of_text lists text.text))
      ⊎ LoadsTextBy lists context paths text mid after calls more old new before behind result
  reads_by_root more root result told (inl (unprinted, may)) =
      inl (unprinted, subst (MayReadFurther calls more (with_policy old paths text) paths.exceptions) (sym told) may)
  reads_by_root more root result told (inr loads) = inr (root_reads more root result told loads)

  refusal_reads : (refused : ConfigError) (error : LoadError) → config_of_text lists text.text ≡ Err refused
      → Comes (refused_by (length old) refused) context (with_policy old paths text) new before behind (Err error)
      → LoadsTextBy lists context paths text mid after calls calls old new before behind (Err error)
  refusal_reads refused error told comes = record {
    exceptions = NoPath;
    reads = subst (ReadsFurther mid after calls calls (with_policy old paths text) paths.exceptions NoPath) (sym told) refl;
    comes = refused_text_comes lists context paths text old new before behind refused NoPath (Err error) told comes;
  }

  -- the refusal of a policy's text
  pub reads_by_refusal : (refused : ConfigError) (error : LoadError) → AnswersConfig (config_of_text lists text.text) (Err refused)
      → Comes (refused_by (length old) refused) context (with_policy old paths text) new before behind (Err error)
      → (refused ≡ config.Memory → IsUnprinted before behind (Err error))
      → (IsUnprinted before behind (Err error) × MayReadFurther calls calls (with_policy old paths text) paths.exceptions (config_of_text lists text.text))
      ⊎ LoadsTextBy lists context paths text mid after calls calls old new before behind (Err error)
  reads_by_refusal config.Memory error told comes quiet =
      inl (quiet refl, unread_further calls (with_policy old paths text) paths.exceptions (config_of_text lists text.text))
  reads_by_refusal (config.ConfigRead fault) error told comes quiet = inr (refusal_reads (config.ConfigRead fault) error told comes)
  reads_by_refusal (config.ConfigSyntax fault) error told comes quiet = inr (refusal_reads (config.ConfigSyntax fault) error told comes)
  reads_by_refusal (config.ConfigShape faults) error told comes quiet = inr (refusal_reads (config.ConfigShape faults) error told comes)
  reads_by_refusal config.NotCarried error told comes quiet = inr (refusal_reads config.NotCarried error told comes)

-- ---- the load

-- behind calls the count of faults is the one behind those that are at the end
pub counts_of : {told tells : Option Content} {before after : ℕ} {old new : List Call} → MadeSome told tells before after old new
    → (read : List Call) → new ≡ old ++ read → after ≡ faults_after before read
counts_of {told} {tells} {before} {after} {old} {new} some read is = (made_these some is).counts

-- the policy's file was refused
pub reads_refused : (lists : CatalogLists) (context : LogContext) (paths : PolicyPaths) (begun first after : ℕ) (calls more : List Call) (old : List File) (held : Option (List ℕ))
    (told : Result (List ℕ) ReadFault) (refused : ConfigError) (error : LoadError)
    → IsPolicyRead begun after calls more paths.policy told → ((read : List Call) → more ≡ calls ++ read → after ≡ faults_after first read)
    → config_text_of told ≡ Err refused → error ≡ error_of_config refused
    → LoadsBy lists context paths begun first after calls more old old held held (Err error)
reads_refused lists context paths begun first after calls more old held told refused error policy counts is same = record {
  heard = record { policy = told; exceptions = Err Absent };
  mid = after;
  between = more;
  policy = policy;
  counts = counts;
  reads = subst (ReadsBehind lists old paths after after more more (Err Absent)) (sym is) refl;
  comes =
      subst (λ one. Comes (load_by_text lists old paths (Err Absent) one) context old old held held (Err error)) (sym is)
      (subst (λ one. Comes (record { files = []; findings = []; answer = Err (error_of_config refused) }) context old old held held (Err one)) (sym same)
      (refused_comes context old held refused));
}

module _ (lists : CatalogLists) (context : LogContext) (paths : PolicyPaths) (text : ConfigText) (mid after : ℕ) (between more : List Call) (old : List File) where
  abbrev known : List File
  known = with_policy old paths text

  -- by the text of the exceptions file the same is read of it
  further_so : (exceptions : ExceptionsHeard) (answer : Result RootConfig ConfigError) → ReadsFurther mid after between more known paths.exceptions exceptions answer
      → ReadsFurther mid after between more known paths.exceptions (exceptions_heard known paths.exceptions (text_of exceptions)) answer
  further_so exceptions (Ok root) reads =
      subst (IsReadOf mid after between more known paths.exceptions) (sym (read_so known paths.exceptions mid after between more exceptions reads)) reads
  further_so exceptions (Err refused) reads = reads

  load_so : (exceptions : ExceptionsHeard) (answer : Result RootConfig ConfigError) → ReadsFurther mid after between more known paths.exceptions exceptions answer
      → load_by_config lists old paths (exceptions_heard known paths.exceptions (text_of exceptions)) text answer ≡ load_by_config lists old paths exceptions text answer
  load_so exceptions (Ok root) reads =
      ap (λ one. load_by_config lists old paths one text (Ok root)) (read_so known paths.exceptions mid after between more exceptions reads)
  load_so exceptions (Err refused) reads = refl

  module _ (begun first : ℕ) (calls : List Call) (told : Result (List ℕ) ReadFault) (new : List File) (held behind : Option (List ℕ)) (result : Result LoadedPolicy LoadError)
      (is : config_text_of told ≡ Ok text) (policy : IsPolicyRead begun mid calls between paths.policy told)
      (counts : (read : List Call) → between ≡ calls ++ read → mid ≡ faults_after first read) where
    text_reads : LoadsTextBy lists context paths text mid after between more old new held behind result
        → LoadsBy lists context paths begun first after calls more old new held behind result
    text_reads loads = record {
      heard = record { policy = told; exceptions = text_of loads.exceptions };
      mid = mid;
      between = between;
      policy = policy;
      counts = counts;
      reads =
          subst (ReadsBehind lists old paths mid after between more (text_of loads.exceptions)) (sym is)
          (further_so loads.exceptions (config_of_text lists text.text) loads.reads);
      comes =
          subst (λ it. Comes it context old new held behind result)
          (sym (ap (load_by_text lists old paths (text_of loads.exceptions)) is ∙ load_so loads.exceptions (config_of_text lists text.text) loads.reads)) loads.comes;
    }

    -- behind the policy's text, which was read
    pub reads_either : (IsUnprinted held behind result × MayReadFurther between more known paths.exceptions (config_of_text lists text.text))
        ⊎ LoadsTextBy lists context paths text mid after between more old new held behind result
        → IsCutLoad lists begun calls more old paths held behind result ⊎ LoadsBy lists context paths begun first after calls more old new held behind result
    reads_either (inl (unprinted, may)) = inl (record {
      unprinted = unprinted;
      calls_are = inr (record { heard = told; mid = mid; between = between; policy = policy; text = text; is = is; further = may });
    })
    reads_either (inr loads) = inr (text_reads loads)
