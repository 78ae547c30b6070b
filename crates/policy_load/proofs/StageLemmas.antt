-- What the stages of a load answer, put together.
use Rattle.std.proofs.Common.{◌≡◌, ◌∙◌, refl, sym, ap, subst, ℕ, true, false, cond, List, [], ◌∷◌, ◌++◌, length, map, Option, Result, Ok, Err, append-nil, append_assoc}
use Rattle.std.specs.List.{list_any}
use Rattle.spdx_terms.specs.catalog.Catalog.{CatalogLists}
use Rattle.toml_subset.specs.shapes.Shapes.{ShapeFault}
use Rattle.tree_core.specs.Faults.{GainedPrefix}
use Rattle.diag_core.specs.File.{File}
use Rattle.diag_core.specs.declared.diagnostic.Diagnostic.{Diagnostic}
use Rattle.tree_core.specs.texts.Cause.{ReadCounts, heard_cause}
use Rattle.tree_core.specs.declared.texts.fault.ReadFault.{ReadFault}
use Rattle.tree_core.specs.declared.texts.fault.ReadFault.TheVariants.{Failed, Absent, Folder, NotUtf8}
use Rattle.diag_print.specs.declared.context.LogContext.{LogContext}
use Rattle.diag_print.specs.declared.printer.PrintError.{PrintError}
use Rattle.diag_print.specs.declared.printer.PrintError.TheVariants as print
use Rattle.policy_core.specs.declared.config.root.RootConfig.{RootConfig}
use Rattle.policy_core.specs.text.Config.{config_of_text}
use Rattle.policy_core.specs.text.Text.{config_text_of}
use Rattle.policy_core.specs.declared.text.error.ConfigError.{ConfigError}
use Rattle.policy_core.specs.declared.text.error.ConfigError.TheVariants as config
use Rattle.policy_core.specs.declared.text.text.ConfigText.{ConfigText}
use Rattle.policy_core.specs.Exceptions.{shape_diagnostic}
use Rattle.policy_core.specs.Heard.{heard_file_of, exceptions_read_of}
use Rattle.policy_core.specs.Load.{Keeps, numbers_at}
use Rattle.policy_core.specs.Policy.{PolicyFound, absence_findings, policy_found}
use Rattle.policy_core.specs.declared.exceptions.ExceptionsHeard.{ExceptionsHeard}
use Rattle.policy_core.specs.declared.load.LoadedPolicy.{LoadedPolicy}
use Rattle.policy_load.specs.Answer.{AnswersLoad, Comes, EndsLoad, GainsFiles, IsBehindRead, IsPolicyOf, Prints, WriteCounts}
use Rattle.policy_load.specs.Answer.{error_of_print, load_cause, refused_by, rooted_by}
use Rattle.policy_load.specs.Load.{LoadResult, error_of_config, load_by_config, policy_file, refusal_findings, unless_error, with_policy}
use Rattle.diag_print.specs.Findings.{HasReasonSince, is_error, printed_findings}
use Rattle.policy_load.specs.declared.error.LoadError.{LoadError}
use Rattle.policy_load.specs.declared.error.LoadError.TheVariants.{Memory, ConfigRead, ConfigSyntax, ConfigShape, NotCarried, ConfigInvalid, WriteFault}
use Rattle.policy_load.specs.declared.loading.PolicyPaths.{PolicyPaths}
use Rattle.policy_load.proofs.LoadLemmas.{front_of_any, gained_nothing}

-- ---- printing

-- a print that was refused is the load's refusal
pub print_ends : (policy : LoadedPolicy) (found : List Diagnostic) (refused : PrintError) → EndsLoad policy found (Err (error_of_print refused))
print_ends policy found (print.WriteFault before after) = tt
print_ends policy found print.Memory = tt

pub print_cut : (old new : Option (List ℕ)) (text : List ℕ) (refused : PrintError) → GainedPrefix old new text → Prints old new text (Err (error_of_print refused))
print_cut old new text (print.WriteFault before after) cut = cut
print_cut old new text print.Memory cut = cut

pub print_counts : (before after : ℕ) (refused : PrintError) → HasReasonSince before after refused → WriteCounts before after (load_cause (error_of_print refused))
print_counts before after (print.WriteFault first last) reason = reason
print_counts before after print.Memory reason = tt

pub print_of_text : (refused : PrintError) → IsBehindRead (error_of_print refused)
print_of_text (print.WriteFault before after) = tt
print_of_text print.Memory = tt

-- nothing is printed of a refusal that is none of the shape
pub quietly_refused : (context : LogContext) (file : ℕ) (old : List File) (held : Option (List ℕ)) (refused : ConfigError) → refusal_findings file refused ≡ []
    → Comes (refused_by file refused) context old old held held (Err (error_of_config refused))
quietly_refused context file old held config.Memory none = record { answers = tt; files = tt; prints = front_of_any held [] }
quietly_refused context file old held (config.ConfigRead fault) none = record { answers = refl; files = sym (append-nil old); prints = gained_nothing held [] refl }
quietly_refused context file old held (config.ConfigSyntax fault) none = record { answers = refl; files = sym (append-nil old); prints = gained_nothing held [] refl }
quietly_refused context file old held (config.ConfigShape faults) none =
    record { answers = refl; files = sym (append-nil old); prints = gained_nothing held _ (ap (printed_findings context (old ++ [])) none) }
quietly_refused context file old held config.NotCarried none = record { answers = refl; files = sym (append-nil old); prints = gained_nothing held [] refl }

-- what is wrong with a shape was printed, or a prefix of it
pub shape_refused : (context : LogContext) (file : ℕ) (old : List File) (before behind : Option (List ℕ)) (faults : List ShapeFault) (refused : PrintError)
    → GainedPrefix before behind (printed_findings context old (map (shape_diagnostic file) faults))
    → Comes (refused_by file (config.ConfigShape faults)) context old old before behind (Err (error_of_print refused))
shape_refused context file old before behind faults (print.WriteFault first last) cut = record {
  answers = tt;
  files = sym (append-nil old);
  prints = subst (λ files. GainedPrefix before behind (printed_findings context files (map (shape_diagnostic file) faults))) (sym (append-nil old)) cut;
}
shape_refused context file old before behind faults print.Memory cut = record {
  answers = tt;
  files = tt;
  prints = subst (λ files. GainedPrefix before behind (printed_findings context files (map (shape_diagnostic file) faults))) (sym (append-nil old)) cut;
}

-- ---- a policy that was loaded

gains_all : (old new more : List File) (result : Result LoadedPolicy LoadError) → new ≡ old ++ more → GainsFiles old new more result
gains_all old new more (Ok policy) grown = grown
gains_all old new more (Err Memory) grown = tt
gains_all old new more (Err (ConfigRead fault)) grown = grown
gains_all old new more (Err (ConfigSyntax fault)) grown = grown
gains_all old new more (Err (ConfigShape faults)) grown = grown
gains_all old new more (Err NotCarried) grown = grown
gains_all old new more (Err (ConfigInvalid found)) grown = grown
gains_all old new more (Err (WriteFault before after)) grown = grown

-- without an error the policy is, and else it is refused
passes : (it : PolicyFound) → list_any is_error it.findings ≡ false → unless_error it ≡ Ok it
passes it none = ap (λ b. cond b (Err (ConfigInvalid it.findings)) (Ok it)) none

refuses : (it : PolicyFound) (error : LoadError) → (error ≡ ConfigInvalid it.findings) × (list_any is_error it.findings ≡ true) → unless_error it ≡ Err error
refuses it error (is, some) = ap (λ b. cond b (Err (ConfigInvalid it.findings)) (Ok it)) some ∙ ap Err (sym is)

answered : (it : PolicyFound) (policy : LoadedPolicy) (result : Result LoadedPolicy LoadError) → IsPolicyOf it policy → EndsLoad policy it.findings result → AnswersLoad (unless_error it) result
answered it policy (Ok own) valid (same, none) = record { found = it; is = passes it none; valid_of = subst (IsPolicyOf it) (sym same) valid }
answered it policy (Err Memory) valid ends = tt
answered it policy (Err (ConfigRead fault)) valid ends = refuses it (ConfigRead fault) ends
answered it policy (Err (ConfigSyntax fault)) valid ends = refuses it (ConfigSyntax fault) ends
answered it policy (Err (ConfigShape faults)) valid ends = refuses it (ConfigShape faults) ends
answered it policy (Err NotCarried) valid ends = refuses it NotCarried ends
answered it policy (Err (ConfigInvalid found)) valid ends = refuses it (ConfigInvalid found) ends
answered it policy (Err (WriteFault before after)) valid ends = tt

-- what was kept, reported and printed comes of the policy
pub root_comes : (lists : CatalogLists) (context : LogContext) (file : ℕ) (absence : List Diagnostic) (root : RootConfig) (exceptions : ExceptionsHeard)
    (old new : List File) (found : List Diagnostic) (before behind : Option (List ℕ)) (policy : LoadedPolicy) (result : Result LoadedPolicy LoadError)
    → Keeps (policy_found lists (numbers_at file old) absence (exceptions_read_of exceptions) root) exceptions (record { files = old; found = [] }) (record { files = new; found = found }) policy
    → EndsLoad policy found result → Prints before behind (printed_findings context new found) result
    → Comes (rooted_by exceptions (policy_found lists (numbers_at file old) absence (exceptions_read_of exceptions) root)) context old new before behind result
root_comes lists context file absence root exceptions old new found before behind policy result keeps ends prints =
    let it = policy_found lists (numbers_at file old) absence (exceptions_read_of exceptions) root in
    record {
      answers = answered it policy result (record { licenses = keeps.licenses; graph = keeps.graph; output = keeps.output })
          (subst (λ one. EndsLoad policy one result) keeps.found ends);
      files = gains_all old new (heard_file_of exceptions) result keeps.files;
      prints =
          subst (λ files. Prints before behind (printed_findings context files it.findings) result) keeps.files
          (subst (λ one. Prints before behind (printed_findings context new one) result) keeps.found prints);
    }

-- ---- behind the policy's file

gains_behind : (old new more : List File) (file : File) (result : Result LoadedPolicy LoadError) → GainsFiles (old ++ file ∷ []) new more result → GainsFiles old new (file ∷ more) result
gains_behind old new more file (Ok policy) grown = grown ∙ append_assoc old (file ∷ []) more
gains_behind old new more file (Err Memory) grown = tt
gains_behind old new more file (Err (ConfigRead fault)) grown = grown ∙ append_assoc old (file ∷ []) more
gains_behind old new more file (Err (ConfigSyntax fault)) grown = grown ∙ append_assoc old (file ∷ []) more
gains_behind old new more file (Err (ConfigShape faults)) grown = grown ∙ append_assoc old (file ∷ []) more
gains_behind old new more file (Err NotCarried) grown = grown ∙ append_assoc old (file ∷ []) more
gains_behind old new more file (Err (ConfigInvalid found)) grown = grown ∙ append_assoc old (file ∷ []) more
gains_behind old new more file (Err (WriteFault before after)) grown = grown ∙ append_assoc old (file ∷ []) more

abbrev with_file : File → LoadResult → LoadResult
with_file file it = record { files = file ∷ it.files; findings = it.findings; answer = it.answer }

comes_behind : (it : LoadResult) (context : LogContext) (old new : List File) (file : File) (before behind : Option (List ℕ)) (result : Result LoadedPolicy LoadError)
    → Comes it context (old ++ file ∷ []) new before behind result → Comes (with_file file it) context old new before behind result
comes_behind it context old new file before behind result comes = record {
  answers = comes.answers;
  files = gains_behind old new it.files file result comes.files;
  prints = subst (λ files. Prints before behind (printed_findings context files it.findings) result) (append_assoc old (file ∷ []) it.files) comes.prints;
}

module _ (lists : CatalogLists) (context : LogContext) (paths : PolicyPaths) (text : ConfigText) (old new : List File) (before behind : Option (List ℕ)) where
  -- what comes of a policy that has its shape
  pub root_text_comes : (root : RootConfig) (exceptions : ExceptionsHeard) (result : Result LoadedPolicy LoadError) → config_of_text lists text.text ≡ Ok root
      → Comes (rooted_by exceptions (policy_found lists (numbers_at (length old) (with_policy old paths text)) (absence_findings text.is_there paths.policy) (exceptions_read_of exceptions) root))
      context (with_policy old paths text) new before behind result
      → Comes (load_by_config lists old paths exceptions text (config_of_text lists text.text)) context old new before behind result
  root_text_comes root exceptions result told comes =
      subst (λ one. Comes (load_by_config lists old paths exceptions text one) context old new before behind result) (sym told)
      (comes_behind (rooted_by exceptions (policy_found lists (numbers_at (length old) (with_policy old paths text)) (absence_findings text.is_there paths.policy) (exceptions_read_of exceptions) root))
      context old new (policy_file paths.policy text.text) before behind result comes)

  -- what comes of the refusal of a policy's text
  pub refused_text_comes : (refused : ConfigError) (exceptions : ExceptionsHeard) (result : Result LoadedPolicy LoadError) → config_of_text lists text.text ≡ Err refused
      → Comes (refused_by (length old) refused) context (with_policy old paths text) new before behind result
      → Comes (load_by_config lists old paths exceptions text (config_of_text lists text.text)) context old new before behind result
  refused_text_comes refused exceptions result told comes =
      subst (λ one. Comes (load_by_config lists old paths exceptions text one) context old new before behind result) (sym told)
      (comes_behind (refused_by (length old) refused) context old new (policy_file paths.policy text.text) before behind result comes)

-- ---- causes

pub text_counts : (begun before after : ℕ) (error : LoadError) → IsBehindRead error → ReadCounts begun before after (load_cause error)
text_counts begun before after Memory is = tt
text_counts begun before after (ConfigRead fault) is = absurd is
text_counts begun before after (ConfigSyntax fault) is = tt
text_counts begun before after (ConfigShape faults) is = tt
text_counts begun before after NotCarried is = tt
text_counts begun before after (ConfigInvalid found) is = tt
text_counts begun before after (WriteFault first last) is = tt

pub read_counts : (begun before after : ℕ) (told : Result (List ℕ) ReadFault) (refused : ConfigError) → config_text_of told ≡ Err refused
    → ReadCounts begun before after (heard_cause told) → ReadCounts begun before after (load_cause (error_of_config refused))
read_counts begun before after (Ok text) refused is counts = absurd (cc)
read_counts begun before after (Err (Failed first last)) refused is counts =
    let e : config.ConfigRead (Failed first last) ≡ refused = cc in subst (λ one. ReadCounts begun before after (load_cause (error_of_config one))) e counts
read_counts begun before after (Err Absent) refused is counts = absurd (cc)
read_counts begun before after (Err Folder) refused is counts =
    let e : config.ConfigRead Folder ≡ refused = cc in subst (λ one. ReadCounts begun before after (load_cause (error_of_config one))) e counts
read_counts begun before after (Err (NotUtf8 at)) refused is counts =
    let e : config.ConfigRead (NotUtf8 at) ≡ refused = cc in subst (λ one. ReadCounts begun before after (load_cause (error_of_config one))) e counts
