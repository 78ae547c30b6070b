-- What a call that loads a policy answers and leaves.
use Rattle.std.specs.Prelude.{◌≡◌, ◌⊎◌, ℕ, true, false, List, [], ◌++◌, Option, Result, Ok, Err, ⊤}
use Rattle.std.specs.List.{list_any}
use Rattle.spdx_terms.specs.catalog.Catalog.{CatalogLists}
use Rattle.diag_core.specs.File.{File}
use Rattle.diag_core.specs.declared.diagnostic.Diagnostic.{Diagnostic}
use Rattle.tree_core.specs.texts.Cause.{Cause, no_memory, told, failed_read, refused_write}
use Rattle.tree_core.specs.declared.texts.fault.ReadFault.{ReadFault}
use Rattle.tree_core.specs.declared.texts.fault.ReadFault.TheVariants.{Failed}
use Rattle.diag_print.specs.declared.context.LogContext.{LogContext}
use Rattle.diag_print.specs.declared.printer.PrintError.{PrintError}
use Rattle.diag_print.specs.declared.printer.PrintError.TheVariants as print
use Rattle.tree_core.specs.Call.{Call}
use Rattle.tree_core.specs.Faults.{Rose, Gained, GainedPrefix}
use Rattle.tree_core.specs.Trace.{faults_after}
use Rattle.policy_core.specs.Heard.{heard_file_of, exceptions_read_of}
use Rattle.policy_core.specs.Load.{Keeps, Surroundings, numbers_at}
use Rattle.policy_core.specs.Places.{PointInto, PolicyStands}
use Rattle.policy_core.specs.Policy.{PolicyFound, policy_found}
use Rattle.policy_core.specs.declared.config.root.RootConfig.{RootConfig}
use Rattle.policy_core.specs.text.Config.{config_of_text}
use Rattle.policy_core.specs.text.Text.{config_text_of}
use Rattle.policy_core.specs.declared.text.error.ConfigError.{ConfigError}
use Rattle.policy_core.specs.declared.text.text.ConfigText.{ConfigText}
use Rattle.policy_core.specs.declared.exceptions.ExceptionsHeard.{ExceptionsHeard}
use Rattle.policy_core.specs.declared.load.LoadedPolicy.{LoadedPolicy}
use Rattle.policy_core.specs.validate.Order.{PutsPolicyInOrder}
use Rattle.policy_load.specs.Heard.{LoadHeard, IsPolicyRead, IsReadOf, MayReadOf, MayReadPolicy, exceptions_heard}
use Rattle.policy_load.specs.Load.{LoadResult, error_of_config, load_by_config, load_of, refusal_findings, unless_error}
use Rattle.policy_load.specs.Load.{with_policy}
use Rattle.diag_print.specs.Findings.{is_error, printed_findings}
use Rattle.policy_load.specs.declared.error.LoadError.{LoadError}
use Rattle.policy_load.specs.declared.error.LoadError.TheVariants.{Memory, ConfigRead, ConfigInvalid, WriteFault}
use Rattle.policy_load.specs.declared.loading.PolicyPaths.{PolicyPaths}

-- why a load is refused
abbrev pub load_cause : LoadError → Cause
load_cause Memory = no_memory
load_cause (ConfigRead (Failed before after)) = failed_read before after
load_cause (WriteFault before after) = refused_write before after
load_cause _ = told

-- A refused write has the sink's counts of faults when the call began and when it ended, and in it the count rose.
abbrev pub WriteCounts : ℕ → ℕ → Cause → Type 0
WriteCounts before after (refused_write first last) = (first ≡ before) × (last ≡ after) × Rose before after
WriteCounts before after _ = ⊤

-- the policy that was found, its lists put in order
pub record IsPolicyOf (found : PolicyFound) (valid : LoadedPolicy) : Type 0 where
  pub licenses : PutsPolicyInOrder found.licenses valid.licenses
  pub graph : valid.graph ≡ found.graph
  pub output : valid.output ≡ found.output

-- there is such a policy
pub record GivesPolicy (answer : Result PolicyFound LoadError) (valid : LoadedPolicy) : Type 0 where
  pub found : PolicyFound
  pub is : answer ≡ Ok found
  pub valid_of : IsPolicyOf found valid

-- A call answers what comes of the load. Want of memory and a refused write may come in the place of any answer.
abbrev pub AnswersLoad : Result PolicyFound LoadError → Result LoadedPolicy LoadError → Type 0
AnswersLoad answer (Ok valid) = GivesPolicy answer valid
AnswersLoad answer (Err Memory) = ⊤
AnswersLoad answer (Err (WriteFault before after)) = ⊤
AnswersLoad answer (Err error) = answer ≡ Err error

-- the sink gained the text, or a prefix of it where memory or a write was refused
abbrev pub Prints : Option (List ℕ) → Option (List ℕ) → List ℕ → Result LoadedPolicy LoadError → Type 0
Prints old new text (Err Memory) = GainedPrefix old new text
Prints old new text (Err (WriteFault before after)) = GainedPrefix old new text
Prints old new text result = Gained old new text

-- the files gained those of the load behind the others; where memory was refused maybe not all
abbrev pub GainsFiles : List File → List File → List File → Result LoadedPolicy LoadError → Type 0
GainsFiles old new more (Err Memory) = ⊤
GainsFiles old new more result = new ≡ old ++ more

-- what came of a load was answered, added to the files and printed
pub record Comes (it : LoadResult) (context : LogContext) (old new : List File) (before behind : Option (List ℕ))
    (result : Result LoadedPolicy LoadError) : Type 0 where
  pub answers : AnswersLoad it.answer result
  pub files : GainsFiles old new it.files result
  pub prints : Prints before behind (printed_findings context (old ++ it.files) it.findings) result

-- ---- from the policy's text on

-- memory was wanting, and nothing was printed
pub record IsUnprinted (before behind : Option (List ℕ)) (result : Result LoadedPolicy LoadError) : Type 0 where
  pub memory : result ≡ Err Memory
  pub same : behind ≡ before

-- a refusal of something else than the policy's read
abbrev pub IsBehindRead : LoadError → Type 0
IsBehindRead (ConfigRead fault) = ⊥
IsBehindRead _ = ⊤

-- what comes of a refusal of the policy's text, and of a policy that has its shape, where its file is known
abbrev pub refused_by : ℕ → ConfigError → LoadResult
refused_by file refused =
    record { files = []; findings = refusal_findings file refused; answer = Err (error_of_config refused) }

abbrev pub rooted_by : ExceptionsHeard → PolicyFound → LoadResult
rooted_by exceptions found =
    record { files = heard_file_of exceptions; findings = found.findings; answer = unless_error found }

-- the findings were printed, and then the policy was answered, or refused for an error
abbrev pub EndsLoad : LoadedPolicy → List Diagnostic → Result LoadedPolicy LoadError → Type 0
EndsLoad policy found (Ok answered) = (answered ≡ policy) × (list_any is_error found ≡ false)
EndsLoad policy found (Err Memory) = ⊤
EndsLoad policy found (Err (WriteFault before after)) = ⊤
EndsLoad policy found (Err error) = (error ≡ ConfigInvalid found) × (list_any is_error found ≡ true)

abbrev pub error_of_print : PrintError → LoadError
error_of_print (print.WriteFault before after) = WriteFault before after
error_of_print print.Memory = Memory

-- ---- by what a tree answered

-- Where the text is that of a policy, a value of its shape whose specs are carried, one call is made, the read of the
-- exceptions file, and its answer says this; but none where there is no path, or where a known file has it. Where the
-- text is refused, none is made.
abbrev pub ReadsFurther : ℕ → ℕ → List Call → List Call → List File → Option (List ℕ) → ExceptionsHeard
    → Result RootConfig ConfigError → Type 0
ReadsFurther mid after calls more files path exceptions (Ok root) = IsReadOf mid after calls more files path exceptions
ReadsFurther mid after calls more files path exceptions (Err refused) = more ≡ calls

-- the same behind the read of the policy, where a text was read of it; else no further call is made
abbrev pub ReadsBehind : CatalogLists → List File → PolicyPaths → ℕ → ℕ → List Call → List Call
    → Result (List ℕ) ReadFault → Result ConfigText ConfigError → Type 0
ReadsBehind lists old paths mid after calls more exceptions (Err refused) = more ≡ calls
ReadsBehind lists old paths mid after calls more exceptions (Ok text) =
    ReadsFurther mid after calls more (with_policy old paths text) paths.exceptions
    (exceptions_heard (with_policy old paths text) paths.exceptions exceptions) (config_of_text lists text.text)

-- where memory was wanting, that call was made, whatever was answered, or none
abbrev pub MayReadFurther : List Call → List Call → List File → Option (List ℕ) → Result RootConfig ConfigError → Type 0
MayReadFurther calls more files path (Ok root) = MayReadOf calls more files path
MayReadFurther calls more files path (Err refused) = more ≡ calls

-- The load of a policy: its file was read, then the exceptions file where that was due, and no other call was made;
-- what the answers say, and what came of that. The policy's read is reported from the run's start on, the exceptions
-- file's from its own. Behind the policy's read the tree's count of faults is the one behind that call.
pub record LoadsBy (lists : CatalogLists) (context : LogContext) (paths : PolicyPaths) (begun first after : ℕ)
    (calls more : List Call)
    (old new : List File) (before behind : Option (List ℕ)) (result : Result LoadedPolicy LoadError) : Type 0 where
  pub heard : LoadHeard
  pub mid : ℕ
  pub between : List Call
  pub policy : IsPolicyRead begun mid calls between paths.policy heard.policy
  pub counts : (read : List Call) → between ≡ calls ++ read → mid ≡ faults_after first read
  pub reads : ReadsBehind lists old paths mid after between more heard.exceptions (config_text_of heard.policy)
  pub comes : Comes (load_of lists old paths heard) context old new before behind result

-- the same where the policy's text was read
pub record LoadsTextBy (lists : CatalogLists) (context : LogContext) (paths : PolicyPaths) (text : ConfigText)
    (mid after : ℕ) (calls more : List Call) (old new : List File) (before behind : Option (List ℕ))
    (result : Result LoadedPolicy LoadError) : Type 0 where
  pub exceptions : ExceptionsHeard
  pub reads : ReadsFurther mid after calls more (with_policy old paths text) paths.exceptions exceptions
      (config_of_text lists text.text)
  pub comes : Comes (load_by_config lists old paths exceptions text (config_of_text lists text.text)) context old new
      before behind result

-- The policy of this root in the file of this number was loaded, with its exceptions file, by the answer of that file's
-- read, between two counts of the tree's faults; what is reported points into its file, and what is kept lies there.
pub record LoadsPolicyBy (lists : CatalogLists) (before after : ℕ) (calls more : List Call) (file : ℕ)
    (absence : List Diagnostic) (root : RootConfig)
    (path : Option (List ℕ)) (old new : Surroundings) (loaded : LoadedPolicy) : Type 0 where
  pub hearing : ExceptionsHeard
  pub reads : IsReadOf before after calls more old.files path hearing
  pub keeps : Keeps (policy_found lists (numbers_at file old.files) absence (exceptions_read_of hearing) root) hearing
      old new loaded
  pub labels : PointInto old.files old.found → PointInto new.files new.found
  pub places : PolicyStands new.files loaded.licenses

-- the same where it has its shape, and its file is the one of that number
pub record LoadsRootBy (lists : CatalogLists) (context : LogContext) (file : ℕ) (absence : List Diagnostic)
    (root : RootConfig) (path : Option (List ℕ))
    (mid after : ℕ) (calls more : List Call) (old new : List File) (before behind : Option (List ℕ))
    (result : Result LoadedPolicy LoadError) : Type 0 where
  pub exceptions : ExceptionsHeard
  pub reads : IsReadOf mid after calls more old path exceptions
  pub comes : Comes
      (rooted_by exceptions (policy_found lists (numbers_at file old) absence (exceptions_read_of exceptions) root))
      context old new before behind result

-- memory was wanting behind the policy's text, which was read: the exceptions file may have been read where that was
-- due
pub record MayReadBoth (lists : CatalogLists) (begun : ℕ) (calls more : List Call) (old : List File)
    (paths : PolicyPaths) : Type 0 where
  pub heard : Result (List ℕ) ReadFault
  pub mid : ℕ
  pub between : List Call
  pub policy : IsPolicyRead begun mid calls between paths.policy heard
  pub text : ConfigText
  pub is : config_text_of heard ≡ Ok text
  pub further : MayReadFurther between more (with_policy old paths text) paths.exceptions
      (config_of_text lists text.text)

-- memory was wanting, nothing was printed, and the calls are a prefix of those of a load
pub record IsCutLoad (lists : CatalogLists) (begun : ℕ) (calls more : List Call) (old : List File) (paths : PolicyPaths)
    (before behind : Option (List ℕ)) (result : Result LoadedPolicy LoadError) : Type 0 where
  pub unprinted : IsUnprinted before behind result
  pub calls_are : MayReadPolicy calls more paths.policy ⊎ MayReadBoth lists begun calls more old paths
