-- The steps of verifying, and its ends.
use Rattle.std.proofs.Common.{◌≡◌, inr, subst, ℕ, List, [], ◌∷◌, ◌++◌, Option, Some, None, Result, Ok, Err, IfErr}
use Rattle.tree_core.specs.Call.{CallAnswer, Call}
use Rattle.tree_core.specs.Content.{Content}
use Rattle.tree_core.specs.Hearing.{MadeSome}
use Rattle.tree_core.proofs.MadeLemmas.{made_joined, made_these}
use Rattle.tree_core.specs.texts.Cause.{ReadCounts}
use Rattle.tree_core.specs.texts.Heard.{IsTextRead, read_of, text_answered}
use Rattle.tree_core.specs.declared.texts.fault.ReadFault.{ReadFault}
use Rattle.diag_core.specs.File.{File}
use Rattle.policy_core.specs.declared.valid.policy.ValidConfig.{ValidConfig}
use Rattle.gather_core.specs.declared.summary.KrateLicense.{KrateLicense}
use Rattle.run_found.specs.declared.error.Error.{Error}
use Rattle.run_found.specs.declared.error.Error.TheVariants.{Memory, RecordRead, RecordSyntax}
use Rattle.run_found.specs.Error.{cause_of}
use Rattle.run_found.specs.Hearing.{TreeSeen, tree_seen}
use Rattle.run_found.specs.Licenses.{IsGatheredOn}
use Rattle.run_found.specs.Written.{SinkSeen}
use Rattle.run_command.specs.declared.crates.CratesFound.{CratesFound}
use Rattle.run_command.specs.Crates.{HasCrates}
use Rattle.run_command.specs.Found.{choice_in, scanner_of_given}
use Rattle.run_command.specs.Given.{CommandArguments}
use Rattle.run_command.specs.Settled.{HearsSo, IsSettled}
use Rattle.run_command.proofs.SettledLemmas.{hears_so, is_settled}
use Rattle.run_record.specs.declared.verdicts.VerifiedCrates.{VerifiedCrates}
use Rattle.run_record.specs.Steps.{IsRead, TellsHeard}
use Rattle.run_record.specs.Verified.{SettlesBy, Tells, VerifiesFirst}

-- ---- the file

module _ (policy : ValidConfig) (licenses : List KrateLicense) (path : List ℕ) (first tells : Option Content) (before after : ℕ) (old new : List Call) (made : MadeSome first tells before after old new) where
  abbrev own : TreeSeen
  own = tree_seen first tells before after old new

  -- something was read of it
  pub heard_read : (begun : ℕ) (heard : Result (List ℕ) ReadFault) → begun ≡ before → IsTextRead begun after old new path heard → (result : Result VerifiedCrates Error)
      → TellsHeard policy licenses heard result → IsRead policy licenses path own result
  heard_read begun heard same read result tells_so = record {
    answer = read.answer;
    made = made_these made read.made;
    tells = tells_so before read.answer (subst (λ n. text_answered before n read.answer ≡ Some heard) (made_these made read.made).counts
        (subst (λ n. text_answered n after read.answer ≡ Some heard) same read.hears));
  }

  -- memory was wanting in the read
  pub none_read : (answer : CallAnswer) → new ≡ old ++ read_of path answer ∷ [] → IsRead policy licenses path own (Err Memory)
  none_read answer traced = record { answer = answer; made = made_these made traced; tells = tt }

-- ---- behind the crates

-- the file was read, once the licences were settled
module _ (given : CommandArguments) (path : List ℕ) (told middle tells : Option Content) (begun mid after : ℕ) (old between more : List Call) (err : SinkSeen)
    (policy : ValidConfig) (licenses : List KrateLicense) (last : List File)
    (hears : HearsSo given (tree_seen told middle begun mid old between) err (λ hearing. IsSettled given hearing policy licenses last)) where
  settles_by : (result : Result VerifiedCrates Error) → IsRead policy licenses path (tree_seen middle tells mid after between more) result
      → SettlesBy given path (tree_seen told tells begun after old more) err (Tells result)
  settles_by result read = record {
    hearing = hears.hearing;
    policy = policy;
    licenses = licenses;
    last = last;
    answer = read.answer;
    begun = hears.heard.begun;
    made = made_joined hears.heard.made read.made;
    settled = hears.is_so;
    written = hears.written;
    is_so = subst (λ n. Tells result policy licenses n read.answer) hears.heard.made.counts read.tells;
  }

  by_result : (result : Result VerifiedCrates Error) → IsRead policy licenses path (tree_seen middle tells mid after between more) result
      → VerifiesFirst given path (tree_seen told tells begun after old more) err result
  by_result (Ok crates) read = settles_by (Ok crates) read
  by_result (Err error) read = inr (settles_by (Err error) read)

-- of the crates of a command
module _ (given : CommandArguments) (carried : given.options.unsupported ≡ None) (path : List ℕ) (told middle later tells : Option Content) (begun mid settled after : ℕ) (old between more new : List Call)
    (err : SinkSeen) (files : List File) (found : CratesFound) (has : HasCrates given (tree_seen told middle begun mid old between) err files found)
    (last : List File) (licenses : List KrateLicense)
    (gathered : IsGatheredOn (scanner_of_given given found.policy) found.policy (tree_seen middle later mid settled between more) files last has.graph (choice_in given has.policy) licenses) where
  hears : HearsSo given (tree_seen told later begun settled old more) err (λ hearing. IsSettled given hearing found.policy licenses last)
  hears =
      hears_so given told middle later begun mid settled old between more err files found has carried last licenses gathered (λ hearing. IsSettled given hearing found.policy licenses last)
      (is_settled given told middle later begun mid settled old between more err files found has carried last licenses gathered)

  pub verified_by : (result : Result VerifiedCrates Error) → IsRead found.policy licenses path (tree_seen later tells settled after more new) result
      → VerifiesFirst given path (tree_seen told tells begun after old new) err result
  verified_by result read = by_result given path told later tells begun settled after old more new err found.policy licenses last hears result read

-- ---- what a refusal comes of

-- none behind the crates has the counts of a read since the run began
pub file_counts : (policy : ValidConfig) (licenses : List KrateLicense) (path : List ℕ) (tree : TreeSeen) (result : Result VerifiedCrates Error) → IsRead policy licenses path tree result
    → (begun before after : ℕ) → IfErr result (λ error. ReadCounts begun before after (cause_of error))
file_counts policy licenses path tree (Ok crates) read begun before after = tt
file_counts policy licenses path tree (Err Memory) read begun before after = tt
file_counts policy licenses path tree (Err (RecordRead fault reads)) read begun before after = tt
file_counts policy licenses path tree (Err RecordSyntax) read begun before after = tt
file_counts policy licenses path tree (Err _) read begun before after = absurd read.tells
