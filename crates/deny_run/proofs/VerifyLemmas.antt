-- Verifying: which calls were made, how it ends over lawful input, and what it is never refused with.
use Rattle.std.proofs.Common.{◌≡◌, ◌⊎◌, inl, inr, ℕ, List, Result, Ok, Err}
use Rattle.std.specs.Prelude.{⊤}
use Rattle.tree_core.specs.Call.{CallAnswer}
use Rattle.tree_core.specs.Faults.{Rose}
use Rattle.tree_core.proofs.MadeLemmas.{some_made}
use Rattle.tree_core.specs.declared.texts.fault.ReadFault.TheVariants.{Absent}
use Rattle.policy_core.specs.declared.valid.policy.ValidConfig.{ValidConfig}
use Rattle.gather_core.specs.declared.summary.KrateLicense.{KrateLicense}
use Rattle.run_found.specs.declared.error.Error.{Error}
use Rattle.run_found.specs.declared.error.Error.TheVariants.{Memory, NotCarried, ManifestPath, ManifestRead, CatalogRead, CatalogSyntax, StoreRead, ConfigRead, ConfigSyntax, ConfigShape, ConfigInvalid, OverrideTwice, MetadataRead, MetadataSyntax, MetadataShape, NoRoots, NotAccepted, NoText, RecordRead, RecordSyntax, BillText, BillRead, BillSyntax, WriteFault}
use Rattle.run_found.specs.Error.{MayEndLawful, cause_of}
use Rattle.run_found.specs.Hearing.{HasMade, TreeSeen}
use Rattle.run_found.specs.Written.{SinkSeen}
use Rattle.run_command.specs.Given.{CommandArguments}
use Rattle.run_command.specs.Written.{IsWriteFault}
use Rattle.run_command.proofs.AbsentLemmas.{stops_never}
use Rattle.run_command.proofs.LawfulLemmas.{NoRefusal, stops_lawful}
use Rattle.run_command.proofs.StopLemmas.{stops_made}
use Rattle.run_record.specs.declared.verdicts.VerifiedCrates.{VerifiedCrates}
use Rattle.run_record.specs.Verified.{Tells, Verifies}
use Rattle.deny_run.specs.Complete.{MayEndVerify}
use Rattle.deny_run.proofs.EndLemmas.{EndsBy}

-- want of memory may end it as any command
pub verify_wanting : (error : Error) → MayEndLawful (cause_of error) → MayEndVerify error
verify_wanting (RecordRead fault reads) is = tt
verify_wanting RecordSyntax is = tt
verify_wanting _ is = is

-- a refusal of the verdict file
told_end : (policy : ValidConfig) (licenses : List KrateLicense) (count : ℕ) (answer : CallAnswer) (error : Error) → Tells (Err error) policy licenses count answer → MayEndVerify error
told_end policy licenses count answer Memory tells = tt
told_end policy licenses count answer (RecordRead fault reads) tells = tt
told_end policy licenses count answer RecordSyntax tells = tt
told_end policy licenses count answer _ tells = absurd tells

pub no_fault : (before after : ℕ) (error : Error) → (Rose before after → ⊥) → IsWriteFault before after error → ⊥
no_fault before after (WriteFault first last) quiet refused = quiet refused.2
no_fault before after _ quiet refused = refused

module _ (given : CommandArguments) (path : List ℕ) (tree : TreeSeen) (err out : SinkSeen) where
  pub verifies_made : (answer : Result VerifiedCrates Error) → Verifies given path tree err out answer → HasMade tree
  verifies_made (Ok crates) verifies = some_made verifies.0.made
  verifies_made (Err error) (inl (inl stops, silent)) = stops_made given tree err error stops
  verifies_made (Err error) (inl (inr settles, silent)) = some_made settles.made
  verifies_made (Err error) (inr cut) = some_made cut.settles.made

  pub verifies_never : Verifies given path tree err out (Err (ConfigRead Absent)) → ⊥
  verifies_never (inl (inl stops, silent)) = stops_never given tree err stops
  verifies_never (inl (inr settles, silent)) = settles.is_so
  verifies_never (inr cut) = cut.refused

  module _ (apart : NoRefusal given tree) (out_quiet : Rose out.before out.after → ⊥) (err_quiet : Rose err.before err.after → ⊥) where
    pub verifies_lawful : (answer : Result VerifiedCrates Error) → Verifies given path tree err out answer → EndsBy MayEndVerify answer
    verifies_lawful (Ok crates) verifies = tt
    verifies_lawful (Err error) (inl (inl stops, silent)) = verify_wanting error (stops_lawful given tree err apart err_quiet error stops)
    verifies_lawful (Err error) (inl (inr settles, silent)) = told_end settles.policy settles.licenses _ settles.answer error settles.is_so
    verifies_lawful (Err error) (inr cut) = absurd (no_fault out.before out.after error out_quiet cut.refused)
