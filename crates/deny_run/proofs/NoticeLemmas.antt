-- A notice: which calls were made, how it ends over lawful input, and what it is never refused with.
use Rattle.std.proofs.Common.{inl, inr, ℕ, List, Option, Result, Ok, Err}
use Rattle.tree_core.specs.Faults.{Rose}
use Rattle.tree_core.proofs.MadeLemmas.{some_made}
use Rattle.tree_core.specs.declared.texts.fault.ReadFault.TheVariants.{Absent}
use Rattle.run_found.specs.declared.error.Error.{Error}
use Rattle.run_found.specs.declared.error.Error.TheVariants.{Memory, ConfigRead, NotAccepted, NoText}
use Rattle.run_found.specs.Error.{MayEndLawful, cause_of}
use Rattle.run_found.specs.Hearing.{HasMade, TreeSeen}
use Rattle.run_found.specs.Written.{SinkSeen}
use Rattle.run_command.specs.Given.{CommandArguments}
use Rattle.run_command.proofs.AbsentLemmas.{stops_never}
use Rattle.run_command.proofs.LawfulLemmas.{NoRefusal, stops_lawful}
use Rattle.run_command.proofs.StopLemmas.{stops_made}
use Rattle.run_notice.specs.declared.noticed.NoticedCrates.{NoticedCrates}
use Rattle.run_notice.specs.Noticed.{FindsNotice, Notices, RefusesNotice}
use Rattle.deny_run.specs.Complete.{MayEndNotice}
use Rattle.deny_run.proofs.EndLemmas.{EndsBy}
use Rattle.deny_run.proofs.VerifyLemmas.{no_fault}

-- want of memory may end it as any command
pub notice_wanting : (error : Error) → MayEndLawful (cause_of error) → MayEndNotice error
notice_wanting (NotAccepted id reads) is = tt
notice_wanting (NoText id key reads own) is = tt
notice_wanting _ is = is

module _ (text_of : List ℕ → Option (List ℕ)) (given : CommandArguments) (tree : TreeSeen) (err out : SinkSeen) where
  -- ---- the calls

  refused_made : (error : Error) → RefusesNotice text_of given tree err error → HasMade tree
  refused_made Memory refuses = some_made refuses.made
  refused_made (NotAccepted id reads) refuses = some_made refuses.heard.made
  refused_made (NoText id key reads own) refuses = some_made refuses.made
  refused_made _ refuses = absurd refuses

  found_made : (error : Error) → FindsNotice text_of given tree err (Err error) → HasMade tree
  found_made error (inl stops) = stops_made given tree err error stops
  found_made error (inr refuses) = refused_made error refuses

  pub notices_made : (answer : Result NoticedCrates Error) → Notices text_of given tree err out answer → HasMade tree
  notices_made (Ok noticed) notices = some_made notices.0.made
  notices_made (Err error) (inl (found, silent)) = found_made error found
  notices_made (Err error) (inr cut) = some_made cut.hears.made

  -- ---- an absent policy is no refusal

  found_never : FindsNotice text_of given tree err (Err (ConfigRead Absent)) → ⊥
  found_never (inl stops) = stops_never given tree err stops
  found_never (inr refuses) = refuses

  pub notices_never : Notices text_of given tree err out (Err (ConfigRead Absent)) → ⊥
  notices_never (inl (found, silent)) = found_never found
  notices_never (inr cut) = cut.refused

  -- ---- lawful input

  module _ (apart : NoRefusal given tree) (out_quiet : Rose out.before out.after → ⊥) (err_quiet : Rose err.before err.after → ⊥) where
    refused_lawful : (error : Error) → RefusesNotice text_of given tree err error → MayEndNotice error
    refused_lawful Memory refuses = tt
    refused_lawful (NotAccepted id reads) refuses = tt
    refused_lawful (NoText id key reads own) refuses = tt
    refused_lawful _ refuses = absurd refuses

    found_lawful : (error : Error) → FindsNotice text_of given tree err (Err error) → MayEndNotice error
    found_lawful error (inl stops) = notice_wanting error (stops_lawful given tree err apart err_quiet error stops)
    found_lawful error (inr refuses) = refused_lawful error refuses

    pub notices_lawful : (answer : Result NoticedCrates Error) → Notices text_of given tree err out answer → EndsBy MayEndNotice answer
    notices_lawful (Ok noticed) notices = tt
    notices_lawful (Err error) (inl (found, silent)) = found_lawful error found
    notices_lawful (Err error) (inr cut) = absurd (no_fault out.before out.after error out_quiet cut.refused)
