-- What verdicts rest on: which calls were made, how it ends over lawful input, and what it is never refused with.
use Rattle.std.proofs.Common.{inl, inr, ℕ, List, Result, Ok, Err}
use Rattle.tree_core.specs.Faults.{Rose}
use Rattle.tree_core.proofs.MadeLemmas.{some_made}
use Rattle.tree_core.specs.declared.texts.fault.ReadFault.TheVariants.{Absent}
use Rattle.run_found.specs.declared.error.Error.{Error}
use Rattle.run_found.specs.declared.error.Error.TheVariants.{ConfigRead, NoSuchCrate}
use Rattle.run_found.specs.declared.reads.CrateRead.{CrateRead}
use Rattle.run_found.specs.Error.{MayEndLawful, cause_of}
use Rattle.run_found.specs.Hearing.{HasMade, TreeSeen}
use Rattle.run_found.specs.Written.{SinkSeen}
use Rattle.run_command.proofs.AbsentLemmas.{stops_never}
use Rattle.run_command.proofs.LawfulLemmas.{NoRefusal, stops_lawful}
use Rattle.run_command.proofs.StopLemmas.{stops_made}
use Rattle.run_why.specs.Given.{WhyArguments}
use Rattle.run_why.specs.Why.{FindsWhy, StopsAtWord, Tells}
use Rattle.deny_run.specs.Complete.{MayEndWhy}
use Rattle.deny_run.proofs.EndLemmas.{EndsBy}
use Rattle.deny_run.proofs.VerifyLemmas.{no_fault}

-- want of memory may end it as any command
pub why_wanting : (error : Error) → MayEndLawful (cause_of error) → MayEndWhy error
why_wanting (NoSuchCrate word) is = tt
why_wanting _ is = is

module _ (given : WhyArguments) (tree : TreeSeen) (err out : SinkSeen) where
  -- ---- the calls

  word_made : (error : Error) → StopsAtWord given tree err error → HasMade tree
  word_made (NoSuchCrate word) stops = some_made stops.heard.made
  word_made _ stops = absurd stops

  found_made : (error : Error) → FindsWhy given tree err (Err error) → HasMade tree
  found_made error (inl stops) = stops_made given.command tree err error stops
  found_made error (inr stops) = word_made error stops

  pub tells_made : (answer : Result (List CrateRead) Error) → Tells given tree err out answer → HasMade tree
  tells_made (Ok reads) tells = some_made tells.hears.heard.made
  tells_made (Err error) (inl (found, silent)) = found_made error found
  tells_made (Err error) (inr cut) = some_made cut.hears.heard.made

  -- ---- an absent policy is no refusal

  pub tells_never : Tells given tree err out (Err (ConfigRead Absent)) → ⊥
  tells_never (inl (inl stops, silent)) = stops_never given.command tree err stops
  tells_never (inl (inr stops, silent)) = stops
  tells_never (inr cut) = cut.refused

  -- ---- lawful input

  module _ (apart : NoRefusal given.command tree) (out_quiet : Rose out.before out.after → ⊥) (err_quiet : Rose err.before err.after → ⊥) where
    word_lawful : (error : Error) → StopsAtWord given tree err error → MayEndWhy error
    word_lawful (NoSuchCrate word) stops = tt
    word_lawful _ stops = absurd stops

    found_lawful : (error : Error) → FindsWhy given tree err (Err error) → MayEndWhy error
    found_lawful error (inl stops) = why_wanting error (stops_lawful given.command tree err apart err_quiet error stops)
    found_lawful error (inr stops) = word_lawful error stops

    pub tells_lawful : (answer : Result (List CrateRead) Error) → Tells given tree err out answer → EndsBy MayEndWhy answer
    tells_lawful (Ok reads) tells = tt
    tells_lawful (Err error) (inl (found, silent)) = found_lawful error found
    tells_lawful (Err error) (inr cut) = absurd (no_fault out.before out.after error out_quiet cut.refused)
