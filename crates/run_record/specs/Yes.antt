-- What a yes of verifying says.
use Rattle.std.specs.Prelude.{◌≡◌, ℕ, List, All}
use Rattle.std.specs.List.{AllZip}
use Rattle.diag_core.specs.File.{File}
use Rattle.graph_core.specs.Krate.{ids_in}
use Rattle.policy_core.specs.valid.View.{policy_of}
use Rattle.policy_core.specs.declared.valid.policy.ValidConfig.{ValidConfig}
use Rattle.gather_core.specs.Calls.{ReadsOfCrate}
use Rattle.gather_core.specs.declared.summary.KrateLicense.{KrateLicense}
use Rattle.check_record.specs.Decoded.{Spells}
use Rattle.check_record.specs.Items.{ids_of}
use Rattle.check_record.specs.declared.items.RecordItem.{RecordItem}
use Rattle.check_verify.specs.Right.{IsRightOf}
use Rattle.run_found.specs.Hearing.{RequestHearing}
use Rattle.run_found.specs.Licenses.{ReadsItsFiles, counted_heard, expression_in, priority_heard}
use Rattle.run_command.specs.Found.{scanner_of_given}
use Rattle.run_command.specs.Given.{CommandArguments}
use Rattle.run_command.specs.Settled.{IsSettled}

-- The recorded verdict of a crate, by a valid policy: it is the one that the policy gives the crate's record and the
-- expression that has priority by what the answers to the crate's own reads say, by the exceptions that count by these
-- answers, and what is recorded beside it shows it.
abbrev pub IsRecordedRight : CommandArguments → ValidConfig → ReadsOfCrate → RecordItem → Type 0
IsRecordedRight given policy one item =
    IsRightOf (policy_of policy) one.krate (counted_heard policy one)
    (expression_in (priority_heard (scanner_of_given given policy) policy one)) item

-- The bytes of a verdict file are the spelling of a record. What was read asks for these crates, whose licences were
-- settled by the policy that was found, its lists in order; each crate's own files were read, once, and no other file
-- for it. The record's ids are just those of the crates that are asked for, and each crate has its recorded verdict, in
-- the same order.
pub record TellsRight (given : CommandArguments) (hearing : RequestHearing) (bytes : List ℕ) : Type 0 where
  pub items : List RecordItem
  pub spells : Spells bytes items
  pub policy : ValidConfig
  pub licenses : List KrateLicense
  pub last : List File
  pub settled : IsSettled given hearing policy licenses last
  pub files : All (ReadsItsFiles (scanner_of_given given policy) policy) hearing.crates
  pub ids : ids_of items ≡ ids_in settled.asked.crates
  pub verdicts : AllZip (IsRecordedRight given policy) hearing.crates items
