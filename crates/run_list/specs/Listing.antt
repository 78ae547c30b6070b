-- When a listing is the one that a request and the files ask for, and what is written of it.
use Rattle.std.specs.Prelude.{◌≡◌, List, Result, All}
use Rattle.std.specs.List.{AllZip}
use Rattle.diag_core.specs.File.{File}
use Rattle.policy_core.specs.declared.valid.policy.ValidConfig.{ValidConfig}
use Rattle.gather_core.specs.declared.summary.KrateLicense.{KrateLicense}
use Rattle.run_found.specs.declared.error.Error.{Error}
use Rattle.run_found.specs.declared.reads.CrateRead.{CrateRead}
use Rattle.run_found.specs.Hearing.{RequestHearing, TreeSeen}
use Rattle.run_found.specs.Licenses.{ReadsItsFiles}
use Rattle.run_found.specs.Written.{SinkSeen}
use Rattle.run_command.specs.Found.{scanner_of_given}
use Rattle.run_command.specs.Settled.{AnswersSo, IsSettled, WritesOut}
use Rattle.run_list.specs.declared.crates.CrateListing.{CrateListing}
use Rattle.run_list.specs.Given.{ListArguments}
use Rattle.run_list.specs.Listed.{IsReadOf, all_listed, listing_text}

-- What was read asks for this listing: each crate that is asked for is listed, in order, whatever the policy allows,
-- with the licences of what has priority by what the answers to its own reads say; each crate's own files were read,
-- once, and no other file for it; and its reads are answered as they were made.
pub record IsListing (given : ListArguments) (listing : CrateListing) (hearing : RequestHearing) : Type 0 where
  pub policy : ValidConfig
  pub licenses : List KrateLicense
  pub last : List File
  pub settled : IsSettled given.command hearing policy licenses last
  pub listed : listing.crates ≡ all_listed (scanner_of_given given.command policy) policy hearing.crates
  pub files : All (ReadsItsFiles (scanner_of_given given.command policy) policy) hearing.crates
  pub answered : AllZip IsReadOf hearing.crates listing.reads

-- before it is written
abbrev pub FindsListing : ListArguments → TreeSeen → SinkSeen → Result CrateListing Error → Type 0
FindsListing given tree err answer = AnswersSo given.command tree err (IsListing given) answer

-- The listing is written to `out`, and the reads of its crates are answered.
abbrev pub Lists : ListArguments → TreeSeen → SinkSeen → SinkSeen → Result (List CrateRead) Error → Type 0
Lists given tree err out answer =
    WritesOut given.command tree err out (IsListing given) (λ listing. listing_text given listing.crates)
    (λ listing. listing.reads) answer
