-- What holds of the requests of words.
use Rattle.std.specs.Prelude.{◌≡◌, ◌↔◌, List, [], ◌∷◌, Option, option_map, codes}
use Rattle.clap.specs.Words.{Text}
use Rattle.run_request.specs.declared.request.Request.{Request}
use Rattle.run_request.specs.declared.request.Subcommand.{Subcommand}
use Rattle.run_request.specs.declared.request.Subcommand.TheVariants.{Check, List as Listing, Sample, Record, Verify}
use Rattle.run_request.specs.declared.request.Subcommand.TheVariants.{Bill, Notice, Why}
use Rattle.run_request.specs.declared.read.CliAnswer.{CliAnswer}
use Rattle.run_request.specs.Request.{request_of, without_deny}
use Rattle.run_request.specs.Given.{IsGiven}

-- A second word `deny` changes nothing: the words with it and without it have the same answers, where no further `deny`
-- is behind it.
abbrev pub SecondDenyChangesNothing : Type 0
SecondDenyChangesNothing =
    (program : Text) (words : List Text) (cwd : Text) (given : CliAnswer) → without_deny words ≡ words
    → IsGiven (program ∷ codes "deny" ∷ words) cwd given ↔ IsGiven (program ∷ words) cwd given

-- a path of which it is only known that it is there
abbrev pub hidden_path : Option Text → Option Text
hidden_path path = option_map (λ _. []) path

-- a command without a path
abbrev pub command_hidden : Subcommand → Subcommand
command_hidden (Check args) = Check args
command_hidden (Listing args) = Listing args
command_hidden Record = Record
command_hidden (Verify path) = Verify []
command_hidden (Bill args) = Bill (record args { against = hidden_path args.against })
command_hidden Notice = Notice
command_hidden (Why words) = Why words
command_hidden (Sample size) = Sample size

-- the request without the paths that are behind the working folder
abbrev pub without_folder : Request → Request
without_folder request = record request {
  manifest_path = hidden_path request.manifest_path;
  catalog = hidden_path request.catalog;
  store = hidden_path request.store;
  krate_ctx = record request.krate_ctx {
    manifest_path = [];
    metadata_path = hidden_path request.krate_ctx.metadata_path;
    cwd = [];
  };
  command = command_hidden request.command;
}

-- the working folder shows in paths alone
abbrev pub FolderShowsInPaths : Type 0
FolderShowsInPaths = (words : List Text) (one other : Text)
    → option_map without_folder (request_of words one) ≡ option_map without_folder (request_of words other)
