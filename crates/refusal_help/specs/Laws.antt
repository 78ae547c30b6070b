-- What holds of the lines of help.
use Rattle.std.specs.Prelude.{◌≡◌, ℕ, ◌+◌, ◌≤◌, Bool, true, false, List, ◌++◌, Option, Some, None, All, codes, length}
use Rattle.std.specs.List.{flat_map, list_any}
use Rattle.diag_core.specs.Position.{is_line_feed}
use Rattle.run_found.specs.declared.error.Error.{Error}
use Rattle.run_found.specs.declared.error.Error.TheVariants.{Memory, NotCarried, ManifestPath, ManifestRead}
use Rattle.run_found.specs.declared.error.Error.TheVariants.{CatalogRead, CatalogSyntax, StoreRead, ConfigRead}
use Rattle.run_found.specs.declared.error.Error.TheVariants.{ConfigSyntax, ConfigShape, ConfigInvalid, OverrideTwice}
use Rattle.run_found.specs.declared.error.Error.TheVariants.{MetadataRead, MetadataSyntax, MetadataShape, NoRoots}
use Rattle.run_found.specs.declared.error.Error.TheVariants.{NoSuchCrate, NotAccepted, NoText, RecordRead}
use Rattle.run_found.specs.declared.error.Error.TheVariants.{RecordSyntax, BillText, BillRead, BillSyntax, WriteFault}
use Rattle.run_request.specs.declared.request.Request.{Request}
use Rattle.refusal_help.specs.declared.again.Again.{Again}
use Rattle.refusal_help.specs.Help.{help_of, is_unresolved, file_of}
use Rattle.refusal_help.specs.Unknown.{names_unknown}

-- a line of help: two blanks, and then no LF
pub record IsHelpLine (line : List ℕ) : Type 0 where
  pub words : List ℕ
  pub begins : line ≡ codes "  " ++ words
  pub whole : list_any is_line_feed line ≡ false

-- a line with its LF
abbrev pub with_end : List ℕ → List ℕ
with_end line = line ++ codes "\n"

-- so many such lines, each with its LF
pub record AreHelpLines (count : ℕ) (text : List ℕ) : Type 0 where
  pub lines : List (List ℕ)
  pub number : length lines ≡ count
  pub each : All IsHelpLine lines
  pub text_is : text ≡ flat_map with_end lines

-- ---- how many lines the table has

-- one where a path is known
abbrev pub if_known : Option (List ℕ) → ℕ
if_known (Some path) = 1
if_known None = 0

abbrev pub if_so : Bool → ℕ
if_so true = 1
if_so false = 0

unfoldable pub line_count : Request → Again → Error → ℕ
line_count request again Memory = 0
line_count request again (NotCarried what) = 1
line_count request again (ManifestPath path) = 1
line_count request again (ManifestRead before after) = 1
line_count request again (CatalogRead fault) = if_known request.catalog
line_count request again (CatalogSyntax line) = if_known request.catalog
line_count request again (StoreRead fault) = if_known request.store
line_count request again (ConfigRead fault) = 1
line_count request again (ConfigSyntax fault) = if_known again.policy
line_count request again (ConfigShape faults) = if_so (names_unknown (ConfigShape faults))
line_count request again (ConfigInvalid found) = if_so (names_unknown (ConfigInvalid found))
line_count request again (OverrideTwice name first second) = 1
line_count request again (MetadataRead fault) = if_known request.krate_ctx.metadata_path
line_count request again MetadataSyntax = if_known request.krate_ctx.metadata_path
line_count request again (MetadataShape fault) =
    if_known request.krate_ctx.metadata_path + if_so (is_unresolved fault)
line_count request again (NoRoots base excluded unpublished) = 1
line_count request again (NoSuchCrate word) = 1
line_count request again (NotAccepted id reads) = 1
line_count request again (NoText id key reads own) = 1
line_count request again (RecordRead fault reads) = if_known (file_of request.command)
line_count request again RecordSyntax = if_known (file_of request.command)
line_count request again (BillText id) = 1
line_count request again (BillRead fault reads) = if_known (file_of request.command)
line_count request again BillSyntax = if_known (file_of request.command)
line_count request again (WriteFault before after) = 0

-- ---- the law

-- help is that many lines, and these are two at most
pub record HelpIsLines (request : Request) (again : Again) (error : Error) : Type 0 where
  pub lines : AreHelpLines (line_count request again error) (help_of request again error)
  pub few : line_count request again error ≤ 2

abbrev pub HelpHasItsLines : Type 0
HelpHasItsLines = (request : Request) (again : Again) (error : Error) → HelpIsLines request again error
