-- What is printed behind the line of a refusal: where it comes from, and what to do.
use Rattle.std.specs.Prelude.{ℕ, ◌+◌, Bool, true, false, ◌&&◌, List, [], ◌∷◌, ◌++◌, Option, Some, None, Result, Ok, Err}
use Rattle.std.specs.Prelude.{codes, decimal}
use Rattle.std.specs.Str.{bytes_eq}
use Rattle.deny_text.specs.Path.{join_of}
use Rattle.diag_core.specs.declared.position.FilesErr.{FilesErr}
use Rattle.diag_core.specs.declared.position.Location.{Location}
use Rattle.diag_core.specs.declared.severity.Severity.{Severity}
use Rattle.diag_core.specs.Position.{location_of}
use Rattle.diag_print.specs.Human.{flat_text}
use Rattle.graph_metadata.specs.declared.fault.MetaFault.{MetaFault}
use Rattle.graph_metadata.specs.declared.fault.MetaReason.{MetaReason}
use Rattle.graph_metadata.specs.declared.fault.MetaReason.TheVariants as reason
use Rattle.run_found.specs.declared.error.Error.{Error}
use Rattle.run_found.specs.declared.error.Error.TheVariants.{Memory, NotCarried, ManifestPath, ManifestRead}
use Rattle.run_found.specs.declared.error.Error.TheVariants.{CatalogRead, CatalogSyntax, StoreRead, ConfigRead}
use Rattle.run_found.specs.declared.error.Error.TheVariants.{ConfigSyntax, ConfigShape, ConfigInvalid, OverrideTwice}
use Rattle.run_found.specs.declared.error.Error.TheVariants.{MetadataRead, MetadataSyntax, MetadataShape, NoRoots}
use Rattle.run_found.specs.declared.error.Error.TheVariants.{NoSuchCrate, NotAccepted, NoText, RecordRead}
use Rattle.run_found.specs.declared.error.Error.TheVariants.{RecordSyntax, BillText, BillRead, BillSyntax, WriteFault}
use Rattle.run_request.specs.declared.request.Request.{Request}
use Rattle.run_request.specs.declared.request.Subcommand.{Subcommand}
use Rattle.run_request.specs.declared.request.Subcommand.TheVariants.{Verify, Bill}
use Rattle.spdx_own_names.specs.declared.error.StoreFault.{StoreFault}
use Rattle.spdx_own_names.specs.declared.error.StoreFault.TheVariants as store
use Rattle.toml_subset.specs.declared.error.SyntaxError.{SyntaxError}
use Rattle.tree_core.specs.declared.texts.fault.ReadFault.{ReadFault}
use Rattle.refusal_help.specs.declared.again.Again.{Again}
use Rattle.refusal_help.specs.Unknown.{names_unknown}
use Rattle.refusal_help.specs.Words.{built_in_words, fault_words, level_option, line_words, manifest_words, own_words}
use Rattle.refusal_help.specs.Words.{policy_words, read_words, reason_words, store_words, what_words}

-- ---- lines

-- what is so of a file, or at a place in it; a blank is in place of each LF of a path, a key or a name
abbrev pub at_file : List ℕ → List ℕ → List ℕ
at_file file words = codes "  --> " ++ flat_text file ++ codes ": " ++ flat_text words ++ codes "\n"

-- nothing where the path is not known
abbrev pub at_file_if : Option (List ℕ) → List ℕ → List ℕ
at_file_if (Some file) words = at_file file words
at_file_if None words = []

-- what to do
abbrev pub advice : List ℕ → List ℕ
advice words = codes "  = " ++ flat_text words ++ codes "\n"

-- ---- places

abbrev pub found_at : Result Location FilesErr → Option Location
found_at (Ok at) = Some at
found_at (Err error) = None

-- the line and the column of a place of a text, where the text was read and has the place
abbrev pub place_in : Option (List ℕ) → ℕ → Option Location
place_in (Some text) place = found_at (location_of place text)
place_in None place = None

-- a policy at a line and a column, both from 1
abbrev pub line_and_column : List ℕ → Location → List ℕ
line_and_column file at = file ++ codes ":" ++ decimal (at.line + 1) ++ codes ":" ++ decimal (at.column + 1)

-- a fault of its text: at a line and a column, or else at a byte
abbrev pub fault_at : List ℕ → Option Location → ℕ → List ℕ → List ℕ
fault_at file (Some at) place words = at_file (line_and_column file at) words
fault_at file None place words = at_file file (codes "at byte " ++ decimal place ++ codes ": " ++ words)

abbrev pub syntax_help : Option (List ℕ) → Option (List ℕ) → SyntaxError → List ℕ
syntax_help (Some file) text fault =
    fault_at file (place_in text fault.span.start) fault.span.start (reason_words fault.reason)
syntax_help None text fault = []

-- ---- the policy

-- what is so of it; where its path is not known that is told without
abbrev pub policy_help : Option (List ℕ) → ReadFault → List ℕ
policy_help (Some file) fault = at_file file (policy_words fault)
policy_help None fault = advice (codes "the policy " ++ policy_words fault)

-- ---- the catalogue and the licence texts

-- a fault of the catalogue's file, at a line from 1
abbrev pub line_help : Option (List ℕ) → ℕ → List ℕ
line_help (Some file) line = at_file (file ++ codes ":" ++ decimal line) line_words
line_help None line = []

-- what was not read: the folder, or a file in it
abbrev pub store_place : List ℕ → StoreFault → List ℕ
store_place folder (store.NotUtf8 name) = join_of folder name
store_place folder _ = folder

abbrev pub store_help : Option (List ℕ) → StoreFault → List ℕ
store_help (Some folder) fault = at_file (store_place folder fault) (store_words fault)
store_help None fault = []

-- which catalogue lacks a licence, and how it comes to have it
abbrev pub catalog_words : Option (List ℕ) → List ℕ
catalog_words (Some file) = own_words file
catalog_words None = built_in_words

abbrev pub unknown_help : Option (List ℕ) → Bool → List ℕ
unknown_help catalog true = advice (catalog_words catalog)
unknown_help catalog false = []

-- ---- metadata

-- a place of metadata with a blank behind it; the root is nothing
abbrev pub place_text : List ℕ → List ℕ
place_text [] = []
place_text (byte ∷ place) = (byte ∷ place) ++ codes " "

abbrev pub is_kind_fault : MetaReason → Bool
is_kind_fault reason.WrongKind = true
is_kind_fault _ = false

-- a `resolve` that is null, as cargo writes it where it looks at no dependencies
abbrev pub is_unresolved : MetaFault → Bool
is_unresolved fault = is_kind_fault fault.fault && bytes_eq fault.place (codes "/resolve")

abbrev pub resolve_help : Bool → List ℕ
resolve_help true = advice (codes "cargo metadata was run with --no-deps: run it without")
resolve_help false = []

abbrev pub shape_help : Option (List ℕ) → MetaFault → List ℕ
shape_help file fault =
    at_file_if file (place_text fault.place ++ fault_words fault.fault) ++ resolve_help (is_unresolved fault)

-- ---- a verdict file, and a bill

-- the file whose verdicts are verified, or the bill that is compared with
abbrev pub file_of : Subcommand → Option (List ℕ)
file_of (Verify file) = Some file
file_of (Bill args) = args.against
file_of _ = None

-- a crate whose name no bill has
abbrev pub name_help : List ℕ → List ℕ
name_help id = advice (id ++ codes ": its name is empty or has the end of a line")

-- ---- what verdicts rest on

-- a word that names no crate
abbrev pub named_help : List ℕ → List ℕ
named_help word = advice (codes "'" ++ word ++ codes "' is no crate's name, name@version or name:version")

-- ---- a notice

-- a crate that is not accepted
abbrev pub accepted_help : List ℕ → List ℕ
accepted_help id = advice (id ++ codes " is rejected or unlicensed: check licenses says why")

-- where the text of a key would be in a folder of texts
abbrev pub text_place : List ℕ → List ℕ → List ℕ
text_place folder key = join_of folder (key ++ codes ".txt")

-- a licence of a crate for which there is no text: in a folder of texts, where it would be, or among the built-in ones
abbrev pub absent_words : List ℕ → List ℕ → List ℕ
absent_words id key =
    codes "there is no such text, and " ++ id ++ codes " has no file that is identified as " ++ key

abbrev pub absent_help : List ℕ → List ℕ → List ℕ → List ℕ
absent_help place id key = at_file place (absent_words id key)

abbrev pub unstored_help : List ℕ → List ℕ → List ℕ
unstored_help id key =
    advice (id ++ codes " has no file that is identified as " ++ key
    ++ codes ", and no stored text has this name: cargo deny --store DIR names others")

abbrev pub missing_help : Option (List ℕ) → List ℕ → List ℕ → List ℕ
missing_help (Some folder) id key = absent_help (text_place folder key) id key
missing_help None id key = unstored_help id key

-- ---- counts and levels

-- how many crates could be roots, and how many are left out
abbrev pub roots_words : ℕ → ℕ → ℕ → List ℕ
roots_words base excluded unpublished =
    codes "root crates: " ++ decimal base ++ codes "; left out by name: " ++ decimal excluded
    ++ codes "; published nowhere: " ++ decimal unpublished

abbrev pub roots_help : ℕ → ℕ → ℕ → List ℕ
roots_help base excluded unpublished = advice (roots_words base excluded unpublished)

abbrev pub twice_help : List ℕ → Severity → Severity → List ℕ
twice_help name first second =
    advice (codes "'" ++ name ++ codes "' is given twice: to " ++ level_option first ++ codes " and to "
    ++ level_option second)

-- ---- the whole

-- By the request and by what was read of the policy behind the run. A policy whose shape is wrong, or that is not
-- valid, was reported before the line, with its places; a refused write and want of memory have no help.
unfoldable pub help_of : Request → Again → Error → List ℕ
help_of request again Memory = []
help_of request again (NotCarried what) = advice (what_words what)
help_of request again (ManifestPath path) = at_file path (manifest_words path)
help_of request again (ManifestRead before after) =
    at_file request.krate_ctx.manifest_path (codes "could not be looked at")
help_of request again (CatalogRead fault) = at_file_if request.catalog (read_words fault)
help_of request again (CatalogSyntax line) = line_help request.catalog line
help_of request again (StoreRead fault) = store_help request.store fault
help_of request again (ConfigRead fault) = policy_help again.policy fault
help_of request again (ConfigSyntax fault) = syntax_help again.policy again.text fault
help_of request again (ConfigShape faults) = unknown_help request.catalog (names_unknown (ConfigShape faults))
help_of request again (ConfigInvalid found) = unknown_help request.catalog (names_unknown (ConfigInvalid found))
help_of request again (OverrideTwice name first second) = twice_help name first second
help_of request again (MetadataRead fault) = at_file_if request.krate_ctx.metadata_path (read_words fault)
help_of request again MetadataSyntax = at_file_if request.krate_ctx.metadata_path (codes "is no JSON")
help_of request again (MetadataShape fault) = shape_help request.krate_ctx.metadata_path fault
help_of request again (NoRoots base excluded unpublished) = roots_help base excluded unpublished
help_of request again (NoSuchCrate word) = named_help word
help_of request again (NotAccepted id reads) = accepted_help id
help_of request again (NoText id key reads own) = missing_help request.store id key
help_of request again (RecordRead fault reads) = at_file_if (file_of request.command) (read_words fault)
help_of request again RecordSyntax = at_file_if (file_of request.command) (codes "is no verdict file")
help_of request again (BillText id) = name_help id
help_of request again (BillRead fault reads) = at_file_if (file_of request.command) (read_words fault)
help_of request again BillSyntax = at_file_if (file_of request.command) (codes "is no bill of this program")
help_of request again (WriteFault before after) = []
