-- The table of refusals: the words of each, and why it comes.
use Rattle.std.specs.Prelude.{ℕ, List, ◌++◌, codes, Result, Ok, Err, ⊤}
use Rattle.tree_core.specs.declared.texts.fault.ReadFault.TheVariants.{Failed}
use Rattle.graph_workspace.specs.declared.error.KratesError.{KratesError}
use Rattle.graph_workspace.specs.declared.error.KratesError.TheVariants as krates
use Rattle.tree_core.specs.texts.Cause.{Cause, no_memory, told, failed_read, refused_write}
use Rattle.policy_load.specs.declared.error.LoadError.{LoadError}
use Rattle.policy_load.specs.declared.error.LoadError.TheVariants as load
use Rattle.run_overrides.specs.declared.error.OverrideError.{OverrideError}
use Rattle.run_overrides.specs.declared.error.OverrideError.TheVariants as overrides
use Rattle.diag_print.specs.declared.printer.PrintError.{PrintError}
use Rattle.diag_print.specs.declared.printer.PrintError.TheVariants as print
use Rattle.tree_core.specs.declared.texts.search.SearchError.{SearchError}
use Rattle.tree_core.specs.declared.texts.search.SearchError.TheVariants as search
use Rattle.graph_workspace.specs.declared.error.UnsupportedPart.TheVariants.{ExcludeSpec}
use Rattle.spdx_own_names.specs.declared.error.ListingError.{ListingError}
use Rattle.spdx_own_names.specs.declared.error.ListingError.TheVariants as listing
use Rattle.spdx_own_names.specs.declared.error.StoreError.{StoreError}
use Rattle.spdx_own_names.specs.declared.error.StoreError.TheVariants as stored
use Rattle.spdx_own_names.specs.declared.error.StoreFault.TheVariants as store
use Rattle.run_found.specs.declared.error.Error.{Error}
use Rattle.run_found.specs.declared.error.Error.TheVariants.{Memory, NotCarried, ManifestPath, ManifestRead}
use Rattle.run_found.specs.declared.error.Error.TheVariants.{CatalogRead, CatalogSyntax, StoreRead, ConfigRead}
use Rattle.run_found.specs.declared.error.Error.TheVariants.{ConfigSyntax, ConfigShape, ConfigInvalid, OverrideTwice}
use Rattle.run_found.specs.declared.error.Error.TheVariants.{MetadataRead, MetadataSyntax, MetadataShape, NoRoots}
use Rattle.run_found.specs.declared.error.Error.TheVariants.{NoSuchCrate, NotAccepted, NoText, RecordRead}
use Rattle.run_found.specs.declared.error.Error.TheVariants.{RecordSyntax, BillText, BillRead, BillSyntax, WriteFault}
use Rattle.run_found.specs.declared.policy.PolicyRefusal.{PolicyRefusal}
use Rattle.run_found.specs.declared.policy.PolicyRefusal.TheVariants as refusal

abbrev pub error_text : Error → List ℕ
error_text Memory = codes "out of memory"
error_text (NotCarried what) = codes "the request is not carried"
error_text (ManifestPath path) = codes "--manifest-path must point to a Cargo.toml file"
error_text (ManifestRead before after) = codes "the manifest could not be looked up"
error_text (CatalogRead fault) = codes "the catalogue could not be read"
error_text (CatalogSyntax line) = codes "the catalogue could not be parsed"
error_text (StoreRead fault) = codes "the license texts could not be read"
error_text (ConfigRead fault) = codes "the policy could not be read"
error_text (ConfigSyntax fault) = codes "the policy could not be parsed"
error_text (ConfigShape faults) = codes "the policy could not be deserialized"
error_text (ConfigInvalid found) = codes "the policy is not valid"
error_text (OverrideTwice name first second) = codes "a code or level is overridden twice"
error_text (MetadataRead fault) = codes "the metadata could not be read"
error_text MetadataSyntax = codes "the metadata could not be parsed"
error_text (MetadataShape fault) = codes "the metadata has not the stated shape"
error_text (NoRoots base excluded unpublished) = codes "no root crate is left"
error_text (NoSuchCrate word) = codes "no crate of the metadata is named so"
error_text (NotAccepted id reads) = codes "a crate is not accepted"
error_text (NoText id key reads own) = codes "a license text is missing"
error_text (RecordRead fault reads) = codes "the record could not be read"
error_text RecordSyntax = codes "the record could not be parsed"
error_text (BillText id) = codes "a crate name does not fit the bill"
error_text (BillRead fault reads) = codes "the bill could not be read"
error_text BillSyntax = codes "the bill could not be parsed"
error_text (WriteFault before after) = codes "writing failed"

-- what is written after a refusal
abbrev pub fault_line : Error → List ℕ
fault_line error = codes "error: " ++ error_text error ++ codes "\n"

-- A failed read of a verdict file or of a bill is reported by what is read of the file: its counts are not those since
-- the run began.
abbrev pub cause_of : Error → Cause
cause_of Memory = no_memory
cause_of (ManifestRead before after) = failed_read before after
cause_of (CatalogRead (Failed before after)) = failed_read before after
cause_of (StoreRead (store.Failed before after)) = failed_read before after
cause_of (ConfigRead (Failed before after)) = failed_read before after
cause_of (MetadataRead (Failed before after)) = failed_read before after
cause_of (WriteFault before after) = refused_write before after
cause_of _ = told

-- it may end a run over lawful input without a fault
abbrev pub MayEndLawful : Cause → Type 0
MayEndLawful no_memory = Unit {0}
MayEndLawful _ = ⊥

-- there is an answer, or a refusal that may end such a run
abbrev pub EndsLawful : {A : Type 0} → Result A Error → Type 0
EndsLawful {A} (Ok answer) = ⊤
EndsLawful {A} (Err error) = MayEndLawful (cause_of error)

-- ---- the errors of steps

-- why there are no crates
abbrev pub error_of_krates : KratesError → Error
error_of_krates krates.Memory = Memory
error_of_krates (krates.NotCarried what) = NotCarried what
error_of_krates (krates.MetadataRead fault) = MetadataRead fault
error_of_krates krates.MetadataSyntax = MetadataSyntax
error_of_krates (krates.MetadataShape fault) = MetadataShape fault
error_of_krates (krates.NoRoots base excluded unpublished) = NoRoots base excluded unpublished

-- why there is no catalogue
abbrev pub error_of_listing : ListingError → Error
error_of_listing (listing.Syntax line) = CatalogSyntax line
error_of_listing listing.Memory = Memory

-- why there are no licence texts
abbrev pub error_of_store : StoreError → Error
error_of_store (stored.Fault fault) = StoreRead fault
error_of_store stored.Memory = Memory

-- why a file was not looked for
abbrev pub error_of_search : SearchError → Error
error_of_search (search.Failed before after) = ConfigRead (Failed before after)
error_of_search search.Memory = Memory

-- why a policy was not loaded
abbrev pub error_of_load : LoadError → Error
error_of_load load.Memory = Memory
error_of_load (load.ConfigRead fault) = ConfigRead fault
error_of_load (load.ConfigSyntax fault) = ConfigSyntax fault
error_of_load (load.ConfigShape faults) = ConfigShape faults
error_of_load load.NotCarried = NotCarried ExcludeSpec
error_of_load (load.ConfigInvalid found) = ConfigInvalid found
error_of_load (load.WriteFault before after) = WriteFault before after

-- why findings were not printed
abbrev pub error_of_print : PrintError → Error
error_of_print print.Memory = Memory
error_of_print (print.WriteFault before after) = WriteFault before after

-- why no overrides were made
abbrev pub error_of_override : OverrideError → Error
error_of_override overrides.Memory = Memory
error_of_override (overrides.OverrideTwice name first second) = OverrideTwice name first second

-- why no policy was found
abbrev pub error_of_policy : PolicyRefusal → Error
error_of_policy refusal.Memory = Memory
error_of_policy (refusal.Search error) = error_of_search error
error_of_policy (refusal.Load error) = error_of_load error
