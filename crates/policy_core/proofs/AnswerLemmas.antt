-- The same where a call ends well, by its answer.
use Rattle.std.proofs.Common.{◌≡◌, true, ℕ, List, [], ◌∷◌, ◌++◌, length, Ok, Err, Result}
use Rattle.std.specs.Prelude.{OnOk}
use Rattle.std.specs.declared.alloc.AllocError.{AllocError}
use Rattle.spdx_terms.specs.catalog.Catalog.{CatalogLists}
use Rattle.diag_core.specs.File.{File}
use Rattle.diag_core.specs.declared.diagnostic.Diagnostic.{Diagnostic}
use Rattle.toml_subset.specs.Reading.{read_text}
use Rattle.policy_core.specs.declared.valid.policy.ValidConfig.{ValidConfig}
use Rattle.policy_core.specs.Exceptions.{HasMoreEntries}
use Rattle.policy_core.specs.ExceptionsText.{ExceptionsAnswer, HadMemory, ReadsBy, answer_exceptions, answer_overlays, diagnostics_of}
use Rattle.policy_core.specs.Heard.{TakesExceptions}
use Rattle.policy_core.specs.validate.Order.{AddsInOrder, PutsExceptionInOrder, PutsFilesInOrder}
use Rattle.policy_core.specs.declared.exceptions.ExceptionsHeard.TheVariants.{Heard}
use Rattle.policy_core.proofs.ExceptionLemmas.{text_taken}

abbrev Done : Type 0
Done = Result (Unit {0}) AllocError

pub on_ok : (result : Done) (P : Type 0) → P → OnOk result P
on_ok (Ok done) P p = p
on_ok (Err error) P p = tt

pub taken : (result : Done) (lists : CatalogLists) (path text : List ℕ) (file : ℕ) (answer : ExceptionsAnswer) (policy : ValidConfig) (files : List File) (found : List Diagnostic)
    (licenses : ValidConfig) (more : List File) (further : List Diagnostic)
    → OnOk result (HadMemory answer) → HasMoreEntries policy licenses
    → OnOk result (AddsInOrder PutsFilesInOrder (answer_overlays lists file answer) policy.clarifications licenses.clarifications)
    → OnOk result (AddsInOrder PutsExceptionInOrder (answer_exceptions file answer) policy.exceptions licenses.exceptions)
    → OnOk result (further ≡ found ++ diagnostics_of lists policy.version file answer)
    → ReadsBy lists (read_text text) answer → file ≡ length files
    → more ≡ files ++ record { name = path; source = text; has_path = true } ∷ []
    → OnOk result (TakesExceptions lists (Heard path (Ok text)) (record { policy = policy; files = files; found = found })
    (record { policy = licenses; files = more; found = further }))
taken (Ok done) lists path text file answer policy files found licenses more further is has overlays kept told reads number added =
    text_taken lists path text file answer policy files found licenses more further reads is number has overlays kept added told
taken (Err error) lists path text file answer policy files found licenses more further is has overlays kept told reads number added = tt
