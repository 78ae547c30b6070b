-- What a run over a request for a sample answers and writes.
use Rattle.std.specs.Prelude.{◌≡◌, ℕ, List, Result, Ok, Err}
use Rattle.tree_core.specs.declared.texts.fault.ReadFault.TheVariants.{Absent}
use Rattle.spdx_terms.specs.catalog.Catalog.{CatalogLists}
use Rattle.spdx_terms.specs.declared.catalog.identifier.Match.{Match}
use Rattle.run_found.specs.declared.error.Error.{Error}
use Rattle.run_found.specs.declared.error.Error.TheVariants.{ConfigRead}
use Rattle.run_found.specs.Error.{cause_of}
use Rattle.run_found.specs.Written.{SinkSeen}
use Rattle.run_check.specs.declared.report.Report.{Report}
use Rattle.run_sample.specs.Sample.{IsSampleComplete, IsSampled, IsUnfailed, IsWholeSample, WritesLines}
use Rattle.deny_run.specs.Seen.{IsStill}

-- the report is that of a check of the sample, and its four lines were written, and nothing else
pub record ReportsSample (size : ℕ) (lists : CatalogLists) (match_of : List ℕ → Match) (out err : SinkSeen)
    (report : Report) : Type 0 where
  pub is : IsSampled size lists match_of report
  pub lines : WritesLines size lists match_of out.old out.new out.before out.after (Ok report)
  pub still : IsStill err

-- The sample was refused: for want of memory, for a refused write, or where the catalogue that is handed in lacks a
-- name of its policy; with the built-in catalogue for the first two alone. No refusal comes of a failed read, nor of a
-- policy that is not there.
pub record RefusesSample (size : ℕ) (lists : CatalogLists) (match_of : List ℕ → Match) (out err : SinkSeen)
    (error : Error) : Type 0 where
  pub lines : WritesLines size lists match_of out.old out.new out.before out.after (Err error)
  pub unfailed : IsUnfailed (cause_of error)
  pub complete : IsSampleComplete size lists match_of (Err error)
  pub built_in : IsWholeSample size lists (Err error)
  pub there : error ≡ ConfigRead Absent → ⊥
  pub still : IsStill err

abbrev pub Samples : ℕ → CatalogLists → (List ℕ → Match) → SinkSeen → SinkSeen → Result Report Error → Type 0
Samples size lists match_of out err (Ok report) = ReportsSample size lists match_of out err report
Samples size lists match_of out err (Err error) = RefusesSample size lists match_of out err error
