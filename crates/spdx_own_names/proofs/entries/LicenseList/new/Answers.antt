use Rattle.std.proofs.Common.{List, sym, subst}
use Rattle.spdx_own_names.specs.Index.{HasEntries}
use Rattle.spdx_own_names.specs.IndexView.{entries_listed}
use Rattle.spdx_own_names.specs.declared.entries.NamedEntry.{NamedEntry}
use Rattle.spdx_own_names.proofs.IndexLemmas.{no_entries}
use Rattle.spdx_own_names.proofs.entries.LicenseList.new.Goals as goal

pub invariant_of-result : goal.invariant_of-result
invariant_of-result c = subst (λ (listed : List NamedEntry). HasEntries c.new-2.result (entries_listed listed)) (sym c.new.ensures) (no_entries c.new-2.result c.new-2.ensures)
