use Rattle.std.proofs.Common.{ℕ, List, [], ◌∷◌, ◌++◌, sym, ap, subst, ◌∙◌}
use Rattle.std.specs.FinMap.{insert}
use Rattle.spdx_terms.specs.catalog.Catalog.{entry_of}
use Rattle.spdx_terms.specs.declared.catalog.catalog.LicenseEntry.{LicenseEntry}
use Rattle.spdx_own_names.specs.Index.{HasEntries}
use Rattle.spdx_own_names.specs.IndexView.{entries_listed}
use Rattle.spdx_own_names.proofs.IndexLemmas.{entries_push, one_more_entry}
use Rattle.spdx_own_names.proofs.entries.LicenseList.with.Goals as goal

pub invariant_of-result : goal.invariant_of-result
invariant_of-result c =
    let listed = c.self.inside.listed in
    subst (λ (pairs : List (List ℕ × LicenseEntry)). HasEntries c.insert.new.self pairs)
    (sym (ap entries_listed c.in_ok-push.ensures.ok
    ∙ entries_push listed (record { name = c.in_ok-copy.field-0; entry = c.args.entry })
    ∙ ap (λ (name : List ℕ). entries_listed listed ++ (name, c.args.entry) ∷ []) c.in_ok-copy.ensures))
    (one_more_entry c.self.inside.entries c.insert.new.self (entries_listed listed) c.args.name.now c.args.entry c.self.invariant
    (ap (λ licenses. entry_of licenses c.args.name.now) c.self.view_is ∙ c.requires.new)
    (c.in_ok-insert.ensures.ok ∙ ap (λ key. insert c.self.inside.entries key c.args.entry) c.in_ok-key.ensures))
