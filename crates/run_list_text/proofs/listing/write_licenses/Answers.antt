use Rattle.std.proofs.Common.{◌∙◌, ap, map}
use Rattle.run_list_text.specs.Grouped.{entry_of}
use Rattle.run_list_text.specs.Listing.{human_by_license}
use Rattle.run_list_text.proofs.GroupLemmas.{lines_are}
use Rattle.run_list_text.proofs.PendingLemmas.{on_err_text, on_ok_text, three_parts}
use Rattle.run_list_text.proofs.listing.write_licenses.Goals as goal

pub returns-clause-ok : goal.returns-clause-ok
returns-clause-ok g c =
    let crates = c.args.crates.now in
    on_ok_text c.write_lines.result _ _ _ (human_by_license crates)
    (three_parts _ _ _ _ _ c.new-pending.ensures.items
    (lines_are crates _ (ap (λ groups. map entry_of groups) c.items.ensures ∙ c.in_ok-groups.ensures))
    (c.as_slice.ensures.value ∙ c.in_ok-last.ensures))
    c.write_lines.ensures.ok

pub returns-clause-err : goal.returns-clause-err
returns-clause-err g c =
    let crates = c.args.crates.now in
    on_err_text c.write_lines.result _ _ _ (human_by_license crates)
    (three_parts _ _ _ _ _ c.new-pending.ensures.items
    (lines_are crates _ (ap (λ groups. map entry_of groups) c.items.ensures ∙ c.in_ok-groups.ensures))
    (c.as_slice.ensures.value ∙ c.in_ok-last.ensures))
    c.write_lines.ensures.err
