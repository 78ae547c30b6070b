use Rattle.std.proofs.Common.{◌++◌, ◌∙◌, All, ap, flat_map, subst, sym}
use Rattle.graph_core.specs.Metadata.{AreRising}
use Rattle.run_list_text.specs.Listed.{all_licenses}
use Rattle.run_list_text.specs.Listing.{crate_row, head_row, table_of}
use Rattle.run_list_text.specs.Marks.{HasColumns}
use Rattle.run_list_text.proofs.MarkLemmas.{all_have_columns}
use Rattle.run_list_text.proofs.PendingLemmas.{front_known, on_err_text, on_ok_text}
use Rattle.run_list_text.proofs.listing.write_table.Goals as goal

pub write_lines-requires-clause-fits : goal.write_lines-requires-clause-fits
write_lines-requires-clause-fits g c =
    let crates = c.args.crates.now in
    let known = c.in_ok-columns.ensures.licenses in
    subst (λ columns. All (λ listed. HasColumns columns listed.licenses) crates) (sym (c.items-2.ensures ∙ known))
    (all_have_columns crates (subst AreRising known c.in_ok-columns.ensures.ordered) c.requires.ordered)

pub returns-clause-ok : goal.returns-clause-ok
returns-clause-ok g c =
    let crates = c.args.crates.now in
    let known = c.in_ok-columns.ensures.licenses in
    on_ok_text c.write_lines.result _ _ _ (table_of crates)
    (front_known _ (head_row (all_licenses crates)) _ (c.in_ok-pending.ensures ∙ ap head_row (c.items.ensures ∙ known))
    ∙ ap (λ columns. head_row (all_licenses crates) ++ flat_map (crate_row columns) crates) (c.items-2.ensures ∙ known))
    c.write_lines.ensures.ok

pub returns-clause-err : goal.returns-clause-err
returns-clause-err g c =
    let crates = c.args.crates.now in
    let known = c.in_ok-columns.ensures.licenses in
    on_err_text c.write_lines.result _ _ _ (table_of crates)
    (front_known _ (head_row (all_licenses crates)) _ (c.in_ok-pending.ensures ∙ ap head_row (c.items.ensures ∙ known))
    ∙ ap (λ columns. head_row (all_licenses crates) ++ flat_map (crate_row columns) crates) (c.items-2.ensures ∙ known))
    c.write_lines.ensures.err
