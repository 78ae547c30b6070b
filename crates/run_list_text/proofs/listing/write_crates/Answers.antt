use Rattle.run_list_text.specs.Listing.{human_by_crate}
use Rattle.run_list_text.proofs.PendingLemmas.{all_of_nothing, on_err_text, on_ok_text}
use Rattle.run_list_text.proofs.listing.write_crates.Goals as goal

pub returns-clause-ok : goal.returns-clause-ok
returns-clause-ok g c = on_ok_text c.write_lines.result _ _ _ (human_by_crate c.args.crates.now) (all_of_nothing _ _ c.new-pending.ensures.items) c.write_lines.ensures.ok

pub returns-clause-err : goal.returns-clause-err
returns-clause-err g c = on_err_text c.write_lines.result _ _ _ (human_by_crate c.args.crates.now) (all_of_nothing _ _ c.new-pending.ensures.items) c.write_lines.ensures.err
