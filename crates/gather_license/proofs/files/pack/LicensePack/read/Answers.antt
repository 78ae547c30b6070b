use Rattle.std.proofs.Common.{[], ap, subst, ◌∙◌}
use Rattle.std.specs.List.{fold}
use Rattle.tree_core.specs.file_reads.Views.{heard_folder}
use Rattle.gather_license.specs.files.Calls.{TakesIn}
use Rattle.gather_license.specs.files.Steps.{with_path}
use Rattle.gather_license.specs.files.View.{PackView, paths_read}
use Rattle.gather_license.proofs.files.CallLemmas.{begins_with, made_found, on_err, starves_found, starves_listed, starves_listing}
use Rattle.gather_license.proofs.files.pack.LicensePack.read.Goals as goal

pub returns-clause-begins : goal.returns-clause-begins
returns-clause-begins g c =
    let pack = c.in_ok-pack.pack in
    let goes = c.in_ok-pack.ensures.goes in
    begins_with c.args.folder.now _ (heard_folder c.in_ok-listing.listing) goes.reads pack
    (subst (λ (first : PackView). TakesIn goes.reads first pack) c.in_ok-listed.ensures goes.takes)
    (c.in_ok-pack.ensures.paths
    ∙ ap (λ (first : PackView). fold with_path (paths_read first.reads) c.items.result.now) c.in_ok-listed.ensures
    ∙ ap (fold with_path []) (c.items.ensures ∙ c.in_ok-names.ensures))

pub returns-clause-made : goal.returns-clause-made
returns-clause-made g c =
    made_found c.args.folder.now (heard_folder c.in_ok-listing.listing) c.in_ok-listed.listed c.in_ok-pack.pack c.in_ok-listed.ensures
    c.in_ok-listing.ensures.listed c.list_folder.ensures.made c.in_ok-pack.ensures.goes

pub returns-in_err-listing-clause-no_memory : goal.returns-in_err-listing-clause-no_memory
returns-in_err-listing-clause-no_memory g c = on_err c.from_residual.result _ (starves_listing c.args.folder.now _ c.in_err-listing.ensures.no_memory c.list_folder.ensures.made)

pub returns-in_err-names-clause-no_memory : goal.returns-in_err-names-clause-no_memory
returns-in_err-names-clause-no_memory g c =
    on_err c.from_residual-in_err-names.result _ (starves_listed c.args.folder.now _ (heard_folder c.in_ok-listing.listing) c.in_ok-listing.ensures.listed c.list_folder.ensures.made)

pub returns-in_err-listed-clause-no_memory : goal.returns-in_err-listed-clause-no_memory
returns-in_err-listed-clause-no_memory g c =
    on_err c.from_residual-in_err-listed.result _ (starves_listed c.args.folder.now _ (heard_folder c.in_ok-listing.listing) c.in_ok-listing.ensures.listed c.list_folder.ensures.made)

pub returns-in_err-pack-clause-no_memory : goal.returns-in_err-pack-clause-no_memory
returns-in_err-pack-clause-no_memory g c =
    on_err c.from_residual-in_err-pack.result _ (starves_found c.args.folder.now _ (heard_folder c.in_ok-listing.listing) c.in_ok-listed.listed c.items.result.now c.in_ok-listed.ensures
    (c.items.ensures ∙ c.in_ok-names.ensures) c.in_ok-listing.ensures.listed c.list_folder.ensures.made c.in_err-pack.ensures.no_memory)
