use Rattle.std.proofs.Common.{◌≡◌, ◌∙◌, None, ap, sym}
use Rattle.tree_core.specs.file_reads.Views.{heard_file}
use Rattle.diag_core.specs.File.{file_id_at}
use Rattle.gather_license.proofs.location.CallLemmas.{located_in_table, located_read, on_err, starves_read, starves_unread}
use Rattle.gather_license.proofs.location.location.locate.Goals as goal

pub returns-in-Some-clause-answered : goal.returns-in-Some-clause-answered
returns-in-Some-clause-answered g c =
    rw c.locate_in.ensures.same (located_in_table _ _ _ _ _ _ c.in-Some.id _ (sym c.in-Some.is ∙ c.looked_up-there.ensures.number ∙ ap (file_id_at c.args.files.now) c.as_path.ensures) c.locate_in.ensures.located)

pub returns-in_ok-located-in-None-clause-answered : goal.returns-in_ok-located-in-None-clause-answered
returns-in_ok-located-in-None-clause-answered g c =
    let none : None ≡ file_id_at c.args.files.now c.args.path.now = sym c.in-None.is ∙ c.looked_up-there.ensures.number ∙ ap (file_id_at c.args.files.now) c.as_path.ensures in
    located_read c.args.path.now c.args.field.now c.args.files.now (heard_file c.in_ok-heard-in-None.heard) c.in_ok-located-in-None.located c.locate_heard.new.files
    none c.in_ok-located-in-None.ensures.located c.in_ok-located-in-None.ensures.files c.in_ok-heard-in-None.ensures.read c.read_manifest.ensures.made

pub returns-in_err-located-in-None-clause-no_memory : goal.returns-in_err-located-in-None-clause-no_memory
returns-in_err-located-in-None-clause-no_memory g c =
    let none : None ≡ file_id_at c.args.files.now c.args.path.now = sym c.in-None.is ∙ c.looked_up-there.ensures.number ∙ ap (file_id_at c.args.files.now) c.as_path.ensures in
    on_err c.from_residual-in_err-located-in-None.result _
    (starves_read c.args.path.now c.args.field.now c.args.files.now (heard_file c.in_ok-heard-in-None.heard) none c.in_ok-heard-in-None.ensures.read c.read_manifest.ensures.made)

pub returns-in_err-heard-in-None-clause-no_memory : goal.returns-in_err-heard-in-None-clause-no_memory
returns-in_err-heard-in-None-clause-no_memory g c =
    let none : None ≡ file_id_at c.args.files.now c.args.path.now = sym c.in-None.is ∙ c.looked_up-there.ensures.number ∙ ap (file_id_at c.args.files.now) c.as_path.ensures in
    on_err c.from_residual.result _
    (starves_unread c.args.path.now c.args.field.now c.args.files.now none c.in_err-heard-in-None.ensures.no_memory c.read_manifest.ensures.made)
