use Rattle.std.proofs.Common.{ℕ, List, [], ◌∷◌, ◌++◌, cond, Some, sym, ap, subst, ◌∙◌}
use Rattle.std.proofs.lemmas.Result.{IfOk-weaker}
use Rattle.std.specs.Option.{option_map}
use Rattle.tree_core.specs.file_reads.Views.{heard_file}
use Rattle.gather_license.specs.files.Calls.{GoesBy}
use Rattle.gather_license.specs.files.Steps.{with_file, with_path}
use Rattle.gather_license.specs.files.Told.{file_state}
use Rattle.gather_license.specs.files.View.{PackView, file_at, paths_read}
use Rattle.gather_license.specs.declared.files.told.FileState.{FileState}
use Rattle.gather_license.proofs.files.CallLemmas.{goes_itself, goes_read, on_err, starves_before, starves_for, starves_read, starves_unread}
use Rattle.gather_license.proofs.files.PackLemmas.{none_told, both_ok, paths_read-push, there-with_file}
use Rattle.gather_license.proofs.files.pack.LicensePack.look_up.Goals as goal

pub returns-in_ok-heard-in-None-clause-paths : goal.returns-in_ok-heard-in-None-clause-paths
returns-in_ok-heard-in-None-clause-paths g c =
    let pack = c.args.self in
    let key = c.in_ok-key.key in
    IfOk-weaker c.with_file.result _ _
    (λ looked is.
    ap (λ (p : PackView). paths_read p.reads) is ∙ paths_read-push pack.reads key (heard_file c.in_ok-heard-in-None.heard)
    ∙ sym (ap (λ b. cond b (paths_read pack.reads) (paths_read pack.reads ++ key ∷ [])) (sym c.in-None.ensures.read))
    ∙ ap (λ (path : List ℕ). with_path (paths_read pack.reads) path) c.in_ok-key.ensures)
    c.with_file.ensures.pack

pub returns-in_ok-heard-in-None-clause-told : goal.returns-in_ok-heard-in-None-clause-told
returns-in_ok-heard-in-None-clause-told g c =
    let pack = c.args.self in
    let key = c.in_ok-key.key in
    both_ok c.with_file.result _ _ _
    (λ looked is told.
    ap (λ (p : PackView). option_map file_state (file_at p.files c.args.path.now)) is
    ∙ ap (λ (path : List ℕ). option_map file_state (file_at (with_file pack key (heard_file c.in_ok-heard-in-None.heard)).files path)) (sym c.in_ok-key.ensures)
    ∙ ap (option_map file_state) (there-with_file pack key (heard_file c.in_ok-heard-in-None.heard) (none_told (file_at pack.files key) c.in-None.ensures.told))
    ∙ ap (λ (is : FileState). Some is) (sym told))
    c.with_file.ensures.pack c.with_file.ensures.told

pub returns-in_ok-heard-in-None-clause-goes : goal.returns-in_ok-heard-in-None-clause-goes
returns-in_ok-heard-in-None-clause-goes g c =
    IfOk-weaker c.with_file.result _ _
    (λ looked is. subst (GoesBy _ _ _ _ _ _ c.args.self) (sym is)
    (goes_read c.args.self c.in_ok-key.key (heard_file c.in_ok-heard-in-None.heard) c.as_path.result.now c.as_path-in-None.result.now c.in-None.ensures.told c.in-None.ensures.read
    (c.as_path.ensures ∙ ap (λ (p : PackView). p.folder) c.self.view_is) (c.as_path-in-None.ensures ∙ sym c.in_ok-key.ensures)
    c.in_ok-heard-in-None.ensures.read c.read_file.ensures.made))
    c.with_file.ensures.pack

pub returns-in_ok-heard-in-None-clause-no_memory : goal.returns-in_ok-heard-in-None-clause-no_memory
returns-in_ok-heard-in-None-clause-no_memory g c =
    on_err c.with_file.result _
    (starves_for c.args.self c.in_ok-key.key c.args.path.now c.in_ok-key.ensures
    (starves_read c.args.self c.in_ok-key.key (heard_file c.in_ok-heard-in-None.heard) c.as_path.result.now c.as_path-in-None.result.now c.in-None.ensures.told c.in-None.ensures.read
    (c.as_path.ensures ∙ ap (λ (p : PackView). p.folder) c.self.view_is) (c.as_path-in-None.ensures ∙ sym c.in_ok-key.ensures)
    c.in_ok-heard-in-None.ensures.read c.read_file.ensures.made))

pub returns-in_err-heard-in-None-clause-no_memory : goal.returns-in_err-heard-in-None-clause-no_memory
returns-in_err-heard-in-None-clause-no_memory g c =
    on_err c.from_residual-in_err-heard-in-None.result _
    (starves_for c.args.self c.in_ok-key.key c.args.path.now c.in_ok-key.ensures
    (starves_unread c.args.self c.in_ok-key.key c.as_path.result.now c.as_path-in-None.result.now c.in-None.ensures.read
    (c.as_path.ensures ∙ ap (λ (p : PackView). p.folder) c.self.view_is) (c.as_path-in-None.ensures ∙ sym c.in_ok-key.ensures)
    c.in_err-heard-in-None.ensures.no_memory c.read_file.ensures.made))

pub returns-in_err-key-clause-no_memory : goal.returns-in_err-key-clause-no_memory
returns-in_err-key-clause-no_memory g c = on_err c.from_residual.result _ (starves_before _ _ _ c.args.self c.args.path.now)

pub returns-in-Some-clause-goes : goal.returns-in-Some-clause-goes
returns-in-Some-clause-goes g c = goes_itself _ _ _ c.args.self
