use Rattle.std.proofs.Common.{[], ◌∷◌, Ok, Err, ◌∙◌}
use Rattle.spdx_own_names.specs.Folder.{text_file}
use Rattle.spdx_own_names.specs.declared.error.StoreError.TheVariants.{Fault, Memory}
use Rattle.spdx_own_names.proofs.FolderLemmas.{had_one, lost_one, one_read, read_lost}
use Rattle.spdx_own_names.proofs.StoreLemmas.{text_as}
use Rattle.spdx_own_names.proofs.store.read_text.Goals as goal

pub returns-in_err-body-clause-read : goal.returns-in_err-body-clause-read
returns-in_err-body-clause-read g c =
    text_as _ _ _ c.from_residual-in_err-body.result Memory c.from_residual-in_err-body.ensures.1
    (read_lost _ _ (text_file c.args.file.now c.args.license.now) c.as_path.result.now (c.as_path.ensures ∙ c.in_ok-path.ensures) c.in_err-body.ensures.no_memory)

pub returns-in_err-name-in-Ok-clause-read : goal.returns-in_err-name-in-Ok-clause-read
returns-in_err-name-in-Ok-clause-read g c =
    text_as _ _ _ c.from_residual-in_err-name-in-Ok.result Memory c.from_residual-in_err-name-in-Ok.ensures.1
    (one_read _ _ (text_file c.args.file.now c.args.license.now) c.as_path.result.now c.in_ok-body.field-0 (Err Memory) (c.as_path.ensures ∙ c.in_ok-path.ensures) c.in_ok-body.ensures.read tt)

pub returns-in-Ok-clause-read : goal.returns-in-Ok-clause-read
returns-in-Ok-clause-read g c =
    let text = text_file c.args.file.now c.args.license.now in
    one_read _ _ text c.as_path.result.now c.in_ok-body.field-0 (Ok (record { name = c.in_ok-name-in-Ok.name; body = c.in-Ok.body } ∷ [])) (c.as_path.ensures ∙ c.in_ok-path.ensures) c.in_ok-body.ensures.read
    (had_one text c.in_ok-body.field-0 c.in-Ok.body c.in_ok-name-in-Ok.name c.in-Ok.is c.in_ok-name-in-Ok.ensures)

pub returns-in_err-told-in-Err-clause-read : goal.returns-in_err-told-in-Err-clause-read
returns-in_err-told-in-Err-clause-read g c =
    text_as _ _ _ c.from_residual-in_err-told-in-Err.result Memory c.from_residual-in_err-told-in-Err.ensures.1
    (one_read _ _ (text_file c.args.file.now c.args.license.now) c.as_path.result.now c.in_ok-body.field-0 (Err Memory) (c.as_path.ensures ∙ c.in_ok-path.ensures) c.in_ok-body.ensures.read tt)

pub returns-clause-read : goal.returns-clause-read
returns-clause-read g c =
    let text = text_file c.args.file.now c.args.license.now in
    one_read _ _ text c.as_path.result.now c.in_ok-body.field-0 (Err (Fault c.in_ok-told-in-Err.told)) (c.as_path.ensures ∙ c.in_ok-path.ensures) c.in_ok-body.ensures.read
    (lost_one text c.in_ok-body.field-0 c.in-Err.fault c.in_ok-told-in-Err.told c.in-Err.is c.in_ok-told-in-Err.ensures)
