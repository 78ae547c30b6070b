use Rattle.std.proofs.Common.{take, sym, ap, ◌∙◌, ◌∷◌, [], ◌++◌}
use Rattle.std.specs.Option.{option_to_list}
use Rattle.std.proofs.lemmas.List.{take_more}
use Rattle.gather_license.specs.declared.expression.files.ScannedFile.{ScannedFile}
use Rattle.gather_license.specs.Notes as spec
use Rattle.gather_license.specs.Notes.{path_given}
use Rattle.gather_license.proofs.NotesLemmas.{paths_push}
use Rattle.gather_license.proofs.notes.paths_given.Goals as goal

pub files-preserved : goal.files-preserved
files-preserved c =
    let place = c.files.file-index in
    let files = c.args.files.now in
    let file = c.file-item.result in
    c.in_ok-push_given.ensures
    ∙ ap (λ paths. paths ++ option_to_list (path_given file)) c.files.invariant
    ∙ sym (ap spec.paths_given (take_more files place file c.files-test.true)
    ∙ ap (λ (file : ScannedFile). spec.paths_given (take place files ++ file ∷ [])) (sym c.file-item.is)
    ∙ paths_push (take place files) file)
