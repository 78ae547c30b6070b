use Rattle.std.proofs.Common.{List, take, sym, ap, subst, ◌∙◌, ◌∷◌, [], ◌++◌}
use Rattle.std.specs.Prelude.{string_bytes}
use Rattle.std.proofs.lemmas.List.{take_more}
use Rattle.gather_license.specs.declared.expression.files.ScannedFile.{ScannedFile}
use Rattle.gather_license.specs.expression.Joined.{IsJoined}
use Rattle.gather_license.specs.expression.Scanned.{names_given}
use Rattle.gather_license.proofs.expression.TakenLemmas.{names_given-push}
use Rattle.gather_license.proofs.expression.taken.joined.Goals as goal

pub files-preserved : goal.files-preserved
files-preserved g c =
    let place = c.files.file-index in
    let files = c.args.files.now in
    subst (λ names. IsJoined names (string_bytes c.push_given.new.text) c.in_ok-some.some)
    (sym (ap names_given (take_more files place c.file-item.result c.files-test.true)
    ∙ ap (λ (file : ScannedFile). names_given (take place files ++ file ∷ [])) (sym c.file-item.is)
    ∙ names_given-push (take place files) c.file-item.result))
    (c.in_ok-some.ensures (names_given (take place files)) c.files.invariant.is c.files.invariant.known)
