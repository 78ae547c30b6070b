use Rattle.std.proofs.Common.{◌≡◌, ◌++◌, [], ◌∷◌, length, is_some, true, false, ap, ◌∙◌}
use Rattle.std.specs.FinMap.{insert}
use Rattle.deny_text.specs.Path.{key_of}
use Rattle.diag_core.specs.File.{file_id_at}
use Rattle.diag_core.proofs.FileLemmas.{finds_pushed}
use Rattle.diag_core.proofs.files.Files.add_new.Goals as goal

-- the file and its path are added
pub invariant_of-self-in-Ok : goal.invariant_of-self-in-Ok
invariant_of-self-in-Ok c =
    let ids = c.self.inside.ids in
    let files = c.self.inside.files.items in
    let path = c.args.path in
    let unknown : is_some (file_id_at files path) ≡ false = ap is_some (ap (λ held. file_id_at held path) c.self.view_is ∙ c.requires.unknown) in
    let added : c.insert.new.self ≡ insert ids (key_of path) (length files) = c.in-Ok.ensures.ok ∙ ap (λ k. insert ids k c.in_ok-id.id) c.requires.key ∙ ap (insert ids (key_of path)) c.in_ok-id.ensures.number in
    let pushed : c.append.new.files.items ≡ files ++ record { name = path; source = c.args.source; has_path = true } ∷ [] = c.in_ok-id.ensures.ok in
    rw (added, pushed) (finds_pushed ids files c.self.invariant path c.args.source unknown)
