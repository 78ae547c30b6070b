use Rattle.std.proofs.Common.{Some, None, ap, sym, ◌∙◌}
use Rattle.std.specs.List.{list_any}
use Rattle.std.specs.Option.{option_map}
use Rattle.gather_license.specs.files.Pack.{same_path}
use Rattle.gather_license.specs.files.Told.{file_state}
use Rattle.gather_license.specs.files.View.{PackView, file_at, paths_read}
use Rattle.gather_license.specs.declared.files.told.FileState.{FileState}
use Rattle.gather_license.proofs.files.PackLemmas.{told_found, told_read}
use Rattle.gather_license.proofs.files.pack.LicensePack.told.Goals as goal

pub returns-in-Some-clause-told : goal.returns-in-Some-clause-told
returns-in-Some-clause-told c =
    ap (λ (is : FileState). Some is) c.of.ensures
    ∙ sym (told_found c.self.inside.files.entries c.args.key.now (Some c.in-Some.kept.now) c.in-Some.ensures.value)
    ∙ ap (λ (p : PackView). option_map file_state (file_at p.files c.args.key.now)) c.self.view_is

pub returns-in-Some-clause-read : goal.returns-in-Some-clause-read
returns-in-Some-clause-read c =
    told_read _ c.args.key.now (Some c.in-Some.kept.now) c.self.invariant (told_found c.self.inside.files.entries c.args.key.now (Some c.in-Some.kept.now) c.in-Some.ensures.value)
    ∙ ap (λ (p : PackView). list_any (same_path c.args.key.now) (paths_read p.reads)) c.self.view_is

pub returns-in-None-clause-told : goal.returns-in-None-clause-told
returns-in-None-clause-told c =
    sym (told_found c.self.inside.files.entries c.args.key.now None c.in-None.ensures.value)
    ∙ ap (λ (p : PackView). option_map file_state (file_at p.files c.args.key.now)) c.self.view_is

pub returns-in-None-clause-read : goal.returns-in-None-clause-read
returns-in-None-clause-read c =
    told_read _ c.args.key.now None c.self.invariant (told_found c.self.inside.files.entries c.args.key.now None c.in-None.ensures.value)
    ∙ ap (λ (p : PackView). list_any (same_path c.args.key.now) (paths_read p.reads)) c.self.view_is
