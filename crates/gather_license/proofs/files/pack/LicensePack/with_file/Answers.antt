use Rattle.std.proofs.Common.{◌≡◌, ℕ, List, [], ◌∷◌, ◌++◌, None, refl, sym, ap, subst, ◌∙◌}
use Rattle.std.specs.BTreeMap.{insert_entry}
use Rattle.deny_text.specs.Path.{path_order}
use Rattle.tree_core.specs.declared.reads.ReadKind.TheVariants.{LicenseFile}
use Rattle.tree_core.specs.declared.reads.ReadRecord.{ReadRecord}
use Rattle.tree_core.specs.file_reads.Heard.{ReadResult, read_record_of}
use Rattle.tree_core.specs.file_reads.Views.{heard_file, heard_folder}
use Rattle.gather_license.specs.files.Steps.{with_file}
use Rattle.gather_license.specs.files.View.{PackView, KeepsReadFiles, file_at, kept_files}
use Rattle.gather_license.proofs.files.PackLemmas.{files_of-insert, kept-with_file, same_pack}
use Rattle.gather_license.proofs.files.pack.LicensePack.with_file.Goals as goal

pub invariant_of-pack : goal.invariant_of-pack
invariant_of-pack c =
    let inside = c.self.inside in
    let path = c.args.key in
    let heard = heard_file c.args.heard in
    let old : PackView = record { folder = inside.folder; listing = heard_folder inside.listing; files = kept_files inside.files.entries; reads = inside.reads } in
    let none : file_at old.files path ≡ None = ap (λ (p : PackView). file_at p.files path) c.self.view_is ∙ c.requires in
    subst KeepsReadFiles
    (sym (same_pack refl refl
    (ap kept_files c.in_ok-insert.ensures.entries ∙ files_of-insert inside.files.entries path c.in_ok-kept.kept
    ∙ ap (λ (one : ReadResult). insert_entry path_order old.files path one) c.in_ok-kept.ensures)
    (c.in_ok-push.ensures.ok
    ∙ ap (λ (read : ReadRecord). inside.reads ++ read ∷ []) (c.in_ok-record.ensures ∙ ap (λ (at : List ℕ). read_record_of LicenseFile at heard) c.path.ensures))))
    (kept-with_file old path heard c.self.invariant none)

pub returns-clause-pack : goal.returns-clause-pack
returns-clause-pack c =
    let inside = c.self.inside in
    let path = c.args.key in
    let heard = heard_file c.args.heard in
    let old : PackView = record { folder = inside.folder; listing = heard_folder inside.listing; files = kept_files inside.files.entries; reads = inside.reads } in
    same_pack {f = inside.folder} {l = heard_folder inside.listing} refl refl
    (ap kept_files c.in_ok-insert.ensures.entries ∙ files_of-insert inside.files.entries path c.in_ok-kept.kept
    ∙ ap (λ (one : ReadResult). insert_entry path_order old.files path one) c.in_ok-kept.ensures)
    (c.in_ok-push.ensures.ok
    ∙ ap (λ (read : ReadRecord). inside.reads ++ read ∷ []) (c.in_ok-record.ensures ∙ ap (λ (at : List ℕ). read_record_of LicenseFile at heard) c.path.ensures))
    ∙ ap (λ (p : PackView). with_file p path heard) c.self.view_is
