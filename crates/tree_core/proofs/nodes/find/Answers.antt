use Rattle.std.proofs.Common.{◌≢◌, sym, ◌∙◌, ap, [], Some}
use Rattle.std.specs.Option.{option_map, option_copied}
use Rattle.tree_core.specs.Stored.{node_of}
use Rattle.tree_core.specs.declared.nodes.StoredNode.{StoredNode}
use Rattle.tree_core.proofs.StoredLemmas.{stored_at-lookup}
use Rattle.tree_core.proofs.nodes.find.Goals as goal

pub returns-in-None : goal.returns-in-None
returns-in-None c =
    let ne : c.args.place.now ≢ [] = λ e. let t = c.is_root.ensures.1 e in cc in
    sym (stored_at-lookup c.args.nodes.now.entries c.args.place.now ne ∙ ap (option_map node_of) (sym c.get.ensures.value ∙ ap option_copied c.in-None.is))

pub returns-in-Some-Folder : goal.returns-in-Some-Folder
returns-in-Some-Folder c =
    let ne : c.args.place.now ≢ [] = λ e. let t = c.is_root.ensures.1 e in cc in
    sym (stored_at-lookup c.args.nodes.now.entries c.args.place.now ne
    ∙ ap (option_map node_of) (sym c.get.ensures.value ∙ ap option_copied c.in-Some-Folder.is ∙ ap (λ (s : StoredNode). Some s) c.in-Some-Folder.field-0-is))

pub returns-in-Some-File : goal.returns-in-Some-File
returns-in-Some-File c =
    let ne : c.args.place.now ≢ [] = λ e. let t = c.is_root.ensures.1 e in cc in
    sym (stored_at-lookup c.args.nodes.now.entries c.args.place.now ne
    ∙ ap (option_map node_of) (sym c.get.ensures.value ∙ ap option_copied c.in-Some-File.is ∙ ap (λ (s : StoredNode). Some s) c.in-Some-File.field-0-is))
