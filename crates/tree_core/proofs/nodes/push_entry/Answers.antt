use Rattle.std.proofs.Common.{◌≡◌, sym, ap, ◌∙◌, Some, append-nil}
use Rattle.tree_core.specs.Content.{Place, entry_in, is_file}
use Rattle.tree_core.specs.Stored.{node_of}
use Rattle.tree_core.proofs.ListingLemmas.{entry_in-there, entry_in-elsewhere, map_listed-push}
use Rattle.tree_core.proofs.nodes.push_entry.Goals as goal

pub returns-in_ok-push : goal.returns-in_ok-push
returns-in_ok-push c =
    let there : entry_in c.args.folder.now c.args.place.now (node_of c.args.node.now) ≡ Some (c.in-Some.name.now, is_file (node_of c.args.node.now)) =
    ap (λ (p : Place). entry_in c.args.folder.now p (node_of c.args.node.now)) c.in-Some.ensures.some ∙ entry_in-there c.args.folder.now c.in-Some.name.now (node_of c.args.node.now) in
    rw (there, c.in_ok-push.ensures.ok) (map_listed-push c.args.entries.now _ ∙ cc (c.in_ok-name.ensures, c.is_file-is_file.ensures))

pub returns-in_default : goal.returns-in_default
returns-in_default c = rw (entry_in-elsewhere _ _ (node_of c.args.node.now) c.in_default.ensures.none) (sym (append-nil _))
