use Rattle.std.proofs.Common.{◌≡◌, sym, ◌∙◌}
use Rattle.std.specs.BTreeMap.{insert_entry}
use Rattle.tree_core.specs.Content.{place_cmp}
use Rattle.tree_core.specs.TreeState.{at_folder}
use Rattle.tree_core.proofs.StoredLemmas.{get-content_of}
use Rattle.tree_core.proofs.PutLemmas.{IsClosedAbove-rooted, IsSound-added, replaced_IsSound, replaced_Puts, replaced_clear}
use Rattle.tree_core.proofs.nodes.put_at.Goals as goal

pub returns-in-Folder-clause-clash_only : goal.returns-in-Folder-clause-clash_only
returns-in-Folder-clause-clash_only c = λ _. at_folder (get-content_of _ _ c.requires.ordered ∙ sym c.in-Folder.ensures)

pub add-requires-clause-closed : goal.add-requires-clause-closed
add-requires-clause-closed c = IsClosedAbove-rooted _ _ c.requires.rooted

pub returns-in-Nothing-clause-sound : goal.returns-in-Nothing-clause-sound
returns-in-Nothing-clause-sound c =
    IsSound-added _ _ c.args.place.now c.args.node c.add.result c.requires (sym c.in-Nothing.ensures) c.add.ensures.ordered c.add.ensures.ok c.add.ensures.err

pub returns-in-Ok-clause-sound : goal.returns-in-Ok-clause-sound
returns-in-Ok-clause-sound c =
    let is : c.insert.new.self.entries ≡ insert_entry place_cmp c.args.nodes.now.entries c.args.place.now c.args.node = rw c.in_ok-key-in-File.ensures at c.in-Ok.ensures.entries in
    replaced_IsSound c.args.nodes.now.entries c.insert.new.self.entries c.args.place.now c.args.node c.in-File.field-0.now c.requires (sym c.in-File.ensures) is

pub returns-in-Ok-clause-ok : goal.returns-in-Ok-clause-ok
returns-in-Ok-clause-ok c =
    let is : c.insert.new.self.entries ≡ insert_entry place_cmp c.args.nodes.now.entries c.args.place.now c.args.node = rw c.in_ok-key-in-File.ensures at c.in-Ok.ensures.entries in
    replaced_Puts c.args.nodes.now.entries c.insert.new.self.entries c.args.place.now c.args.node c.in-File.field-0.now c.requires (sym c.in-File.ensures) is

pub returns-in-Ok-clause-ok_only : goal.returns-in-Ok-clause-ok_only
returns-in-Ok-clause-ok_only c =
    let is : c.insert.new.self.entries ≡ insert_entry place_cmp c.args.nodes.now.entries c.args.place.now c.args.node = rw c.in_ok-key-in-File.ensures at c.in-Ok.ensures.entries in
    replaced_clear c.args.nodes.now.entries c.insert.new.self.entries c.args.place.now c.args.node c.in-File.field-0.now c.requires (sym c.in-File.ensures) is
