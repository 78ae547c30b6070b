use Rattle.std.proofs.Common.{◌≡◌, ℕ, arith, sym, ap, ◌∙◌}
use Rattle.std.specs.Map.{remove_entry}
use Rattle.std.specs.BTreeMap.{insert_entry, is_at}
use Rattle.tree_core.specs.Content.{place_cmp}
use Rattle.tree_core.proofs.AddLemmas.{after_ordered, after_restored, above_shorter, after_Puts, after_clear, after_below_file, after_closed, made_Puts, made_clear, made_Clashes}
use Rattle.tree_core.proofs.nodes.+add.Goals as goal

pub returns-in-Folder-clause-ordered : goal.returns-in-Folder-clause-ordered
returns-in-Folder-clause-ordered t c =
    let is : c.insert.new.self.entries ≡ insert_entry place_cmp c.args.nodes.now.entries c.args.place.now c.args.node = rw c.in_ok-key.ensures at c.in-Ok.ensures.entries in
    after_ordered c.args.nodes.now.entries c.insert.new.self.entries c.args.place.now c.in_ok-above.above c.args.node c.requires.ordered c.requires.absent is c.in_ok-above.ensures

pub returns-in-Folder-clause-ok : goal.returns-in-Folder-clause-ok
returns-in-Folder-clause-ok t c =
    let is : c.insert.new.self.entries ≡ insert_entry place_cmp c.args.nodes.now.entries c.args.place.now c.args.node = rw c.in_ok-key.ensures at c.in-Ok.ensures.entries in
    after_Puts c.args.nodes.now.entries c.insert.new.self.entries c.args.place.now c.in_ok-above.above c.args.node c.requires.ordered c.requires.absent is c.in_ok-above.ensures c.requires.closed (sym c.in-Folder.ensures)

pub returns-in-Folder-clause-ok_only : goal.returns-in-Folder-clause-ok_only
returns-in-Folder-clause-ok_only t c =
    let is : c.insert.new.self.entries ≡ insert_entry place_cmp c.args.nodes.now.entries c.args.place.now c.args.node = rw c.in_ok-key.ensures at c.in-Ok.ensures.entries in
    after_clear c.args.nodes.now.entries c.insert.new.self.entries c.args.place.now c.in_ok-above.above c.args.node c.requires.ordered c.requires.absent is c.in_ok-above.ensures c.requires.closed (sym c.in-Folder.ensures)

pub returns-in-File-clause-ordered : goal.returns-in-File-clause-ordered
returns-in-File-clause-ordered t c =
    let is : c.insert.new.self.entries ≡ insert_entry place_cmp c.args.nodes.now.entries c.args.place.now c.args.node = rw c.in_ok-key.ensures at c.in-Ok.ensures.entries in
    let same : c.remove-added.new.self.entries ≡ c.args.nodes.now.entries = c.remove-added.ensures.entries ∙ after_restored c.args.nodes.now.entries c.insert.new.self.entries c.args.place.now c.in_ok-above.above c.args.node c.requires.ordered c.requires.absent is c.in_ok-above.ensures in
    rw same c.requires.ordered

pub returns-in-File-clause-clash_only : goal.returns-in-File-clause-clash_only
returns-in-File-clause-clash_only t c =
    let is : c.insert.new.self.entries ≡ insert_entry place_cmp c.args.nodes.now.entries c.args.place.now c.args.node = rw c.in_ok-key.ensures at c.in-Ok.ensures.entries in
    λ _. after_below_file c.args.nodes.now.entries c.insert.new.self.entries c.args.place.now c.in_ok-above.above c.args.node c.requires.ordered c.requires.absent is c.in_ok-above.ensures _ (sym c.in-File.ensures)

pub returns-in-File-clause-err : goal.returns-in-File-clause-err
returns-in-File-clause-err t c =
    let is : c.insert.new.self.entries ≡ insert_entry place_cmp c.args.nodes.now.entries c.args.place.now c.args.node = rw c.in_ok-key.ensures at c.in-Ok.ensures.entries in
    c.remove-added.ensures.entries ∙ after_restored c.args.nodes.now.entries c.insert.new.self.entries c.args.place.now c.in_ok-above.above c.args.node c.requires.ordered c.requires.absent is c.in_ok-above.ensures

pub add-requires : goal.add-requires
add-requires t c =
    let is : c.insert.new.self.entries ≡ insert_entry place_cmp c.args.nodes.now.entries c.args.place.now c.args.node = rw c.in_ok-key.ensures at c.in-Ok.ensures.entries in
    (omega (arith, above_shorter c.args.nodes.now.entries c.insert.new.self.entries c.args.place.now c.in_ok-above.above c.args.node c.requires.ordered c.requires.absent is c.in_ok-above.ensures), (after_ordered c.args.nodes.now.entries c.insert.new.self.entries c.args.place.now c.in_ok-above.above c.args.node c.requires.ordered c.requires.absent is c.in_ok-above.ensures, (sym c.in-Nothing.ensures, after_closed c.args.nodes.now.entries c.insert.new.self.entries c.args.place.now c.in_ok-above.above c.args.node c.requires.ordered c.requires.absent is c.in_ok-above.ensures c.requires.closed)))

pub returns-in-Ok-add-clause-ok : goal.returns-in-Ok-add-clause-ok
returns-in-Ok-add-clause-ok t c =
    let is : c.insert.new.self.entries ≡ insert_entry place_cmp c.args.nodes.now.entries c.args.place.now c.args.node = rw c.in_ok-key.ensures at c.in-Ok.ensures.entries in
    made_Puts c.args.nodes.now.entries c.insert.new.self.entries c.args.place.now c.in_ok-above.above c.args.node c.requires.ordered c.requires.absent is c.in_ok-above.ensures _ c.in-Ok-add.ensures.ok

pub returns-in-Ok-add-clause-ok_only : goal.returns-in-Ok-add-clause-ok_only
returns-in-Ok-add-clause-ok_only t c =
    let is : c.insert.new.self.entries ≡ insert_entry place_cmp c.args.nodes.now.entries c.args.place.now c.args.node = rw c.in_ok-key.ensures at c.in-Ok.ensures.entries in
    made_clear c.args.nodes.now.entries c.insert.new.self.entries c.args.place.now c.in_ok-above.above c.args.node c.requires.ordered c.requires.absent is c.in_ok-above.ensures (sym c.in-Nothing.ensures) c.in-Ok-add.ensures.ok_only

restored : (t : ℕ) (c : goal.After-drop-above-inside-2 t) → c.remove-added-in-Err-add.new.self.entries ≡ c.args.nodes.now.entries
restored t c =
    let is : c.insert.new.self.entries ≡ insert_entry place_cmp c.args.nodes.now.entries c.args.place.now c.args.node = rw c.in_ok-key.ensures at c.in-Ok.ensures.entries in
    c.remove-added-in-Err-add.ensures.entries ∙ ap (remove_entry (is_at (place_cmp c.args.place.now))) c.in-Err-add.ensures.err ∙ after_restored c.args.nodes.now.entries c.insert.new.self.entries c.args.place.now c.in_ok-above.above c.args.node c.requires.ordered c.requires.absent is c.in_ok-above.ensures

pub returns-clause-ordered : goal.returns-clause-ordered
returns-clause-ordered t c = rw (restored t c) c.requires.ordered

pub returns-clause-clash_only : goal.returns-clause-clash_only
returns-clause-clash_only t c =
    let is : c.insert.new.self.entries ≡ insert_entry place_cmp c.args.nodes.now.entries c.args.place.now c.args.node = rw c.in_ok-key.ensures at c.in-Ok.ensures.entries in
    λ e. made_Clashes c.args.nodes.now.entries c.insert.new.self.entries c.args.place.now c.in_ok-above.above c.args.node c.requires.ordered c.requires.absent is c.in_ok-above.ensures (sym c.in-Nothing.ensures) (c.in-Err-add.ensures.clash_only e)

pub returns-clause-err : goal.returns-clause-err
returns-clause-err t c = restored t c
