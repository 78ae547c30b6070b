use Rattle.std.proofs.Common.{◌≡◌, ◌-◌, ◌++◌, length}
use Rattle.std.specs.Str.{IsCharBoundary}
use Rattle.spdx_terms.specs.Items.{items_of}
use Rattle.spdx_terms.specs.NextItem.{items_behind}
use Rattle.spdx_terms.proofs.items.item_vec.Given as goal

-- the items so far are before those of the rest
abbrev pub invariant-items : goal.invariant-items
invariant-items g l = record {
  border : IsCharBoundary l.text l.place;
  all : items_of l.mode (g.C.Catalog.lists l.catalog) l.text ≡ l.items.items ++ items_behind l.mode (g.C.Catalog.lists l.catalog) l.wanted l.place l.text;
}

abbrev pub decreases-items : goal.decreases-items
decreases-items g l = length l.text - l.place
