use Rattle.std.proofs.Common.{◌≡◌, ◌-◌, ◌≤◌, length}
use Rattle.std.specs.Str.{IsCharBoundary}
use Rattle.spdx_terms.specs.NextItem.{items_behind}
use Rattle.spdx_terms.proofs.items.next_item.Given as goal

-- nothing was passed over but white space
abbrev pub invariant-white : goal.invariant-white
invariant-white g l = record {
  later : l.initial.place ≤ l.place;
  border : IsCharBoundary l.text l.place;
  all : items_behind l.mode (g.C.Catalog.lists l.catalog) l.wanted l.initial.place l.text ≡ items_behind l.mode (g.C.Catalog.lists l.catalog) l.wanted l.place l.text;
}

abbrev pub decreases-white : goal.decreases-white
decreases-white g l = length l.text - l.place
