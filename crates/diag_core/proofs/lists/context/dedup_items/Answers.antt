use Rattle.std.proofs.lemmas.List.Filters.{dedup_is}
use Rattle.diag_core.specs.lists.Dedup.{by_value}
use Rattle.diag_core.proofs.lists.context.dedup_items.Goals as goal

pub returns-in-Ok : goal.returns-in-Ok
returns-in-Ok g c = record {
  sorted = c.sort_and_warn.new.items.items;
  sorts = c.in-Ok.ensures.sorts;
  stable = c.in-Ok.ensures.stable;
  ends = (dedup_is (by_value g.T.PartialEq.eq) c.sort_and_warn.new.items.items c.dedup.new.self.items c.dedup.ensures.filtered, c.in-Ok.ensures.ok);
}
