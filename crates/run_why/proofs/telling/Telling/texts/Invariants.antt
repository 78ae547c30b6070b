-- What was told so far, and what is told from the next place on, are all.
use Rattle.std.proofs.Common.{◌≡◌, ◌++◌, ◌≤◌, drop, map}
use Rattle.graph_core.specs.selection.Listed.{record_behind}
use Rattle.run_why.specs.Steps.{texts_from, texts_of}
use Rattle.run_why.proofs.telling.Telling.texts.Given as goal

abbrev pub invariant-places : goal.invariant-places
invariant-places l = record {
  texts : l.texts ++ texts_from l.self l.place l.next (drop l.place l.self.told.now.causes.items) (map record_behind l.krates) l.self.report.now.crates
      ≡ texts_of l.self (map record_behind l.krates);
  next : l.next ≤ l.place;
}
