use Rattle.std.proofs.Common.{◌≡◌, fold}
use Rattle.run_sample.specs.Metadata.{numbers}
use Rattle.run_sample.specs.Files.{with_manifest}
use Rattle.run_sample.specs.Shallow.{IsShallow}
use Rattle.run_sample.proofs.tree.put_manifests.Given as goal

abbrev pub invariant-crates : goal.invariant-crates
invariant-crates l = record {
  content : l.tree.content ≡ fold with_manifest l.fn.tree.content (numbers l.i);
  shallow : IsShallow l.tree.content;
  faults : l.tree.faults ≡ l.fn.tree.faults;
  failing : l.tree.failing ≡ l.fn.tree.failing;
  calls : l.tree.calls ≡ l.fn.tree.calls;
}
