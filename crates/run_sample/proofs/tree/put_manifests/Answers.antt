use Rattle.std.proofs.Common.{◌∙◌, ap, sym}
use Rattle.run_sample.specs.Files.{with_manifest}
use Rattle.run_sample.proofs.NumberLemmas.{fold_more}
use Rattle.run_sample.proofs.tree.put_manifests.Goals as goal

pub crates-preserved : goal.crates-preserved
crates-preserved c =
    let before = c.crates.invariant in
    let put = c.in_ok-put_manifest.ensures in record {
      content = put.content ∙ ap (λ content. with_manifest content c.crates.i) before.content ∙ sym (fold_more with_manifest c.args.tree.now.content c.crates.i);
      shallow = put.shallow;
      faults = put.faults ∙ before.faults;
      failing = put.failing ∙ before.failing;
      calls = put.calls ∙ before.calls;
    }
