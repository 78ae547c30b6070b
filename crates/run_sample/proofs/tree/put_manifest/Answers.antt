use Rattle.std.proofs.Common.{◌∙◌, ◌≡◌, OnOk, ◌<◌, ◌^◌, [], arith, rules, subst, sym}
use Rattle.tree_core.specs.Content.{resolve}
use Rattle.run_sample.specs.Files.{with_file}
use Rattle.run_sample.specs.Shallow.{IsLeaf}
use Rattle.run_sample.proofs.PathLemmas.{manifest_leaf}
use Rattle.run_sample.proofs.tree.put_manifest.Goals as goal

pub put_file-requires-clause-leaf : goal.put_file-requires-clause-leaf
put_file-requires-clause-leaf c =
    let fits : c.args.i < 2 ^ 32 = search rules in
    subst (λ path. IsLeaf (resolve path)) (sym (c.as_str.ensures.value ∙ c.in_ok-path.ensures)) (manifest_leaf c.args.i (omega (arith, fits)))

pub returns-clause-content : goal.returns-clause-content
returns-clause-content c =
    subst (λ path. OnOk c.put_file.result (c.put_file.new.tree.content ≡ with_file c.args.tree.now.content (resolve path) []))
    (c.as_str.ensures.value ∙ c.in_ok-path.ensures) c.put_file.ensures.content
