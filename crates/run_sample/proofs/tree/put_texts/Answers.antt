use Rattle.std.proofs.Common.{◌∙◌, ◌≡◌, OnOk, ap₂, codes, subst, sym}
use Rattle.tree_core.specs.Content.{resolve}
use Rattle.run_sample.specs.Files.{with_file}
use Rattle.run_sample.specs.Shallow.{IsShallow}
use Rattle.run_sample.proofs.PathLemmas.{metadata_leaf, policy_leaf}
use Rattle.run_sample.proofs.ShallowLemmas.{shallow_root}
use Rattle.run_sample.proofs.tree.put_texts.Goals as goal

pub returns-in_err-metadata-clause-shallow : goal.returns-in_err-metadata-clause-shallow
returns-in_err-metadata-clause-shallow c = subst IsShallow (sym c.requires.alone) shallow_root

pub put_file-requires-clause-shallow : goal.put_file-requires-clause-shallow
put_file-requires-clause-shallow c = subst IsShallow (sym c.requires.alone) shallow_root

pub put_file-requires-clause-leaf : goal.put_file-requires-clause-leaf
put_file-requires-clause-leaf c = metadata_leaf

pub put_file-requires-2-clause-leaf : goal.put_file-requires-2-clause-leaf
put_file-requires-2-clause-leaf c = policy_leaf

pub returns-clause-content : goal.returns-clause-content
returns-clause-content c =
    let metadata = resolve (codes "/s/m.json") in
    let policy = resolve (codes "/s/p.toml") in
    let first = c.in_ok-put_file.ensures.content ∙ ap₂ (λ content bytes. with_file content metadata bytes) c.requires.alone (c.as_bytes.ensures.value ∙ c.in_ok-metadata.ensures) in
    subst (λ content. OnOk c.put_file-2.result (c.put_file-2.new.tree.content ≡ content))
    (ap₂ (λ content bytes. with_file content policy bytes) first c.as_bytes-2.ensures.value) c.put_file-2.ensures.content
