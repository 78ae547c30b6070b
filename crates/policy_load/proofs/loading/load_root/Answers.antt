use Rattle.std.proofs.Common.{inl, inr, refl, sym, subst, []}
use Rattle.std.specs.Option.{option_copied}
use Rattle.policy_core.specs.Places.{PointInto}
use Rattle.policy_core.specs.Policy.{absence_findings}
use Rattle.policy_load.specs.Answer.{LoadsPolicyBy}
use Rattle.policy_load.specs.declared.error.LoadError.TheVariants.{Memory}
use Rattle.policy_load.proofs.CallLemmas.{reads_root}
use Rattle.policy_load.proofs.LoadLemmas.{handed_on}
use Rattle.policy_load.proofs.PlaceLemmas.{all_inside}
use Rattle.policy_load.proofs.loading.load_root.Goals as goal

pub finish-requires : goal.finish-requires
finish-requires g c =
    all_inside _ _ (c.in_ok-loaded.ensures.labels (subst (PointInto c.args.files.now) (sym c.new-found.ensures) tt))

pub returns-in_err-loaded-clause-reads : goal.returns-in_err-loaded-clause-reads
returns-in_err-loaded-clause-reads g c =
    inl (record { memory = handed_on c.from_residual.result Memory c.from_residual.ensures.1; same = refl }, c.in_err-loaded.ensures.no_memory)

pub returns-clause-reads : goal.returns-clause-reads
returns-clause-reads g c =
    let lists = g.C.Catalog.lists c.args.catalog.now in
    let mid = g.T.Tree.fault_count c.args.tree.now in
    let after = g.T.Tree.fault_count c.load_policy.new.tree in
    let calls = g.T.Tree.trace c.args.tree.now in
    let more = g.T.Tree.trace c.load_policy.new.tree in
    let held = g.S.Sink.written c.args.sink.now in
    let behind = g.S.Sink.written c.finish.new.sink in
    let old = c.args.files.now in
    let new = c.load_policy.new.files in
    let found = c.load_policy.new.found in
    let paths = c.args.paths in
    let policy = c.in_ok-loaded.loaded in
    let file = c.args.file_id in
    inr (reads_root lists c.args.context file (absence_findings c.args.is_there paths.policy) c.args.root paths.exceptions mid after calls more old new found held behind policy c.finish.result
    (subst (λ path. LoadsPolicyBy lists mid after calls more file (absence_findings c.args.is_there path) c.args.root paths.exceptions (record { files = old; found = [] }) (record { files = new; found = found }) policy)
    c.path_text.ensures
    (subst (λ start. LoadsPolicyBy lists mid after calls more file (absence_findings c.args.is_there (option_copied c.path_text.result)) c.args.root paths.exceptions (record { files = old; found = start }) (record { files = new; found = found }) policy)
    c.new-found.ensures c.in_ok-loaded.ensures.read))
    c.finish.ensures.ends c.finish.ensures.prints)
