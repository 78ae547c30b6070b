use Rattle.std.proofs.Common.{◌≡◌, ◌∙◌, subst, ap, sym, ◌∷◌, [], true, false, Ok, Err}
use Rattle.tree_core.specs.Trace.{file_call}
use Rattle.tree_core.specs.declared.tree.TreeError.TheVariants as tree_error
use Rattle.tree_core.proofs.MadeLemmas.{file_made}
use Rattle.run_found.specs.Hearing.{MadeOn, tree_seen}
use Rattle.run_command.proofs.ManifestLemmas.{looked_absent, looked_failed, looked_there, looked_wanting}
use Rattle.run_command.proofs.manifest.look_at_manifest.Goals as goal

pub returns-in-Ok-true-clause-looked : goal.returns-in-Ok-true-clause-looked
returns-in-Ok-true-clause-looked g c =
    let path = c.args.path.now in
    let tree = tree_seen (g.T.Tree.content c.args.tree.now) (g.T.Tree.content c.is_file.new.self) (g.T.Tree.fault_count c.args.tree.now) (g.T.Tree.fault_count c.is_file.new.self)
    (g.T.Tree.trace c.args.tree.now) (g.T.Tree.trace c.is_file.new.self) in
    let one = c.is_file.ensures in
    let made = file_made path one.same c.is_file.result one.counts one.traced one.answer one.refusal in
    let told : c.is_file.result ≡ Ok true = c.in-Ok-true.is ∙ ap Ok c.in-Ok-true.field-0-test in
    looked_there path tree (sym c.is_manifest.ensures ∙ c.if-not-is_manifest.false) (subst (λ result. MadeOn tree (file_call path result ∷ [])) told made)

pub returns-in-Ok-false-clause-looked : goal.returns-in-Ok-false-clause-looked
returns-in-Ok-false-clause-looked g c =
    let path = c.args.path.now in
    let tree = tree_seen (g.T.Tree.content c.args.tree.now) (g.T.Tree.content c.is_file.new.self) (g.T.Tree.fault_count c.args.tree.now) (g.T.Tree.fault_count c.is_file.new.self)
    (g.T.Tree.trace c.args.tree.now) (g.T.Tree.trace c.is_file.new.self) in
    let one = c.is_file.ensures in
    let made = file_made path one.same c.is_file.result one.counts one.traced one.answer one.refusal in
    let told : c.is_file.result ≡ Ok false = c.in-Ok-false.is ∙ ap Ok c.in-Ok-false.field-0-test in
    looked_absent path tree (sym c.is_manifest.ensures ∙ c.if-not-is_manifest.false) (subst (λ result. MadeOn tree (file_call path result ∷ [])) told made)
    c.no_manifest-in-Ok-false.result c.no_manifest-in-Ok-false.ensures

pub returns-in-Err-Failed-clause-looked : goal.returns-in-Err-Failed-clause-looked
returns-in-Err-Failed-clause-looked g c =
    let path = c.args.path.now in
    let tree = tree_seen (g.T.Tree.content c.args.tree.now) (g.T.Tree.content c.is_file.new.self) (g.T.Tree.fault_count c.args.tree.now) (g.T.Tree.fault_count c.is_file.new.self)
    (g.T.Tree.trace c.args.tree.now) (g.T.Tree.trace c.is_file.new.self) in
    let one = c.is_file.ensures in
    let made = file_made path one.same c.is_file.result one.counts one.traced one.answer one.refusal in
    let told : c.is_file.result ≡ Err tree_error.Failed = c.in-Err-Failed.is ∙ ap Err c.in-Err-Failed.field-0-is in
    looked_failed path tree (sym c.is_manifest.ensures ∙ c.if-not-is_manifest.false) (subst (λ result. MadeOn tree (file_call path result ∷ [])) told made)
    c.faults-before.result c.faults.result c.faults-before.ensures c.faults.ensures

pub returns-in-Err-clause-looked : goal.returns-in-Err-clause-looked
returns-in-Err-clause-looked g c =
    let path = c.args.path.now in
    let tree = tree_seen (g.T.Tree.content c.args.tree.now) (g.T.Tree.content c.is_file.new.self) (g.T.Tree.fault_count c.args.tree.now) (g.T.Tree.fault_count c.is_file.new.self)
    (g.T.Tree.trace c.args.tree.now) (g.T.Tree.trace c.is_file.new.self) in
    let one = c.is_file.ensures in
    let made = file_made path one.same c.is_file.result one.counts one.traced one.answer one.refusal in
    looked_wanting path tree (sym c.is_manifest.ensures ∙ c.if-not-is_manifest.false) c.is_file.result made
