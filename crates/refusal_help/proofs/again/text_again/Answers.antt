-- The calls of the two steps, one behind the other.
use Rattle.std.proofs.Common.{◌≡◌, subst, Bool, Ok, [], ◌∷◌, ◌++◌}
use Rattle.tree_core.proofs.MadeLemmas.{file_made, some_joined, some_made}
use Rattle.tree_core.specs.Trace.{file_call}
use Rattle.refusal_help.specs.Again.{file_there, looked}
use Rattle.refusal_help.proofs.AgainLemmas.{asks_by}
use Rattle.refusal_help.proofs.again.text_again.Goals as goal

pub returns-in-Ok-Ok-clause-made : goal.returns-in-Ok-Ok-clause-made
returns-in-Ok-Ok-clause-made g c =
    let one = c.is_file.ensures in
    some_joined (some_made (file_made c.args.path.now one.same c.is_file.result one.counts one.traced one.answer one.refusal)) c.read_file_text.ensures.made

pub returns-in_default-read_file_text-clause-made : goal.returns-in_default-read_file_text-clause-made
returns-in_default-read_file_text-clause-made g c =
    let one = c.is_file.ensures in
    some_joined (some_made (file_made c.args.path.now one.same c.is_file.result one.counts one.traced one.answer one.refusal)) c.read_file_text.ensures.made

-- ---- which calls these are

pub returns-in_default-clause-asked : goal.returns-in_default-clause-asked
returns-in_default-clause-asked g c = looked c.is_file.result c.is_file.ensures.traced

pub returns-in-Ok-Ok-clause-asked : goal.returns-in-Ok-Ok-clause-asked
returns-in-Ok-Ok-clause-asked g c =
    let there : g.T.Tree.trace c.is_file.new.self ≡ g.T.Tree.trace c.args.tree.now ++ file_there c.args.path.now ∷ [] =
    subst (λ (is : Bool). g.T.Tree.trace c.is_file.new.self ≡ g.T.Tree.trace c.args.tree.now ++ file_call c.args.path.now (Ok is) ∷ []) c.in-Ok-true.field-0-test c.in-Ok-true.ensures.traced in
    asks_by c.args.path.now (g.T.Tree.trace c.args.tree.now) (g.T.Tree.trace c.is_file.new.self) (g.T.Tree.trace c.read_file_text.new.tree) c.faults-begun.result (g.T.Tree.fault_count c.read_file_text.new.tree)
    c.read_file_text.result there c.read_file_text.ensures.read c.read_file_text.ensures.no_memory

pub returns-in_default-read_file_text-clause-asked : goal.returns-in_default-read_file_text-clause-asked
returns-in_default-read_file_text-clause-asked g c =
    let there : g.T.Tree.trace c.is_file.new.self ≡ g.T.Tree.trace c.args.tree.now ++ file_there c.args.path.now ∷ [] =
    subst (λ (is : Bool). g.T.Tree.trace c.is_file.new.self ≡ g.T.Tree.trace c.args.tree.now ++ file_call c.args.path.now (Ok is) ∷ []) c.in-Ok-true.field-0-test c.in-Ok-true.ensures.traced in
    asks_by c.args.path.now (g.T.Tree.trace c.args.tree.now) (g.T.Tree.trace c.is_file.new.self) (g.T.Tree.trace c.read_file_text.new.tree) c.faults-begun.result (g.T.Tree.fault_count c.read_file_text.new.tree)
    c.read_file_text.result there c.read_file_text.ensures.read c.read_file_text.ensures.no_memory
