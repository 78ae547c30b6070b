use Rattle.std.proofs.Common.{subst, ◌∙◌, ◌≡◌, ◌⊎◌, [], ◌∷◌, ◌++◌, ℕ, List, OnErr}
use Rattle.std.proofs.lemmas.Result.{IfOk-weaker}
use Rattle.tree_core.specs.Call as call
use Rattle.tree_core.specs.file_reads.Answered.{IsFileRead, call_of}
use Rattle.tree_core.specs.file_reads.Views.{heard_file}
use Rattle.gather_license.proofs.location.CallLemmas.{join_nothing}
use Rattle.gather_license.proofs.location.location.read_manifest.Goals as goal

pub returns-clause-read : goal.returns-clause-read
returns-clause-read g c =
    IfOk-weaker c.read_file.result _ _
    (λ heard read. subst (λ (path : List ℕ). IsFileRead (g.T.Tree.fault_count c.args.tree.now) (g.T.Tree.fault_count c.read_file.new.tree) (g.T.Tree.trace c.args.tree.now) (g.T.Tree.trace c.read_file.new.tree) path (heard_file heard))
    (join_nothing c.as_path.result.now ∙ c.as_path.ensures) read)
    c.read_file.ensures.read

pub returns-clause-no_memory : goal.returns-clause-no_memory
returns-clause-no_memory g c =
    subst (λ (path : List ℕ). OnErr c.read_file.result ((g.T.Tree.trace c.read_file.new.tree ≡ g.T.Tree.trace c.args.tree.now) ⊎ (g.T.Tree.trace c.read_file.new.tree ≡ g.T.Tree.trace c.args.tree.now ++ call_of call.read path call.no_memory ∷ [])))
    (join_nothing c.as_path.result.now ∙ c.as_path.ensures) c.read_file.ensures.no_memory
