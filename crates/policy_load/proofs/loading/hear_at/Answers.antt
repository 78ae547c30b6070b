use Rattle.std.proofs.Common.{◌≡◌, ◌∙◌, sym, ap, subst, true, false, [], ◌∷◌, ◌++◌}
use Rattle.std.specs.Prelude.{is_some}
use Rattle.tree_core.specs.Call.{no_memory}
use Rattle.diag_core.specs.File.{file_id_at}
use Rattle.tree_core.specs.texts.Heard.{IsTextRead, read_of}
use Rattle.policy_load.proofs.HeardLemmas.{itself_unread, on_err, one_read_at, other_read}
use Rattle.policy_load.proofs.loading.hear_at.Goals as goal

pub returns-then-is_some-clause-read : goal.returns-then-is_some-clause-read
returns-then-is_some-clause-read g c =
    let there : is_some (file_id_at c.args.files.now c.args.path) ≡ true =
    ap (λ path. is_some (file_id_at c.args.files.now path)) (sym c.as_path.ensures) ∙ sym (ap is_some c.id_for_path.ensures) ∙ sym c.is_some.ensures ∙ c.if-is_some.true in
    itself_unread _ _ (g.T.Tree.trace c.args.tree.now) (file_id_at c.args.files.now c.args.path) c.args.path there

pub returns-clause-read : goal.returns-clause-read
returns-clause-read g c =
    let before = g.T.Tree.fault_count c.args.tree.now in
    let after = g.T.Tree.fault_count c.read_file_text.new.tree in
    let calls = g.T.Tree.trace c.args.tree.now in
    let more = g.T.Tree.trace c.read_file_text.new.tree in
    let begun = c.faults-begun.result in
    let none : is_some (file_id_at c.args.files.now c.args.path) ≡ false =
    ap (λ path. is_some (file_id_at c.args.files.now path)) (sym c.as_path.ensures) ∙ sym (ap is_some c.id_for_path.ensures) ∙ sym c.is_some.ensures ∙ c.if-is_some.false in
    other_read before after begun calls more (file_id_at c.args.files.now c.args.path) c.args.path c.in_ok-text.text none c.faults-begun.ensures
    (subst (λ path. IsTextRead begun after calls more path c.in_ok-text.text) c.as_path-2.ensures c.in_ok-text.ensures.read)

pub returns-in_err-text-clause-no_memory : goal.returns-in_err-text-clause-no_memory
returns-in_err-text-clause-no_memory g c =
    let calls = g.T.Tree.trace c.args.tree.now in
    let more = g.T.Tree.trace c.read_file_text.new.tree in
    let none : is_some (file_id_at c.args.files.now c.args.path) ≡ false =
    ap (λ path. is_some (file_id_at c.args.files.now path)) (sym c.as_path.ensures) ∙ sym (ap is_some c.id_for_path.ensures) ∙ sym c.is_some.ensures ∙ c.if-is_some.false in
    on_err c.from_residual.result _
    (one_read_at calls more (file_id_at c.args.files.now c.args.path) c.args.path no_memory none
    (subst (λ path. more ≡ calls ++ read_of path no_memory ∷ []) c.as_path-2.ensures c.in_err-text.ensures.no_memory))
