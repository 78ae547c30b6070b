use Rattle.std.proofs.Common.{[], ◌∷◌, ◌++◌, ◌≡◌, IsTrue, map, sym, ap, subst, ◌∙◌}
use Rattle.std.proofs.lemmas.List.{length-map}
use Rattle.std.proofs.lemmas.Result.{IfOk-weaker}
use Rattle.toml_subset.specs.Tables.{has_key, branches_with_key}
use Rattle.toml_value.specs.BranchViews.{branches_of_lists, node_view, branches_view, is_whole}
use Rattle.toml_value.specs.declared.tree.Branches.{out-Branches}
use Rattle.toml_value.proofs.TreeLemmas.{branches_view-is, AreWhole, opened_whole, whole_closed, are_whole-push, has_no_place, added-joined, seen-push}
use Rattle.toml_value.proofs.tree.Branches.with.Goals as goal

pub with-requires : goal.with-requires
with-requires c =
    let whole = opened_whole c.args.self c.requires.whole in
    let nodes = map (λ n. node_view n) c.args.self.nodes.items in
    record {
      new = has_no_place c.args.key c.args.self.keys nodes (whole.same ∙ sym (length-map c.args.self.nodes.items (λ n. node_view n)))
          (ap (has_key c.args.key) (sym (branches_view-is c.args.self)) ∙ c.requires.new);
    }

pub returns-in-Ok-clause-view : goal.returns-in-Ok-clause-view
returns-in-Ok-clause-view c =
    let whole = opened_whole c.args.self c.requires.whole in
    let nodes = map (λ n. node_view n) c.args.self.nodes.items in
    IfOk-weaker c.of_parts.result _ (λ new. branches_view new ≡ branches_with_key c.args.key (node_view c.args.node) (branches_view c.args.self))
    (λ new is.
    branches_view-is new
    ∙ ap (λ ks. branches_of_lists ks (map (λ n. node_view n) (out-Branches new).nodes.items)) (is.0 ∙ c.in-Ok.ensures)
    ∙ ap (branches_of_lists (c.args.self.keys ++ c.args.key ∷ [])) (ap (map (λ n. node_view n)) is.1 ∙ seen-push c.args.self.nodes.items c.args.node)
    ∙ sym (added-joined c.args.key (node_view c.args.node) c.args.self.keys nodes (whole.same ∙ sym (length-map c.args.self.nodes.items (λ n. node_view n))))
    ∙ ap (branches_with_key c.args.key (node_view c.args.node)) (sym (branches_view-is c.args.self)))
    c.of_parts.ensures

pub returns-in-Ok-clause-whole : goal.returns-in-Ok-clause-whole
returns-in-Ok-clause-whole c =
    IfOk-weaker c.of_parts.result _ (λ new. IsTrue (is_whole new))
    (λ new is.
    whole_closed new
    (subst (λ ks. AreWhole ks (out-Branches new).nodes.items) (sym (is.0 ∙ c.in-Ok.ensures))
    (subst (λ ns. AreWhole (c.args.self.keys ++ c.args.key ∷ []) ns) (sym is.1)
    (are_whole-push c.args.self.keys c.args.self.nodes.items c.args.key c.args.node (opened_whole c.args.self c.requires.whole) c.requires.node))))
    c.of_parts.ensures
