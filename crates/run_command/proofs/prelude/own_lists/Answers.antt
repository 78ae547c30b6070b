-- The paths that a request names.
use Rattle.std.proofs.Common.{subst, ℕ, List, Option}
use Rattle.std.specs.Option.{option_copied}
use Rattle.run_found.specs.Hearing.{tree_seen}
use Rattle.run_found.specs.own_names.Found.{FindsLists, found_answer}
use Rattle.run_found.specs.own_names.Given.{lists_asked, lists_given, texts_given}
use Rattle.run_command.proofs.prelude.own_lists.Goals as goal

pub returns-clause-found : goal.returns-clause-found
returns-clause-found g c =
    let given = lists_given (g.C.Catalog.lists c.args.catalog.now) (texts_given (g.I.Identifier.match_of c.args.identifier.now) (g.I.TextLookup.text_of c.args.identifier.now)) in
    let tree = tree_seen (g.T.Tree.content c.args.tree.now) (g.T.Tree.content c.lists_found.new.tree) (g.T.Tree.fault_count c.args.tree.now) (g.T.Tree.fault_count c.lists_found.new.tree)
    (g.T.Tree.trace c.args.tree.now) (g.T.Tree.trace c.lists_found.new.tree) in
    let store_as = c.as_ref-store_path.ensures.value in
    let catalog_as = c.as_ref-catalog_path.ensures.value in
    subst (λ (path : Option (List ℕ)). FindsLists given (lists_asked path c.args.request.now.store) tree (found_answer g.C.Catalog.lists g.I.Identifier.match_of g.I.TextLookup.text_of c.lists_found.result)) catalog_as
    (subst (λ (path : Option (List ℕ)). FindsLists given (lists_asked (option_copied c.as_ref-catalog_path.result) path) tree (found_answer g.C.Catalog.lists g.I.Identifier.match_of g.I.TextLookup.text_of c.lists_found.result)) store_as
    c.lists_found.ensures.found)
