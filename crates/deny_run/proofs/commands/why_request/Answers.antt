-- The command is refused before it begins, or it runs by the names and texts that are found.
use Rattle.std.proofs.Common.{refl, sym, subst, ℕ, IfErr}
use Rattle.tree_core.specs.texts.Cause.{ReadCounts}
use Rattle.run_found.specs.Error.{cause_of}
use Rattle.run_found.specs.Hearing.{tree_seen}
use Rattle.run_found.specs.own_names.Chosen.{lists_chosen}
use Rattle.run_found.specs.own_names.Found.{chosen_given}
use Rattle.run_found.specs.own_names.Given.{lists_given}
use Rattle.run_command.specs.Given.{command_asked}
use Rattle.run_command.specs.Prelude.{came, stopped}
use Rattle.run_command.proofs.PreludeLemmas.{comes_carried, comes_still}
use Rattle.run_why.specs.Given.{why_options}
use Rattle.deny_run.proofs.commands.why_request.Goals as goal

pub returns-in-Err-clause-runs : goal.returns-in-Err-clause-runs
returns-in-Err-clause-runs g c =
    let options = why_options c.args.request.now.log_ctx c.args.request.now.krate_ctx c.args.words.now in
    stopped c.in-Err.error (c.in-Err.ensures.comes options (sym c.unsupported_words-unsupported.ensures)) refl refl refl

pub returns-in-Ok-clause-runs : goal.returns-in-Ok-clause-runs
returns-in-Ok-clause-runs g c =
    let options = why_options c.args.request.now.log_ctx c.args.request.now.krate_ctx c.args.words.now in
    let had = lists_given (lists_chosen g.C.Catalog.lists c.in-Ok.found.catalog) (chosen_given g.I.Identifier.match_of g.I.TextLookup.text_of c.in-Ok.found.identifier) in
    came (g.T.Tree.content c.lists_of_request.new.tree) (g.T.Tree.fault_count c.lists_of_request.new.tree) (g.T.Tree.trace c.lists_of_request.new.tree) had (c.in-Ok.ensures.comes options (sym c.unsupported_words-unsupported.ensures)) c.why_since.ensures.tells

pub returns-in-Ok-clause-counts : goal.returns-in-Ok-clause-counts
returns-in-Ok-clause-counts g c =
    let way = tree_seen (g.T.Tree.content c.args.tree.now) (g.T.Tree.content c.lists_of_request.new.tree) (g.T.Tree.fault_count c.args.tree.now) (g.T.Tree.fault_count c.lists_of_request.new.tree)
    (g.T.Tree.trace c.args.tree.now) (g.T.Tree.trace c.lists_of_request.new.tree) in
    let options = why_options c.args.request.now.log_ctx c.args.request.now.krate_ctx c.args.words.now in
    let had = lists_given (lists_chosen g.C.Catalog.lists c.in-Ok.found.catalog) (chosen_given g.I.Identifier.match_of g.I.TextLookup.text_of c.in-Ok.found.identifier) in
    let asked = command_asked (g.C.Catalog.lists c.args.catalog.now) (g.I.Identifier.match_of c.args.identifier.now) (g.I.TextLookup.text_of c.args.identifier.now) c.args.request.now options in
    subst (λ (n : ℕ). IfErr c.why_since.result (λ error. ReadCounts n n (g.T.Tree.fault_count c.why_since.new.tree) (cause_of error))) (comes_still asked way had (c.in-Ok.ensures.comes options (sym c.unsupported_words-unsupported.ensures))) c.why_since.ensures.counts

pub why_since-requires : goal.why_since-requires
why_since-requires g c =
    let way = tree_seen (g.T.Tree.content c.args.tree.now) (g.T.Tree.content c.lists_of_request.new.tree) (g.T.Tree.fault_count c.args.tree.now) (g.T.Tree.fault_count c.lists_of_request.new.tree)
    (g.T.Tree.trace c.args.tree.now) (g.T.Tree.trace c.lists_of_request.new.tree) in
    let options = why_options c.args.request.now.log_ctx c.args.request.now.krate_ctx c.args.words.now in
    let had = lists_given (lists_chosen g.C.Catalog.lists c.in-Ok.found.catalog) (chosen_given g.I.Identifier.match_of g.I.TextLookup.text_of c.in-Ok.found.identifier) in
    let asked = command_asked (g.C.Catalog.lists c.args.catalog.now) (g.I.Identifier.match_of c.args.identifier.now) (g.I.TextLookup.text_of c.args.identifier.now) c.args.request.now options in
    comes_carried asked way had (c.in-Ok.ensures.comes options (sym c.unsupported_words-unsupported.ensures))
