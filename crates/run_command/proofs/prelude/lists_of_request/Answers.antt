-- A part is not carried, the manifest is not there, names and texts are not found, or they are.
use Rattle.std.proofs.Common.{◌∙◌, refl, sym, subst, ℕ, List, Ok, Err}
use Rattle.tree_core.proofs.MadeLemmas.{made_none}
use Rattle.tree_core.specs.texts.Cause.{ReadCounts}
use Rattle.run_found.specs.Error.{cause_of}
use Rattle.run_found.specs.Hearing.{tree_seen}
use Rattle.run_found.specs.own_names.Chosen.{lists_chosen}
use Rattle.run_found.specs.own_names.Found.{chosen_given}
use Rattle.run_found.specs.own_names.Given.{lists_given}
use Rattle.run_command.specs.Manifest.{LooksAtManifest}
use Rattle.run_command.specs.Prelude.{lists_had, no_lists, no_manifest, unsupported}
use Rattle.run_command.proofs.ManifestLemmas.{looked_count}
use Rattle.run_command.proofs.prelude.lists_of_request.Goals as goal

pub returns-in-Some-clause-comes : goal.returns-in-Some-clause-comes
returns-in-Some-clause-comes g c options is =
    unsupported c.in-Some.what (is ∙ c.in-Some.is) refl (made_none (g.T.Tree.content c.args.tree.now) (g.T.Tree.fault_count c.args.tree.now) (g.T.Tree.trace c.args.tree.now))

pub returns-in-Err-clause-comes : goal.returns-in-Err-clause-comes
returns-in-Err-clause-comes g c options is =
    let look = tree_seen (g.T.Tree.content c.args.tree.now) (g.T.Tree.content c.look_at_manifest.new.tree) (g.T.Tree.fault_count c.args.tree.now) (g.T.Tree.fault_count c.look_at_manifest.new.tree)
    (g.T.Tree.trace c.args.tree.now) (g.T.Tree.trace c.look_at_manifest.new.tree) in
    no_manifest (is ∙ c.in-None.is) c.in-Err.error (subst (λ (at : List ℕ). LooksAtManifest at look (Err c.in-Err.error)) c.as_path.ensures c.in-Err.ensures.looked) refl

-- ---- names and texts are not found

pub returns-in-Err-own_lists-clause-counts : goal.returns-in-Err-own_lists-clause-counts
returns-in-Err-own_lists-clause-counts g c =
    let path = c.args.request.now.krate_ctx.manifest_path in
    let look = tree_seen (g.T.Tree.content c.args.tree.now) (g.T.Tree.content c.look_at_manifest.new.tree) (g.T.Tree.fault_count c.args.tree.now) (g.T.Tree.fault_count c.look_at_manifest.new.tree)
    (g.T.Tree.trace c.args.tree.now) (g.T.Tree.trace c.look_at_manifest.new.tree) in
    let looked = subst (λ (at : List ℕ). LooksAtManifest at look (Ok tt)) c.as_path.ensures c.in-Ok.ensures.looked in
    let after = g.T.Tree.fault_count c.own_lists.new.tree in
    subst (λ (n : ℕ). ReadCounts n n after (cause_of c.in-Err-own_lists.error)) (looked_count path look looked) c.in-Err-own_lists.ensures.counts

pub returns-in-Err-own_lists-clause-comes : goal.returns-in-Err-own_lists-clause-comes
returns-in-Err-own_lists-clause-comes g c options is =
    let look = tree_seen (g.T.Tree.content c.args.tree.now) (g.T.Tree.content c.look_at_manifest.new.tree) (g.T.Tree.fault_count c.args.tree.now) (g.T.Tree.fault_count c.look_at_manifest.new.tree)
    (g.T.Tree.trace c.args.tree.now) (g.T.Tree.trace c.look_at_manifest.new.tree) in
    let looked = subst (λ (at : List ℕ). LooksAtManifest at look (Ok tt)) c.as_path.ensures c.in-Ok.ensures.looked in
    no_lists (is ∙ c.in-None.is) (g.T.Tree.content c.look_at_manifest.new.tree) (g.T.Tree.fault_count c.look_at_manifest.new.tree) (g.T.Tree.trace c.look_at_manifest.new.tree)
    looked c.in-Err-own_lists.error c.in-Err-own_lists.ensures.found refl

-- ---- they are

pub returns-in-Ok-own_lists-clause-comes : goal.returns-in-Ok-own_lists-clause-comes
returns-in-Ok-own_lists-clause-comes g c options is =
    let look = tree_seen (g.T.Tree.content c.args.tree.now) (g.T.Tree.content c.look_at_manifest.new.tree) (g.T.Tree.fault_count c.args.tree.now) (g.T.Tree.fault_count c.look_at_manifest.new.tree)
    (g.T.Tree.trace c.args.tree.now) (g.T.Tree.trace c.look_at_manifest.new.tree) in
    let looked = subst (λ (at : List ℕ). LooksAtManifest at look (Ok tt)) c.as_path.ensures c.in-Ok.ensures.looked in
    let had = lists_given (lists_chosen g.C.Catalog.lists c.in-Ok-own_lists.found.catalog) (chosen_given g.I.Identifier.match_of g.I.TextLookup.text_of c.in-Ok-own_lists.found.identifier) in
    lists_had (is ∙ c.in-None.is) (g.T.Tree.content c.look_at_manifest.new.tree) (g.T.Tree.fault_count c.look_at_manifest.new.tree) (g.T.Tree.trace c.look_at_manifest.new.tree)
    looked had c.in-Ok-own_lists.ensures.found refl
