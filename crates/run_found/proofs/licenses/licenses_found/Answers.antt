use Rattle.std.proofs.Common.{◌≡◌, ◌∙◌, ◌⊎◌, ap, subst, rules, []}
use Rattle.std.proofs.lemmas.Int.{to_z-of_z}
use Rattle.std.proofs.lemmas.Result.{err_from_is_err_and}
use mir.Syntax.{w64}
use mir.Val.{SFits}
use Rattle.graph_core.specs.selection.Listed.{selected_in}
use Rattle.tree_core.specs.Hearing.{Made}
use Rattle.tree_core.proofs.MadeLemmas.{made-later}
use Rattle.gather_license.specs.expression.Scanned.{Scanner}
use Rattle.gather_core.specs.Calls.{AreTurnsByReads, StarvesGathering}
use Rattle.gather_core.specs.Rules.{rules_of}
use Rattle.gather_core.specs.Gathered.{include_of, scanner_of_gatherer, threshold_of}
use Rattle.run_found.proofs.places.PlaceLemmas.{are_placed, entries_lie}
use Rattle.run_found.specs.Hearing.{tree_seen}
use Rattle.run_found.specs.Licenses.{scanner_of_policy}
use Rattle.run_found.proofs.GatheredLemmas.{gather_cut, gathered_on, gathering_later}
use Rattle.run_found.proofs.licenses.licenses_found.Goals as goal

pub returns-clause-gathered : goal.returns-clause-gathered
returns-clause-gathered g c graph choice chosen =
    let policy = c.args.policy.now in
    let lists = g.C.Catalog.lists c.args.catalog.now in
    let own = scanner_of_policy c.args.keeps lists (g.I.Identifier.match_of c.args.identifier.now) policy in
    let nfos = c.in_ok-summary.summary.nfos in
    let last = c.gather.new.files in
    let fits : SFits w64 policy.confidence_threshold = search rules in
    let cut = simp to_z-of_z at c.with_confidence_threshold.ensures in
    let same : ◌≡◌ {A = Scanner} (scanner_of_gatherer lists g.I.Identifier.match_of c.keeping_files-gatherer.result) own =
    ap (scanner_of_gatherer lists g.I.Identifier.match_of) c.keeping_files-gatherer.ensures
    ∙ ap (λ one. scanner_of_gatherer lists g.I.Identifier.match_of (record one { keeps = c.args.keeps })) cut
    ∙ ap (λ one. scanner_of_gatherer lists g.I.Identifier.match_of (record one { threshold = threshold_of policy.confidence_threshold; keeps = c.args.keeps })) c.with_store.ensures in
    let told = g.T.Tree.content c.args.tree.now in
    let tells = g.T.Tree.content c.gather.new.tree in
    let before = g.T.Tree.fault_count c.args.tree.now in
    let after = g.T.Tree.fault_count c.gather.new.tree in
    let old = g.T.Tree.trace c.args.tree.now in
    let new = g.T.Tree.trace c.gather.new.tree in
    let reads = subst (λ scanner. AreTurnsByReads told tells before after old new scanner (rules_of policy) c.args.files.now nfos last) same c.in_ok-summary.ensures.answered in
    gathered_on own policy (tree_seen told tells before after old new) c.args.files.now graph choice last nfos (c.in_ok-summary.ensures.listed graph choice chosen) reads

pub returns-in_err-summary-clause-cut : goal.returns-in_err-summary-clause-cut
returns-in_err-summary-clause-cut g c =
    let policy = c.args.policy.now in
    let lists = g.C.Catalog.lists c.args.catalog.now in
    let own = scanner_of_policy c.args.keeps lists (g.I.Identifier.match_of c.args.identifier.now) policy in
    let fits : SFits w64 policy.confidence_threshold = search rules in
    let cut = simp to_z-of_z at c.with_confidence_threshold.ensures in
    let same : ◌≡◌ {A = Scanner} (scanner_of_gatherer lists g.I.Identifier.match_of c.keeping_files-gatherer.result) own =
    ap (scanner_of_gatherer lists g.I.Identifier.match_of) c.keeping_files-gatherer.ensures
    ∙ ap (λ one. scanner_of_gatherer lists g.I.Identifier.match_of (record one { keeps = c.args.keeps })) cut
    ∙ ap (λ one. scanner_of_gatherer lists g.I.Identifier.match_of (record one { threshold = threshold_of policy.confidence_threshold; keeps = c.args.keeps })) c.with_store.ensures in
    let told = g.T.Tree.content c.args.tree.now in
    let tells = g.T.Tree.content c.gather.new.tree in
    let before = g.T.Tree.fault_count c.args.tree.now in
    let after = g.T.Tree.fault_count c.gather.new.tree in
    let old = g.T.Tree.trace c.args.tree.now in
    let new = g.T.Tree.trace c.gather.new.tree in
    let starves = subst (λ scanner. Made told tells before after old new [] ⊎ StarvesGathering told tells before after old new scanner (rules_of policy) c.args.files.now (selected_in (include_of policy) c.args.krates.now))
    same c.in_err-summary.ensures.no_memory in
    let p = err_from_is_err_and c.from_residual.result c.from_residual.ensures.1 in
    rw p.1 (λ graph choice chosen. gather_cut own policy (tree_seen told tells before after old new) c.args.files.now graph choice c.args.krates.now chosen starves)

pub returns-clause-placed : goal.returns-clause-placed
returns-clause-placed g c = c.in_ok-summary.ensures.placed (are_placed c.args.files.now c.args.policy.now c.requires)

pub returns-clause-entries : goal.returns-clause-entries
returns-clause-entries g c = entries_lie c.args.files.now c.gather.new.files c.args.policy.now c.requires c.gather.ensures.grows

pub returns-in_err-summary-clause-entries : goal.returns-in_err-summary-clause-entries
returns-in_err-summary-clause-entries g c = entries_lie c.args.files.now c.gather.new.files c.args.policy.now c.requires c.gather.ensures.grows

pub returns-clause-later : goal.returns-clause-later
returns-clause-later g c = made-later c.in_ok-summary.ensures.answered.made

pub returns-in_err-summary-clause-later : goal.returns-in_err-summary-clause-later
returns-in_err-summary-clause-later g c = gathering_later c.in_err-summary.ensures.no_memory
