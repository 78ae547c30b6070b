use Rattle.std.proofs.Common.{◌≡◌, ◌∙◌, List, ℕ, subst, map, option_copied, rules}
use Rattle.graph_core.specs.Krate.{record_of}
use Rattle.gather_license.specs.files.Calls.{IsMadeBy}
use Rattle.gather_license.specs.files.Steps.{BeginsPack}
use Rattle.gather_license.proofs.files.CallLemmas.{made_then, on_err}
use Rattle.gather_license.specs.Clarification.{lent_clarification}
use Rattle.gather_license.specs.Priority.{folder_of}
use Rattle.gather_license.proofs.CallLemmas.{starves_beginning, starves_looking}
use Rattle.gather_license.proofs.LookedLemmas.{looked}
use Rattle.gather_license.proofs.settle.look.Goals as goal

pub returns-clause-looked : goal.returns-clause-looked
returns-clause-looked g c =
    let krate = record_of c.args.krate.now in
    let file_is : option_copied c.as_ref.result ≡ krate.license_file = search rules in
    let begun = c.in_ok-pack.pack in
    let new = c.in_ok-clarified.clarified.pack in
    looked krate (map lent_clarification c.args.clarifications.now) c.in_ok-clarified.ensures.goes.reads begun new c.in_ok-clarified.clarified.held c.in_ok-clarified.clarified.missing
    (subst (λ folder. BeginsPack folder krate.license_file begun) c.folder.ensures
    (subst (λ file. BeginsPack c.folder.result.now file begun) file_is c.in_ok-pack.ensures.begins))
    c.in_ok-clarified.ensures.goes.takes
    c.in_ok-clarified.ensures.paths
    c.in_ok-clarified.ensures.held
    c.in_ok-clarified.ensures.missing

pub returns-clause-made : goal.returns-clause-made
returns-clause-made g c =
    made_then (folder_of (record_of c.args.krate.now)) c.in_ok-pack.pack c.in_ok-clarified.clarified.pack (c.in_ok-pack.ensures.begins.folder_is ∙ c.folder.ensures)
    (subst (λ (folder : List ℕ). IsMadeBy (g.T.Tree.content c.args.tree.now) (g.T.Tree.content c.read.new.tree) (g.T.Tree.fault_count c.args.tree.now) (g.T.Tree.fault_count c.read.new.tree)
    (g.T.Tree.trace c.args.tree.now) (g.T.Tree.trace c.read.new.tree) folder c.in_ok-pack.pack) c.folder.ensures c.in_ok-pack.ensures.made)
    c.in_ok-clarified.ensures.goes

pub returns-in_err-pack-clause-no_memory : goal.returns-in_err-pack-clause-no_memory
returns-in_err-pack-clause-no_memory g c =
    let krate = record_of c.args.krate.now in
    let file_is : option_copied c.as_ref.result ≡ krate.license_file = search rules in
    on_err c.from_residual.result _
    (starves_beginning krate (map lent_clarification c.args.clarifications.now) c.folder.result.now (option_copied c.as_ref.result) c.folder.ensures file_is c.in_err-pack.ensures.no_memory)

pub returns-in_err-clarified-clause-no_memory : goal.returns-in_err-clarified-clause-no_memory
returns-in_err-clarified-clause-no_memory g c =
    let krate = record_of c.args.krate.now in
    let file_is : option_copied c.as_ref.result ≡ krate.license_file = search rules in
    let begun = c.in_ok-pack.pack in
    on_err c.from_residual-in_err-clarified.result _
    (starves_looking krate (map lent_clarification c.args.clarifications.now) begun
    (subst (λ folder. BeginsPack folder krate.license_file begun) c.folder.ensures
    (subst (λ file. BeginsPack c.folder.result.now file begun) file_is c.in_ok-pack.ensures.begins))
    (subst (λ (folder : List ℕ). IsMadeBy (g.T.Tree.content c.args.tree.now) (g.T.Tree.content c.read.new.tree) (g.T.Tree.fault_count c.args.tree.now) (g.T.Tree.fault_count c.read.new.tree)
    (g.T.Tree.trace c.args.tree.now) (g.T.Tree.trace c.read.new.tree) folder c.in_ok-pack.pack) c.folder.ensures c.in_ok-pack.ensures.made)
    c.in_err-clarified.ensures.no_memory)
