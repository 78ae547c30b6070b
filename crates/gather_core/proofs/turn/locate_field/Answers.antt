use Rattle.std.proofs.Common.{◌≡◌, ◌∙◌, ℕ, List, Some, is_some, sym, ap}
use Rattle.std.proofs.lemmas.Result.{IfOk-weaker, on_err_weaker}
use Rattle.graph_core.specs.Krate.{record_of}
use Rattle.gather_core.proofs.findings.GrowLemmas.{grows_itself}
use Rattle.gather_core.proofs.CallLemmas.{grows_located_by, none_located, own_located, own_starved}
use Rattle.gather_core.proofs.turn.locate_field.Goals as goal

pub returns-in-Some-clause-answered : goal.returns-in-Some-clause-answered
returns-in-Some-clause-answered g c =
    let krate = record_of c.args.krate.now in
    let license : krate.license ≡ Some c.as_str.result.now = c.in-Some.is ∙ ap (λ (field : List ℕ). Some field) (sym c.as_str.ensures) in
    IfOk-weaker c.locate.result _ _ (λ located by. own_located krate c.as_str.result.now c.args.files.now license located c.locate.new.files by) c.locate.ensures.answered

pub returns-in-Some-clause-no_memory : goal.returns-in-Some-clause-no_memory
returns-in-Some-clause-no_memory g c =
    let krate = record_of c.args.krate.now in
    let license : krate.license ≡ Some c.as_str.result.now = c.in-Some.is ∙ ap (λ (field : List ℕ). Some field) (sym c.as_str.ensures) in
    on_err_weaker c.locate.result (own_starved krate c.as_str.result.now c.args.files.now license) c.locate.ensures.no_memory

-- the manifest is not asked for
pub returns-in-None-clause-answered : goal.returns-in-None-clause-answered
returns-in-None-clause-answered g c =
    let krate = record_of c.args.krate.now in
    none_located _ _ _ (is_some krate.license) krate c.args.files.now (ap is_some c.in-None.is)

-- the table grows
pub returns-in-Some-clause-grows : goal.returns-in-Some-clause-grows
returns-in-Some-clause-grows g c =
    grows_located_by _ _ _ _ _ _ (record_of c.args.krate.now).manifest_path c.as_str.result.now c.args.files.now c.locate.new.files c.locate.result c.locate.ensures.answered c.locate.ensures.err

pub returns-in-None-clause-grows : goal.returns-in-None-clause-grows
returns-in-None-clause-grows g c = grows_itself c.args.files.now
