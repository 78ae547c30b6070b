-- The marks at the places of the members are those of the members.
use Rattle.std.proofs.Common.{◌≡◌, map, ◌∙◌, ap}
use Rattle.std.proofs.lemmas.Result.{IfOk-weaker}
use Rattle.graph_core.specs.Krate.{CrateRecord}
use Rattle.graph_core.specs.selection.Roots.{crates_of, is_member}
use Rattle.graph_core.specs.selection.Places.{marks_at}
use Rattle.graph_core.proofs.selection.StandingLemmas.{marks-members}
use Rattle.graph_core.proofs.selection.standing.member_marks.Goals as goal

pub returns : goal.returns
returns c =
    let graph = c.args.metadata.now in
    let places = c.member_places.result.now in
    IfOk-weaker c.marks_at.result (λ marks. marks.items ≡ marks_at c.len.result places)
    (λ marks. marks.items ≡ map (λ (krate : CrateRecord). is_member graph krate.id) (crates_of graph))
    (λ marks is. is ∙ (ap (λ count. marks_at count places) c.len.ensures
    ∙ marks-members graph c.requires places c.member_places.ensures.within c.member_places.ensures.value))
    c.marks_at.ensures
