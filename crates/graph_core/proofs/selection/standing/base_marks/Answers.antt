-- The marks at the place of the root, or at those of the members, are those of the base roots.
use Rattle.std.proofs.Common.{◌≡◌, ℕ, ◌<◌, [], ◌∷◌, length, map, sym, ◌∙◌, ap}
use Rattle.std.proofs.lemmas.List.Elements.{All-from_recursion}
use Rattle.std.proofs.lemmas.Result.{IfOk-weaker}
use Rattle.graph_core.specs.Metadata.{Graph}
use Rattle.graph_core.specs.selection.Choice.{Choice, choice_of}
use Rattle.graph_core.specs.selection.Roots.{crates_of, is_base}
use Rattle.graph_core.specs.selection.Places.{marks_at}
use Rattle.graph_core.proofs.selection.StandingLemmas.{marks-all, marks-none, marks-root}
use Rattle.graph_core.proofs.selection.standing.base_marks.Goals as goal
use Rattle.graph_core.proofs.selection.standing.base_marks.Goals.{in_default-via-in-Some+else-not-selection, in_default-via-in_default}

pub returns-in-Some : goal.returns-in-Some
returns-in-Some c =
    let graph : Graph = c.args.metadata.now in
    let choice : Choice = choice_of c.args.selection.now in
    let root : ℕ = c.in-Some.root in
    IfOk-weaker c.marks_at.result (λ marks. marks.items ≡ marks_at c.len.result (root ∷ []))
    (λ marks. marks.items ≡ map (is_base graph choice) (crates_of graph))
    (λ marks is. is ∙ (ap (λ count. marks_at count (root ∷ [])) c.len.ensures
    ∙ marks-root graph c.requires choice root
    (All-from_recursion (λ place. place < length graph.nodes) (root ∷ []) (c.in-Some.ensures.within, tt))
    c.if-not-selection.true c.in-Some.ensures.value))
    c.marks_at.ensures

pub returns-in_default : goal.returns-in_default
returns-in_default c =
    let graph : Graph = c.args.metadata.now in
    let choice : Choice = choice_of c.args.selection.now in
    let places = c.member_places.result.now in
    let within = c.member_places.ensures.within in
    let told = c.member_places.ensures.value in
    let base : marks_at (length graph.nodes) places ≡ map (is_base graph choice) (crates_of graph) =
    elim c.in_default.branch [
      | in_default-via-in-Some+else-not-selection w ↦ marks-all graph c.requires places within choice told w.if-not-selection.false
      | in_default-via-in_default w ↦ marks-none graph c.requires places within choice told (sym w.in_default.ensures.value)
    ] in
    IfOk-weaker c.marks_at-in_default.result (λ marks. marks.items ≡ marks_at c.len-in_default.result places)
    (λ marks. marks.items ≡ map (is_base graph choice) (crates_of graph))
    (λ marks is. is ∙ (ap (λ count. marks_at count places) c.len-in_default.ensures ∙ base))
    c.marks_at-in_default.ensures
