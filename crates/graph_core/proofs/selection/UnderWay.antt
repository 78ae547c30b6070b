-- What holds while places wait: what is marked is reached, and what doesn't wait any more is done. Once nothing waits, what is
-- reached is marked.
use Rattle.std.proofs.Common.{◌≡◌, ℕ, ◌<◌, ◌⊎◌, not, Bool, true, false, List, [], ◌∷◌, ◌++◌, map, length, slice_get, slice_index_or, Contains, All, Some, Option, refl, sym, ◌∙◌, ap, subst, inl, inr, arith}
use Rattle.std.specs.List.{AllByRecursion}
use Rattle.std.proofs.lemmas.List.{length-map, get_or-map}
use Rattle.std.proofs.lemmas.List.Elements.{All-contains, All-pop, Contains-append_left, Contains-push, Contains-push_cases, recursion_from_All}
use Rattle.std.proofs.lemmas.Bool.{cases_Bool}
use Rattle.std.proofs.lemmas.Option.{get_or_from_slice_get}
use Rattle.graph_core.specs.declared.edge.DepKind.{DepKind}
use Rattle.graph_core.specs.declared.edge.Edge.{Edge}
use Rattle.graph_core.specs.declared.edge.Kinds.{Kinds}
use Rattle.graph_core.specs.Metadata.{Graph, Link, CrateNode, AreRising, LeadWithin, ids_of, id_of_node, edges_at, link_in}
use Rattle.graph_core.specs.declared.selection.standing.Standing.{Standing}
use Rattle.graph_core.specs.selection.Choice.{Choice, is_excluded}
use Rattle.graph_core.specs.selection.Roots.{IsExcluded, IsRoot, is_member}
use Rattle.graph_core.specs.selection.Walks.{IsEdge, MayBeTaken, Reached, Step, link_of_step}
use Rattle.graph_core.specs.selection.Places.{AreMarksOf, FrontierView, counting_at, follow, is_marked, meet, other_kinds, passes, standing_at, standing_of, standings_in}
use Rattle.graph_core.proofs.selection.Rising.{id-at, one-node}
use Rattle.graph_core.proofs.selection.WalkLemmas.{reached-more, reached-stays}
use Rattle.graph_core.proofs.selection.PutLemmas.{both-left, both-right, not-true, true-false}
use Rattle.graph_core.proofs.selection.LeftLemmas.{both, left-if-meets, meets-if-left}
use Rattle.graph_core.proofs.selection.FollowLemmas.{follow-counted, follow-found, follow-keeps, follow-new, follow-waiting, follow-waits, follow-within}
use Rattle.graph_core.proofs.selection.GraphPlaces.{edges-is, node-at, node-stands, standing-is, with-at, with-not, within-some}

-- a marked place has the id
abbrev pub IdMarked : Graph → List Bool → List ℕ → Type 0
IdMarked graph marks id =
    (place : ℕ) × (place < length graph.nodes) × (is_marked marks place ≡ true) × (id_of_node graph place ≡ id)

-- each edge that a walk may take out of the place leads to a marked one
abbrev pub IsDone : Graph → Choice → Option DepKind → List Bool → ℕ → Type 0
IsDone graph choice named marks place =
    (step : Step) → MayBeTaken graph choice named step → step.from ≡ id_of_node graph place → IdMarked graph marks step.to

pub record IsUnderWay (graph : Graph) (choice : Choice) (named : Option DepKind) (seen : FrontierView) : Type 0 where
  pub counted : length seen.marks ≡ length graph.nodes
  pub within : All (λ place. place < length graph.nodes) seen.waiting
  pub marked : (place : ℕ) → Contains seen.waiting place → is_marked seen.marks place ≡ true
  pub sound : (place : ℕ) → is_marked seen.marks place ≡ true → Reached graph choice named (id_of_node graph place)
  pub roots : (id : List ℕ) → IsRoot graph choice id → IdMarked graph seen.marks id
  pub pending : (place : ℕ) → is_marked seen.marks place ≡ true → Contains seen.waiting place ⊎ IsDone graph choice named seen.marks place

module _ (graph : Graph) (choice : Choice) (named : Option DepKind) (rising : AreRising (ids_of graph)) where
  more-marked : (old new : List Bool) → ((q : ℕ) → is_marked old q ≡ true → is_marked new q ≡ true) → (id : List ℕ)
      → IdMarked graph old id → IdMarked graph new id
  more-marked old new grows id (place, within, marked, named_so) = (place, within, grows place marked, named_so)

  -- ---- one place is followed

  module _ (place : ℕ) (node : CrateNode) (at : slice_get graph.nodes place ≡ Some node)
      (edges : List Edge) (within : LeadWithin (length graph.nodes) edges) (told : map (link_in graph) edges ≡ edges_at graph place)
      (rest : List ℕ) (marks : List Bool)
      (before : IsUnderWay graph choice named (record { marks = marks; waiting = rest ++ place ∷ [] })) where
    abbrev start : FrontierView
    start = record { marks = marks; waiting = rest }

    abbrev counting : Kinds
    counting = counting_at choice.exclude_dev (other_kinds named) (standing_at (standings_in graph choice) place)

    abbrev end : FrontierView
    end = follow (standings_in graph choice) counting start edges

    in_range : AllByRecursion (λ (edge : Edge). edge.to < length graph.nodes) edges
    in_range = recursion_from_All (λ (edge : Edge). edge.to < length graph.nodes) edges within

    grows : (q : ℕ) → is_marked marks q ≡ true → is_marked end.marks q ≡ true
    grows q marked = follow-keeps (standings_in graph choice) counting (length graph.nodes) edges start q before.counted in_range marked

    abbrev step_of : Edge → Step
    step_of edge = record { from = id_of_node graph place; to = id_of_node graph edge.to; kinds = edge.kinds }

    member : (standing_at (standings_in graph choice) place).member ≡ (standing_of graph choice node.krate).member
    member = ap (λ (standing : Standing). standing.member) (standing-is graph rising choice place node at)

    same_id : id_of_node graph place ≡ node.krate.id
    same_id = id-at graph rising place node at

    -- an edge of the list is one of the graph
    edge-of : (edge : Edge) → Contains edges edge → IsEdge graph (step_of edge)
    edge-of edge (k, below, is) = record {
      node = node;
      stands = node-stands graph rising place node at;
      begins = sym same_id;
      listed = subst (λ links. Contains links (link_in graph edge)) (told ∙ edges-is graph rising place node at)
          (k, subst (λ m. k < m) (sym (length-map edges (link_in graph))) below, get_or-map (link_in graph) edges k edge (link_in graph edge) below ∙ ap (link_in graph) is);
    }

    open-end : (edge : Edge) → edge.to < length graph.nodes → (standing_at (standings_in graph choice) edge.to).excluded ≡ false
        → IsExcluded graph choice (id_of_node graph edge.to) → ⊥
    open-end edge below free excluded =
        let there = node-at graph rising edge.to below in
        true-false (sym (with-not graph rising (is_excluded choice.exclude) edge.to there.0 there.1 excluded)
        ∙ (sym (ap (λ (standing : Standing). standing.excluded) (standing-is graph rising choice edge.to there.0 there.1)) ∙ free))

    not-excluded : (edge : Edge) → edge.to < length graph.nodes → (IsExcluded graph choice (id_of_node graph edge.to) → ⊥)
        → not (standing_at (standings_in graph choice) edge.to).excluded ≡ true
    not-excluded edge below free =
        let there = node-at graph rising edge.to below in
        elim (cases_Bool (standing_at (standings_in graph choice) edge.to).excluded) [
          | inl excluded ↦ absurd (free (with-at graph rising (is_excluded choice.exclude) edge.to there.0 there.1
              (sym (ap (λ (standing : Standing). standing.excluded) (standing-is graph rising choice edge.to there.0 there.1)) ∙ excluded)))
          | inr clear ↦ ap not clear
        ]

    within-rest : All (λ q. q < length graph.nodes) (rest ++ place ∷ []) → All (λ q. q < length graph.nodes) rest
    within-rest all = (All-pop (λ q. q < length graph.nodes) (rest ++ place ∷ []) rest (Some place) refl all).0

    taken : (edge : Edge) → Contains edges edge → edge.to < length graph.nodes → passes (standings_in graph choice) counting edge ≡ true
        → MayBeTaken graph choice named (step_of edge)
    taken edge one below pass = record {
      edge = edge-of edge one;
      left = left-if-meets graph choice named (step_of edge) (standing_at (standings_in graph choice) place)
          (member ∙ ap (is_member graph) (sym same_id))
          (both-left (meet edge.kinds counting) (not (standing_at (standings_in graph choice) edge.to).excluded) pass);
      ends = open-end edge below (not-true (standing_at (standings_in graph choice) edge.to).excluded
          (both-right (meet edge.kinds counting) (not (standing_at (standings_in graph choice) edge.to).excluded) pass));
    }

    here : Reached graph choice named (id_of_node graph place)
    here = before.sound place (before.marked place (Contains-push rest place))

    sound-end : (q : ℕ) → is_marked end.marks q ≡ true → Reached graph choice named (id_of_node graph q)
    sound-end q marked =
        elim (follow-new (standings_in graph choice) counting (length graph.nodes) edges start q marked) [
          | inl old ↦ before.sound q old
          | inr found ↦
              let edge : Edge = found.0.edge in
              let below : edge.to < length graph.nodes = All-contains (λ (e : Edge). e.to < length graph.nodes) edges edge within found.0.one in
              subst (λ i. Reached graph choice named (id_of_node graph i)) found.0.leads
              (reached-more graph choice named (id_of_node graph place) (step_of edge) here refl
              (taken edge found.0.one below found.0.passes_it))
        ]

    end-of : (step : Step) → MayBeTaken graph choice named step → step.from ≡ id_of_node graph place
        → (k : ℕ) → k < length edges → slice_index_or (map (link_in graph) edges) k (link_of_step step) ≡ link_of_step step
        → IdMarked graph end.marks step.to
    end-of step may begins k below is =
        let there = within-some edges k below in
        let edge : Edge = there.0 in
        let link : link_in graph edge ≡ link_of_step step =
        sym (get_or-map (link_in graph) edges k edge (link_of_step step) below ∙ ap (link_in graph) (get_or_from_slice_get edges k edge edge there.1)) ∙ is in
        let leads : id_of_node graph edge.to ≡ step.to = ap (λ (l : Link). l.to) link in
        let kinds : edge.kinds ≡ step.kinds = ap (λ (l : Link). l.kinds) link in
        let one : Contains edges edge = (k, below, get_or_from_slice_get edges k edge edge there.1) in
        let in_graph : edge.to < length graph.nodes = All-contains (λ (e : Edge). e.to < length graph.nodes) edges edge within one in
        let meets : meet edge.kinds counting ≡ true =
        ap (λ (k : Kinds). meet k counting) kinds
        ∙ meets-if-left graph choice named step (standing_at (standings_in graph choice) place) (member ∙ ap (is_member graph) (sym same_id ∙ sym begins)) may.left in
        let free : not (standing_at (standings_in graph choice) edge.to).excluded ≡ true =
        not-excluded edge in_graph (λ excluded. may.ends (subst (IsExcluded graph choice) leads excluded)) in (
          edge.to,
          in_graph,
          follow-found (standings_in graph choice) counting (length graph.nodes) edges start k edge before.counted in_range below one.2
              (both (meet edge.kinds counting) (not (standing_at (standings_in graph choice) edge.to).excluded) meets free),
          leads,
        )

    -- the edges out of the place lead to what is marked
    done-place : IsDone graph choice named end.marks place
    done-place step may begins =
        let same_node : may.edge.node ≡ node =
        one-node graph rising place node may.edge.node at may.edge.stands (may.edge.begins ∙ (begins ∙ same_id)) in
        let listed : Contains (map (link_in graph) edges) (link_of_step step) =
        subst (λ links. Contains links (link_of_step step)) (ap (λ (m : CrateNode). m.edges) same_node ∙ sym (told ∙ edges-is graph rising place node at)) may.edge.listed in
        end-of step may begins listed.0 (subst (λ m. listed.0 < m) (length-map edges (link_in graph)) listed.1) listed.2

    pending-end : (q : ℕ) → is_marked end.marks q ≡ true → Contains end.waiting q ⊎ IsDone graph choice named end.marks q
    pending-end q marked =
        elim (follow-new (standings_in graph choice) counting (length graph.nodes) edges start q marked) [
          | inr found ↦ inl found.1
          | inl old ↦ elim (before.pending q old) [
            | inr done ↦ inr (λ step may begins. more-marked marks end.marks grows step.to (done step may begins))
            | inl waits ↦ elim (Contains-push_cases rest place q waits) [
              | inl still ↦ inl (follow-waits (standings_in graph choice) counting (length graph.nodes) edges start q still)
              | inr same ↦ inr (subst (IsDone graph choice named end.marks) same done-place)
            ]
          ]
        ]

    pub under-way-followed : IsUnderWay graph choice named (follow (standings_in graph choice)
        (counting_at choice.exclude_dev (other_kinds named) (standing_at (standings_in graph choice) place)) (record { marks = marks; waiting = rest }) edges)
    under-way-followed = record {
      counted = follow-counted (standings_in graph choice) counting (length graph.nodes) edges start before.counted;
      within = follow-within (standings_in graph choice) counting (length graph.nodes) edges start in_range (within-rest before.within);
      marked = λ q waits. follow-waiting (standings_in graph choice) counting (length graph.nodes) edges start q before.counted in_range
          (λ p still. before.marked p (Contains-append_left rest (place ∷ []) p still)) waits;
      sound = sound-end;
      roots = λ id root. more-marked marks end.marks grows id (before.roots id root);
      pending = pending-end;
    }

  -- ---- nothing waits any more

  no-wait : (q : ℕ) → Contains [] q → ⊥
  no-wait q (k, below, is) = absurd (omega arith)

  pub marks-at-end : (marks : List Bool) → IsUnderWay graph choice named (record { marks = marks; waiting = [] })
      → AreMarksOf graph (Reached graph choice named) marks
  marks-at-end marks over = record {
    counted = over.counted;
    sound = over.sound;
    whole = λ id reached. reached-stays graph choice named (IdMarked graph marks)
        (λ step may found. elim (over.pending found.0 found.2) [
          | inl waits ↦ absurd (no-wait found.0 waits)
          | inr done ↦ done step may (sym found.3)
        ])
        over.roots id reached;
  }
