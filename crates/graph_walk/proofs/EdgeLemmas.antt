-- The edges out of a place, as the search reads them, are those that a walk may take.
use Rattle.std.proofs.Common.{◌≡◌, ℕ, ◌<◌, not, true, false, List, map, length, slice_get, slice_index_or, Contains, Some, Option, sym, ◌∙◌, ap, subst, inl, inr}
use Rattle.std.proofs.lemmas.Bool.{cases_Bool}
use Rattle.std.proofs.lemmas.List.{length-map, get_or-map}
use Rattle.std.proofs.lemmas.List.Elements.{All-contains}
use Rattle.std.proofs.lemmas.Option.{get_or_from_slice_get}
use Rattle.graph_core.specs.declared.edge.DepKind.{DepKind}
use Rattle.graph_core.specs.declared.edge.Edge.{Edge}
use Rattle.graph_core.specs.declared.edge.Kinds.{Kinds}
use Rattle.graph_core.specs.Metadata.{Graph, Link, CrateNode, AreRising, LeadWithin, ids_of, id_of_node, edges_at, link_in}
use Rattle.graph_core.specs.declared.selection.standing.Standing.{Standing}
use Rattle.graph_core.specs.selection.Choice.{Choice, is_excluded}
use Rattle.graph_core.specs.selection.Roots.{IsExcluded, is_member}
use Rattle.graph_core.specs.selection.Walks.{IsEdge, MayBeTaken, Step, link_of_step}
use Rattle.graph_core.specs.selection.Places.{counting_at, meet, other_kinds, passes, standing_at, standing_of, standings_in}
use Rattle.graph_core.proofs.selection.Rising.{id-at, one-node}
use Rattle.graph_core.proofs.selection.PutLemmas.{both-left, both-right, not-true, true-false}
use Rattle.graph_core.proofs.selection.LeftLemmas.{both, left-if-meets, meets-if-left}
use Rattle.graph_core.proofs.selection.GraphPlaces.{edges-is, node-at, node-stands, standing-is, with-at, with-not, within-some}

-- an edge of the list, which passes, leads to the crate with the id
pub record IsEndOf (standings : List Standing) (counting : Kinds) (graph : Graph) (edges : List Edge) (id : List ℕ) : Type 0 where
  pub edge : Edge
  pub one : Contains edges edge
  pub within : edge.to < length graph.nodes
  pub passes_it : passes standings counting edge ≡ true
  pub leads : id_of_node graph edge.to ≡ id

module _ (graph : Graph) (choice : Choice) (named : Option DepKind) (rising : AreRising (ids_of graph)) (place : ℕ)
    (below : place < length graph.nodes) (edges : List Edge) (within : LeadWithin (length graph.nodes) edges)
    (told : map (link_in graph) edges ≡ edges_at graph place) where
  abbrev node : CrateNode
  node = (node-at graph rising place below).0

  at : slice_get graph.nodes place ≡ Some node
  at = (node-at graph rising place below).1

  abbrev counting : Kinds
  counting = counting_at choice.exclude_dev (other_kinds named) (standing_at (standings_in graph choice) place)

  abbrev pub step_of : Edge → Step
  step_of edge = record { from = id_of_node graph place; to = id_of_node graph edge.to; kinds = edge.kinds }

  member : (standing_at (standings_in graph choice) place).member ≡ (standing_of graph choice node.krate).member
  member = ap (λ (standing : Standing). standing.member) (standing-is graph rising choice place node at)

  same_id : id_of_node graph place ≡ node.krate.id
  same_id = id-at graph rising place node at

  edge-of : (edge : Edge) → Contains edges edge → IsEdge graph (step_of edge)
  edge-of edge (k, in_list, is) = record {
    node = node;
    stands = node-stands graph rising place node at;
    begins = sym same_id;
    listed = subst (λ links. Contains links (link_in graph edge)) (told ∙ edges-is graph rising place node at)
        (k, subst (λ m. k < m) (sym (length-map edges (link_in graph))) in_list, get_or-map (link_in graph) edges k edge (link_in graph edge) in_list ∙ ap (link_in graph) is);
  }

  open-end : (edge : Edge) → edge.to < length graph.nodes → (standing_at (standings_in graph choice) edge.to).excluded ≡ false
      → IsExcluded graph choice (id_of_node graph edge.to) → ⊥
  open-end edge in_graph free excluded =
      let there = node-at graph rising edge.to in_graph in
      true-false (sym (with-not graph rising (is_excluded choice.exclude) edge.to there.0 there.1 excluded)
      ∙ (sym (ap (λ (standing : Standing). standing.excluded) (standing-is graph rising choice edge.to there.0 there.1)) ∙ free))

  not-excluded : (edge : Edge) → edge.to < length graph.nodes → (IsExcluded graph choice (id_of_node graph edge.to) → ⊥)
      → not (standing_at (standings_in graph choice) edge.to).excluded ≡ true
  not-excluded edge in_graph free =
      let there = node-at graph rising edge.to in_graph in
      elim (cases_Bool (standing_at (standings_in graph choice) edge.to).excluded) [
        | inl excluded ↦ absurd (free (with-at graph rising (is_excluded choice.exclude) edge.to there.0 there.1
            (sym (ap (λ (standing : Standing). standing.excluded) (standing-is graph rising choice edge.to there.0 there.1)) ∙ excluded)))
        | inr clear ↦ ap not clear
      ]

  -- an edge that passes may be taken
  pub may-take : (edge : Edge) → Contains edges edge → passes (standings_in graph choice) counting edge ≡ true
      → MayBeTaken graph choice named (step_of edge)
  may-take edge one pass =
      let in_graph : edge.to < length graph.nodes = All-contains (λ (e : Edge). e.to < length graph.nodes) edges edge within one in
      record {
        edge = edge-of edge one;
        left = left-if-meets graph choice named (step_of edge) (standing_at (standings_in graph choice) place)
            (member ∙ ap (is_member graph) (sym same_id))
            (both-left (meet edge.kinds counting) (not (standing_at (standings_in graph choice) edge.to).excluded) pass);
        ends = open-end edge in_graph (not-true (standing_at (standings_in graph choice) edge.to).excluded
            (both-right (meet edge.kinds counting) (not (standing_at (standings_in graph choice) edge.to).excluded) pass));
      }

  end-at : (step : Step) → MayBeTaken graph choice named step → step.from ≡ id_of_node graph place
      → (k : ℕ) → k < length edges → slice_index_or (map (link_in graph) edges) k (link_of_step step) ≡ link_of_step step
      → IsEndOf (standings_in graph choice) counting graph edges step.to
  end-at step may begins k in_list is =
      let there = within-some edges k in_list in
      let edge : Edge = there.0 in
      let link : link_in graph edge ≡ link_of_step step =
      sym (get_or-map (link_in graph) edges k edge (link_of_step step) in_list ∙ ap (link_in graph) (get_or_from_slice_get edges k edge edge there.1)) ∙ is in
      let leads : id_of_node graph edge.to ≡ step.to = ap (λ (l : Link). l.to) link in
      let kinds : edge.kinds ≡ step.kinds = ap (λ (l : Link). l.kinds) link in
      let one : Contains edges edge = (k, in_list, get_or_from_slice_get edges k edge edge there.1) in
      let in_graph : edge.to < length graph.nodes = All-contains (λ (e : Edge). e.to < length graph.nodes) edges edge within one in
      let meets : meet edge.kinds counting ≡ true =
      ap (λ (k : Kinds). meet k counting) kinds
      ∙ meets-if-left graph choice named step (standing_at (standings_in graph choice) place) (member ∙ ap (is_member graph) (sym same_id ∙ sym begins)) may.left in
      let free : not (standing_at (standings_in graph choice) edge.to).excluded ≡ true =
      not-excluded edge in_graph (λ excluded. may.ends (subst (IsExcluded graph choice) leads excluded)) in
      record {
        edge = edge;
        one = one;
        within = in_graph;
        passes_it = both (meet edge.kinds counting) (not (standing_at (standings_in graph choice) edge.to).excluded) meets free;
        leads = leads;
      }

  -- what may be taken out of the place is an edge that passes
  pub taken-end : (step : Step) → MayBeTaken graph choice named step → step.from ≡ id_of_node graph place
      → IsEndOf (standings_in graph choice) counting graph edges step.to
  taken-end step may begins =
      let same_node : may.edge.node ≡ node =
      one-node graph rising place node may.edge.node at may.edge.stands (may.edge.begins ∙ (begins ∙ same_id)) in
      let listed : Contains (map (link_in graph) edges) (link_of_step step) =
      subst (λ links. Contains links (link_of_step step)) (ap (λ (m : CrateNode). m.edges) same_node ∙ sym (told ∙ edges-is graph rising place node at)) may.edge.listed in
      end-at step may begins listed.0 (subst (λ m. listed.0 < m) (length-map edges (link_in graph)) listed.1) listed.2
