-- The marks of four walks make the crates that a choice reaches.
use Rattle.std.proofs.Common.{◌≡◌, ℕ, suc, ◌+◌, ◌<◌, ◌&&◌, Bool, true, List, [], ◌∷◌, map, length, Some, None, refl, sym, ◌∙◌, ap, subst, arith}
use Rattle.std.proofs.lemmas.List.Elements.{All-weaker}
use Rattle.graph_core.specs.declared.krate.Krate.{Krate}
use Rattle.graph_core.specs.declared.edge.DepKind.{DepKind}
use Rattle.graph_core.specs.declared.edge.DepKind.TheVariants.{Normal, Dev, Build}
use Rattle.graph_core.specs.declared.edge.Kinds.{Kinds}
use Rattle.graph_core.specs.Krate.{record_of}
use Rattle.graph_core.specs.Metadata.{Graph, AreRising, ids_of, id_of_node}
use Rattle.graph_core.specs.selection.Choice.{Choice}
use Rattle.graph_core.specs.selection.Roots.{crates_of}
use Rattle.graph_core.specs.selection.Walks.{MayBeTaken, Reached, Step}
use Rattle.graph_core.specs.selection.Listed.{IsChosen, IsListOf, chosen_with, has_kind}
use Rattle.graph_core.specs.selection.Places.{AreMarksOf, AreWithout, is_marked, marked_items, kinds_at, kinds_kept}
use Rattle.graph_core.proofs.selection.PutLemmas.{both-right}
use Rattle.graph_core.proofs.selection.LeftLemmas.{both}
use Rattle.graph_core.proofs.selection.Rising.{one-place}
use Rattle.graph_core.proofs.selection.KeptLemmas.{items-all, items-passing, kept-lists, kept-map, passing, passing-at}

-- ---- a walk without a kind is a walk

module _ (graph : Graph) (choice : Choice) (kind : DepKind) where
  may-still : (step : Step) → MayBeTaken graph choice (Some kind) step → MayBeTaken graph choice None step
  may-still step may = record {
    edge = may.edge;
    left = record { kind = may.left.kind; other = tt; leaves = may.left.leaves };
    ends = may.ends;
  }

  pub reached-too : (id : List ℕ) → Reached graph choice (Some kind) id → Reached graph choice None id
  reached-too id reached = record {
    root = reached.root;
    begins = reached.begins;
    steps = reached.steps;
    walk = reached.walk;
    taken = All-weaker (MayBeTaken graph choice (Some kind)) (MayBeTaken graph choice None) may-still reached.steps reached.taken;
  }

zero-plus : (n : ℕ) → 0 + n ≡ n
zero-plus n = omega arith

length-passing : (test : Kinds → Bool) (normal dev build : List Bool) (place : ℕ) (marks : List Bool)
    → length (passing test normal dev build place marks) ≡ length marks
length-passing test normal dev build place [] = refl
length-passing test normal dev build place (mark ∷ marks) = ap suc (length-passing test normal dev build (suc place) marks)

module _ (graph : Graph) (choice : Choice) (rising : AreRising (ids_of graph)) (marks normal dev build : List Bool)
    (reached : AreMarksOf graph (Reached graph choice None) marks) (without : AreWithout graph choice normal dev build) where
  abbrev marks_for : DepKind → List Bool
  marks_for Normal = normal
  marks_for Dev = dev
  marks_for Build = build

  marks-are : (kind : DepKind) → AreMarksOf graph (Reached graph choice (Some kind)) (marks_for kind)
  marks-are Normal = without.normal_marks
  marks-are Dev = without.dev_marks
  marks-are Build = without.build_marks

  has-is : (kind : DepKind) (place : ℕ) → has_kind kind (kinds_at normal dev build place) ≡ is_marked (marks_for kind) place
  has-is Normal place = refl
  has-is Dev place = refl
  has-is Build place = refl

  both-marks : (kind : DepKind) (place : ℕ) → is_marked (passing (has_kind kind) normal dev build 0 marks) place
      ≡ (is_marked marks place && is_marked (marks_for kind) place)
  both-marks kind place =
      passing-at (has_kind kind) normal dev build 0 marks place
      ∙ (ap (λ p. is_marked marks place && has_kind kind (kinds_at normal dev build p)) (zero-plus place)
      ∙ ap (λ b. is_marked marks place && b) (has-is kind place))

  whole-both : (kind : DepKind) (id : List ℕ) → Reached graph choice (Some kind) id
      → (place : ℕ) × (place < length graph.nodes) × (is_marked (passing (has_kind kind) normal dev build 0 marks) place ≡ true)
      × (id_of_node graph place ≡ id)
  whole-both kind id has =
      let here = (marks-are kind).whole id has in
      let too = reached.whole id (reached-too graph choice kind id has) in
      let same : too.0 ≡ here.0 = one-place graph rising too.0 here.0 too.1 here.1 (too.3 ∙ sym here.3) in (
        here.0,
        here.1,
        both-marks kind here.0 ∙ both (is_marked marks here.0) (is_marked (marks_for kind) here.0)
            (subst (λ place. is_marked marks place ≡ true) same too.2) here.2,
        here.3,
      )

  pub marks-without : (kind : DepKind) → AreMarksOf graph (Reached graph choice (Some kind)) (passing (has_kind kind) normal dev build 0 marks)
  marks-without kind = record {
    counted = length-passing (has_kind kind) normal dev build 0 marks ∙ reached.counted;
    sound = λ place marked. (marks-are kind).sound place
        (both-right (is_marked marks place) (is_marked (marks_for kind) place) (sym (both-marks kind place) ∙ marked));
    whole = whole-both kind;
  }

  pub chosen-is : (crates : List Krate) → map record_of crates ≡ crates_of graph
      → IsChosen graph choice (chosen_with (marked_items crates marks) (kinds_kept normal dev build 0 marks) graph.members graph.workspace_root)
  chosen-is crates told = record {
    reached = subst (IsListOf graph (Reached graph choice None))
        (sym (items-all (marked_items crates marks) (kinds_kept normal dev build 0 marks)
        ∙ (kept-map record_of crates marks ∙ ap (λ records. marked_items records marks) told)))
        (kept-lists graph rising (Reached graph choice None) marks reached);
    without = λ kind. subst (IsListOf graph (Reached graph choice (Some kind)))
        (sym (items-passing (has_kind kind) normal dev build crates 0 marks
        ∙ ap (λ records. marked_items records (passing (has_kind kind) normal dev build 0 marks)) told))
        (kept-lists graph rising (Reached graph choice (Some kind)) (passing (has_kind kind) normal dev build 0 marks) (marks-without kind));
    members = refl;
    workspace_root = refl;
  }
