-- Marks at places are what is said of the crates at those places; and one standing more.
use Rattle.std.proofs.Common.{◌≡◌, ℕ, zero, suc, ◌+◌, ◌<◌, ◌||◌, Bool, true, false, eqb, List, [], ◌∷◌, ◌++◌, map, fold, take}
use Rattle.std.proofs.Common.{length, replicate, slice_set, slice_get, slice_index_or, bytes_eq, Option, Some, None, option_map}
use Rattle.std.proofs.Common.{refl, sym, ◌∙◌, ap, subst, inl, inr, arith}
use Rattle.std.specs.List.{AllByRecursion, list_any}
use Rattle.std.proofs.Math.Bool.{or-false, or_assoc}
use Rattle.std.proofs.lemmas.Bool.{cases_eq, eqb-true, eq-eqb, ne_eqb}
use Rattle.std.proofs.lemmas.Bool.Decides.{same_from_decides}
use Rattle.std.proofs.lemmas.List.{get_or-replicate, get_or-set_other, get_or-set_same, length-map, length-replicate, length-set, take_more}
use Rattle.std.proofs.lemmas.List.Elements.{recursion_from_All}
use Rattle.std.proofs.lemmas.Option.{get_or_from_slice_get, slice_get-get_or, slice_get-map}
use Rattle.std.proofs.lemmas.Slice.Eq.{bytes_eq-Decides}
use Rattle.graph_core.specs.declared.krate.Krate.{Krate}
use Rattle.graph_core.specs.Krate.{CrateRecord, has_text, record_of}
use Rattle.graph_core.specs.Metadata.{Graph, CrateNode, ArePlaces, AreRising, ids_of, id_of_node}
use Rattle.graph_core.specs.selection.Choice.{Choice}
use Rattle.graph_core.specs.selection.Roots.{crates_of, is_base, is_base_of, is_member}
use Rattle.graph_core.specs.selection.Places.{is_marked, marked_at, marks_at, no_standing, standing_of, standing_with, standings_in}
use Rattle.graph_core.proofs.selection.GraphPlaces.{crate-at, node-at}
use Rattle.graph_core.proofs.selection.Rising.{id-at, one-place, some_same}

or-true : (b : Bool) → (b || true) ≡ true
or-true true = refl
or-true false = refl

-- ---- marks by places

is-one : (marks : List Bool) (q p : ℕ) → q < length marks
    → is_marked (marked_at marks q) p ≡ (is_marked marks p || eqb q p)
is-one marks q p below =
    elim (cases_eq p q) [
      | inl same ↦ subst (λ i. is_marked (slice_set marks q true) i ≡ true) (sym same) (get_or-set_same marks q true false below)
          ∙ sym (ap (λ b. is_marked marks p || b) (eq-eqb q p (sym same)) ∙ or-true (is_marked marks p))
      | inr other ↦ get_or-set_other marks q p true false other
          ∙ sym (ap (λ b. is_marked marks p || b) (ne_eqb q p (λ e. other (sym e))) ∙ or-false (is_marked marks p))
    ]

abbrev among : ℕ → List ℕ → Bool
among p places = list_any (λ q. eqb q p) places

marked-among : (places : List ℕ) (marks : List Bool) (p : ℕ) → AllByRecursion (λ q. q < length marks) places
    → is_marked (fold marked_at marks places) p ≡ (is_marked marks p || among p places)
marked-among [] marks p within = sym (or-false (is_marked marks p))
marked-among (q ∷ places) marks p within =
    marked-among places (marked_at marks q) p
    (subst (λ n. AllByRecursion (λ r. r < n) places) (sym (length-set marks q true)) within.1)
    ∙ (ap (λ b. b || among p places) (is-one marks q p within.0)
    ∙ or_assoc (is_marked marks p) (eqb q p) (among p places))

marked-length : (places : List ℕ) (marks : List Bool) → length (fold marked_at marks places) ≡ length marks
marked-length [] marks = refl
marked-length (q ∷ places) marks = marked-length places (marked_at marks q) ∙ length-set marks q true

same-marks : (xs ys : List Bool) → length xs ≡ length ys → ((k : ℕ) → k < length xs → is_marked xs k ≡ is_marked ys k)
    → xs ≡ ys
same-marks [] [] e h = refl
same-marks [] (y ∷ ys) e h = absurd (omega arith)
same-marks (x ∷ xs) [] e h = absurd (omega arith)
same-marks (x ∷ xs) (y ∷ ys) e h =
    ap (λ b. b ∷ xs) (h zero (omega arith))
    ∙ ap (λ rest. y ∷ rest) (same-marks xs ys (omega arith) (λ k below. h (suc k) (omega arith)))

module _ (graph : Graph) (rising : AreRising (ids_of graph)) where
  pub said-at : {A : Type 0} (f : CrateRecord → A) (place : ℕ) (node : CrateNode) (d : A) → slice_get graph.nodes place ≡ Some node
      → slice_index_or (map f (crates_of graph)) place d ≡ f node.krate
  said-at f place node d at =
      get_or_from_slice_get (map f (crates_of graph)) place (f node.krate) d
      (slice_get-map f (crates_of graph) place ∙ ap (option_map f) (crate-at graph rising place node at))

  same-test : (p q : ℕ) → p < length graph.nodes → q < length graph.nodes
      → eqb q p ≡ bytes_eq (id_of_node graph q) (id_of_node graph p)
  same-test p q below within =
      same_from_decides {P = q ≡ p} (eqb q p) (bytes_eq (id_of_node graph q) (id_of_node graph p))
      (eqb-true q p, eq-eqb q p) (
        λ e. one-place graph rising q p within below ((bytes_eq-Decides (id_of_node graph q) (id_of_node graph p)).0 e),
        λ same. (bytes_eq-Decides (id_of_node graph q) (id_of_node graph p)).1 (ap (id_of_node graph) same),
      )

  among-holds : (places : List ℕ) (p : ℕ) → p < length graph.nodes → AllByRecursion (λ q. q < length graph.nodes) places
      → among p places ≡ has_text (map (id_of_node graph) places) (id_of_node graph p)
  among-holds [] p below within = refl
  among-holds (q ∷ places) p below within =
      ap (λ b. b || among p places) (same-test p q below within.0)
      ∙ ap (λ b. bytes_eq (id_of_node graph q) (id_of_node graph p) || b) (among-holds places p below within.1)

  module _ (places : List ℕ) (are : ArePlaces (length graph.nodes) places) where
    within-all : AllByRecursion (λ q. q < length graph.nodes) places
    within-all = recursion_from_All (λ q. q < length graph.nodes) places are

    mark-is : (k : ℕ) → k < length graph.nodes
        → is_marked (marks_at (length graph.nodes) places) k ≡ has_text (map (id_of_node graph) places) (id_of_node graph k)
    mark-is k below =
        marked-among places (replicate (length graph.nodes) false) k
        (subst (λ n. AllByRecursion (λ q. q < n) places) (sym (length-replicate (length graph.nodes) false)) within-all)
        ∙ (ap (λ b. b || among k places) (get_or-replicate (length graph.nodes) k false false below)
        ∙ among-holds places k below within-all)

    count-marks : length (marks_at (length graph.nodes) places) ≡ length graph.nodes
    count-marks =
        marked-length places (replicate (length graph.nodes) false) ∙ length-replicate (length graph.nodes) false

    count-crates : {A : Type 0} (f : CrateRecord → A) → length (map f (crates_of graph)) ≡ length graph.nodes
    count-crates f = length-map (crates_of graph) f ∙ length-map graph.nodes (λ (node : CrateNode). node.krate)

    pub marks-say : (f : CrateRecord → Bool) → ((krate : CrateRecord) → has_text (map (id_of_node graph) places) krate.id ≡ f krate)
        → marks_at (length graph.nodes) places ≡ map f (crates_of graph)
    marks-say f says =
        same-marks (marks_at (length graph.nodes) places) (map f (crates_of graph)) (count-marks ∙ sym (count-crates f))
        (λ k below.
        let within : k < length graph.nodes = subst (λ n. k < n) count-marks below in
        let there = node-at graph rising k within in
        mark-is k within
        ∙ (ap (has_text (map (id_of_node graph) places)) (id-at graph rising k there.0 there.1)
        ∙ (says there.0.krate ∙ sym (said-at f k there.0 false there.1))))

    -- of the members
    pub marks-members : map (id_of_node graph) places ≡ graph.members
        → marks_at (length graph.nodes) places ≡ map (λ (krate : CrateRecord). is_member graph krate.id) (crates_of graph)
    marks-members told =
        marks-say (λ (krate : CrateRecord). is_member graph krate.id) (λ krate. ap (λ ids. has_text ids krate.id) told)

    base-all : (workspace : Bool) (root : Option (List ℕ)) → workspace ≡ true → (id : List ℕ)
        → is_member graph id ≡ is_base_of graph workspace root id
    base-all workspace root is id = sym (ap (λ w. is_base_of graph w root id) is)

    base-none : (workspace : Bool) (id : List ℕ) → is_member graph id ≡ is_base_of graph workspace None id
    base-none true id = refl
    base-none false id = refl

    pub marks-all : (choice : Choice) → map (id_of_node graph) places ≡ graph.members → choice.workspace ≡ true
        → marks_at (length graph.nodes) places ≡ map (is_base graph choice) (crates_of graph)
    marks-all choice told is =
        marks-say (is_base graph choice)
        (λ krate. ap (λ ids. has_text ids krate.id) told ∙ base-all choice.workspace graph.root is krate.id)

    pub marks-none : (choice : Choice) → map (id_of_node graph) places ≡ graph.members → graph.root ≡ None
        → marks_at (length graph.nodes) places ≡ map (is_base graph choice) (crates_of graph)
    marks-none choice told none =
        marks-say (is_base graph choice)
        (λ krate. ap (λ ids. has_text ids krate.id) told
        ∙ (base-none choice.workspace krate.id
        ∙ sym (ap (λ root. is_base_of graph choice.workspace root krate.id) none)))

  -- of the root
  pub marks-root : (choice : Choice) (place : ℕ) → ArePlaces (length graph.nodes) (place ∷ []) → choice.workspace ≡ false
      → Some (id_of_node graph place) ≡ graph.root
      → marks_at (length graph.nodes) (place ∷ []) ≡ map (is_base graph choice) (crates_of graph)
  marks-root choice place are off root =
      marks-say (place ∷ []) are (is_base graph choice)
      (λ krate. or-false (bytes_eq (id_of_node graph place) krate.id)
      ∙ (ap (λ w. is_base_of graph w (Some (id_of_node graph place)) krate.id) (sym off)
      ∙ ap (λ r. is_base_of graph choice.workspace r krate.id) root))

  -- ---- one standing more

  module _ (choice : Choice) (krates : List Krate) (told : map record_of krates ≡ crates_of graph)
      (i : ℕ) (krate : Krate) (below : i < length krates) (at : krate ≡ slice_index_or krates i krate) where
    in-graph : i < length graph.nodes
    in-graph =
        subst (λ n. i < n) (length-map graph.nodes (λ (node : CrateNode). node.krate))
        (subst (λ found. i < length found) told (subst (λ n. i < n) (sym (length-map krates record_of)) below))

    there : (node : CrateNode) × (slice_get graph.nodes i ≡ Some node)
    there = node-at graph rising i in-graph

    same-krate : record_of krate ≡ there.0.krate
    same-krate =
        some_same (record_of krate) there.0.krate
        (sym (slice_get-map record_of krates i
        ∙ ap (option_map record_of) (slice_get-get_or krates i krate below ∙ ap Some (sym at)))
        ∙ (ap (λ found. slice_get found i) told ∙ crate-at graph rising i there.0 there.1))

    count-standings : length (standings_in graph choice) ≡ length graph.nodes
    count-standings = length-map (crates_of graph) (standing_of graph choice) ∙ length-map graph.nodes (λ (node : CrateNode). node.krate)

    pub standings-more : (members bases : List Bool)
        → members ≡ map (λ (k : CrateRecord). is_member graph k.id) (crates_of graph)
        → bases ≡ map (is_base graph choice) (crates_of graph)
        → take i (standings_in graph choice)
        ++ standing_with choice (record_of krate) (is_marked members i) (is_marked bases i) ∷ []
        ≡ take (i + 1) (standings_in graph choice)
    standings-more members bases m b =
        ap (λ s. take i (standings_in graph choice) ++ s ∷ [])
        (ap (λ k. standing_with choice k (is_marked members i) (is_marked bases i)) same-krate
        ∙ (ap (λ x. standing_with choice there.0.krate x (is_marked bases i))
        (ap (λ marks. is_marked marks i) m ∙ said-at (λ (k : CrateRecord). is_member graph k.id) i there.0 false there.1)
        ∙ (ap (standing_with choice there.0.krate (is_member graph there.0.krate.id))
        (ap (λ marks. is_marked marks i) b ∙ said-at (is_base graph choice) i there.0 false there.1)
        ∙ sym (said-at (standing_of graph choice) i there.0 no_standing there.1))))
        ∙ sym (take_more (standings_in graph choice) i no_standing (subst (λ n. i < n) (sym count-standings) in-graph))
