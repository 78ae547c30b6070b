-- The crates in the order of their ids, and what that order makes of places.
use Rattle.std.proofs.Common.{◌≡◌, ℕ, zero, suc, ◌+◌, ◌<◌, ◌==◌, List, [], ◌∷◌, map, length, slice_get, slice_index_or, slice_set, true, false, T, Option, Some, None, IfSome, option_map, unwrap_or, All, refl, sym, ◌∙◌, ap, subst, arith}
use Rattle.std.specs.List.{AllByRecursion, filter_map, cons_option}
use Rattle.std.specs.List.Sorted.{IsStrictlySortedBy}
use Rattle.std.specs.Option.{option_map_or}
use Rattle.std.specs.FinMap as finmap
use Rattle.std.proofs.Math.Dec.{eqb_refl}
use Rattle.std.proofs.lemmas.Bool.{eqb-true}
use Rattle.std.proofs.lemmas.List.{length-map, get_or-set_same, get_or-set_other}
use Rattle.std.proofs.lemmas.Option.{slice_get-map, slice_get_within}
use Rattle.graph_core.specs.declared.edge.Edge.{Edge}
use Rattle.graph_core.specs.declared.krate.Krate.{Krate}
use Rattle.graph_core.specs.Krate.{CrateRecord, record_of, id_of, ids_in}
use Rattle.graph_core.specs.Metadata.{FitTogether, LeadWithin, IsPlace, crate_id_at, link_of, nodes_of}
use Rattle.graph_core.specs.Graph.{graph_with}
use Rattle.graph_metadata.specs.declared.order.Spot.{Spot}
use Rattle.graph_metadata.specs.Nodes.{Member}
use Rattle.graph_metadata.specs.Order.{spot_place, id_of_member, rank_at, rank_of_member, AreRanks, ranked_edge, ranked_edges}
use Rattle.graph_metadata.specs.Records.{spot_of, spots_of, id_of_package, link_to, edges_of_node, graph_node_at}
use Rattle.graph_metadata.specs.Shape.{IdPlaces}
use Rattle.graph_metadata.specs.Sound.{HasIdAt, AreApart}
use Rattle.graph_metadata.proofs.EntryLemmas.{by_bytes, AllEntries, find-place, keys-rise, values-apart, none_some, same_some}

-- ---- taking out of slots

abbrev pub Held : List (Option Krate) → List Krate → List ℕ → Type 0
Held slots crates places = AllByRecursion (λ place. slice_index_or slots place None ≡ slice_get crates place) places

some-at : (xs : List Krate) (i : ℕ) → slice_index_or (map Some xs) i None ≡ slice_get xs i
some-at [] i = refl
some-at (x ∷ xs) zero = refl
some-at (x ∷ xs) (suc i) = some-at xs i

pub held-all : (crates : List Krate) (places : List ℕ) → Held (map Some crates) crates places
held-all crates [] = tt
held-all crates (place ∷ places) = (some-at crates place, held-all crates places)

pub held-rest : (slots : List (Option Krate)) (crates : List Krate) (taken : ℕ) (places : List ℕ)
    → AllByRecursion (λ other. other ≡ taken → ⊥) places → Held slots crates places → Held (slice_set slots taken None) crates places
held-rest slots crates taken [] apart held = tt
held-rest slots crates taken (place ∷ places) apart held =
    (get_or-set_other slots taken place None None apart.0 ∙ held.0, held-rest slots crates taken places apart.1 held.1)

-- ---- the crates at a list of places

within-some : {A : Type 0} (xs : List A) (i : ℕ) → i < length xs → (x : A) × (slice_get xs i ≡ Some x)
within-some [] i h = absurd (omega arith)
within-some (x ∷ xs) zero h = (x, refl)
within-some (x ∷ xs) (suc i) h = within-some xs i (omega arith)

module _ (crates : List Krate) where
  abbrev pub crates_at : List ℕ → List Krate
  crates_at places = filter_map (slice_get crates) places

  abbrev pub Within : List ℕ → Type 0
  Within places = AllByRecursion (λ place. place < length crates) places

  first-at : (place : ℕ) (places : List ℕ) → place < length crates
      → (krate : Krate) × (slice_get crates place ≡ Some krate) × (crates_at (place ∷ places) ≡ krate ∷ crates_at places)
  first-at place places h =
      let found = within-some crates place h in
      (found.0, found.1, ap (λ o. cons_option o (crates_at places)) found.1)

  pub length-crates_at : (places : List ℕ) → Within places → length (crates_at places) ≡ length places
  length-crates_at [] h = refl
  length-crates_at (place ∷ places) h =
      ap length (first-at place places h.0).2 ∙ ap suc (length-crates_at places h.1)

  pub at-crates_at : (places : List ℕ) → Within places → (rank place : ℕ) → slice_get places rank ≡ Some place
      → slice_get (crates_at places) rank ≡ slice_get crates place
  at-crates_at [] h rank place e = absurd (none_some place e)
  at-crates_at (first ∷ places) h zero place e =
      let found = first-at first places h.0 in
      ap (λ list. slice_get list 0) found.2 ∙ (sym found.1 ∙ ap (slice_get crates) (same_some first place e))
  at-crates_at (first ∷ places) h (suc rank) place e =
      let found = first-at first places h.0 in
      ap (λ list. slice_get list (suc rank)) found.2 ∙ at-crates_at places h.1 rank place e

  id-first : (o : Option Krate) (id : List ℕ) (rest : List Krate) (ids : List (List ℕ)) → option_map id_of o ≡ Some id
      → map id_of rest ≡ ids → map id_of (cons_option o rest) ≡ id ∷ ids
  id-first None id rest ids e same = absurd (none_some id e)
  id-first (Some krate) id rest ids e same = ap (λ first. first ∷ map id_of rest) (same_some krate.id id e) ∙ ap (λ more. id ∷ more) same

  pub ids-crates_at : (es : List (List ℕ × ℕ)) → AllEntries (HasIdAt (map id_of crates)) es
      → map id_of (crates_at (map (λ e. e.1) es)) ≡ map (λ e. e.0) es
  ids-crates_at [] h = refl
  ids-crates_at (e ∷ es) h =
      id-first (slice_get crates e.1) e.0 (crates_at (map (λ e. e.1) es)) (map (λ e. e.0) es)
      (sym (slice_get-map id_of crates e.1) ∙ h.0) (ids-crates_at es h.1)

  pub within-entries : (es : List (List ℕ × ℕ)) → AllEntries (HasIdAt (map id_of crates)) es → Within (map (λ e. e.1) es)
  within-entries [] h = tt
  within-entries (e ∷ es) h =
      (subst (λ n. e.1 < n) (length-map crates id_of) (slice_get_within (map id_of crates) e.1 e.0 h.0), within-entries es h.1)

-- ---- ranks

less-than : (j k : ℕ) → j < k + 1 → (j ≡ k → ⊥) → j < k
less-than j k h other = omega arith

same_number : (n : ℕ) → T (n == n)
same_number n = eqb_refl n

pub ranks-none : (places ranks : List ℕ) → AreRanks places 0 ranks
ranks-none places ranks j place h e = absurd (omega arith)

pub ranks-more : (places ranks : List ℕ) (k next : ℕ) → slice_get places k ≡ Some next → next < length ranks
    → AreRanks places k ranks → AreRanks places (k + 1) (slice_set ranks next k)
ranks-more places ranks k next at h before j place below e =
    elim (place == next) as (λ b. (place == next) ≡ b → slice_get places (rank_at (slice_set ranks next k) place) ≡ Some place) [
      | true ↦ λ is. let same = eqb-true place next is in
          ap (λ q. slice_get places (rank_at (slice_set ranks next k) q)) same
          ∙ (ap (slice_get places) (get_or-set_same ranks next k 0 h) ∙ (at ∙ ap Some (sym same)))
      | false ↦ λ is.
          let other : place ≡ next → ⊥ = λ same. subst T (sym (ap (λ q. q == next) same) ∙ is) (same_number next) in
          let j-other : j ≡ k → ⊥ = λ same. other (same_some place next (sym e ∙ (ap (slice_get places) same ∙ at))) in
          ap (slice_get places) (get_or-set_other ranks next place k 0 other) ∙ before j place (less-than j k below j-other) e
    ] refl

-- ---- the whole

ids-told : (crates : List Krate) → ids_in (map record_of crates) ≡ map id_of crates
ids-told [] = refl
ids-told (krate ∷ crates) = ap (λ rest. krate.id ∷ rest) (ids-told crates)

places-of : (firsts : IdPlaces) (es : List (List ℕ × ℕ)) → map spot_place (map (spot_of firsts) es) ≡ map (λ e. e.1) es
places-of firsts [] = refl
places-of firsts (e ∷ es) = ap (λ rest. e.1 ∷ rest) (places-of firsts es)

same_id : (o : Option Krate) → unwrap_or (option_map id_of o) [] ≡ option_map_or (λ (krate : CrateRecord). krate.id) (option_map record_of o) []
same_id None = refl
same_id (Some krate) = refl

edges-within : (P : Edge → Type 0) (lists : List (List Edge)) → AllByRecursion (AllByRecursion P) lists → (node : Option ℕ)
    → AllByRecursion P (edges_of_node lists node)
edges-within P lists all None = tt
edges-within P [] all (Some node) = tt
edges-within P (list ∷ lists) all (Some zero) = all.0
edges-within P (list ∷ lists) all (Some (suc node)) = edges-within P lists all.1 (Some node)

all-index : {A : Type 0} (P : A → Type 0) (xs : List A) → AllByRecursion P xs → All P xs
all-index P [] h k d below = absurd (omega arith)
all-index P (x ∷ xs) h zero d below = h.0
all-index P (x ∷ xs) h (suc k) d below = all-index P xs h.1 k d (omega arith)

all-map : {A B : Type 0} (P : B → Type 0) (f : A → B) (xs : List A) → AllByRecursion (λ x. P (f x)) xs → AllByRecursion P (map f xs)
all-map P f [] h = tt
all-map P f (x ∷ xs) h = (h.0, all-map P f xs h.1)

all-step : {A : Type 0} (P Q : A → Type 0) → ((x : A) → P x → Q x) → (xs : List A) → AllByRecursion P xs → AllByRecursion Q xs
all-step P Q step [] h = tt
all-step P Q step (x ∷ xs) h = (step x h.0, all-step P Q step xs h.1)

all-every : {A : Type 0} (Q : A → Type 0) → ((x : A) → Q x) → (xs : List A) → AllByRecursion Q xs
all-every Q step [] = tt
all-every Q step (x ∷ xs) = (step x, all-every Q step xs)

module _ (known firsts : IdPlaces) (crates : List Krate) (lists : List (List Edge)) (ranks : List ℕ)
    (located : AllEntries (HasIdAt (ids_in (map record_of crates))) (finmap.entries known))
    (complete : (place : ℕ) (krate : CrateRecord) → slice_get (map record_of crates) place ≡ Some krate
    → finmap.get known krate.id ≡ Some place)
    (within : AllByRecursion (AllByRecursion (λ (edge : Edge). edge.to < length crates)) lists) where
  places : List ℕ
  places = map spot_place (spots_of known firsts)

  same-places : map spot_place (spots_of known firsts) ≡ map (λ e. e.1) (finmap.entries known)
  same-places = places-of firsts (finmap.entries known)

  here : AllEntries (HasIdAt (map id_of crates)) (finmap.entries known)
  here = subst (λ ids. AllEntries (HasIdAt ids) (finmap.entries known)) (ids-told crates) located

  pub places-within : Within crates (map spot_place (spots_of known firsts))
  places-within = subst (Within crates) (sym same-places) (within-entries crates (finmap.entries known) here)

  pub places-apart : AreApart (map spot_place (spots_of known firsts))
  places-apart =
      subst AreApart (sym same-places)
      (values-apart (map id_of crates) (finmap.entries known) (finmap.entries_sorted known) here)

  abbrev sorted : List Krate
  sorted = crates_at crates (map spot_place (spots_of known firsts))

  rising : IsStrictlySortedBy by_bytes (map id_of (crates_at crates (map spot_place (spots_of known firsts))))
  rising =
      subst (IsStrictlySortedBy by_bytes)
      (sym (ap (λ ps. map id_of (crates_at crates ps)) same-places ∙ ids-crates_at crates (finmap.entries known) here))
      (keys-rise (finmap.entries known) (finmap.entries_sorted known))

  module _ (ranked : AreRanks (map spot_place (spots_of known firsts)) (length (spots_of known firsts)) ranks) where
    -- the rank of a package is the place of its crate
    rank-is : (place : ℕ) → place < length crates
        → slice_get (map spot_place (spots_of known firsts)) (rank_at ranks place) ≡ Some place
    rank-is place h =
        let found = within-some crates place h in
        let get : finmap.get known found.0.id ≡ Some place =
        complete place (record_of found.0) (slice_get-map record_of crates place ∙ ap (option_map record_of) found.1) in
        let at = find-place found.0.id place (finmap.entries known) (sym (finmap.get-entries known found.0.id) ∙ get) in
        let spot : slice_get (map spot_place (spots_of known firsts)) at.0 ≡ Some place =
        ap (λ ps. slice_get ps at.0) same-places ∙ at.1 in
        ranked at.0 place
        (subst (λ n. at.0 < n) (length-map (spots_of known firsts) spot_place)
        (slice_get_within (map spot_place (spots_of known firsts)) at.0 place spot))
        spot

    rank-below : (place : ℕ) → place < length crates
        → rank_at ranks place < length (crates_at crates (map spot_place (spots_of known firsts)))
    rank-below place h =
        subst (λ n. rank_at ranks place < n) (sym (length-crates_at crates (map spot_place (spots_of known firsts)) places-within))
        (slice_get_within (map spot_place (spots_of known firsts)) (rank_at ranks place) place (rank-is place h))

    id-is : (place : ℕ) → place < length crates
        → crate_id_at (crates_at crates (map spot_place (spots_of known firsts))) (rank_at ranks place) ≡ id_of_package (map record_of crates) place
    id-is place h =
        ap (λ o. unwrap_or o []) (slice_get-map id_of (crates_at crates (map spot_place (spots_of known firsts))) (rank_at ranks place))
        ∙ (ap (λ o. unwrap_or (option_map id_of o) [])
        (at-crates_at crates (map spot_place (spots_of known firsts)) places-within (rank_at ranks place) place (rank-is place h))
        ∙ (same_id (slice_get crates place)
        ∙ ap (λ o. option_map_or (λ (krate : CrateRecord). krate.id) o []) (sym (slice_get-map record_of crates place))))

    links : (edges : List Edge) → AllByRecursion (λ (edge : Edge). edge.to < length crates) edges
        → map (link_of (crates_at crates (map spot_place (spots_of known firsts)))) (map (ranked_edge ranks) edges)
        ≡ map (link_to (map record_of crates)) edges
    links [] h = refl
    links (edge ∷ edges) h =
        ap (λ id. record { to = id; kinds = edge.kinds } ∷ map (link_of (crates_at crates (map spot_place (spots_of known firsts)))) (map (ranked_edge ranks) edges)) (id-is edge.to h.0)
        ∙ ap (λ rest. link_to (map record_of crates) edge ∷ rest) (links edges h.1)

    nodes : (spots : List Spot) → Within crates (map spot_place spots)
        → nodes_of (crates_at crates (map spot_place (spots_of known firsts))) (crates_at crates (map spot_place spots)) (map (ranked_edges ranks lists) spots)
        ≡ filter_map (graph_node_at (map record_of crates) lists) spots
    nodes [] h = refl
    nodes (spot ∷ spots) h =
        let found = first-at crates spot.place (map spot_place spots) h.0 in
        let told : slice_get (map record_of crates) spot.place ≡ Some (record_of found.0) =
        slice_get-map record_of crates spot.place ∙ ap (option_map record_of) found.1 in
        ap (λ list. nodes_of (crates_at crates (map spot_place (spots_of known firsts))) list (map (ranked_edges ranks lists) (spot ∷ spots))) found.2
        ∙ (ap (λ found_edges. record { krate = record_of found.0; edges = found_edges } ∷ nodes_of (crates_at crates (map spot_place (spots_of known firsts))) (crates_at crates (map spot_place spots)) (map (ranked_edges ranks lists) spots))
        (links (edges_of_node lists spot.node) (edges-within (λ (edge : Edge). edge.to < length crates) lists within spot.node))
        ∙ (ap (λ rest. record { krate = record_of found.0; edges = map (link_to (map record_of crates)) (edges_of_node lists spot.node) } ∷ rest) (nodes spots h.1)
        ∙ ap (λ o. cons_option (option_map (λ krate. record { krate = krate; edges = map (link_to (map record_of crates)) (edges_of_node lists spot.node) }) o) (filter_map (graph_node_at (map record_of crates) lists) spots)) (sym told)))

    member-id : (member : Member) → HasIdAt (ids_in (map record_of crates)) member.id member.place
        → (member.place < length crates) × (crate_id_at (crates_at crates (map spot_place (spots_of known firsts))) (rank_at ranks member.place) ≡ member.id)
    member-id member at =
        let stands : slice_get (map id_of crates) member.place ≡ Some member.id =
        ap (λ ids. slice_get ids member.place) (sym (ids-told crates)) ∙ at in
        let below : member.place < length crates =
        subst (λ n. member.place < n) (length-map crates id_of) (slice_get_within (map id_of crates) member.place member.id stands) in (
          below,
          id-is member.place below
              ∙ (ap (λ o. option_map_or (λ (krate : CrateRecord). krate.id) o []) (slice_get-map record_of crates member.place)
              ∙ (sym (same_id (slice_get crates member.place))
              ∙ ap (λ o. unwrap_or o []) (sym (slice_get-map id_of crates member.place) ∙ stands))),
        )

    members-are : (members : List Member)
        → AllByRecursion (λ (member : Member). HasIdAt (ids_in (map record_of crates)) member.id member.place) members
        → map (crate_id_at (crates_at crates (map spot_place (spots_of known firsts)))) (map (rank_of_member ranks) members) ≡ map id_of_member members
    members-are [] h = refl
    members-are (member ∷ members) h =
        ap (λ id. id ∷ map (crate_id_at (crates_at crates (map spot_place (spots_of known firsts)))) (map (rank_of_member ranks) members)) (member-id member h.0).1
        ∙ ap (λ rest. member.id ∷ rest) (members-are members h.1)

    root-is : (root : Option ℕ) → IfSome root (λ place. place < length crates)
        → IsPlace (length (crates_at crates (map spot_place (spots_of known firsts)))) (option_map (rank_at ranks) root)
    root-is None h = tt
    root-is (Some place) h = rank-below place h

    root-id : (root : Option ℕ) → IfSome root (λ place. place < length crates)
        → option_map (crate_id_at (crates_at crates (map spot_place (spots_of known firsts)))) (option_map (rank_at ranks) root)
        ≡ option_map (id_of_package (map record_of crates)) root
    root-id None h = refl
    root-id (Some place) h = ap Some (id-is place h)

    pub fit : (members : List Member) (root : Option ℕ)
        → AllByRecursion (λ (member : Member). HasIdAt (ids_in (map record_of crates)) member.id member.place) members
        → IfSome root (λ place. place < length crates)
        → FitTogether (crates_at crates (map spot_place (spots_of known firsts))) (map (ranked_edges ranks lists) (spots_of known firsts))
        (map id_of_member members) (map (rank_of_member ranks) members) (option_map (rank_at ranks) root)
    fit members root stand below = record {
      rising = rising;
      counted = length-map (spots_of known firsts) (ranked_edges ranks lists)
          ∙ (sym (length-map (spots_of known firsts) spot_place)
          ∙ sym (length-crates_at crates (map spot_place (spots_of known firsts)) places-within));
      within = all-index (LeadWithin (length (crates_at crates (map spot_place (spots_of known firsts))))) (map (ranked_edges ranks lists) (spots_of known firsts))
          (all-map (LeadWithin (length (crates_at crates (map spot_place (spots_of known firsts))))) (ranked_edges ranks lists) (spots_of known firsts)
          (all-every (λ spot. LeadWithin (length (crates_at crates (map spot_place (spots_of known firsts)))) (ranked_edges ranks lists spot))
          (λ spot. all-index (λ (edge : Edge). edge.to < length (crates_at crates (map spot_place (spots_of known firsts)))) (ranked_edges ranks lists spot)
          (all-map (λ (edge : Edge). edge.to < length (crates_at crates (map spot_place (spots_of known firsts)))) (ranked_edge ranks) (edges_of_node lists spot.node)
          (all-step (λ (edge : Edge). edge.to < length crates) (λ (edge : Edge). rank_at ranks edge.to < length (crates_at crates (map spot_place (spots_of known firsts))))
          (λ edge h. rank-below edge.to h) (edges_of_node lists spot.node) (edges-within (λ (edge : Edge). edge.to < length crates) lists within spot.node))))
          (spots_of known firsts)));
      member_ids = members-are members stand;
      member_places = all-index (λ place. place < length (crates_at crates (map spot_place (spots_of known firsts)))) (map (rank_of_member ranks) members)
          (all-map (λ place. place < length (crates_at crates (map spot_place (spots_of known firsts)))) (rank_of_member ranks) members
          (all-step (λ (member : Member). HasIdAt (ids_in (map record_of crates)) member.id member.place)
          (λ (member : Member). rank_at ranks member.place < length (crates_at crates (map spot_place (spots_of known firsts))))
          (λ member at. rank-below member.place (member-id member at).0) members stand));
      root_place = root-is root below;
    }

    pub same_graph : (members : List Member) (folder : List ℕ) (root : Option ℕ) → IfSome root (λ place. place < length crates)
        → graph_with (crates_at crates (map spot_place (spots_of known firsts))) (map (ranked_edges ranks lists) (spots_of known firsts))
        (map id_of_member members) folder (option_map (rank_at ranks) root)
        ≡ record {
          nodes = filter_map (graph_node_at (map record_of crates) lists) (spots_of known firsts);
          members = map id_of_member members;
          workspace_root = folder;
          root = option_map (id_of_package (map record_of crates)) root;
        }
    same_graph members folder root below =
        ap (λ found. record { nodes = found; members = map id_of_member members; workspace_root = folder; root = option_map (crate_id_at (crates_at crates (map spot_place (spots_of known firsts)))) (option_map (rank_at ranks) root) })
        (nodes (spots_of known firsts) places-within)
        ∙ ap (λ found. record { nodes = filter_map (graph_node_at (map record_of crates) lists) (spots_of known firsts); members = map id_of_member members; workspace_root = folder; root = found })
        (root-id root below)
