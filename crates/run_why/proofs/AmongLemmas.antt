-- The crates of the metadata without a cause, in order, are those that are selected.
use Rattle.std.proofs.Common.{◌≡◌, ◌∙◌, refl, sym, ap, subst, ℕ, zero, suc, ◌<◌, nat_cmp, List, [], ◌∷◌, length, map, Contains, Option, Some, None, option_map, arith}
use Rattle.std.specs.Prelude.{slice_get}
use Rattle.std.specs.List.{AllByRecursion}
use Rattle.std.specs.List.Sorted.{IsStrictlySortedBy}
use Rattle.std.specs.Cmp.Lexicographic.{slice_cmp}
use Rattle.std.specs.declared.cmp.Ordering.TheVariants.{Less}
use Rattle.std.proofs.lemmas.List.{length-map}
use Rattle.std.proofs.lemmas.List.Elements.{All-contains, All-contains_itself, All-from_recursion, Contains-get_or, recursion_from_All}
use Rattle.std.proofs.lemmas.Option.{get_or_from_slice_get, slice_get-map, slice_get_read}
use Rattle.graph_core.specs.Krate.{CrateRecord, ids_in}
use Rattle.graph_core.specs.Metadata.{AreRising, CrateNode, Graph, ids_of}
use Rattle.graph_core.specs.declared.selection.selection.Include.{Include}
use Rattle.graph_core.specs.selection.Choice.{Choice}
use Rattle.graph_core.specs.selection.Listed.{IsListOf}
use Rattle.graph_core.specs.selection.Roots.{crates_of}
use Rattle.graph_core.specs.selection.Walks.{Selected}
use Rattle.graph_walk.specs.declared.unchecked.Unchecked.{Unchecked}
use Rattle.graph_walk.specs.Unchecked.{UncheckedIs}
use Rattle.run_check.proofs.OrderAlike.{lists_alike}
use Rattle.run_why.specs.Steps.{cause_at}
use Rattle.run_why.proofs.TextLemmas.{at_within, checked_among}

-- ---- what is so of all is so of these

some_ids : (P : List ℕ → Type 0) (crates : List CrateRecord) (causes : List (Option Unchecked)) → AllByRecursion P (ids_in crates) → AllByRecursion P (ids_in (checked_among crates causes))
some_ids P [] causes all = tt
some_ids P (krate ∷ crates) [] all = tt
some_ids P (krate ∷ crates) (Some cause ∷ causes) all = some_ids P crates causes all.1
some_ids P (krate ∷ crates) (None ∷ causes) all = (all.0, some_ids P crates causes all.1)

some_crates : (P : CrateRecord → Type 0) (crates : List CrateRecord) (causes : List (Option Unchecked)) → AllByRecursion P crates → AllByRecursion P (checked_among crates causes)
some_crates P [] causes all = tt
some_crates P (krate ∷ crates) [] all = tt
some_crates P (krate ∷ crates) (Some cause ∷ causes) all = some_crates P crates causes all.1
some_crates P (krate ∷ crates) (None ∷ causes) all = (all.0, some_crates P crates causes all.1)

some_rise : (crates : List CrateRecord) (causes : List (Option Unchecked)) → AreRising (ids_in crates) → AreRising (ids_in (checked_among crates causes))
unfolding IsStrictlySortedBy
some_rise [] causes rising = tt
some_rise (krate ∷ crates) [] rising = tt
some_rise (krate ∷ crates) (Some cause ∷ causes) rising = some_rise crates causes rising.1
some_rise (krate ∷ crates) (None ∷ causes) rising = (some_ids (λ id. slice_cmp nat_cmp krate.id id ≡ Less) crates causes rising.0, some_rise crates causes rising.1)

ids_same : (nodes : List CrateNode) → map (λ (node : CrateNode). node.krate.id) nodes ≡ ids_in (map (λ (node : CrateNode). node.krate) nodes)
ids_same [] = refl
ids_same (node ∷ nodes) = ap (λ (ids : List (List ℕ)). node.krate.id ∷ ids) (ids_same nodes)

-- ---- by places

among_at : (crates : List CrateRecord) (causes : List (Option Unchecked)) (place : ℕ) (krate : CrateRecord) → length causes ≡ length crates → slice_get crates place ≡ Some krate
    → cause_at causes place ≡ None → Contains (ids_in (checked_among crates causes)) krate.id
among_at [] causes zero krate counted is none = absurd (cc is)
among_at [] causes (suc place) krate counted is none = absurd (cc is)
among_at (first ∷ crates) [] place krate counted is none = absurd (omega (arith, counted))
among_at (first ∷ crates) (Some cause ∷ causes) zero krate counted is none = absurd (cc none)
among_at (first ∷ crates) (Some cause ∷ causes) (suc place) krate counted is none = among_at crates causes place krate (omega (arith, counted)) is none
among_at (first ∷ crates) (None ∷ causes) zero krate counted is none = (0, omega arith, same_id first krate is)
  where
    same_id : (one other : CrateRecord) → ◌≡◌ {A = Option CrateRecord} (Some one) (Some other) → one.id ≡ other.id
    same_id one other e = cc
among_at (first ∷ crates) (None ∷ causes) (suc place) krate counted is none =
    let rest = among_at crates causes place krate (omega (arith, counted)) is none in
    (suc rest.0, (let below = rest.1 in omega (arith, below)), rest.2)

contains_id : (crates : List CrateRecord) (id : List ℕ) → Contains (ids_in crates) id → (krate : CrateRecord) × Contains crates krate × (krate.id ≡ id)
contains_id crates id (k, below, is) =
    let within : k < length crates = subst (λ n. k < n) (length-map crates (λ (krate : CrateRecord). krate.id)) below in
    let there = at_within crates k within in
    let got = get_or_from_slice_get crates k there.0 there.0 there.1 in (
      there.0,
      subst (Contains crates) got (Contains-get_or crates k there.0 within),
      sym (get_or_from_slice_get (ids_in crates) k there.0.id id (slice_get-map (λ (krate : CrateRecord). krate.id) crates k ∙ ap (option_map (λ (krate : CrateRecord). krate.id)) there.1)) ∙ is,
    )

module _ (graph : Graph) (rising : AreRising (ids_of graph)) (choice : Choice) (own : ℕ) (include : Include) (causes : List (Option Unchecked)) (counted : length causes ≡ length (crates_of graph))
    (each : (place : ℕ) (krate : CrateRecord) → slice_get (crates_of graph) place ≡ Some krate → UncheckedIs graph choice own include krate (cause_at causes place)) where
  none_selected : (crates : List CrateRecord) (more : List (Option Unchecked)) → length more ≡ length crates
      → ((place : ℕ) (krate : CrateRecord) → slice_get crates place ≡ Some krate → UncheckedIs graph choice own include krate (cause_at more place))
      → AllByRecursion (Selected graph choice include) (ids_in (checked_among crates more))
  none_selected [] more many each = tt
  none_selected (krate ∷ crates) [] many each = tt
  none_selected (krate ∷ crates) (Some cause ∷ more) many each = none_selected crates more (omega (arith, many)) (λ place one is. each (suc place) one is)
  none_selected (krate ∷ crates) (None ∷ more) many each = (each 0 krate refl, none_selected crates more (omega (arith, many)) (λ place one is. each (suc place) one is))

  module _ (crates : List CrateRecord) (listed : IsListOf graph (Selected graph choice include) crates) where
    -- what is selected has no cause
    among_all : (id : List ℕ) → Selected graph choice include id → Contains (ids_in (checked_among (crates_of graph) causes)) id
    among_all id selected =
        let found = contains_id crates id (listed.whole id selected) in
        let stands = All-contains (Contains (crates_of graph)) crates found.0 listed.records found.1 in
        let at = slice_get_read (crates_of graph) (length (crates_of graph)) stands.0 found.0 refl stands.1 (sym stands.2) in
        let own_id : Selected graph choice include found.0.id = subst (Selected graph choice include) (sym found.2) selected in
        subst (Contains (ids_in (checked_among (crates_of graph) causes))) found.2
        (by_cause stands.0 found.0 at own_id (cause_at causes stands.0) refl)
      where
        by_cause : (place : ℕ) (krate : CrateRecord) → slice_get (crates_of graph) place ≡ Some krate → Selected graph choice include krate.id → (cause : Option Unchecked) → cause_at causes place ≡ cause
            → Contains (ids_in (checked_among (crates_of graph) causes)) krate.id
        by_cause place krate at selected None is = among_at (crates_of graph) causes place krate counted at is
        by_cause place krate at selected (Some cause) is = absurd ((subst (UncheckedIs graph choice own include krate) is (each place krate at)).0 selected)

    pub among_are : checked_among (crates_of graph) causes ≡ crates
    among_are =
        lists_alike graph rising (Selected graph choice include) (checked_among (crates_of graph) causes) crates
        (record {
          rising = some_rise (crates_of graph) causes (subst AreRising (ids_same graph.nodes) rising);
          sound = All-from_recursion (Selected graph choice include) (ids_in (checked_among (crates_of graph) causes)) (none_selected (crates_of graph) causes counted each);
          whole = among_all;
          records = All-from_recursion (Contains (crates_of graph)) (checked_among (crates_of graph) causes)
              (some_crates (Contains (crates_of graph)) (crates_of graph) causes (recursion_from_All (Contains (crates_of graph)) (crates_of graph) (All-contains_itself (crates_of graph))));
        })
        listed
