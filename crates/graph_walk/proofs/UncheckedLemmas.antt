-- The cause that is told of a crate is its first, and one without a cause is selected.
use Rattle.std.proofs.Common.{◌≡◌, ℕ, ◌<◌, ◌≤◌, ◌||◌, not, Bool, true, false, List, [], ◌∷◌, map, length, take, drop, slice_get, slice_index_or, is_some, if◌then◌else◌, Option, Some, None, refl, sym, ◌∙◌, ap, subst, arith}
use Rattle.std.specs.List.{list_any}
use Rattle.std.proofs.lemmas.List.{length-map, get_or-map}
use Rattle.std.proofs.lemmas.Option.{get_or_from_slice_get, slice_get_within}
use Rattle.graph_core.specs.declared.edge.DepKind.{DepKind}
use Rattle.graph_core.specs.declared.edge.DepKind.TheVariants.{Dev, Build}
use Rattle.graph_core.specs.declared.selection.selection.Include.{Include}
use Rattle.graph_core.specs.declared.krate.Krate.{Krate}
use Rattle.graph_core.specs.Krate.{CrateRecord, record_of}
use Rattle.graph_core.specs.Metadata.{Graph, CrateNode, AreRising, ids_of, id_of_node}
use Rattle.graph_core.specs.declared.selection.exclude.ExcludeSpec.{ExcludeSpec}
use Rattle.graph_core.specs.selection.Choice.{Choice, exclude_spec_of, is_excluded}
use Rattle.graph_core.specs.selection.Places.{is_unpublished_standing, standing_at, standing_of, standings_in}
use Rattle.graph_core.specs.selection.Roots.{crates_of, is_unpublished_base}
use Rattle.graph_core.specs.selection.Walks.{Reached, Selected}
use Rattle.graph_core.proofs.selection.GraphPlaces.{crate-at, node-at, standing-is}
use Rattle.graph_core.proofs.selection.Rising.{id-at, some_same}
use Rattle.graph_walk.specs.declared.unchecked.Led.{Led}
use Rattle.graph_walk.specs.declared.unchecked.Unchecked.{Unchecked}
use Rattle.graph_walk.specs.declared.unchecked.Unchecked.TheVariants.{LeftOutByWords, LeftOutByPolicy, NeverPublished, OnlyDev, OnlyBuild, NotLedTo}
use Rattle.graph_walk.specs.Shortest.{AreShortest, ShortestWalk, ids_on, walk_at}
use Rattle.graph_walk.specs.Unchecked.{AreSelecting, HasCause, UncheckedIs, cause_by, leaves_out, led_by, number_of, unled_by}

true-is-false : true ≡ false → ⊥
true-is-false e = cc

-- whether something holds, by a test
pub record Tells (test : Bool) (P : Type 0) : Type 0 where
  pub holds : test ≡ true → P
  pub fails : test ≡ false → P → ⊥

module _ (graph : Graph) (choice : Choice) (named : Option DepKind) (id : List ℕ) where
  by-walk : (walk : Option (List ℕ)) → ShortestWalk graph choice named id (ids_on graph walk) → Tells (is_some walk) (Reached graph choice named id)
  by-walk None is = record { holds = λ e. absurd (true-is-false (sym e)); fails = λ e reached. is reached }
  by-walk (Some walk) is = record { holds = λ e. is.walk; fails = λ e reached. true-is-false e }

pub walk-tells : (graph : Graph) (choice : Choice) (named : Option DepKind) (walks : List (Option (List ℕ))) (place : ℕ)
    → AreShortest graph choice named walks → place < length graph.nodes
    → Tells (is_some (walk_at walks place)) (Reached graph choice named (id_of_node graph place))
walk-tells graph choice named walks place are within =
    by-walk graph choice named (id_of_node graph place) (walk_at walks place) (are.each place within)

module _ (graph : Graph) (choice : Choice) (words : ℕ) (include : Include) (krate : CrateRecord) where
  abbrev Cause : Unchecked → Type 0
  Cause = HasCause graph choice words include krate

  -- what is told of walks alone: a cause from the fourth on, before which none of these holds
  abbrev pub UnledIs : Option Unchecked → Type 0
  UnledIs None = Selected graph choice include krate.id
  UnledIs (Some cause) =
      (Selected graph choice include krate.id → ⊥) × Cause cause
      × ((other : Unchecked) → 3 ≤ number_of other → number_of other < number_of cause → Cause other → ⊥) × (3 ≤ number_of cause)

  module _ (led : Led) (all : Tells led.all (Reached graph choice None krate.id))
      (dev : Tells led.without_dev (Reached graph choice (Some Dev) krate.id))
      (build : Tells led.without_build (Reached graph choice (Some Build) krate.id)) where
    not-led : led.all ≡ false → UnledIs (Some NotLedTo)
    not-led e = (
      λ selected. all.fails e selected.reached,
      λ reached. all.fails e reached,
      earlier,
      omega arith,
    )
      where
        earlier : (other : Unchecked) → 3 ≤ number_of other → number_of other < 5 → Cause other → ⊥
        earlier LeftOutByWords from less cause = absurd (omega arith)
        earlier LeftOutByPolicy from less cause = absurd (omega arith)
        earlier NeverPublished from less cause = absurd (omega arith)
        earlier OnlyDev from less cause = all.fails e cause.1
        earlier OnlyBuild from less cause = all.fails e cause.1
        earlier NotLedTo from less cause = absurd (omega arith)

    only-dev : led.all ≡ true → include.dev ≡ false → led.without_dev ≡ false → UnledIs (Some OnlyDev)
    only-dev e d w = (
      λ selected. dev.fails w (selected.without_dev d),
      (d, all.holds e, λ reached. dev.fails w reached),
      earlier,
      omega arith,
    )
      where
        earlier : (other : Unchecked) → 3 ≤ number_of other → number_of other < 3 → Cause other → ⊥
        earlier other from less cause = absurd (omega arith)

    abbrev DevFits : Type 0
    DevFits = include.dev ≡ false → Reached graph choice (Some Dev) krate.id

    only-build : led.all ≡ true → DevFits → include.build ≡ false → led.without_build ≡ false → UnledIs (Some OnlyBuild)
    only-build e fits b w = (
      λ selected. build.fails w (selected.without_build b),
      (b, all.holds e, λ reached. build.fails w reached),
      earlier,
      omega arith,
    )
      where
        earlier : (other : Unchecked) → 3 ≤ number_of other → number_of other < 4 → Cause other → ⊥
        earlier LeftOutByWords from less cause = absurd (omega arith)
        earlier LeftOutByPolicy from less cause = absurd (omega arith)
        earlier NeverPublished from less cause = absurd (omega arith)
        earlier OnlyDev from less cause = cause.2 (fits cause.0)
        earlier OnlyBuild from less cause = absurd (omega arith)
        earlier NotLedTo from less cause = absurd (omega arith)

    selected-by : led.all ≡ true → DevFits → (include.build ≡ false → Reached graph choice (Some Build) krate.id) → UnledIs None
    selected-by e fits build_fits = record { reached = all.holds e; without_dev = fits; without_build = build_fits }

    build-by : (b w : Bool) → include.build ≡ b → led.without_build ≡ w → led.all ≡ true → DevFits
        → UnledIs (if not (b || w) then Some OnlyBuild else None)
    build-by true w is told e fits = selected-by e fits (λ no. absurd (true-is-false (sym is ∙ no)))
    build-by false true is told e fits = selected-by e fits (λ no. build.holds told)
    build-by false false is told e fits = only-build e fits is told

    abbrev build_cause : Option Unchecked
    build_cause = if not (include.build || led.without_build) then Some OnlyBuild else None

    dev-by : (d w : Bool) → include.dev ≡ d → led.without_dev ≡ w → led.all ≡ true
        → UnledIs (if not (d || w) then Some OnlyDev else build_cause)
    dev-by true w is told e =
        build-by include.build led.without_build refl refl e (λ no. absurd (true-is-false (sym is ∙ no)))
    dev-by false true is told e = build-by include.build led.without_build refl refl e (λ no. dev.holds told)
    dev-by false false is told e = only-dev e is told

    abbrev dev_cause : Option Unchecked
    dev_cause = if not (include.dev || led.without_dev) then Some OnlyDev else build_cause

    all-by : (a : Bool) → led.all ≡ a → UnledIs (if not a then Some NotLedTo else dev_cause)
    all-by true e = dev-by include.dev led.without_dev refl refl e
    all-by false e = not-led e

    pub unled-is : UnledIs (unled_by include led)
    unled-is = all-by led.all refl

  -- ---- with what leaves it out

  abbrev by_words : Bool
  by_words = is_excluded (take words choice.exclude) krate

  abbrev by_policy : Bool
  by_policy = is_excluded (drop words choice.exclude) krate

  abbrev unpublished : Bool
  unpublished = is_unpublished_base graph choice krate

  first-by : (w p u : Bool) → by_words ≡ w → by_policy ≡ p → unpublished ≡ u → (cause : Unchecked) → UnledIs (Some cause)
      → UncheckedIs graph choice words include krate (cause_by w p u (Some cause))
  first-by true p u w_is p_is u_is cause is = (is.0, record { holds = w_is; first = none })
    where
      none : (other : Unchecked) → number_of other < 0 → Cause other → ⊥
      none other less holds = absurd (omega arith)
  first-by false true u w_is p_is u_is cause is = (is.0, record { holds = p_is; first = earlier })
    where
      earlier : (other : Unchecked) → number_of other < 1 → Cause other → ⊥
      earlier LeftOutByWords less holds = true-is-false (sym holds ∙ w_is)
      earlier LeftOutByPolicy less holds = absurd (omega arith)
      earlier NeverPublished less holds = absurd (omega arith)
      earlier OnlyDev less holds = absurd (omega arith)
      earlier OnlyBuild less holds = absurd (omega arith)
      earlier NotLedTo less holds = absurd (omega arith)
  first-by false false true w_is p_is u_is cause is = (is.0, record { holds = u_is; first = earlier })
    where
      earlier : (other : Unchecked) → number_of other < 2 → Cause other → ⊥
      earlier LeftOutByWords less holds = true-is-false (sym holds ∙ w_is)
      earlier LeftOutByPolicy less holds = true-is-false (sym holds ∙ p_is)
      earlier NeverPublished less holds = absurd (omega arith)
      earlier OnlyDev less holds = absurd (omega arith)
      earlier OnlyBuild less holds = absurd (omega arith)
      earlier NotLedTo less holds = absurd (omega arith)
  first-by false false false w_is p_is u_is cause is = (is.0, record { holds = is.1; first = earlier })
    where
      earlier : (other : Unchecked) → number_of other < number_of cause → Cause other → ⊥
      earlier LeftOutByWords less holds = true-is-false (sym holds ∙ w_is)
      earlier LeftOutByPolicy less holds = true-is-false (sym holds ∙ p_is)
      earlier NeverPublished less holds = true-is-false (sym holds ∙ u_is)
      earlier OnlyDev less holds = is.2 OnlyDev (omega arith) less holds
      earlier OnlyBuild less holds = is.2 OnlyBuild (omega arith) less holds
      earlier NotLedTo less holds = is.2 NotLedTo (omega arith) less holds

  cause-by : (unled : Option Unchecked) → UnledIs unled → UncheckedIs graph choice words include krate (cause_by by_words by_policy unpublished unled)
  cause-by None is = is
  cause-by (Some cause) is = first-by by_words by_policy unpublished refl refl refl cause is

  pub cause-is : (led : Led) → Tells led.all (Reached graph choice None krate.id)
      → Tells led.without_dev (Reached graph choice (Some Dev) krate.id)
      → Tells led.without_build (Reached graph choice (Some Build) krate.id)
      → UncheckedIs graph choice words include krate (cause_by by_words by_policy unpublished (unled_by include led))
  cause-is led all dev build = cause-by (unled_by include led) (unled-is led all dev build)

-- ---- what is known of the crate at a place

pub any-map : (specs : List ExcludeSpec) (krate : CrateRecord)
    → list_any (leaves_out krate) specs ≡ is_excluded (map exclude_spec_of specs) krate
any-map [] krate = refl
any-map (spec ∷ specs) krate = ap (λ b. leaves_out krate spec || b) (any-map specs krate)

pub crate-is : (graph : Graph) (crates : List Krate) (place : ℕ) (one : Krate) (krate : CrateRecord)
    → map record_of crates ≡ crates_of graph → slice_index_or crates place one ≡ one → slice_get (crates_of graph) place ≡ Some krate
    → record_of one ≡ krate
crate-is graph crates place one krate value is at =
    let within : place < length (crates_of graph) = slice_get_within (crates_of graph) place krate at in
    let counted : length (crates_of graph) ≡ length crates = sym (ap length value) ∙ length-map crates record_of in
    let below : place < length crates = subst (λ n. place < n) counted within in
    ap record_of (sym is)
    ∙ (sym (get_or-map record_of crates place one (record_of one) below)
    ∙ (ap (λ (list : List CrateRecord). slice_index_or list place (record_of one)) value
    ∙ get_or_from_slice_get (crates_of graph) place krate (record_of one) at))

module _ (graph : Graph) (choice : Choice) (words : ℕ) (include : Include) (krate : CrateRecord) (rising : AreRising (ids_of graph))
    (place : ℕ) (at : slice_get (crates_of graph) place ≡ Some krate) (all without_dev without_build : List (Option (List ℕ)))
    (are : AreSelecting graph choice all without_dev without_build) where
  inside : place < length graph.nodes
  inside =
      subst (λ n. place < n) (length-map graph.nodes (λ (node : CrateNode). node.krate)) (slice_get_within (crates_of graph) place krate at)

  abbrev node : CrateNode
  node = (node-at graph rising place inside).0

  node_there : slice_get graph.nodes place ≡ Some node
  node_there = (node-at graph rising place inside).1

  of_crate : node.krate ≡ krate
  of_crate = some_same node.krate krate (sym (crate-at graph rising place node node_there) ∙ at)

  same_id : id_of_node graph place ≡ krate.id
  same_id = id-at graph rising place node node_there ∙ ap (λ (k : CrateRecord). k.id) of_crate

  tells-at : (named : Option DepKind) (walks : List (Option (List ℕ))) → AreShortest graph choice named walks
      → Tells (is_some (walk_at walks place)) (Reached graph choice named krate.id)
  tells-at named walks are_shortest =
      subst (λ id. Tells (is_some (walk_at walks place)) (Reached graph choice named id)) same_id
      (walk-tells graph choice named walks place are_shortest inside)

  unpublished_is : is_unpublished_standing (standing_at (standings_in graph choice) place) ≡ is_unpublished_base graph choice krate
  unpublished_is =
      ap is_unpublished_standing (standing-is graph rising choice place node node_there ∙ ap (standing_of graph choice) of_crate)

  pub told-is : UncheckedIs graph choice words include krate (cause_by (is_excluded (take words choice.exclude) krate)
      (is_excluded (drop words choice.exclude) krate) (is_unpublished_standing (standing_at (standings_in graph choice) place))
      (unled_by include (led_by all without_dev without_build place)))
  told-is =
      subst (λ b. UncheckedIs graph choice words include krate (cause_by (is_excluded (take words choice.exclude) krate)
      (is_excluded (drop words choice.exclude) krate) b (unled_by include (led_by all without_dev without_build place))))
      (sym unpublished_is)
      (cause-is graph choice words include krate (led_by all without_dev without_build place) (tells-at None all are.all_are)
      (tells-at (Some Dev) without_dev are.without_dev_are) (tells-at (Some Build) without_build are.without_build_are))
