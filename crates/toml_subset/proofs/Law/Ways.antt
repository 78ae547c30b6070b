-- Where no part of a way is refused, the edit at its end is made and no value is too deep; and the other way round.
use Rattle.std.proofs.Common.{◌≡◌, ℕ, ◌+◌, ◌-◌, ◌<◌, ◌≤◌, ⊎_elim, Bool, true, false, cond, eqb, max, List, [], ◌∷◌, length, Option, Some, None, option_map, refl, ap, sym, ◌∙◌, arith}
use Rattle.std.proofs.lemmas.Bool.Decides.{nat_tests}
use Rattle.toml_subset.specs.Data.{depth_limit}
use Rattle.toml_subset.specs.TableFaults.{Inside, table_node_at, inside_dotted, fault_at_key, way_fault, new_key_fault, put_fault}
use Rattle.toml_subset.specs.Tables.{Mark, dotted, Node, Branches, growing, unbranched, has_key, branches_with_key, branches_with_edit, through_dotted, edit_along, put_new, branches_with_value}
use Rattle.toml_subset.specs.declared.error.SyntaxError.{SyntaxError}
use Rattle.toml_subset.specs.declared.error.SyntaxReason.TheVariants.{RedefinedTable, TooDeep}
use Rattle.toml_subset.specs.declared.string.Key.{Key}
use Rattle.toml_subset.proofs.Law.Basics.{map_some, is_some, if_is, if_false}
use Rattle.toml_subset.proofs.Law.Depths.{depth, node_depth, node_at_depth, has_none, added_depth, is_changed, Entered, dotted_entered, dotted_one, dotted_inner}

abbrev pub Through : Type 0
Through = (Branches → Option Branches) → Node → Option Node

abbrev pub EndFault : Type 0
EndFault = Key → Branches → ℕ → Option SyntaxError

abbrev pub Edit : Type 0
Edit = Key → Branches → Option Branches

abbrev pub inside_fault : (Node → Option Inside) → EndFault → Key → Key → List Key → ℕ → Option Inside → Option SyntaxError
inside_fault inside end key next more above (Some found) = way_fault inside end (next ∷ more) found.0 (above + found.1)
inside_fault inside end key next more above None = fault_at_key RedefinedTable key

abbrev pub node_fault : (Node → Option Inside) → EndFault → Key → Key → List Key → ℕ → Option Node → Option SyntaxError
node_fault inside end key next more above (Some node) = inside_fault inside end key next more above (inside node)
node_fault inside end key next more above None =
    cond (eqb above depth_limit) (fault_at_key TooDeep key) (way_fault inside end (next ∷ more) unbranched (above + 1))

pub way_step : (inside : Node → Option Inside) (end : EndFault) (key next : Key) (more : List Key) (branches : Branches) (above : ℕ)
    → way_fault inside end (key ∷ next ∷ more) branches above ≡ node_fault inside end key next more above (table_node_at key branches)
way_step inside end key next more branches above =
    elim (table_node_at key branches) as (λ o. elim o [
      | Some node ↦ elim (inside node) [ Some found ↦ way_fault inside end (next ∷ more) found.0 (above + found.1) | None ↦ fault_at_key RedefinedTable key ]
      | None ↦ cond (eqb above depth_limit) (fault_at_key TooDeep key) (way_fault inside end (next ∷ more) unbranched (above + 1))
    ] ≡ node_fault inside end key next more above o) [
      | Some node ↦ elim (inside node) as (λ o. elim o [ Some found ↦ way_fault inside end (next ∷ more) found.0 (above + found.1) | None ↦ fault_at_key RedefinedTable key ]
          ≡ inside_fault inside end key next more above o) [ Some found ↦ refl | None ↦ refl ]
      | None ↦ refl
    ]

abbrev pub new_table : Mark → Key → Branches → Branches → Branches
new_table mark key branches inner = branches_with_key key (growing key.span mark inner) branches

abbrev pub along_by : Mark → Through → Edit → Key → Key → List Key → Branches → Bool → Option Branches
along_by mark through edit key next more branches true = branches_with_edit (through (edit_along mark through edit (next ∷ more))) key branches
along_by mark through edit key next more branches false = option_map (new_table mark key branches) (edit_along mark through edit (next ∷ more) unbranched)

pub along_step : (mark : Mark) (through : Through) (edit : Edit) (key next : Key) (more : List Key) (branches : Branches)
    → edit_along mark through edit (key ∷ next ∷ more) branches ≡ along_by mark through edit key next more branches (has_key key branches)
along_step mark through edit key next more branches =
    elim (has_key key branches) as (λ b. elim b [
      | true ↦ branches_with_edit (through (edit_along mark through edit (next ∷ more))) key branches
      | false ↦ option_map (λ inner. branches_with_key key (growing key.span mark inner) branches) (edit_along mark through edit (next ∷ more) unbranched)
    ] ≡ along_by mark through edit key next more branches b) [ true ↦ refl | false ↦ refl ]

module _ (mark : Mark) (through : Through) (inside : Node → Option Inside) (edit : Edit) (end : EndFault) (Room : ℕ → List Key → Type 0)
    (enters : (f : Branches → Option Branches) (node made : Node) → through f node ≡ Some made → Entered inside f node made) where
  -- an edit that no fault refuses leaves the tree shallow
  pub way_below : ((key : Key) (branches new : Branches) (above : ℕ) → end key branches above ≡ None → edit key branches ≡ Some new → Room above (key ∷ [])
      → above + depth branches ≤ depth_limit → above + depth new ≤ depth_limit)
      → ((key next : Key) (more : List Key) (node : Node) (found : Inside) (above : ℕ) → inside node ≡ Some found → Room above (key ∷ next ∷ more) → Room (above + found.1) (next ∷ more))
      → ((key next : Key) (more : List Key) (above : ℕ) → Room above (key ∷ next ∷ more) → Room (above + 1) (next ∷ more))
      → (keys : List Key) (branches new : Branches) (above : ℕ) → way_fault inside end keys branches above ≡ None → edit_along mark through edit keys branches ≡ Some new
      → Room above keys → above + depth branches ≤ depth_limit → above + depth new ≤ depth_limit
  way_below ends goes makes [] branches new above free e room low = absurd (cc)
  way_below ends goes makes (key ∷ []) branches new above free e room low = ends key branches new above free e room low
  way_below ends goes makes (key ∷ next ∷ more) branches new above free e room low =
      let stepped = sym (along_step mark through edit key next more branches) ∙ e in
      let refused_not = sym (way_step inside end key next more branches above) ∙ free in
      elim (has_key key branches) as (λ b. has_key key branches ≡ b → along_by mark through edit key next more branches b ≡ Some new → above + depth new ≤ depth_limit) [
        | true ↦ λ has is.
            let change = is_changed (through (edit_along mark through edit (next ∷ more))) key branches new is in
            let into = enters (edit_along mark through edit (next ∷ more)) change.node change.made change.is in
            let found = into.found in
            let inner = into.inner in
            let there = node_at_depth key branches change.node change.there in
            let rest : way_fault inside end (next ∷ more) found.0 (above + found.1) ≡ None =
            sym (ap (node_fault inside end key next more above) change.there ∙ ap (inside_fault inside end key next more above) into.enters) ∙ refused_not in
            let under = way_below ends goes makes (next ∷ more) found.0 into.new (above + found.1) rest into.is
            (goes key next more change.node found above into.enters room) (omega arith) in
            change.below above depth_limit low (into.below above depth_limit (omega arith) (omega arith))
        | false ↦ λ has is.
            let made = map_some (new_table mark key branches) (edit_along mark through edit (next ∷ more) unbranched) new is in
            let here = sym (ap (node_fault inside end key next more above) (has_none key branches has)) ∙ refused_not in
            let same = ap depth made.2 in
            let grown = added_depth key (growing key.span mark made.0) branches in
            ⊎_elim (λ h. let other = h.1 in absurd (cc))
            (λ h.
            let differs : above < depth_limit = grind (arith, nat_tests) in
            let under = way_below ends goes makes (next ∷ more) unbranched made.0 (above + 1) h.1 made.1 (makes key next more above room) (omega arith) in
            omega arith)
            (if_is (eqb above depth_limit) (fault_at_key TooDeep key) (way_fault inside end (next ∷ more) unbranched (above + 1)) None here)
      ] refl stepped

  -- an edit that leaves the tree shallow is refused nowhere
  pub way_free : ((key : Key) (branches new : Branches) (above : ℕ) → edit key branches ≡ Some new → above + depth new ≤ depth_limit
      → (end key branches above ≡ None) × Room above (key ∷ []))
      → ((key next : Key) (more : List Key) (node : Node) (found : Inside) (above : ℕ) → inside node ≡ Some found → Room (above + found.1) (next ∷ more) → Room above (key ∷ next ∷ more))
      → ((key next : Key) (more : List Key) (above : ℕ) → Room (above + 1) (next ∷ more) → Room above (key ∷ next ∷ more))
      → (keys : List Key) (branches new : Branches) (above : ℕ) → edit_along mark through edit keys branches ≡ Some new → above + depth new ≤ depth_limit
      → (way_fault inside end keys branches above ≡ None) × Room above keys
  way_free ends goes makes [] branches new above e low = absurd (cc)
  way_free ends goes makes (key ∷ []) branches new above e low = ends key branches new above e low
  way_free ends goes makes (key ∷ next ∷ more) branches new above e low =
      let stepped = sym (along_step mark through edit key next more branches) ∙ e in
      elim (has_key key branches) as (λ b. has_key key branches ≡ b → along_by mark through edit key next more branches b ≡ Some new
      → (way_fault inside end (key ∷ next ∷ more) branches above ≡ None) × Room above (key ∷ next ∷ more)) [
        | true ↦ λ has is.
            let change = is_changed (through (edit_along mark through edit (next ∷ more))) key branches new is in
            let into = enters (edit_along mark through edit (next ∷ more)) change.node change.made change.is in
            let found = into.found in
            let most = into.least in
            let least = change.least in
            let rest = way_free ends goes makes (next ∷ more) found.0 into.new (above + found.1) into.is (omega arith) in (
              way_step inside end key next more branches above
                  ∙ ap (node_fault inside end key next more above) change.there ∙ ap (inside_fault inside end key next more above) into.enters ∙ rest.0,
              goes key next more change.node found above into.enters rest.1,
            )
        | false ↦ λ has is.
            let made = map_some (new_table mark key branches) (edit_along mark through edit (next ∷ more) unbranched) new is in
            let same = ap depth made.2 in
            let grown = added_depth key (growing key.span mark made.0) branches in
            let rest = way_free ends goes makes (next ∷ more) unbranched made.0 (above + 1) made.1 (omega arith) in
            let differs : eqb above depth_limit ≡ false = grind (arith, nat_tests) in (
              way_step inside end key next more branches above ∙ ap (node_fault inside end key next more above) (has_none key branches has)
                  ∙ if_false (eqb above depth_limit) (fault_at_key TooDeep key) (way_fault inside end (next ∷ more) unbranched (above + 1)) differs ∙ rest.0,
              makes key next more above rest.1,
            )
      ] refl stepped

  -- an edit makes no tree shallower
  pub way_grows : ((key : Key) (branches new : Branches) → edit key branches ≡ Some new → depth branches ≤ depth new)
      → (keys : List Key) (branches new : Branches) → edit_along mark through edit keys branches ≡ Some new → depth branches ≤ depth new
  way_grows ends [] branches new e = absurd (cc)
  way_grows ends (key ∷ []) branches new e = ends key branches new e
  way_grows ends (key ∷ next ∷ more) branches new e =
      let stepped = sym (along_step mark through edit key next more branches) ∙ e in
      elim (has_key key branches) as (λ b. along_by mark through edit key next more branches b ≡ Some new → depth branches ≤ depth new) [
        | true ↦ λ is.
            let change = is_changed (through (edit_along mark through edit (next ∷ more))) key branches new is in
            let into = enters (edit_along mark through edit (next ∷ more)) change.node change.made change.is in
            change.grows (into.grows (way_grows ends (next ∷ more) into.found.0 into.new into.is))
        | false ↦ λ is.
            let made = map_some (new_table mark key branches) (edit_along mark through edit (next ∷ more) unbranched) new is in
            let same = ap depth made.2 in
            let grown = added_depth key (growing key.span mark made.0) branches in
            omega arith
      ] stepped

-- a value at a key

abbrev Fits : ℕ → ℕ → List Key → Type 0
Fits size above keys = above + (length keys - 1) + size ≤ depth_limit

put_new_is : (node : Node) (key : Key) (branches new : Branches) → put_new node key branches ≡ Some new → (has_key key branches ≡ false) × (branches_with_key key node branches ≡ new)
put_new_is node key branches new e =
    ⊎_elim (λ h. let other = h.1 in absurd (cc)) (λ h. (h.0, is_some _ new h.1)) (if_is (has_key key branches) None (Some (branches_with_key key node branches)) (Some new) e)

put_grown : (node : Node) (key : Key) (branches new : Branches) → put_new node key branches ≡ Some new → depth new ≡ max (depth branches) (node_depth node)
put_grown node key branches new e = ap depth (sym (put_new_is node key branches new e).1) ∙ added_depth key node branches

put_end : (node : Node) (key : Key) (branches new : Branches) (above : ℕ) → new_key_fault key branches above ≡ None → put_new node key branches ≡ Some new
    → Fits (node_depth node) above (key ∷ []) → above + depth branches ≤ depth_limit → above + depth new ≤ depth_limit
put_end node key branches new above free e room low = let grown = put_grown node key branches new e in omega arith

pub put_below : (keys : List Key) (node : Node) (branches new : Branches) (above : ℕ) → put_fault keys branches above ≡ None → branches_with_value keys node branches ≡ Some new
    → above + (length keys - 1) + node_depth node ≤ depth_limit → above + depth branches ≤ depth_limit → above + depth new ≤ depth_limit
put_below keys node branches new above free e room low =
    way_below dotted through_dotted inside_dotted (put_new node) new_key_fault (Fits (node_depth node)) dotted_entered (put_end node)
    (λ key next more inner found high is fits. let one = dotted_one inner found is in omega arith) (λ key next more high fits. omega arith)
    keys branches new above free e room low

put_ends : (node : Node) (key : Key) (branches new : Branches) (above : ℕ) → put_new node key branches ≡ Some new → above + depth new ≤ depth_limit
    → (new_key_fault key branches above ≡ None) × Fits (node_depth node) above (key ∷ [])
put_ends node key branches new above e low =
    let is = put_new_is node key branches new e in
    let grown = put_grown node key branches new e in
    (if_false (has_key key branches) _ None is.0, omega arith)

pub put_free : (keys : List Key) (node : Node) (branches new : Branches) (above : ℕ) → branches_with_value keys node branches ≡ Some new → above + depth new ≤ depth_limit
    → (put_fault keys branches above ≡ None) × (above + (length keys - 1) + node_depth node ≤ depth_limit)
put_free keys node branches new above e low =
    way_free dotted through_dotted inside_dotted (put_new node) new_key_fault (Fits (node_depth node)) dotted_entered (put_ends node)
    (λ key next more inner found high is fits. let one = dotted_one inner found is in omega arith) (λ key next more high fits. omega arith)
    keys branches new above e low

pub put_grows : (keys : List Key) (node : Node) (branches new : Branches) → branches_with_value keys node branches ≡ Some new → depth branches ≤ depth new
put_grows keys node branches new e =
    way_grows dotted through_dotted inside_dotted (put_new node) new_key_fault (Fits 0) dotted_entered
    (λ key some more is. let grown = put_grown node key some more is in omega arith) keys branches new e

-- the place of a value that no fault refuses is not too deep
pub put_room : (keys : List Key) (branches : Branches) (above : ℕ) → put_fault keys branches above ≡ None → above + depth branches ≤ depth_limit
    → above + (length keys - 1) ≤ depth_limit
put_room [] branches above free low = omega arith
put_room (key ∷ []) branches above free low = omega arith
put_room (key ∷ next ∷ more) branches above free low =
    let here = sym (way_step inside_dotted new_key_fault key next more branches above) ∙ free in
    elim (table_node_at key branches) as (λ o. table_node_at key branches ≡ o → node_fault inside_dotted new_key_fault key next more above o ≡ None → above + (length (key ∷ next ∷ more) - 1) ≤ depth_limit) [
      | Some node ↦ λ there is.
          let under = node_at_depth key branches node there in
          elim (inside_dotted node) as (λ o. inside_dotted node ≡ o → inside_fault inside_dotted new_key_fault key next more above o ≡ None
          → above + (length (key ∷ next ∷ more) - 1) ≤ depth_limit) [
            | Some found ↦ λ into rest.
                let one = dotted_one node found into in
                let inner = dotted_inner node found into in
                let under_it = put_room (next ∷ more) found.0 (above + found.1) rest (omega arith) in
                omega arith
            | None ↦ λ into rest. absurd (cc)
          ] refl is
      | None ↦ λ there is.
          ⊎_elim (λ h. let other = h.1 in absurd (cc))
          (λ h. let differs : above < depth_limit = grind (arith, nat_tests) in let under = put_room (next ∷ more) unbranched (above + 1) h.1 (omega arith) in omega arith)
          (if_is (eqb above depth_limit) (fault_at_key TooDeep key) (way_fault inside_dotted new_key_fault (next ∷ more) unbranched (above + 1)) None is)
    ] refl here
