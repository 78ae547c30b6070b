-- How deep the values of a tree are, and what edits make of it.
use Rattle.std.proofs.Common.{◌≡◌, ℕ, ◌+◌, ◌≤◌, ⊎_elim, true, false, max, Option, Some, None, option_map, true≢false, refl, ap, sym, subst, ◌∙◌, arith}
use Rattle.deny_text.specs.declared.span.Span.{Span}
use Rattle.toml_subset.specs.Data.{depth_of, items_depth, entries_depth}
use Rattle.toml_subset.specs.TableFaults.{Inside, table_node_at, last_of, inside_any, inside_dotted}
use Rattle.toml_subset.specs.Tables.{by_header, implicit, dotted, Node, Branches, Bodies, closed, growing, tables, unbranched, branch, last, body, content_of, entries_of, items_of, same_key, has_key, branches_with_key, branches_with_edit, in_last, through_any, through_dotted, with_table}
use Rattle.toml_subset.specs.declared.string.Key.{Key}
use Rattle.toml_subset.proofs.Law.Basics.{map_some, is_some, if_is, if_true, if_false}

abbrev pub depth : Branches → ℕ
depth branches = entries_depth (entries_of branches)

abbrev pub node_depth : Node → ℕ
node_depth node = depth_of (content_of node)

abbrev pub bodies_depth : Bodies → ℕ
bodies_depth bodies = items_depth (items_of bodies)

-- look-ups

pub node_at_depth : (key : Key) (branches : Branches) (node : Node) → table_node_at key branches ≡ Some node → node_depth node ≤ depth branches
node_at_depth key unbranched node e = absurd (cc)
node_at_depth key (branch other here more) node e =
    ⊎_elim (λ h. let same = ap node_depth (is_some here node h.1) in omega arith) (λ h. let rest = node_at_depth key more node h.1 in omega arith)
    (if_is (same_key key other) (Some here) (table_node_at key more) (Some node) e)

pub has_none : (key : Key) (branches : Branches) → has_key key branches ≡ false → table_node_at key branches ≡ None
has_none key unbranched e = refl
has_none key (branch other here more) e =
    ⊎_elim (λ h. absurd (true≢false h.1)) (λ h. if_false (same_key key other) (Some here) (table_node_at key more) h.0 ∙ has_none key more h.1)
    (if_is (same_key key other) true (has_key key more) false e)

pub none_has : (key : Key) (branches : Branches) → table_node_at key branches ≡ None → has_key key branches ≡ false
none_has key unbranched e = refl
none_has key (branch other here more) e =
    ⊎_elim (λ h. let other : Some here ≡ None = h.1 in absurd (cc)) (λ h. if_false (same_key key other) true (has_key key more) h.0 ∙ none_has key more h.1)
    (if_is (same_key key other) (Some here) (table_node_at key more) None e)

-- a further key

pub added_depth : (key : Key) (node : Node) (branches : Branches) → depth (branches_with_key key node branches) ≡ max (depth branches) (node_depth node)
added_depth key node unbranched = omega arith
added_depth key node (branch other here more) = let rest = added_depth key node more in omega arith

-- a changed node
pub record Changed (f : Node → Option Node) (key : Key) (branches new : Branches) : Type 0 where
  pub node : Node
  pub made : Node
  pub there : table_node_at key branches ≡ Some node
  pub is : f node ≡ Some made
  pub below : (a d : ℕ) → a + depth branches ≤ d → a + node_depth made ≤ d → a + depth new ≤ d
  pub least : node_depth made ≤ depth new
  pub grows : node_depth node ≤ node_depth made → depth branches ≤ depth new

pub is_changed : (f : Node → Option Node) (key : Key) (branches new : Branches) → branches_with_edit f key branches ≡ Some new → Changed f key branches new
is_changed f key unbranched new e = absurd (cc)
is_changed f key (branch other here more) new e =
    ⊎_elim
    (λ h.
    let found = map_some (λ x. branch other x more) (f here) new h.1 in
    subst (Changed f key (branch other here more)) found.2 (record {
      node = here;
      made = found.0;
      there = if_true (same_key key other) (Some here) (table_node_at key more) h.0;
      is = found.1;
      below = λ a d first second. omega arith;
      least = omega arith;
      grows = λ more_deep. omega arith;
    }))
    (λ h.
    let found = map_some (branch other here) (branches_with_edit f key more) new h.1 in
    let rest = is_changed f key more found.0 found.1 in
    subst (Changed f key (branch other here more)) found.2 (record {
      node = rest.node;
      made = rest.made;
      there = if_false (same_key key other) (Some here) (table_node_at key more) h.0 ∙ rest.there;
      is = rest.is;
      below = λ a d first second. let under = rest.below a d (omega arith) second in omega arith;
      least = let under = rest.least in omega arith;
      grows = λ more_deep. let under = rest.grows more_deep in omega arith;
    }))
    (if_is (same_key key other) (option_map (λ x. branch other x more) (f here)) (option_map (branch other here) (branches_with_edit f key more)) (Some new) e)

-- a changed last table of an array
pub record LastChanged (edit : Branches → Option Branches) (bodies made : Bodies) : Type 0 where
  pub new : Branches
  pub is : edit (last_of bodies) ≡ Some new
  pub inner : 1 + depth (last_of bodies) ≤ bodies_depth bodies
  pub below : (a d : ℕ) → a + bodies_depth bodies ≤ d → a + (1 + depth new) ≤ d → a + bodies_depth made ≤ d
  pub least : 1 + depth new ≤ bodies_depth made
  pub grows : depth (last_of bodies) ≤ depth new → bodies_depth bodies ≤ bodies_depth made

last_is_changed : (edit : Branches → Option Branches) (bodies made : Bodies) → in_last edit bodies ≡ Some made → LastChanged edit bodies made
last_is_changed edit (last span branches) made e =
    let found = map_some (last span) (edit branches) made e in
    subst (LastChanged edit (last span branches)) found.2 (record {
      new = found.0;
      is = found.1;
      inner = omega arith;
      below = λ a d first second. omega arith;
      least = omega arith;
      grows = λ more_deep. omega arith;
    })
last_is_changed edit (body span branches more) made e =
    let found = map_some (body span branches) (in_last edit more) made e in
    let rest = last_is_changed edit more found.0 found.1 in
    subst (LastChanged edit (body span branches more)) found.2 (record {
      new = rest.new;
      is = rest.is;
      inner = let under = rest.inner in omega arith;
      below = λ a d first second. let under = rest.below a d (omega arith) second in omega arith;
      least = let under = rest.least in omega arith;
      grows = λ more_deep. let under = rest.grows more_deep in omega arith;
    })

pub with_table_depth : (span : Span) (bodies : Bodies) → bodies_depth (with_table span bodies) ≡ bodies_depth bodies
with_table_depth span (last at branches) = omega arith
with_table_depth span (body at branches more) = let rest = with_table_depth span more in omega arith

-- an edit in a table that a way goes into
pub record Entered (inside : Node → Option Inside) (edit : Branches → Option Branches) (node made : Node) : Type 0 where
  pub found : Inside
  pub new : Branches
  pub enters : inside node ≡ Some found
  pub is : edit found.0 ≡ Some new
  pub inner : found.1 + depth found.0 ≤ node_depth node
  pub below : (a d : ℕ) → a + node_depth node ≤ d → a + (found.1 + depth new) ≤ d → a + node_depth made ≤ d
  pub least : found.1 + depth new ≤ node_depth made
  pub grows : depth found.0 ≤ depth new → node_depth node ≤ node_depth made

pub any_entered : (edit : Branches → Option Branches) (node made : Node) → through_any edit node ≡ Some made → Entered inside_any edit node made
any_entered edit (closed span content) made e = absurd (cc)
any_entered edit (growing span mark branches) made e =
    let found = map_some (growing span mark) (edit branches) made e in
    subst (Entered inside_any edit (growing span mark branches)) found.2 (record {
      found = (branches, 1);
      new = found.0;
      enters = refl;
      is = found.1;
      inner = omega arith;
      below = λ a d first second. omega arith;
      least = omega arith;
      grows = λ more_deep. omega arith;
    })
any_entered edit (tables span bodies) made e =
    let found = map_some (tables span) (in_last edit bodies) made e in
    let rest = last_is_changed edit bodies found.0 found.1 in
    subst (Entered inside_any edit (tables span bodies)) found.2 (record {
      found = (last_of bodies, 2);
      new = rest.new;
      enters = refl;
      is = rest.is;
      inner = let under = rest.inner in omega arith;
      below = λ a d first second. let under = rest.below (a + 1) d (omega arith) (omega arith) in omega arith;
      least = let under = rest.least in omega arith;
      grows = λ more_deep. let under = rest.grows more_deep in omega arith;
    })

pub dotted_entered : (edit : Branches → Option Branches) (node made : Node) → through_dotted edit node ≡ Some made → Entered inside_dotted edit node made
dotted_entered edit (closed span content) made e = absurd (cc)
dotted_entered edit (growing span by_header branches) made e = absurd (cc)
dotted_entered edit (growing span implicit branches) made e = absurd (cc)
dotted_entered edit (growing span dotted branches) made e =
    let found = map_some (growing span dotted) (edit branches) made e in
    subst (Entered inside_dotted edit (growing span dotted branches)) found.2 (record {
      found = (branches, 1);
      new = found.0;
      enters = refl;
      is = found.1;
      inner = omega arith;
      below = λ a d first second. omega arith;
      least = omega arith;
      grows = λ more_deep. omega arith;
    })
dotted_entered edit (tables span bodies) made e = absurd (cc)

-- a dotted key enters one table at each part
pub dotted_one : (node : Node) (found : Inside) → inside_dotted node ≡ Some found → found.1 ≡ 1
dotted_one (closed span content) found e = absurd (cc)
dotted_one (growing span by_header branches) found e = absurd (cc)
dotted_one (growing span implicit branches) found e = absurd (cc)
dotted_one (growing span dotted branches) found e = ap (λ (x : Inside). x.1) (sym (is_some (branches, 1) found e))
dotted_one (tables span bodies) found e = absurd (cc)

pub dotted_inner : (node : Node) (found : Inside) → inside_dotted node ≡ Some found → 1 + depth found.0 ≤ node_depth node
dotted_inner (closed span content) found e = absurd (cc)
dotted_inner (growing span by_header branches) found e = absurd (cc)
dotted_inner (growing span implicit branches) found e = absurd (cc)
dotted_inner (growing span dotted branches) found e = let same = ap (λ (x : Inside). depth x.0) (is_some (branches, 1) found e) in omega arith
dotted_inner (tables span bodies) found e = absurd (cc)

last_inner : (bodies : Bodies) → 1 + depth (last_of bodies) ≤ bodies_depth bodies
last_inner (last span branches) = omega arith
last_inner (body span branches more) = let rest = last_inner more in omega arith

pub any_inner : (node : Node) (found : Inside) → inside_any node ≡ Some found → found.1 + depth found.0 ≤ node_depth node
any_inner (closed span content) found e = absurd (cc)
any_inner (growing span mark branches) found e = let same = ap (λ (x : Inside). x.1 + depth x.0) (is_some (branches, 1) found e) in omega arith
any_inner (tables span bodies) found e =
    let same = ap (λ (x : Inside). x.1 + depth x.0) (is_some (last_of bodies, 2) found e) in let inner = last_inner bodies in omega arith
