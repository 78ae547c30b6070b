-- Headers, and edits in the table that a header opened.
use Rattle.std.proofs.Common.{◌≡◌, ℕ, ◌+◌, ◌≤◌, ⊎_elim, cond, eqb, nat_lt, List, [], ◌∷◌, Option, Some, None, refl, ap, sym, subst, ◌∙◌, arith}
use Rattle.std.proofs.lemmas.Bool.Decides.{nat_tests}
use Rattle.deny_text.specs.declared.span.Span.{Span}
use Rattle.toml_subset.specs.Data.{depth_limit}
use Rattle.toml_subset.specs.Reading.{section_of}
use Rattle.toml_subset.specs.TableFaults.{Inside, table_node_at, inside_any, fault_at_key, taken_over_fault, open_table_fault, header_fault, appended_fault, open_array_fault, array_header_fault}
use Rattle.toml_subset.specs.Tables.{by_header, implicit, dotted, Node, Branches, closed, growing, tables, unbranched, last, has_key, branches_with_key, branches_with_edit, through_any, edit_along, take_over, open_table, append_to, open_array, edit_within}
use Rattle.toml_subset.specs.declared.error.SyntaxError.{SyntaxError}
use Rattle.toml_subset.specs.declared.error.SyntaxReason.TheVariants.{TooDeep}
use Rattle.toml_subset.specs.declared.string.Key.{Key}
use Rattle.toml_subset.proofs.Law.Basics.{is_some, if_is, if_true, if_false}
use Rattle.toml_subset.proofs.Law.Depths.{depth, node_depth, node_at_depth, has_none, added_depth, is_changed, any_entered, any_inner, with_table_depth}
use Rattle.toml_subset.proofs.Law.Ways.{way_below, way_free, way_grows}

-- a table that is there is changed, and another is made
module _ (change : Node → Option Node) (fresh : Node) (fault : Key → Node → Option SyntaxError) (absent : Key → ℕ → Option SyntaxError)
    (changes : (key : Key) (node made : Node) → change node ≡ Some made → (fault key node ≡ None) × (node_depth made ≡ node_depth node))
    (free : (key : Key) (above : ℕ) → absent key above ≡ None → above ≤ depth_limit → above + node_depth fresh ≤ depth_limit)
    (back : (key : Key) (above : ℕ) → above + node_depth fresh ≤ depth_limit → absent key above ≡ None) where
  abbrev edit_by : Key → Branches → Option Branches
  edit_by key branches = cond (has_key key branches) (branches_with_edit change key branches) (Some (branches_with_key key fresh branches))

  abbrev fault_by : Key → ℕ → Option Node → Option SyntaxError
  fault_by key above (Some node) = fault key node
  fault_by key above None = absent key above

  pub edit_grown : (key : Key) (branches new : Branches) → edit_by key branches ≡ Some new → depth branches ≤ depth new
  edit_grown key branches new e =
      ⊎_elim
      (λ h. let changed_it = is_changed change key branches new h.1 in let same = (changes key changed_it.node changed_it.made changed_it.is).1 in changed_it.grows (omega arith))
      (λ h. let same = ap depth (is_some _ new h.1) in let grown = added_depth key fresh branches in omega arith)
      (if_is (has_key key branches) (branches_with_edit change key branches) (Some (branches_with_key key fresh branches)) (Some new) e)

  pub edit_below : (key : Key) (branches new : Branches) (above : ℕ) → fault_by key above (table_node_at key branches) ≡ None → edit_by key branches ≡ Some new
      → above + depth branches ≤ depth_limit → above + depth new ≤ depth_limit
  edit_below key branches new above none e low =
      ⊎_elim
      (λ h.
      let changed_it = is_changed change key branches new h.1 in
      let same = (changes key changed_it.node changed_it.made changed_it.is).1 in
      let there = node_at_depth key branches changed_it.node changed_it.there in
      changed_it.below above depth_limit low (omega arith))
      (λ h.
      let here = sym (ap (fault_by key above) (has_none key branches h.0)) ∙ none in
      let room = free key above here (omega arith) in
      let same = ap depth (is_some _ new h.1) in
      let grown = added_depth key fresh branches in
      omega arith)
      (if_is (has_key key branches) (branches_with_edit change key branches) (Some (branches_with_key key fresh branches)) (Some new) e)

  pub edit_free : (key : Key) (branches new : Branches) (above : ℕ) → edit_by key branches ≡ Some new → above + depth new ≤ depth_limit
      → fault_by key above (table_node_at key branches) ≡ None
  edit_free key branches new above e low =
      ⊎_elim
      (λ h.
      let changed_it = is_changed change key branches new h.1 in
      ap (fault_by key above) changed_it.there ∙ (changes key changed_it.node changed_it.made changed_it.is).0)
      (λ h.
      let same = ap depth (is_some _ new h.1) in
      let grown = added_depth key fresh branches in
      ap (fault_by key above) (has_none key branches h.0) ∙ back key above (omega arith))
      (if_is (has_key key branches) (branches_with_edit change key branches) (Some (branches_with_key key fresh branches)) (Some new) e)

-- table headers

taken : (at : Span) (key : Key) (node made : Node) → take_over at node ≡ Some made → (taken_over_fault key node ≡ None) × (node_depth made ≡ node_depth node)
taken at key (closed span content) made e = absurd (cc)
taken at key (growing span by_header branches) made e = absurd (cc)
taken at key (growing span implicit branches) made e = (refl, ap node_depth (sym (is_some _ made e)))
taken at key (growing span dotted branches) made e = absurd (cc)
taken at key (tables span bodies) made e = absurd (cc)

abbrev absent_table : Key → ℕ → Option SyntaxError
absent_table key above = cond (eqb above depth_limit) (fault_at_key TooDeep key) None

table_free : (key : Key) (above : ℕ) → absent_table key above ≡ None → above ≤ depth_limit → above + 1 ≤ depth_limit
table_free key above e low =
    ⊎_elim (λ h. let other = h.1 in absurd (cc)) (λ h. grind (arith, nat_tests)) (if_is (eqb above depth_limit) (fault_at_key TooDeep key) None None e)

table_back : (key : Key) (above : ℕ) → above + 1 ≤ depth_limit → absent_table key above ≡ None
table_back key above room = if_false (eqb above depth_limit) (fault_at_key TooDeep key) None (grind (arith, nat_tests))

abbrev fresh_table : Span → Node
fresh_table at = growing at by_header unbranched

table_fault_is : (at : Span) (key : Key) (branches : Branches) (above : ℕ)
    → open_table_fault key branches above ≡ fault_by (take_over at) (fresh_table at) taken_over_fault absent_table (taken at) table_free table_back key above (table_node_at key branches)
table_fault_is at key branches above =
    elim (table_node_at key branches) as (λ o. elim o [ Some node ↦ taken_over_fault key node | None ↦ absent_table key above ]
    ≡ fault_by (take_over at) (fresh_table at) taken_over_fault absent_table (taken at) table_free table_back key above o) [ Some node ↦ refl | None ↦ refl ]

abbrev Any : ℕ → List Key → Type 0
Any above keys = Unit {0}

pub header_below : (at : Span) (keys : List Key) (root new : Branches) → header_fault keys root ≡ None → edit_along implicit through_any (open_table at) keys root ≡ Some new
    → depth root ≤ depth_limit → depth new ≤ depth_limit
header_below at keys root new none e low =
    let under = way_below implicit through_any inside_any (open_table at) open_table_fault Any any_entered
    (λ key branches made above free is room here.
    edit_below (take_over at) (fresh_table at) taken_over_fault absent_table (taken at) table_free table_back key branches made above
    (sym (table_fault_is at key branches above) ∙ free) is here)
    (λ key next more node found above is room. tt) (λ key next more above room. tt) keys root new 0 none e tt (omega arith) in
    omega arith

pub header_free : (at : Span) (keys : List Key) (root new : Branches) → edit_along implicit through_any (open_table at) keys root ≡ Some new
    → depth new ≤ depth_limit → header_fault keys root ≡ None
header_free at keys root new e low =
    (way_free implicit through_any inside_any (open_table at) open_table_fault Any any_entered
    (λ key branches made above is here. (
      table_fault_is at key branches above
          ∙ edit_free (take_over at) (fresh_table at) taken_over_fault absent_table (taken at) table_free table_back key branches made above is here,
      tt,
    ))
    (λ key next more node found above is room. tt) (λ key next more above room. tt) keys root new 0 e (omega arith)).0

pub header_grows : (at : Span) (keys : List Key) (root new : Branches) → edit_along implicit through_any (open_table at) keys root ≡ Some new → depth root ≤ depth new
header_grows at keys root new e =
    way_grows implicit through_any inside_any (open_table at) open_table_fault Any any_entered
    (edit_grown (take_over at) (fresh_table at) taken_over_fault absent_table (taken at) table_free table_back) keys root new e

-- array headers

appended : (at : Span) (key : Key) (node made : Node) → append_to at node ≡ Some made → (appended_fault key node ≡ None) × (node_depth made ≡ node_depth node)
appended at key (closed span content) made e = absurd (cc)
appended at key (growing span mark branches) made e = absurd (cc)
appended at key (tables span bodies) made e =
    (refl, let same = ap node_depth (is_some _ made e) in let whole = with_table_depth at bodies in omega arith)

abbrev absent_array : Key → ℕ → Option SyntaxError
absent_array key above = cond (nat_lt (above + 1) depth_limit) None (fault_at_key TooDeep key)

array_free : (key : Key) (above : ℕ) → absent_array key above ≡ None → above ≤ depth_limit → above + 2 ≤ depth_limit
array_free key above e low =
    ⊎_elim (λ h. grind (arith, nat_tests)) (λ h. let other = h.1 in absurd (cc)) (if_is (nat_lt (above + 1) depth_limit) None (fault_at_key TooDeep key) None e)

array_back : (key : Key) (above : ℕ) → above + 2 ≤ depth_limit → absent_array key above ≡ None
array_back key above room = if_true (nat_lt (above + 1) depth_limit) None (fault_at_key TooDeep key) (grind (arith, nat_tests))

abbrev fresh_array : Span → Node
fresh_array at = tables at (last at unbranched)

array_fault_is : (at : Span) (key : Key) (branches : Branches) (above : ℕ)
    → open_array_fault key branches above ≡ fault_by (append_to at) (fresh_array at) appended_fault absent_array (appended at) array_free array_back key above (table_node_at key branches)
array_fault_is at key branches above =
    elim (table_node_at key branches) as (λ o. elim o [ Some node ↦ appended_fault key node | None ↦ absent_array key above ]
    ≡ fault_by (append_to at) (fresh_array at) appended_fault absent_array (appended at) array_free array_back key above o) [ Some node ↦ refl | None ↦ refl ]

pub array_header_below : (at : Span) (keys : List Key) (root new : Branches) → array_header_fault keys root ≡ None → edit_along implicit through_any (open_array at) keys root ≡ Some new
    → depth root ≤ depth_limit → depth new ≤ depth_limit
array_header_below at keys root new none e low =
    let under = way_below implicit through_any inside_any (open_array at) open_array_fault Any any_entered
    (λ key branches made above free is room here.
    edit_below (append_to at) (fresh_array at) appended_fault absent_array (appended at) array_free array_back key branches made above
    (sym (array_fault_is at key branches above) ∙ free) is here)
    (λ key next more node found above is room. tt) (λ key next more above room. tt) keys root new 0 none e tt (omega arith) in
    omega arith

pub array_header_free : (at : Span) (keys : List Key) (root new : Branches) → edit_along implicit through_any (open_array at) keys root ≡ Some new
    → depth new ≤ depth_limit → array_header_fault keys root ≡ None
array_header_free at keys root new e low =
    (way_free implicit through_any inside_any (open_array at) open_array_fault Any any_entered
    (λ key branches made above is here. (
      array_fault_is at key branches above
          ∙ edit_free (append_to at) (fresh_array at) appended_fault absent_array (appended at) array_free array_back key branches made above is here,
      tt,
    ))
    (λ key next more node found above is room. tt) (λ key next more above room. tt) keys root new 0 e (omega arith)).0

pub array_header_grows : (at : Span) (keys : List Key) (root new : Branches) → edit_along implicit through_any (open_array at) keys root ≡ Some new → depth root ≤ depth new
array_header_grows at keys root new e =
    way_grows implicit through_any inside_any (open_array at) open_array_fault Any any_entered
    (edit_grown (append_to at) (fresh_array at) appended_fault absent_array (appended at) array_free array_back) keys root new e

-- an edit in the table that a header opened
pub record Within (section : List Key) (edit : Branches → Option Branches) (root new : Branches) (above : ℕ) : Type 0 where
  pub made : Branches
  pub is : edit (section_of section root above).0 ≡ Some made
  pub inner : (section_of section root above).1 + depth (section_of section root above).0 ≤ above + depth root
  pub below : (d : ℕ) → above + depth root ≤ d → (section_of section root above).1 + depth made ≤ d → above + depth new ≤ d
  pub least : (section_of section root above).1 + depth made ≤ above + depth new
  pub grows : depth (section_of section root above).0 ≤ depth made → depth root ≤ depth new

abbrev inside_section : List Key → ℕ → Option Inside → Inside
inside_section more above (Some found) = section_of more found.0 (above + found.1)
inside_section more above None = (unbranched, above)

abbrev node_section : List Key → ℕ → Option Node → Inside
node_section more above (Some node) = inside_section more above (inside_any node)
node_section more above None = (unbranched, above)

section_step : (key : Key) (more : List Key) (root : Branches) (above : ℕ) → section_of (key ∷ more) root above ≡ node_section more above (table_node_at key root)
section_step key more root above =
    elim (table_node_at key root) as (λ o. elim o [
      | Some node ↦ elim (inside_any node) [ Some found ↦ section_of more found.0 (above + found.1) | None ↦ (unbranched, above) ]
      | None ↦ (unbranched, above)
    ] ≡ node_section more above o) [
      | Some node ↦ elim (inside_any node) as (λ o. elim o [ Some found ↦ section_of more found.0 (above + found.1) | None ↦ (unbranched, above) ]
          ≡ inside_section more above o) [ Some found ↦ refl | None ↦ refl ]
      | None ↦ refl
    ]

record WithinAt (here : Inside) (edit : Branches → Option Branches) (root new : Branches) (above : ℕ) : Type 0 where
  pub made : Branches
  pub is : edit here.0 ≡ Some made
  pub inner : here.1 + depth here.0 ≤ above + depth root
  pub below : (d : ℕ) → above + depth root ≤ d → here.1 + depth made ≤ d → above + depth new ≤ d
  pub least : here.1 + depth made ≤ above + depth new
  pub grows : depth here.0 ≤ depth made → depth root ≤ depth new

within_at : (section : List Key) (edit : Branches → Option Branches) (root new : Branches) (above : ℕ) → edit_within section edit root ≡ Some new
    → WithinAt (section_of section root above) edit root new above
within_at [] edit root new above e = record {
  made = new;
  is = e;
  inner = omega arith;
  below = λ d low made. made;
  least = omega arith;
  grows = λ more_deep. more_deep;
}
within_at (key ∷ more) edit root new above e =
    let change = is_changed (through_any (edit_within more edit)) key root new e in
    let into = any_entered (edit_within more edit) change.node change.made change.is in
    let found = into.found in
    let rest = within_at more edit found.0 into.new (above + found.1) into.is in
    let same : section_of (key ∷ more) root above ≡ section_of more found.0 (above + found.1) =
    section_step key more root above ∙ ap (node_section more above) change.there ∙ ap (inside_section more above) into.enters in
    let there = node_at_depth key root change.node change.there in
    let inner = into.inner in
    subst (λ here. WithinAt here edit root new above) (sym same) (record {
      made = rest.made;
      is = rest.is;
      inner = let under = rest.inner in omega arith;
      below = λ d low made. let under = rest.below d (omega arith) made in change.below above d low (into.below above d (omega arith) (omega arith));
      least = let under = rest.least in let one = into.least in let two = change.least in omega arith;
      grows = λ more_deep. change.grows (into.grows (rest.grows more_deep));
    })

pub is_within : (section : List Key) (edit : Branches → Option Branches) (root new : Branches) (above : ℕ) → edit_within section edit root ≡ Some new
    → Within section edit root new above
is_within section edit root new above e =
    let at = within_at section edit root new above e in
    record { made = at.made; is = at.is; inner = at.inner; below = at.below; least = at.least; grows = at.grows }

-- the table of a section lies within the tree
pub section_inner : (section : List Key) (root : Branches) (above : ℕ) → (section_of section root above).1 + depth (section_of section root above).0 ≤ above + depth root
section_inner [] root above = omega arith
section_inner (key ∷ more) root above =
    subst (λ (x : Inside). x.1 + depth x.0 ≤ above + depth root) (sym (section_step key more root above))
    (elim (table_node_at key root) as (λ o. table_node_at key root ≡ o → (node_section more above o).1 + depth (node_section more above o).0 ≤ above + depth root) [
      | Some node ↦ λ there.
          let under = node_at_depth key root node there in
          elim (inside_any node) as (λ o. inside_any node ≡ o → (inside_section more above o).1 + depth (inside_section more above o).0 ≤ above + depth root) [
            | Some found ↦ λ into. let inner = any_inner node found into in let rest = section_inner more found.0 (above + found.1) in omega arith
            | None ↦ λ into. omega arith
          ] refl
      | None ↦ λ there. omega arith
    ] refl)
