-- Where no part of a way is refused, the edit at its end is made.
use Rattle.std.proofs.Common.{◌≡◌, ℕ, ◌+◌, ◌<◌, ⊎_elim, Bool, true, false, cond, eqb, List, [], ◌∷◌, length, Option, Some, None, option_map, refl, ap, sym, subst, ◌∙◌, arith}
use Rattle.deny_text.specs.declared.span.Span.{Span}
use Rattle.toml_subset.specs.Data.{depth_limit}
use Rattle.toml_subset.specs.TableFaults.{Inside, table_node_at, last_of, inside_any, inside_dotted, fault_at_key, way_fault, new_key_fault, put_fault, taken_over_fault, open_table_fault, header_fault, appended_fault, open_array_fault, array_header_fault}
use Rattle.toml_subset.specs.Tables.{Mark, by_header, implicit, dotted, Node, Branches, Bodies, closed, growing, tables, last, body, unbranched, branch, same_key, has_key, branches_with_key, branches_with_edit, in_last, through_any, through_dotted, edit_along, put_new, branches_with_value, take_over, open_table, with_table, append_to, open_array}
use Rattle.toml_subset.specs.declared.error.SyntaxError.{SyntaxError}
use Rattle.toml_subset.specs.declared.error.SyntaxReason.TheVariants.{DuplicateKey, RedefinedTable, TooDeep}
use Rattle.toml_subset.specs.declared.string.Key.{Key}
use Rattle.toml_subset.proofs.Law.Basics.{if_is, if_true, if_false}
use Rattle.toml_subset.proofs.Law.Depths.{none_has}
use Rattle.toml_subset.proofs.Law.Ways.{Through, EndFault, Edit, node_fault, inside_fault, way_step, along_by, along_step, new_table}

abbrev pub IsMade : {A : Type 0} → Option A → Type 0
IsMade o = (x : _) × (o ≡ Some x)

map_made : {A B : Type 0} (f : A → B) (o : Option A) → IsMade o → IsMade (option_map f o)
map_made f o made = (f made.0, ap (option_map f) made.1)

some_has : (key : Key) (branches : Branches) (node : Node) → table_node_at key branches ≡ Some node → has_key key branches ≡ true
some_has key unbranched node e = absurd (cc)
some_has key (branch other here more) node e =
    ⊎_elim (λ h. if_true (same_key key other) true (has_key key more) h.0)
    (λ h. if_false (same_key key other) true (has_key key more) h.0 ∙ some_has key more node h.1)
    (if_is (same_key key other) (Some here) (table_node_at key more) (Some node) e)

change_made : (f : Node → Option Node) (key : Key) (branches : Branches) (node : Node) → table_node_at key branches ≡ Some node → IsMade (f node) → IsMade (branches_with_edit f key branches)
change_made f key unbranched node e made = absurd (cc)
change_made f key (branch other here more) node e made =
    ⊎_elim
    (λ h.
    let same : here ≡ node = cc in
    let first = map_made (λ new. branch other new more) (f here) (subst (λ n. IsMade (f n)) (sym same) made) in
    (first.0, if_true (same_key key other) _ _ h.0 ∙ first.1))
    (λ h.
    let rest = map_made (branch other here) (branches_with_edit f key more) (change_made f key more node h.1 made) in
    (rest.0, if_false (same_key key other) _ _ h.0 ∙ rest.1))
    (if_is (same_key key other) (Some here) (table_node_at key more) (Some node) e)

module _ (mark : Mark) (through : Through) (inside : Node → Option Inside) (edit : Edit) (end : EndFault)
    (ends : (key : Key) (branches : Branches) (above : ℕ) → end key branches above ≡ None → IsMade (edit key branches))
    (enters : (f : Branches → Option Branches) (node : Node) (found : Inside) → inside node ≡ Some found → IsMade (f found.0) → IsMade (through f node)) where
  pub way_made : (keys : List Key) (branches : Branches) (above : ℕ) → 0 < length keys → way_fault inside end keys branches above ≡ None
      → IsMade (edit_along mark through edit keys branches)
  way_made [] branches above some free = absurd (omega arith)
  way_made (key ∷ []) branches above some free = ends key branches above free
  way_made (key ∷ next ∷ more) branches above some free =
      let here = sym (way_step inside end key next more branches above) ∙ free in
      elim (table_node_at key branches) as (λ o. table_node_at key branches ≡ o → node_fault inside end key next more above o ≡ None → IsMade (edit_along mark through edit (key ∷ next ∷ more) branches)) [
        | Some node ↦ λ there is.
            elim (inside node) as (λ o. inside node ≡ o → inside_fault inside end key next more above o ≡ None → IsMade (edit_along mark through edit (key ∷ next ∷ more) branches)) [
              | Some found ↦ λ into rest.
                  let under = way_made (next ∷ more) found.0 (above + found.1) (omega arith) rest in
                  let change = change_made (through (edit_along mark through edit (next ∷ more))) key branches node there
                  (enters (edit_along mark through edit (next ∷ more)) node found into under) in (
                    change.0,
                    along_step mark through edit key next more branches
                        ∙ ap (along_by mark through edit key next more branches) (some_has key branches node there) ∙ change.1,
                  )
              | None ↦ λ into rest. absurd (cc)
            ] refl is
        | None ↦ λ there is.
            ⊎_elim (λ h. let other = h.1 in absurd (cc))
            (λ h.
            let under = map_made (new_table mark key branches) (edit_along mark through edit (next ∷ more) unbranched)
            (way_made (next ∷ more) unbranched (above + 1) (omega arith) h.1) in (
              under.0,
              along_step mark through edit key next more branches
                  ∙ ap (along_by mark through edit key next more branches) (none_has key branches there) ∙ under.1,
            ))
            (if_is (eqb above depth_limit) (fault_at_key TooDeep key) (way_fault inside end (next ∷ more) unbranched (above + 1)) None is)
      ] refl here

put_ends : (node : Node) (key : Key) (branches : Branches) (above : ℕ) → new_key_fault key branches above ≡ None → IsMade (put_new node key branches)
put_ends node key branches above free =
    ⊎_elim (λ h. let other = h.1 in absurd (cc)) (λ h. (branches_with_key key node branches, if_false (has_key key branches) None (Some (branches_with_key key node branches)) h.0))
    (if_is (has_key key branches) (fault_at_key DuplicateKey key) None None free)

dotted_enters : (f : Branches → Option Branches) (node : Node) (found : Inside) → inside_dotted node ≡ Some found → IsMade (f found.0) → IsMade (through_dotted f node)
dotted_enters f (closed span content) found e made = absurd (cc)
dotted_enters f (growing span by_header branches) found e made = absurd (cc)
dotted_enters f (growing span implicit branches) found e made = absurd (cc)
dotted_enters f (growing span dotted branches) found e made =
    let same : (branches, 1) ≡ found = cc in
    map_made (growing span dotted) (f branches) (subst (λ (x : Inside). IsMade (f x.0)) (sym same) made)
dotted_enters f (tables span bodies) found e made = absurd (cc)

-- a value's key
pub put_made : (keys : List Key) (node : Node) (branches : Branches) (above : ℕ) → 0 < length keys → put_fault keys branches above ≡ None → IsMade (branches_with_value keys node branches)
put_made keys node branches above some free =
    way_made dotted through_dotted inside_dotted (put_new node) new_key_fault (put_ends node) dotted_enters keys branches above some free

last_made : (f : Branches → Option Branches) (bodies : Bodies) → IsMade (f (last_of bodies)) → IsMade (in_last f bodies)
last_made f (last span branches) made = map_made (last span) (f branches) made
last_made f (body span branches more) made = map_made (body span branches) (in_last f more) (last_made f more made)

any_enters : (f : Branches → Option Branches) (node : Node) (found : Inside) → inside_any node ≡ Some found → IsMade (f found.0) → IsMade (through_any f node)
any_enters f (closed span content) found e made = absurd (cc)
any_enters f (growing span mark branches) found e made =
    let same : (branches, 1) ≡ found = cc in
    map_made (growing span mark) (f branches) (subst (λ (x : Inside). IsMade (f x.0)) (sym same) made)
any_enters f (tables span bodies) found e made =
    let same : (last_of bodies, 2) ≡ found = cc in
    map_made (tables span) (in_last f bodies) (last_made f bodies (subst (λ (x : Inside). IsMade (f x.0)) (sym same) made))

taken_over : (at : Span) (key : Key) (node : Node) → taken_over_fault key node ≡ None → IsMade (take_over at node)
taken_over at key (closed span content) free = absurd (cc)
taken_over at key (growing span by_header branches) free = absurd (cc)
taken_over at key (growing span implicit branches) free = (growing at by_header branches, refl)
taken_over at key (growing span dotted branches) free = absurd (cc)
taken_over at key (tables span bodies) free = absurd (cc)

appended : (at : Span) (key : Key) (node : Node) → appended_fault key node ≡ None → IsMade (append_to at node)
appended at key (closed span content) free = absurd (cc)
appended at key (growing span mark branches) free = absurd (cc)
appended at key (tables span bodies) free = (tables span (with_table at bodies), refl)

-- an edit at a key: of its node, or a new one
at_key : (f : Node → Option Node) (new : Node) (key : Key) (branches : Branches) (fault : Node → Option SyntaxError) (none : Option SyntaxError)
    → ((node : Node) → fault node ≡ None → IsMade (f node))
    → ◌≡◌ {A = Option SyntaxError} (elim (table_node_at key branches) [ Some node ↦ fault node | None ↦ none ]) None
    → IsMade (cond (has_key key branches) (branches_with_edit f key branches) (Some (branches_with_key key new branches)))
at_key f new key branches fault none goes free =
    elim (table_node_at key branches) as (λ o. table_node_at key branches ≡ o → ◌≡◌ {A = Option SyntaxError} (elim o [ Some node ↦ fault node | None ↦ none ]) None
    → IsMade (cond (has_key key branches) (branches_with_edit f key branches) (Some (branches_with_key key new branches)))) [
      | Some node ↦ λ there is.
          let change = change_made f key branches node there (goes node is) in
          (change.0, if_true (has_key key branches) _ _ (some_has key branches node there) ∙ change.1)
      | None ↦ λ there is. (branches_with_key key new branches, if_false (has_key key branches) _ _ (none_has key branches there))
    ] refl free

-- a header's table
pub header_made : (at : Span) (keys : List Key) (root : Branches) → 0 < length keys → header_fault keys root ≡ None → IsMade (edit_along implicit through_any (open_table at) keys root)
header_made at keys root some free =
    way_made implicit through_any inside_any (open_table at) open_table_fault
    (λ key branches above none. at_key (take_over at) (growing at by_header unbranched) key branches (taken_over_fault key) _ (taken_over at key) none)
    any_enters keys root 0 some free

-- a table of an array header
pub array_header_made : (at : Span) (keys : List Key) (root : Branches) → 0 < length keys → array_header_fault keys root ≡ None → IsMade (edit_along implicit through_any (open_array at) keys root)
array_header_made at keys root some free =
    way_made implicit through_any inside_any (open_array at) open_array_fault
    (λ key branches above none. at_key (append_to at) (tables at (last at unbranched)) key branches (appended_fault key) _ (appended at key) none)
    any_enters keys root 0 some free
