-- A header that is followed part by part makes what the definition makes of it, or has its fault.
use Rattle.std.proofs.Common.{◌≡◌, ℕ, zero, suc, ◌+◌, ◌-◌, ◌<◌, ◌≤◌, ⊎_elim, Bool, true, false, cond, eqb, nat_lt, List, [], ◌∷◌, ◌++◌, length, Option, Some, None, Ok, Err, option_map, refl, ap, sym, subst, ◌∙◌, append_assoc, arith}
use Rattle.std.proofs.lemmas.Bool.Decides.{nat_tests}
use Rattle.std.proofs.lemmas.Slice.Eq.{bytes_eq-Decides}
use Rattle.deny_text.specs.declared.span.Span.{Span}
use Rattle.toml_subset.specs.Answer.{TomlReading, then_read, fault_or}
use Rattle.toml_subset.specs.Data.{depth_limit}
use Rattle.toml_subset.specs.Lines.{Document}
use Rattle.toml_subset.specs.Reading.{ValueFound, section_of, line_rest, with_root as with_root_at, pair_put}
use Rattle.toml_subset.specs.TableFaults.{Inside, put_fault, table_node_at, last_of, inside_any, fault_at_key, way_fault, taken_over_fault, open_table_fault, header_fault, appended_fault, open_array_fault, array_header_fault}
use Rattle.toml_subset.specs.Tables.{Mark, by_header, implicit, dotted, Node, Branches, Bodies, closed, growing, tables, unbranched, branch, last, body, same_key, has_key, branches_with_key, branches_with_edit, in_last, through_any, edit_along, take_over, open_table, with_table, append_to, open_array, branches_with_value, edit_within}
use Rattle.toml_subset.specs.declared.error.SyntaxError.{SyntaxError}
use Rattle.toml_subset.specs.declared.error.SyntaxReason.TheVariants.{RedefinedTable, TooDeep}
use Rattle.toml_subset.specs.declared.string.Key.{Key}
use Rattle.toml_subset.proofs.Law.Basics.{map_some, is_some, is_ok, not_ok, if_is, if_true, if_false}
use Rattle.toml_subset.proofs.Law.Depths.{depth, node_depth, bodies_depth, node_at_depth, any_inner}
use Rattle.toml_subset.proofs.Law.Headers.{header_below, array_header_below, is_within, section_inner}
use Rattle.toml_subset.proofs.Law.Ways.{put_below, node_fault, inside_fault, way_step, along_by, along_step, new_table}
use Rattle.toml_subset.specs.frames.Levels.{Around, alone, behind, steps_in, bodies_to, around_node, TableLevel, hole, branches_with_node, found_at, size, table_with_inner, all_plugged, steps, Cursor, at_root, before_last, last_place, all_of, header_branches, new_around, refusal, cursor_below, into_old, into_new, into_found, into_part, into_parts, into_header, Lead, IsWay, IsOpened}
use Rattle.toml_subset.specs.declared.frames.part.HeaderPart.{HeaderPart}
use Rattle.toml_subset.specs.declared.frames.part.HeaderPart.TheVariants.{Through, Table, Array}

map_twice : {A B C : Type 0} (g : B → C) (f : A → B) (o : Option A) → option_map g (option_map f o) ≡ option_map (λ x. g (f x)) o
map_twice g f None = refl
map_twice g f (Some x) = refl

map_same : {A B : Type 0} (f g : A → B) → ((x : A) → f x ≡ g x) → (o : Option A) → option_map f o ≡ option_map g o
map_same f g same None = refl
map_same f g same (Some x) = ap Some (same x)

map_none : {A B : Type 0} (f : A → B) (o : Option A) → option_map f o ≡ None → o ≡ None
map_none f None e = refl
map_none f (Some x) e = absurd (cc)

map_own : {A : Type 0} (o : Option A) → o ≡ option_map (λ x. x) o
map_own None = refl
map_own (Some x) = refl

-- look-ups

abbrev up : ℕ × Node → ℕ × Node
up f = (suc f.0, f.1)

pub record Found (key : Key) (table : Branches) (i : ℕ) (node : Node) : Type 0 where
  pub there : table_node_at key table ≡ Some node
  pub has : has_key key table ≡ true
  pub change : (f : Node → Option Node) → branches_with_edit f key table ≡ option_map (λ new. branches_with_node i new table) (f node)
  pub again : (new : Node) → found_at key (branches_with_node i new table) ≡ Some (i, new)
  pub twice : (a b : Node) → branches_with_node i b (branches_with_node i a table) ≡ branches_with_node i b table

pub is_found : (key : Key) (table : Branches) (i : ℕ) (node : Node) → found_at key table ≡ Some (i, node) → Found key table i node
is_found key unbranched i node e = absurd (cc)
is_found key (branch other here more) i node e =
    ⊎_elim
    (λ h. subst (λ (x : ℕ × Node). Found key (branch other here more) x.0 x.1) (is_some (0, here) (i, node) h.1) (record {
      there = if_true (same_key key other) (Some here) (table_node_at key more) h.0;
      has = if_true (same_key key other) true (has_key key more) h.0;
      change = λ f. if_true (same_key key other) (option_map (λ new. branch other new more) (f here)) (option_map (branch other here) (branches_with_edit f key more)) h.0;
      again = λ new. if_true (same_key key other) (Some (0, new)) (option_map up (found_at key more)) h.0;
      twice = λ a b. refl;
    }))
    (λ h.
    let rest = map_some up (found_at key more) (i, node) h.1 in
    let inner = is_found key more rest.0.0 rest.0.1 rest.1 in
    subst (λ (x : ℕ × Node). Found key (branch other here more) x.0 x.1) rest.2 (record {
      there = if_false (same_key key other) (Some here) (table_node_at key more) h.0 ∙ inner.there;
      has = if_false (same_key key other) true (has_key key more) h.0 ∙ inner.has;
      change = λ f. if_false (same_key key other) (option_map (λ new. branch other new more) (f here)) (option_map (branch other here) (branches_with_edit f key more)) h.0
          ∙ ap (option_map (branch other here)) (inner.change f)
          ∙ map_twice (branch other here) (λ new. branches_with_node rest.0.0 new more) (f rest.0.1);
      again = λ new. if_false (same_key key other) (Some (0, here)) (option_map up (found_at key (branches_with_node rest.0.0 new more))) h.0 ∙ ap (option_map up) (inner.again new);
      twice = λ a b. ap (branch other here) (inner.twice a b);
    }))
    (if_is (same_key key other) (Some (0, here)) (option_map up (found_at key more)) (Some (i, node)) e)

pub record Missing (key : Key) (table : Branches) : Type 0 where
  pub there : table_node_at key table ≡ None
  pub has : has_key key table ≡ false
  pub again : (new : Node) → found_at key (branches_with_key key new table) ≡ Some (size table, new)
  pub back : (a b : Node) → branches_with_node (size table) b (branches_with_key key a table) ≡ branches_with_key key b table

same_self : (key : Key) → same_key key key ≡ true
same_self key = (bytes_eq-Decides key.name.text key.name.text).1 refl

pub is_missing : (key : Key) (table : Branches) → found_at key table ≡ None → Missing key table
is_missing key unbranched e = record {
  there = refl;
  has = refl;
  again = λ new. if_true (same_key key key) (Some (0, new)) (option_map up None) (same_self key);
  back = λ a b. refl;
}
is_missing key (branch other here more) e =
    ⊎_elim (λ h. let never : Some (0, here) ≡ None = h.1 in absurd (cc))
    (λ h.
    let rest = is_missing key more (map_none up (found_at key more) h.1) in
    record {
      there = if_false (same_key key other) (Some here) (table_node_at key more) h.0 ∙ rest.there;
      has = if_false (same_key key other) true (has_key key more) h.0 ∙ rest.has;
      again = λ new. if_false (same_key key other) (Some (0, here)) (option_map up (found_at key (branches_with_key key new more))) h.0 ∙ ap (option_map up) (rest.again new);
      back = λ a b. ap (branch other here) (rest.back a b);
    })
    (if_is (same_key key other) (Some (0, here)) (option_map up (found_at key more)) None e)

-- arrays of tables

last_in : (f : Branches → Option Branches) (bodies : Bodies)
    → in_last f bodies ≡ option_map (bodies_to (before_last bodies) (last_place bodies)) (f (last_of bodies))
last_in f (last span branches) = refl
last_in f (body span branches more) =
    ap (option_map (body span branches)) (last_in f more) ∙ map_twice (body span branches) (bodies_to (before_last more) (last_place more)) (f (last_of more))

behind_all : (at : Span) (bodies : Bodies) → with_table at bodies ≡ bodies_to (all_of bodies) at unbranched
behind_all at (last span branches) = refl
behind_all at (body span branches more) = ap (body span branches) (behind_all at more)

last_of_to : (before : List (Span × Branches)) (at : Span) (inner : Branches) → last_of (bodies_to before at inner) ≡ inner
last_of_to [] at inner = refl
last_of_to (x ∷ xs) at inner = last_of_to xs at inner

in_last_to : (f : Branches → Option Branches) (before : List (Span × Branches)) (at : Span) (inner : Branches)
    → in_last f (bodies_to before at inner) ≡ option_map (bodies_to before at) (f inner)
in_last_to f [] at inner = refl
in_last_to f (x ∷ xs) at inner = ap (option_map (body x.0 x.1)) (in_last_to f xs at inner) ∙ map_twice (body x.0 x.1) (bodies_to xs at) (f inner)

-- the table that was taken out is within what it was taken out of

pub inside_around : (around : Around) (inner : Branches) → inside_any (around_node around inner) ≡ Some (inner, steps_in around)
inside_around (alone span mark) inner = refl
inside_around (behind span before at) inner = ap (λ (b : Branches). Some (b, 2)) (last_of_to before at inner)

pub through_around : (f : Branches → Option Branches) (around : Around) (inner : Branches) → through_any f (around_node around inner) ≡ option_map (around_node around) (f inner)
through_around f (alone span mark) inner = refl
through_around f (behind span before at) inner =
    ap (option_map (tables span)) (in_last_to f before at inner) ∙ map_twice (tables span) (bodies_to before at) (f inner)

-- what a part before the last opens

abbrev Opens : Node → Around × Branches → Type 0
Opens node found = (inside_any node ≡ Some (found.1, steps_in found.0)) × ((f : Branches → Option Branches) → through_any f node ≡ option_map (around_node found.0) (f found.1))

opens : (node : Node) (found : Around × Branches) → header_branches Through node ≡ Some found → Opens node found
opens (closed span content) found e = absurd (cc)
opens (growing span mark inner) found e = subst (Opens (growing span mark inner)) (is_some (alone span mark, inner) found e) (refl, λ f. refl)
opens (tables span bodies) found e =
    subst (Opens (tables span bodies)) (is_some (behind span (before_last bodies) (last_place bodies), last_of bodies) found e)
    (refl, λ f. ap (option_map (tables span)) (last_in f bodies) ∙ map_twice (tables span) (bodies_to (before_last bodies) (last_place bodies)) (f (last_of bodies)))

opens_none : (node : Node) → header_branches Through node ≡ None → inside_any node ≡ None
opens_none (closed span content) e = refl
opens_none (growing span mark inner) e = absurd (cc)
opens_none (tables span bodies) e = absurd (cc)

-- what the last part opens

takes : (at : Span) (key : Key) (node : Node) (found : Around × Branches) → header_branches (Table at) node ≡ Some found
    → (taken_over_fault key node ≡ None) × (take_over at node ≡ Some (around_node found.0 found.1))
takes at key (closed span content) found e = absurd (cc)
takes at key (growing span by_header inner) found e = absurd (cc)
takes at key (growing span implicit inner) found e =
    (refl, ap (λ (x : Around × Branches). Some (around_node x.0 x.1)) (is_some (alone at by_header, inner) found e))
takes at key (growing span dotted inner) found e = absurd (cc)
takes at key (tables span bodies) found e = absurd (cc)

takes_none : (at : Span) (key : Key) (node : Node) → header_branches (Table at) node ≡ None → taken_over_fault key node ≡ fault_at_key RedefinedTable key
takes_none at key (closed span content) e = refl
takes_none at key (growing span by_header inner) e = refl
takes_none at key (growing span implicit inner) e = absurd (cc)
takes_none at key (growing span dotted inner) e = refl
takes_none at key (tables span bodies) e = refl

appends : (at : Span) (key : Key) (node : Node) (found : Around × Branches) → header_branches (Array at) node ≡ Some found
    → (appended_fault key node ≡ None) × (append_to at node ≡ Some (around_node found.0 found.1))
appends at key (closed span content) found e = absurd (cc)
appends at key (growing span mark inner) found e = absurd (cc)
appends at key (tables span bodies) found e = (
  refl,
  ap (λ b. Some (tables span b)) (behind_all at bodies)
      ∙ ap (λ (x : Around × Branches). Some (around_node x.0 x.1)) (is_some (behind span (all_of bodies) at, unbranched) found e),
)

appends_none : (at : Span) (key : Key) (node : Node) → header_branches (Array at) node ≡ None → appended_fault key node ≡ fault_at_key RedefinedTable key
appends_none at key (closed span content) e = refl
appends_none at key (growing span mark inner) e = refl
appends_none at key (tables span bodies) e = absurd (cc)

-- the end of a way

abbrev pub IsLast : HeaderPart → Type 0
IsLast Through = ⊥
IsLast (Table at) = Unit {0}
IsLast (Array at) = Unit {0}

abbrev pub end_fault : HeaderPart → Key → Branches → ℕ → Option SyntaxError
end_fault Through key branches above = None
end_fault (Table at) key branches above = open_table_fault key branches above
end_fault (Array at) key branches above = open_array_fault key branches above

abbrev pub end_edit : HeaderPart → Key → Branches → Option Branches
end_edit Through key branches = None
end_edit (Table at) key branches = open_table at key branches
end_edit (Array at) key branches = open_array at key branches

-- of a node that is there, and where none does
abbrev node_end : HeaderPart → Key → Node → Option SyntaxError
node_end Through key node = None
node_end (Table at) key node = taken_over_fault key node
node_end (Array at) key node = appended_fault key node

abbrev none_end : HeaderPart → Key → ℕ → Option SyntaxError
none_end Through key above = None
none_end (Table at) key above = cond (eqb above depth_limit) (fault_at_key TooDeep key) None
none_end (Array at) key above = cond (nat_lt (above + 1) depth_limit) None (fault_at_key TooDeep key)

abbrev node_edit : HeaderPart → Node → Option Node
node_edit Through node = None
node_edit (Table at) node = take_over at node
node_edit (Array at) node = append_to at node

abbrev new_node : HeaderPart → Node
new_node Through = tables (record { start = 0; end = 0 }) (last (record { start = 0; end = 0 }) unbranched)
new_node (Table at) = growing at by_header unbranched
new_node (Array at) = tables at (last at unbranched)

abbrev fault_by : HeaderPart → Key → ℕ → Option Node → Option SyntaxError
fault_by part key above (Some node) = node_end part key node
fault_by part key above None = none_end part key above

fault_is : (part : HeaderPart) → IsLast part → (key : Key) (branches : Branches) (above : ℕ) → end_fault part key branches above ≡ fault_by part key above (table_node_at key branches)
fault_is Through never key branches above = absurd never
fault_is (Table at) is key branches above =
    elim (table_node_at key branches) as (λ o. elim o [ Some node ↦ taken_over_fault key node | None ↦ cond (eqb above depth_limit) (fault_at_key TooDeep key) None ]
    ≡ fault_by (Table at) key above o) [ Some node ↦ refl | None ↦ refl ]
fault_is (Array at) is key branches above =
    elim (table_node_at key branches) as (λ o. elim o [ Some node ↦ appended_fault key node | None ↦ cond (nat_lt (above + 1) depth_limit) None (fault_at_key TooDeep key) ]
    ≡ fault_by (Array at) key above o) [ Some node ↦ refl | None ↦ refl ]

abbrev edit_by : HeaderPart → Key → Branches → Bool → Option Branches
edit_by part key branches b = cond b (branches_with_edit (node_edit part) key branches) (Some (branches_with_key key (new_node part) branches))

edit_is : (part : HeaderPart) → IsLast part → (key : Key) (branches : Branches) → end_edit part key branches ≡ edit_by part key branches (has_key key branches)
edit_is Through never key branches = absurd never
edit_is (Table at) is key branches = refl
edit_is (Array at) is key branches = refl

node_opens : (part : HeaderPart) → IsLast part → (key : Key) (node : Node) (found : Around × Branches) → header_branches part node ≡ Some found
    → (node_end part key node ≡ None) × (node_edit part node ≡ Some (around_node found.0 found.1))
node_opens Through never key node found e = absurd never
node_opens (Table at) is key node found e = takes at key node found e
node_opens (Array at) is key node found e = appends at key node found e

node_refuses : (part : HeaderPart) → IsLast part → (key : Key) (node : Node) → header_branches part node ≡ None → node_end part key node ≡ fault_at_key RedefinedTable key
node_refuses Through never key node e = absurd never
node_refuses (Table at) is key node e = takes_none at key node e
node_refuses (Array at) is key node e = appends_none at key node e

abbrev MakesNew : HeaderPart → Key → ℕ → Around → Type 0
MakesNew part key above around = (none_end part key above ≡ None) × (new_node part ≡ around_node around unbranched)

makes_new : (part : HeaderPart) → IsLast part → (key : Key) (above : ℕ) (around : Around) → new_around part key above ≡ Some around → MakesNew part key above around
makes_new Through never key above around e = absurd never
makes_new (Table at) is key above around e =
    ⊎_elim (λ h. let never : None ≡ Some around = h.1 in absurd (cc))
    (λ h. subst (MakesNew (Table at) key above) (is_some (alone at by_header) around h.1) (if_false (eqb above depth_limit) (fault_at_key TooDeep key) None h.0, refl))
    (if_is (eqb above depth_limit) None (Some (alone at by_header)) (Some around) e)
makes_new (Array at) is key above around e =
    ⊎_elim
    (λ h. subst (MakesNew (Array at) key above) (is_some (behind at [] at) around h.1) (if_true (nat_lt (above + 1) depth_limit) None (fault_at_key TooDeep key) h.0, refl))
    (λ h. let never : None ≡ Some around = h.1 in absurd (cc))
    (if_is (nat_lt (above + 1) depth_limit) (Some (behind at [] at)) None (Some around) e)

makes_none : (part : HeaderPart) → IsLast part → (key : Key) (above : ℕ) → new_around part key above ≡ None → none_end part key above ≡ fault_at_key TooDeep key
makes_none Through never key above e = absurd never
makes_none (Table at) is key above e =
    ⊎_elim (λ h. if_true (eqb above depth_limit) (fault_at_key TooDeep key) None h.0) (λ h. let never : Some (alone at by_header) ≡ None = h.1 in absurd (cc))
    (if_is (eqb above depth_limit) None (Some (alone at by_header)) None e)
makes_none (Array at) is key above e =
    ⊎_elim (λ h. let never : Some (behind at [] at) ≡ None = h.1 in absurd (cc)) (λ h. if_false (nat_lt (above + 1) depth_limit) None (fault_at_key TooDeep key) h.0)
    (if_is (nat_lt (above + 1) depth_limit) (Some (behind at [] at)) None None e)

-- what a way came to: its fault, or the edit at its end, put together from the tables that were taken out
pub record Went (fault : Option SyntaxError) (edit : Option Branches) (keys : List Key) (c new : Cursor) : Type 0 where
  pub free : fault ≡ None
  pub levels : List TableLevel
  pub around : new.around ≡ c.around ++ levels
  pub is : edit ≡ Some (all_plugged levels new.here)
  pub leads : Lead keys levels
  pub deep : new.above ≡ c.above + steps levels

abbrev pub Goes : Option SyntaxError → Option Branches → List Key → Cursor → TomlReading Cursor → Type 0
Goes fault edit keys c (Ok new) = Went fault edit keys c new
Goes fault edit keys c (Err refusal) = fault ≡ Some refusal

-- the last part
module _ (part : HeaderPart) (is : IsLast part) (key : Key) (c : Cursor) where
  abbrev Ends : TomlReading Cursor → Type 0
  Ends = Goes (end_fault part key c.here c.above) (end_edit part key c.here) (key ∷ []) c

  old_ends : (i : ℕ) (node : Node) → found_at key c.here ≡ Some (i, node) → (o : Option (Around × Branches)) → header_branches part node ≡ o → Ends (into_old key c i o)
  old_ends i node there (Some found) e =
      let at = is_found key c.here i node there in
      let opens_it = node_opens part is key node found e in
      record {
        free = fault_is part is key c.here c.above ∙ ap (fault_by part key c.above) at.there ∙ opens_it.0;
        levels = record { table = branches_with_node i (hole key) c.here; place = i; around = found.0 } ∷ [];
        around = refl;
        is = edit_is part is key c.here ∙ ap (edit_by part key c.here) at.has ∙ at.change (node_edit part)
            ∙ ap (option_map (λ new. branches_with_node i new c.here)) opens_it.1 ∙ ap Some (sym (at.twice (hole key) (around_node found.0 found.1)));
        leads = ((hole key, at.again (hole key)), tt);
        deep = omega arith;
      }
  old_ends i node there None e =
      let at = is_found key c.here i node there in
      fault_is part is key c.here c.above ∙ ap (fault_by part key c.above) at.there ∙ node_refuses part is key node e

  new_ends : found_at key c.here ≡ None → (o : Option Around) → new_around part key c.above ≡ o → Ends (into_new key c o)
  new_ends none (Some around) e =
      let at = is_missing key c.here none in
      let makes = makes_new part is key c.above around e in
      record {
        free = fault_is part is key c.here c.above ∙ ap (fault_by part key c.above) at.there ∙ makes.0;
        levels = record { table = branches_with_key key (hole key) c.here; place = size c.here; around = around } ∷ [];
        around = refl;
        is = edit_is part is key c.here ∙ ap (edit_by part key c.here) at.has
            ∙ ap (λ n. Some (branches_with_key key n c.here)) makes.1 ∙ ap Some (sym (at.back (hole key) (around_node around unbranched)));
        leads = ((hole key, at.again (hole key)), tt);
        deep = omega arith;
      }
  new_ends none None e =
      let at = is_missing key c.here none in
      fault_is part is key c.here c.above ∙ ap (fault_by part key c.above) at.there ∙ makes_none part is key c.above e

  found_ends : (o : Option (ℕ × Node)) → found_at key c.here ≡ o → Ends (into_found part key c o)
  found_ends (Some found) e = old_ends found.0 found.1 e (header_branches part found.1) refl
  found_ends None e = new_ends e (new_around part key c.above) refl

  pub part_ends : Ends (into_part part key c)
  part_ends = found_ends (found_at key c.here) refl

-- a part before the last

step_on : (fault under : Option SyntaxError) (edit inner : Option Branches) (level : TableLevel) (key : Key) (more : List Key) (c next : Cursor) (answer : TomlReading Cursor)
    → fault ≡ under → edit ≡ option_map (table_with_inner level) inner → (node : Node) → found_at key level.table ≡ Some (level.place, node)
    → next.around ≡ c.around ++ level ∷ [] → next.above ≡ c.above + steps_in level.around → Goes under inner more next answer → Goes fault edit (key ∷ more) c answer
step_on fault under edit inner level key more c next (Ok new) same_fault same_edit node leads around above rest = record {
  free = same_fault ∙ rest.free;
  levels = level ∷ rest.levels;
  around = rest.around ∙ ap (λ ls. ls ++ rest.levels) around ∙ append_assoc c.around (level ∷ []) rest.levels;
  is = same_edit ∙ ap (option_map (table_with_inner level)) rest.is;
  leads = ((node, leads), rest.leads);
  deep = let deep = rest.deep in omega arith;
}
step_on fault under edit inner level key more c next (Err refusal) same_fault same_edit node leads around above rest = same_fault ∙ rest

module _ (part : HeaderPart) (is : IsLast part) (key next : Key) (more : List Key) (c : Cursor) where
  abbrev wanted : Option SyntaxError
  wanted = way_fault inside_any (end_fault part) (key ∷ next ∷ more) c.here c.above

  abbrev tail : Branches → Option Branches
  tail = edit_along implicit through_any (end_edit part) (next ∷ more)

  abbrev whole_edit : Option Branches
  whole_edit = edit_along implicit through_any (end_edit part) (key ∷ next ∷ more) c.here

  abbrev Steps : TomlReading Cursor → Type 0
  Steps = Goes wanted whole_edit (key ∷ next ∷ more) c

  abbrev Further : Type 0
  Further = (d : Cursor) → Goes (way_fault inside_any (end_fault part) (next ∷ more) d.here d.above) (tail d.here) (next ∷ more) d (into_parts part (next ∷ more) d)

  fault_step : (o : Option Node) → table_node_at key c.here ≡ o → wanted ≡ node_fault inside_any (end_fault part) key next more c.above o
  fault_step o e = way_step inside_any (end_fault part) key next more c.here c.above ∙ ap (node_fault inside_any (end_fault part) key next more c.above) e

  edit_step : (b : Bool) → has_key key c.here ≡ b → whole_edit ≡ along_by implicit through_any (end_edit part) key next more c.here b
  edit_step b e = along_step implicit through_any (end_edit part) key next more c.here ∙ ap (along_by implicit through_any (end_edit part) key next more c.here) e

  old_steps : Further → (i : ℕ) (node : Node) → found_at key c.here ≡ Some (i, node) → (o : Option (Around × Branches)) → header_branches Through node ≡ o
      → Steps (then_read (into_parts part (next ∷ more)) (into_old key c i o))
  old_steps rest i node there (Some found) e =
      let at = is_found key c.here i node there in
      let into = opens node found e in
      let level : TableLevel = record { table = branches_with_node i (hole key) c.here; place = i; around = found.0 } in
      let d = cursor_below c (branches_with_node i (hole key) c.here) i found.0 found.1 in
      step_on wanted (way_fault inside_any (end_fault part) (next ∷ more) found.1 (c.above + steps_in found.0)) whole_edit (tail found.1) level key (next ∷ more) c d
      (into_parts part (next ∷ more) d)
      (fault_step (Some node) at.there ∙ ap (inside_fault inside_any (end_fault part) key next more c.above) into.0)
      (edit_step true at.has ∙ at.change (through_any tail)
      ∙ ap (option_map (λ new. branches_with_node i new c.here)) (into.1 tail)
      ∙ map_twice (λ new. branches_with_node i new c.here) (around_node found.0) (tail found.1)
      ∙ map_same (λ x. branches_with_node i (around_node found.0 x) c.here) (table_with_inner level) (λ x. sym (at.twice (hole key) (around_node found.0 x))) (tail found.1))
      (hole key) (at.again (hole key)) refl refl (rest d)
  old_steps rest i node there None e =
      let at = is_found key c.here i node there in
      fault_step (Some node) at.there ∙ ap (inside_fault inside_any (end_fault part) key next more c.above) (opens_none node e)

  new_steps : Further → found_at key c.here ≡ None → (o : Option Around) → new_around Through key c.above ≡ o
      → Steps (then_read (into_parts part (next ∷ more)) (into_new key c o))
  new_steps rest none (Some around) e =
      let at = is_missing key c.here none in
      ⊎_elim (λ h. let never : None ≡ Some around = h.1 in absurd (cc))
      (λ h.
      let same : alone key.span implicit ≡ around = is_some (alone key.span implicit) around h.1 in
      subst (λ a. Steps (then_read (into_parts part (next ∷ more)) (into_new key c (Some a)))) same
      (let level : TableLevel = record { table = branches_with_key key (hole key) c.here; place = size c.here; around = alone key.span implicit } in
      let d = cursor_below c (branches_with_key key (hole key) c.here) (size c.here) (alone key.span implicit) unbranched in
      step_on wanted (way_fault inside_any (end_fault part) (next ∷ more) unbranched (c.above + 1)) whole_edit (tail unbranched) level key (next ∷ more) c d
      (into_parts part (next ∷ more) d)
      (fault_step None at.there ∙ if_false (eqb c.above depth_limit) (fault_at_key TooDeep key) (way_fault inside_any (end_fault part) (next ∷ more) unbranched (c.above + 1)) h.0)
      (edit_step false at.has
      ∙ map_same (new_table implicit key c.here) (table_with_inner level) (λ x. sym (at.back (hole key) (growing key.span implicit x))) (tail unbranched))
      (hole key) (at.again (hole key)) refl refl (rest d)))
      (if_is (eqb c.above depth_limit) None (Some (alone key.span implicit)) (Some around) e)
  new_steps rest none None e =
      let at = is_missing key c.here none in
      ⊎_elim
      (λ h. fault_step None at.there ∙ if_true (eqb c.above depth_limit) (fault_at_key TooDeep key) (way_fault inside_any (end_fault part) (next ∷ more) unbranched (c.above + 1)) h.0)
      (λ h. let never : Some (alone key.span implicit) ≡ None = h.1 in absurd (cc))
      (if_is (eqb c.above depth_limit) None (Some (alone key.span implicit)) None e)

  found_steps : Further → (o : Option (ℕ × Node)) → found_at key c.here ≡ o → Steps (then_read (into_parts part (next ∷ more)) (into_found Through key c o))
  found_steps rest (Some found) e = old_steps rest found.0 found.1 e (header_branches Through found.1) refl
  found_steps rest None e = new_steps rest e (new_around Through key c.above) refl

-- all parts
pub parts_go : (part : HeaderPart) → IsLast part → (keys : List Key) (c : Cursor) → 0 < length keys
    → Goes (way_fault inside_any (end_fault part) keys c.here c.above) (edit_along implicit through_any (end_edit part) keys c.here) keys c (into_parts part keys c)
parts_go part is [] c some = absurd (omega arith)
parts_go part is (key ∷ []) c some = part_ends part is key c
parts_go part is (key ∷ next ∷ more) c some =
    found_steps part is key next more c (λ d. parts_go part is (next ∷ more) d (omega arith)) (found_at key c.here) refl

-- a pair needs the open table alone

pub within_way : (keys : List Key) (levels : List TableLevel) (here : Branches) (edit : Branches → Option Branches) → Lead keys levels
    → edit_within keys edit (all_plugged levels here) ≡ option_map (all_plugged levels) (edit here)
within_way [] [] here edit leads = map_own (edit here)
within_way [] (level ∷ levels) here edit leads = absurd leads
within_way (key ∷ keys) [] here edit leads = absurd leads
within_way (key ∷ keys) (level ∷ levels) here edit leads =
    let inner = all_plugged levels here in
    let node = around_node level.around inner in
    let first = is_found key level.table level.place leads.0.0 leads.0.1 in
    let at = is_found key (branches_with_node level.place node level.table) level.place node (first.again node) in
    at.change (through_any (edit_within keys edit))
    ∙ ap (option_map (λ new. branches_with_node level.place new (branches_with_node level.place node level.table)))
    (through_around (edit_within keys edit) level.around inner ∙ ap (option_map (around_node level.around)) (within_way keys levels here edit leads.1))
    ∙ ap (option_map (λ new. branches_with_node level.place new (branches_with_node level.place node level.table)))
    (map_twice (around_node level.around) (all_plugged levels) (edit here))
    ∙ map_twice (λ new. branches_with_node level.place new (branches_with_node level.place node level.table)) (λ x. around_node level.around (all_plugged levels x)) (edit here)
    ∙ map_same (λ x. branches_with_node level.place (around_node level.around (all_plugged levels x)) (branches_with_node level.place node level.table)) (all_plugged (level ∷ levels))
    (λ x. first.twice node (around_node level.around (all_plugged levels x))) (edit here)

abbrev inside_section : List Key → ℕ → Option Inside → Inside
inside_section more above (Some found) = section_of more found.0 (above + found.1)
inside_section more above None = (unbranched, above)

abbrev node_section : List Key → ℕ → Option Node → Inside
node_section more above (Some node) = inside_section more above (inside_any node)
node_section more above None = (unbranched, above)

section_step : (key : Key) (more : List Key) (root : Branches) (above : ℕ) → section_of (key ∷ more) root above ≡ node_section more above (table_node_at key root)
section_step key more root above =
    elim (table_node_at key root) as (λ o. elim o [
      | Some node ↦ elim (inside_any node) [ Some found ↦ section_of more found.0 (above + found.1) | None ↦ (unbranched, above) ]
      | None ↦ (unbranched, above)
    ] ≡ node_section more above o) [
      | Some node ↦ elim (inside_any node) as (λ o. elim o [ Some found ↦ section_of more found.0 (above + found.1) | None ↦ (unbranched, above) ]
          ≡ inside_section more above o) [ Some found ↦ refl | None ↦ refl ]
      | None ↦ refl
    ]

pub more_above : (here : Branches) (a b : ℕ) → a ≡ b → ◌≡◌ {A = Inside} (here, a) (here, b)
more_above here a b e = ap (λ (n : ℕ). (here, n)) e

pub section_way : (keys : List Key) (levels : List TableLevel) (here : Branches) (above : ℕ) → Lead keys levels
    → section_of keys (all_plugged levels here) above ≡ (here, above + steps levels)
section_way [] [] here above leads = more_above here above (above + 0) (omega arith)
section_way [] (level ∷ levels) here above leads = absurd leads
section_way (key ∷ keys) [] here above leads = absurd leads
section_way (key ∷ keys) (level ∷ levels) here above leads =
    let inner = all_plugged levels here in
    let node = around_node level.around inner in
    let first = is_found key level.table level.place leads.0.0 leads.0.1 in
    let at = is_found key (branches_with_node level.place node level.table) level.place node (first.again node) in
    section_step key keys (table_with_inner level inner) above ∙ ap (node_section keys above) at.there
    ∙ ap (inside_section keys above) (inside_around level.around inner)
    ∙ section_way keys levels here (above + steps_in level.around) leads.1
    ∙ more_above here (above + steps_in level.around + steps levels) (above + (steps_in level.around + steps levels)) (omega arith)

pub plugged_last : (levels : List TableLevel) (level : TableLevel) (inner : Branches) → all_plugged (levels ++ level ∷ []) inner ≡ all_plugged levels (table_with_inner level inner)
plugged_last [] level inner = refl
plugged_last (x ∷ xs) level inner = ap (table_with_inner x) (plugged_last xs level inner)

-- documents

abbrev with_root : Branches → List Key → Document
with_root root section = record { root = root; section = section }

pub start_way : IsWay (with_root unbranched []) (record { around = []; here = unbranched; above = 0 })
start_way = record { root = refl; leads = tt; deep = refl; low = omega arith }

pub pair_way : (document : Document) (c : Cursor) (new : Branches) → IsWay document c → depth (all_plugged c.around new) ≤ depth_limit
    → IsWay (with_root (all_plugged c.around new) document.section) (record { around = c.around; here = new; above = c.above })
pair_way document c new way low = record { root = refl; leads = way.leads; deep = way.deep; low = low }

module _ (document : Document) (c : Cursor) (way : IsWay document c) where
  abbrev root_cursor : Cursor
  root_cursor = at_root c

  opened_way : (fault : Option SyntaxError) (edit : Option Branches) (keys : List Key)
      → ((made : Branches) → fault ≡ None → edit ≡ Some made → depth made ≤ depth_limit)
      → (answer : TomlReading Cursor) → Goes fault edit keys root_cursor answer → IsOpened fault edit keys answer
  opened_way fault edit keys low (Ok new) went =
      let levels : went.levels ≡ new.around = sym went.around in
      let made : edit ≡ Some (all_plugged new.around new.here) = went.is ∙ ap (λ ls. Some (all_plugged ls new.here)) levels in (
        went.free,
        made,
        record {
          root = refl;
          leads = subst (Lead keys) levels went.leads;
          deep = let first = went.deep in let same = ap steps levels in omega arith;
          low = low (all_plugged new.around new.here) went.free made;
        },
      )
  opened_way fault edit keys low (Err refusal) went = went

  pub table_way : (at : Span) (keys : List Key) → 0 < length keys
      → IsOpened (header_fault keys document.root) (edit_along implicit through_any (open_table at) keys document.root) keys (into_header (Table at) keys c)
  table_way at keys some =
      subst (λ root. IsOpened (header_fault keys root) (edit_along implicit through_any (open_table at) keys root) keys (into_header (Table at) keys c)) (sym way.root)
      (opened_way (header_fault keys root_cursor.here) (edit_along implicit through_any (open_table at) keys root_cursor.here) keys
      (λ made free is. header_below at keys root_cursor.here made free is (subst (λ b. depth b ≤ depth_limit) way.root way.low))
      (into_header (Table at) keys c) (parts_go (Table at) tt keys root_cursor some))

  pub array_way : (at : Span) (keys : List Key) → 0 < length keys
      → IsOpened (array_header_fault keys document.root) (edit_along implicit through_any (open_array at) keys document.root) keys (into_header (Array at) keys c)
  array_way at keys some =
      subst (λ root. IsOpened (array_header_fault keys root) (edit_along implicit through_any (open_array at) keys root) keys (into_header (Array at) keys c)) (sym way.root)
      (opened_way (array_header_fault keys root_cursor.here) (edit_along implicit through_any (open_array at) keys root_cursor.here) keys
      (λ made free is. array_header_below at keys root_cursor.here made free is (subst (λ b. depth b ≤ depth_limit) way.root way.low))
      (into_header (Array at) keys c) (parts_go (Array at) tt keys root_cursor some))

-- no part leads too deep

bodies_some : (bodies : Bodies) → 1 ≤ bodies_depth bodies
bodies_some (last span branches) = omega arith
bodies_some (body span branches more) = omega arith

abbrev Deeper : Node → Around × Branches → Type 0
Deeper node found = steps_in found.0 + depth found.1 ≤ node_depth node

opened_inner : (part : HeaderPart) (node : Node) (found : Around × Branches) → header_branches part node ≡ Some found → Deeper node found
opened_inner Through node found e = any_inner node (found.1, steps_in found.0) (opens node found e).0
opened_inner (Table at) (closed span content) found e = absurd (cc)
opened_inner (Table at) (growing span by_header inner) found e = absurd (cc)
opened_inner (Table at) (growing span implicit inner) found e =
    subst (Deeper (growing span implicit inner)) (is_some (alone at by_header, inner) found e) (omega arith)
opened_inner (Table at) (growing span dotted inner) found e = absurd (cc)
opened_inner (Table at) (tables span bodies) found e = absurd (cc)
opened_inner (Array at) (closed span content) found e = absurd (cc)
opened_inner (Array at) (growing span mark inner) found e = absurd (cc)
opened_inner (Array at) (tables span bodies) found e =
    subst (Deeper (tables span bodies)) (is_some (behind span (all_of bodies) at, unbranched) found e) (let some = bodies_some bodies in omega arith)

abbrev Room : ℕ → Around → Type 0
Room above around = above + steps_in around ≤ depth_limit

pub fresh_room : (part : HeaderPart) (key : Key) (above : ℕ) (around : Around) → above ≤ depth_limit → new_around part key above ≡ Some around → Room above around
fresh_room Through key above around low e =
    ⊎_elim (λ h. let never : None ≡ Some around = h.1 in absurd (cc))
    (λ h. subst (Room above) (is_some (alone key.span implicit) around h.1) (grind (arith, nat_tests)))
    (if_is (eqb above depth_limit) None (Some (alone key.span implicit)) (Some around) e)
fresh_room (Table at) key above around low e =
    ⊎_elim (λ h. let never : None ≡ Some around = h.1 in absurd (cc))
    (λ h. subst (Room above) (is_some (alone at by_header) around h.1) (grind (arith, nat_tests)))
    (if_is (eqb above depth_limit) None (Some (alone at by_header)) (Some around) e)
fresh_room (Array at) key above around low e =
    ⊎_elim (λ h. subst (Room above) (is_some (behind at [] at) around h.1) (grind (arith, nat_tests)))
    (λ h. let never : None ≡ Some around = h.1 in absurd (cc))
    (if_is (nat_lt (above + 1) depth_limit) (Some (behind at [] at)) None (Some around) e)

-- a table that is there has room for what a part opens in it
pub old_room : (part : HeaderPart) (key : Key) (c : Cursor) (i : ℕ) (node : Node) (found : Around × Branches) → c.above + depth c.here ≤ depth_limit
    → found_at key c.here ≡ Some (i, node) → header_branches part node ≡ Some found → c.above + (steps_in found.0 + depth found.1) ≤ depth_limit
old_room part key c i node found low there e =
    let at = is_found key c.here i node there in
    let under = node_at_depth key c.here node at.there in
    let inner = opened_inner part node found e in
    omega arith

abbrev IsLow : Cursor → Type 0
IsLow c = c.above + depth c.here ≤ depth_limit

module _ (part : HeaderPart) (key : Key) (c new : Cursor) (low : IsLow c) where
  old_low : (i : ℕ) (node : Node) → found_at key c.here ≡ Some (i, node) → (o : Option (Around × Branches)) → header_branches part node ≡ o → into_old key c i o ≡ Ok new → IsLow new
  old_low i node there (Some found) e is =
      subst IsLow (is_ok (cursor_below c (branches_with_node i (hole key) c.here) i found.0 found.1) new is)
      (let room = old_room part key c i node found low there e in omega arith)
  old_low i node there None e is = absurd (not_ok (refusal RedefinedTable key) new is)

  new_low : (o : Option Around) → new_around part key c.above ≡ o → into_new key c o ≡ Ok new → IsLow new
  new_low (Some around) e is =
      subst IsLow (is_ok (cursor_below c (branches_with_key key (hole key) c.here) (size c.here) around unbranched) new is)
      (let room = fresh_room part key c.above around (omega arith) e in omega arith)
  new_low None e is = absurd (not_ok (refusal TooDeep key) new is)

  found_low : (o : Option (ℕ × Node)) → found_at key c.here ≡ o → into_found part key c o ≡ Ok new → IsLow new
  found_low (Some found) e is = old_low found.0 found.1 e (header_branches part found.1) refl is
  found_low None e is = new_low (new_around part key c.above) refl is

  pub part_low : into_part part key c ≡ Ok new → IsLow new
  part_low is = found_low (found_at key c.here) refl is

-- a pair, and a header, as lines of a document

module _ (document : Document) (c : Cursor) (way : IsWay document c) (keys : List Key) (node : Node) (new : Branches) where
  pair_edit : branches_with_value keys node c.here ≡ Some new → edit_within document.section (branches_with_value keys node) document.root ≡ Some (all_plugged c.around new)
  pair_edit is =
      ap (edit_within document.section (branches_with_value keys node)) way.root ∙ within_way document.section c.around c.here (branches_with_value keys node) way.leads
      ∙ ap (option_map (all_plugged c.around)) is

  section_is : section_of document.section document.root 0 ≡ (c.here, c.above)
  section_is =
      ap (λ root. section_of document.section root 0) way.root ∙ section_way document.section c.around c.here 0 way.leads ∙ more_above c.here (0 + steps c.around) c.above (let deep = way.deep in omega arith)

  pub pair_low : put_fault keys c.here c.above ≡ None → branches_with_value keys node c.here ≡ Some new → c.above + (length keys - 1) + node_depth node ≤ depth_limit
      → depth (all_plugged c.around new) ≤ depth_limit
  pair_low free is room =
      let inside = is_within document.section (branches_with_value keys node) document.root (all_plugged c.around new) 0 (pair_edit is) in
      let made : inside.made ≡ new =
      is_some inside.made new (sym inside.is ∙ ap (λ (x : Inside). branches_with_value keys node x.0) section_is ∙ is) in
      let inner = section_inner document.section document.root 0 in
      let here = ap (λ (x : Inside). x.1 + depth x.0) section_is in
      let low = way.low in
      let under = put_below keys node c.here new c.above free is room (omega arith) in
      let at = ap (λ (x : Inside). x.1) section_is in
      let same = ap depth made in
      let whole_low = inside.below depth_limit (omega arith) (omega arith) in
      omega arith

pub pair_put_is : (text : List ℕ) (document : Document) (c : Cursor) (keys : List Key) (v : ValueFound) (new : Branches) → IsWay document c
    → branches_with_value keys (closed v.0 v.1) c.here ≡ Some new
    → pair_put text keys document v ≡ line_rest text v.2 (with_root (all_plugged c.around new) document.section)
pair_put_is text document c keys v new way is =
    ap (with_root_at text v.2 document.section) (pair_edit document c way keys (closed v.0 v.1) new is)

pub header_line_is : (text : List ℕ) (i : ℕ) (keys : List Key) (fault : Option SyntaxError) (made : Option Branches) (answer : TomlReading Cursor) → IsOpened fault made keys answer
    → fault_or fault (with_root_at text i keys made)
    ≡ then_read (λ (c : Cursor). line_rest text i (with_root (all_plugged c.around c.here) keys)) answer
header_line_is text i keys fault made (Ok c) is = ap (λ f. fault_or f (with_root_at text i keys made)) is.0 ∙ ap (with_root_at text i keys) is.1
header_line_is text i keys fault made (Err refusal) is = ap (λ f. fault_or f (with_root_at text i keys made)) is
