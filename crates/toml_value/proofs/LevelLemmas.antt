-- The program's tables, seen as those of a way.
use Rattle.std.proofs.Common.{◌≡◌, ℕ, zero, suc, ◌+◌, ◌<◌, ◌&&◌, Bool, true, false, cond, List, [], ◌∷◌, ◌++◌, map, length, get_or, set, Option, Some, None, option_map, Result, Ok, Err, IsTrue, ⊎_elim, refl, ap, sym, subst, ◌∙◌, arith, rules}
use Rattle.std.proofs.lemmas.List.{length-map, map-append}
use Rattle.std.specs.List.{list_all}
use Rattle.deny_text.specs.declared.span.Span.{Span}
use Rattle.toml_subset.specs.key_index.KeyPlaces.{first_key_place}
use Rattle.toml_subset.specs.Answer.{AnswersToml, then_read}
use Rattle.toml_subset.specs.TableFaults.{last_of}
use Rattle.toml_subset.specs.Tables.{Node, Branches, growing, unbranched, branch, tables, same_key, branches_with_key}
use Rattle.toml_subset.specs.declared.error.SyntaxError.{SyntaxError}
use Rattle.toml_subset.specs.declared.error.SyntaxReason.TheVariants.{RedefinedTable}
use Rattle.toml_subset.specs.declared.error.TomlError.{TomlError}
use Rattle.toml_subset.specs.declared.error.TomlError.TheVariants.{Syntax, Memory}
use Rattle.toml_subset.specs.declared.string.Key.{Key}
use Rattle.toml_subset.proofs.Law.Basics.{map_some, is_some, is_ok, not_ok, if_is}
use Rattle.toml_subset.proofs.frames.Levels.{plugged_last}
use Rattle.toml_subset.specs.frames.Levels.{Around, behind, Cursor, branches_with_node, found_at, size, bodies_to, before_last, last_place, all_of, table_with_inner, all_plugged, steps_in, header_branches, new_around, refusal, cursor_below, into_old, into_new, into_found, into_part, into_parts, into_header}
use Rattle.toml_subset.specs.declared.frames.part.HeaderPart.{HeaderPart}
use Rattle.toml_subset.specs.declared.frames.part.HeaderPart.TheVariants.{Through, Array}
use Rattle.toml_value.specs.AroundViews.{or_redefined}
use Rattle.toml_value.specs.BranchViews.{mark_of, branches_of_lists, node_view, branches_view, body_view, is_whole, is_whole_node, is_whole_body}
use Rattle.toml_value.specs.LevelViews.{level_view}
use Rattle.toml_value.specs.declared.tree.Mark.{Mark}
use Rattle.toml_value.specs.declared.tree.Node.{Node as NodeOf, Growing, Tables as TablesOf, the_lemmas}
use Rattle.toml_value.specs.declared.tree.Body.{Body as BodyOf}
use Rattle.toml_value.specs.declared.tree.Branches.{Branches as BranchesOf, out-Branches}
use Rattle.toml_value.specs.declared.tree.levels.TableLevel.{TableLevel as LevelOf}
use Rattle.toml_value.proofs.TreeLemmas.{branches_view-is, AreWhole, opened_whole, whole_closed, are_whole-set, is_within, seen-set, seen-at}

abbrev up : ℕ × Node → ℕ × Node
up f = (suc f.0, f.1)

up_first : (o : Option (ℕ × Node)) → option_map suc (option_map (λ (f : ℕ × Node). f.0) o) ≡ option_map (λ (f : ℕ × Node). f.0) (option_map up o)
up_first None = refl
up_first (Some f) = refl

pub place_is : (key : Key) (keys : List Key) (nodes : List Node) → length keys ≡ length nodes
    → first_key_place key.name.text keys ≡ option_map (λ (f : ℕ × Node). f.0) (found_at key (branches_of_lists keys nodes))
place_is key [] nodes same = refl
place_is key (k ∷ ks) [] same = absurd (omega arith)
place_is key (k ∷ ks) (n ∷ ns) same =
    let rest = place_is key ks ns (omega arith) in
    elim (same_key key k) as (λ b. cond b (Some 0) (option_map suc (first_key_place key.name.text ks))
    ≡ option_map (λ (f : ℕ × Node). f.0) (cond b (Some (0, n)) (option_map up (found_at key (branches_of_lists ks ns))))) [
      | true ↦ refl
      | false ↦ ap (option_map suc) rest ∙ up_first (found_at key (branches_of_lists ks ns))
    ]

-- what is at a place
pub node_is : (key : Key) (keys : List Key) (nodes : List Node) (i : ℕ) (node d : Node) → found_at key (branches_of_lists keys nodes) ≡ Some (i, node) → node ≡ get_or nodes i d
node_is key [] nodes i node d e = absurd (cc)
node_is key (k ∷ ks) [] i node d e = absurd (cc)
node_is key (k ∷ ks) (n ∷ ns) i node d e =
    ⊎_elim
    (λ h.
    let same = is_some (0, n) (i, node) h.1 in
    sym (ap (λ (f : ℕ × Node). f.1) same) ∙ ap (λ (f : ℕ × Node). get_or (n ∷ ns) f.0 d) same)
    (λ h.
    let more = map_some up (found_at key (branches_of_lists ks ns)) (i, node) h.1 in
    sym (ap (λ (f : ℕ × Node). f.1) more.2) ∙ node_is key ks ns more.0.0 more.0.1 d more.1 ∙ ap (λ (f : ℕ × Node). get_or (n ∷ ns) f.0 d) more.2)
    (if_is (same_key key k) (Some (0, n)) (option_map up (found_at key (branches_of_lists ks ns))) (Some (i, node)) e)

pub replaced-joined : (keys : List Key) (nodes : List Node) (i : ℕ) (node : Node) → branches_with_node i node (branches_of_lists keys nodes) ≡ branches_of_lists keys (set nodes i node)
replaced-joined [] nodes i node = refl
replaced-joined (k ∷ ks) [] i node = refl
replaced-joined (k ∷ ks) (n ∷ ns) zero node = refl
replaced-joined (k ∷ ks) (n ∷ ns) (suc i) node = ap (branch k n) (replaced-joined ks ns i node)

pub size-joined : (keys : List Key) (nodes : List Node) → length keys ≡ length nodes → size (branches_of_lists keys nodes) ≡ length nodes
size-joined [] [] same = refl
size-joined [] (n ∷ ns) same = absurd (omega arith)
size-joined (k ∷ ks) [] same = absurd (omega arith)
size-joined (k ∷ ks) (n ∷ ns) same = ap suc (size-joined ks ns (omega arith))

pub node_view-growing : (span : Span) (mark : Mark) (b : BranchesOf) → node_view (Growing span mark b) ≡ growing span (mark_of mark) (branches_view b)
node_view-growing span mark b = search (rules, the_lemmas)

pub node_view-tables : (span : Span) (before : _) (last : Span) (b : BranchesOf)
    → node_view (TablesOf span before last b) ≡ tables span (bodies_to (map (λ x. body_view x) before.items) last (branches_view b))
node_view-tables span before last b = search (rules, the_lemmas)

pub is_whole-growing : (span : Span) (mark : Mark) (b : BranchesOf) → is_whole_node (Growing span mark b) ≡ is_whole b
is_whole-growing span mark b = search (rules, the_lemmas)

pub is_whole-tables : (span : Span) (before : _) (last : Span) (b : BranchesOf)
    → is_whole_node (TablesOf span before last b) ≡ (list_all (λ whole. whole) (map (λ x. is_whole_body x) before.items) && is_whole b)
is_whole-tables span before last b = search (rules, the_lemmas)

pub body_view-is : (x : BodyOf) → body_view x ≡ (x.span, branches_view x.table)
body_view-is x = search (rules, the_lemmas)

-- the tables of an array, and its last one

pub before_last_to : (before : List (Span × Branches)) (at : Span) (inner : Branches) → before_last (bodies_to before at inner) ≡ before
before_last_to [] at inner = refl
before_last_to (x ∷ xs) at inner = ap (λ more. x ∷ more) (before_last_to xs at inner)

pub last_place_to : (before : List (Span × Branches)) (at : Span) (inner : Branches) → last_place (bodies_to before at inner) ≡ at
last_place_to [] at inner = refl
last_place_to (x ∷ xs) at inner = last_place_to xs at inner

pub last_of_to : (before : List (Span × Branches)) (at : Span) (inner : Branches) → last_of (bodies_to before at inner) ≡ inner
last_of_to [] at inner = refl
last_of_to (x ∷ xs) at inner = last_of_to xs at inner

pub all_of_to : (before : List (Span × Branches)) (at : Span) (inner : Branches) → all_of (bodies_to before at inner) ≡ before ++ (at, inner) ∷ []
all_of_to [] at inner = refl
all_of_to (x ∷ xs) at inner = ap (λ more. x ∷ more) (all_of_to xs at inner)

-- a node put in the place of another

module _ (table new : BranchesOf) (i : ℕ) (node : NodeOf) (same : (out-Branches new).keys ≡ (out-Branches table).keys)
    (nodes : (out-Branches new).nodes.items ≡ set (out-Branches table).nodes.items i node) where
  pub put_back-view : branches_view new ≡ branches_with_node i (node_view node) (branches_view table)
  put_back-view =
      branches_view-is new ∙ ap (λ ks. branches_of_lists ks (map (λ n. node_view n) (out-Branches new).nodes.items)) same
      ∙ ap (λ ns. branches_of_lists (out-Branches table).keys (map (λ n. node_view n) ns)) nodes
      ∙ ap (branches_of_lists (out-Branches table).keys) (seen-set (out-Branches table).nodes.items i node)
      ∙ sym (replaced-joined (out-Branches table).keys (map (λ n. node_view n) (out-Branches table).nodes.items) i (node_view node))
      ∙ ap (branches_with_node i (node_view node)) (sym (branches_view-is table))

  pub put_back-whole : IsTrue (is_whole table) → is_whole_node node ≡ true → IsTrue (is_whole new)
  put_back-whole whole one =
      whole_closed new (subst (λ ks. AreWhole ks (out-Branches new).nodes.items) (sym same)
      (subst (λ ns. AreWhole (out-Branches table).keys ns) (sym nodes)
      (are_whole-set (out-Branches table).keys (out-Branches table).nodes.items i node (opened_whole table whole) one)))

-- a table's keys and nodes

module _ (table : BranchesOf) (whole : IsTrue (is_whole table)) where
  abbrev keys_in : List Key
  keys_in = (out-Branches table).keys

  abbrev nodes_in : List NodeOf
  nodes_in = (out-Branches table).nodes.items

  as_many : length keys_in ≡ length (map (λ n. node_view n) nodes_in)
  as_many = (opened_whole table whole).same ∙ sym (length-map nodes_in (λ n. node_view n))

  pub sized : size (branches_view table) ≡ length nodes_in
  sized = ap size (branches_view-is table) ∙ size-joined keys_in (map (λ n. node_view n) nodes_in) as_many ∙ length-map nodes_in (λ n. node_view n)

  pub place_found : (key : Key) → first_key_place key.name.text keys_in ≡ option_map (λ (f : ℕ × Node). f.0) (found_at key (branches_view table))
  place_found key =
      place_is key keys_in (map (λ n. node_view n) nodes_in) as_many ∙ ap (λ b. option_map (λ (f : ℕ × Node). f.0) (found_at key b)) (sym (branches_view-is table))

  pub place_within : (key : Key) (i : ℕ) → option_map (λ (f : ℕ × Node). f.0) (found_at key (branches_view table)) ≡ Some i → i < length nodes_in
  place_within key i e = is_within key keys_in nodes_in i (opened_whole table whole).same (place_found key ∙ e)

  pub node_found : (key : Key) (i : ℕ) (node : NodeOf) → option_map (λ (f : ℕ × Node). f.0) (found_at key (branches_view table)) ≡ Some i
      → node ≡ get_or nodes_in i node → found_at key (branches_view table) ≡ Some (i, node_view node)
  node_found key i node e is =
      let found = map_some (λ (f : ℕ × Node). f.0) (found_at key (branches_view table)) i e in
      let nodes = map (λ n. node_view n) nodes_in in
      let there : found_at key (branches_of_lists keys_in nodes) ≡ Some (i, found.0.1) = ap (found_at key) (sym (branches_view-is table)) ∙ found.1 ∙ ap (λ (n : ℕ). Some (n, found.0.1)) found.2 in
      let seen = node_is key keys_in nodes i found.0.1 (node_view node) there in
      ap (found_at key) (branches_view-is table) ∙ there
      ∙ ap (λ (n : Node). Some (i, n)) (seen ∙ seen-at nodes_in i node ∙ ap (λ n. node_view n) (sym is))

-- the steps of a way

pub into_is_old : (part : HeaderPart) (key : Key) (c : Cursor) (i : ℕ) (node : Node) (o : Option (Around × Branches)) → found_at key c.here ≡ Some (i, node) → o ≡ header_branches part node
    → into_part part key c ≡ into_old key c i o
into_is_old part key c i node o there is = ap (into_found part key c) there ∙ ap (into_old key c i) (sym is)

-- a table that is there was opened, or is refused

pub found_there : (key : Key) (table : Branches) (i : ℕ) → option_map (λ (f : ℕ × Node). f.0) (found_at key table) ≡ Some i → (node : Node) × (found_at key table ≡ Some (i, node))
found_there key table i e =
    let found = map_some (λ (f : ℕ × Node). f.0) (found_at key table) i e in
    (found.0.1, found.1 ∙ ap (λ (n : ℕ). Some (n, found.0.1)) found.2)

pub redefined_ok : {A : Type 0} (key : Key) (o : Option A) (x : A) → or_redefined key o ≡ Ok x → o ≡ Some x
redefined_ok key (Some y) x e = ap (λ z. Some z) (is_ok y x e)
redefined_ok key None x e = absurd (not_ok (refusal RedefinedTable key) x e)

old_refused : (key : Key) (c : Cursor) (i : ℕ) (o : Option (Around × Branches)) (fault : SyntaxError) → or_redefined key o ≡ Err fault → into_old key c i o ≡ Err fault
old_refused key c i (Some found) fault e = absurd (cc)
old_refused key c i None fault e = let same : refusal RedefinedTable key ≡ fault = cc in ap (λ f. Err f) same

pub old_stops : {B C : Type 0} (view : B → Around × Branches) (see : C → Cursor) (part : HeaderPart) (key : Key) (c : Cursor) (i : ℕ) (node : Node) (error : TomlError)
    → found_at key c.here ≡ Some (i, node) → AnswersToml {B = B} view (or_redefined key (header_branches part node)) (Err error) → AnswersToml {B = C} see (into_part part key c) (Err error)
old_stops view see part key c i node (Syntax fault) there is = into_is_old part key c i node (header_branches part node) there refl ∙ old_refused key c i (header_branches part node) fault is
old_stops view see part key c i node Memory there is = tt

pub into_is_new : (part : HeaderPart) (key : Key) (c : Cursor) (o : Option Around) → found_at key c.here ≡ None → o ≡ new_around part key c.above
    → into_part part key c ≡ into_new key c o
into_is_new part key c o missing is = ap (into_found part key c) missing ∙ ap (into_new key c) (sym is)

-- levels, one after another

pub levels_more : (levels new : List LevelOf) (level : LevelOf) → new ≡ levels ++ level ∷ [] → map (λ l. level_view l) new ≡ map (λ l. level_view l) levels ++ level_view level ∷ []
levels_more levels new level e = ap (map (λ l. level_view l)) e ∙ map-append (λ l. level_view l) levels (level ∷ [])

pub level_back : (levels rest : List LevelOf) (level : LevelOf) (inner table : Branches) → levels ≡ rest ++ level ∷ [] → table ≡ table_with_inner (level_view level) inner
    → all_plugged (map (λ l. level_view l) rest) table ≡ all_plugged (map (λ l. level_view l) levels) inner
level_back levels rest level inner table e is =
    ap (all_plugged (map (λ l. level_view l) rest)) is ∙ sym (plugged_last (map (λ l. level_view l) rest) (level_view level) inner)
    ∙ ap (λ ls. all_plugged ls inner) (sym (levels_more rest levels level e))

pub size_replaced : (i : ℕ) (node : Node) (b : Branches) → size (branches_with_node i node b) ≡ size b
size_replaced i node unbranched = refl
size_replaced zero node (branch key old more) = refl
size_replaced (suc i) node (branch key old more) = ap suc (size_replaced i node more)

pub size_added : (key : Key) (node : Node) (b : Branches) → size (branches_with_key key node b) ≡ suc (size b)
size_added key node unbranched = refl
size_added key node (branch other old more) = ap suc (size_added key node more)

pub missing_from : (o : Option (ℕ × Node)) → option_map (λ (f : ℕ × Node). f.0) o ≡ None → o ≡ None
missing_from None e = refl
missing_from (Some f) e = absurd (cc)

-- the way one table further, as the program makes it
pub further_is : (c d : Cursor) (table seen : Branches) (place at : ℕ) (around : Around) (inner : Branches) → seen ≡ table → at ≡ place
    → d ≡ record { around = c.around ++ record { table = seen; place = at; around = around } ∷ []; here = inner; above = c.above + steps_in around }
    → d ≡ cursor_below c table place around inner
further_is c d table seen place at around inner same place_is is =
    is ∙ ap (λ t. cursor_below c t at around inner) same ∙ ap (λ (i : ℕ). cursor_below c table i around inner) place_is

-- headers, part by part

pub header_step : (last : HeaderPart) (keys : List Key) (c d new : Cursor) (key next : Key) (parts rest : List Key)
    → into_header last keys c ≡ into_parts last (key ∷ parts) d → parts ≡ next ∷ rest → into_part Through key d ≡ Ok new
    → into_header last keys c ≡ into_parts last (next ∷ rest) new
header_step last keys c d new key next parts rest is more step =
    is ∙ ap (λ (ks : List Key). into_parts last (key ∷ ks) d) more ∙ ap (then_read (into_parts last (next ∷ rest))) step

pub header_stops : {B : Type 0} (view : B → Cursor) (last : HeaderPart) (keys : List Key) (c d : Cursor) (key next : Key) (parts rest : List Key) (error : TomlError)
    → into_header last keys c ≡ into_parts last (key ∷ parts) d → parts ≡ next ∷ rest → AnswersToml {B = B} view (into_part Through key d) (Err error)
    → AnswersToml {B = B} view (into_header last keys c) (Err error)
header_stops view last keys c d key next parts rest (Syntax fault) is more step =
    is ∙ ap (λ (ks : List Key). into_parts last (key ∷ ks) d) more ∙ ap (then_read (into_parts last (next ∷ rest))) step
header_stops view last keys c d key next parts rest Memory is more step = tt

pub header_last : {B : Type 0} (view : B → Cursor) (last : HeaderPart) (keys : List Key) (c d : Cursor) (key : Key) (parts : List Key) (result : Result B TomlError)
    → into_header last keys c ≡ into_parts last (key ∷ parts) d → parts ≡ [] → AnswersToml view (into_part last key d) result → AnswersToml view (into_header last keys c) result
header_last view last keys c d key parts result is none step =
    subst (λ r. AnswersToml view r result) (sym (is ∙ ap (λ (ks : List Key). into_parts last (key ∷ ks) d) none)) step

-- what a part of a header opens of an array of tables

pub through_tables : (span at : Span) (before : List (Span × Branches)) (inner : Branches)
    → header_branches Through (tables span (bodies_to before at inner)) ≡ Some (behind span before at, inner)
through_tables span at before inner =
    ap (λ (xs : List (Span × Branches)). Some (behind span xs (last_place (bodies_to before at inner)), last_of (bodies_to before at inner))) (before_last_to before at inner)
    ∙ ap (λ (s : Span). Some (behind span before s, last_of (bodies_to before at inner))) (last_place_to before at inner)
    ∙ ap (λ (b : Branches). Some (behind span before at, b)) (last_of_to before at inner)

pub array_tables : (span at new : Span) (before : List (Span × Branches)) (inner : Branches)
    → header_branches (Array new) (tables span (bodies_to before at inner)) ≡ Some (behind span (before ++ (at, inner) ∷ []) new, unbranched)
array_tables span at new before inner = ap (λ (xs : List (Span × Branches)). Some (behind span xs new, unbranched)) (all_of_to before at inner)

pub bodies_more : (before new : List BodyOf) (x : BodyOf) → new ≡ before ++ x ∷ [] → map (λ b. body_view b) new ≡ map (λ b. body_view b) before ++ body_view x ∷ []
bodies_more before new x e = ap (map (λ b. body_view b)) e ∙ map-append (λ b. body_view b) before (x ∷ [])

pub all_and : (bs : List Bool) (b : Bool) → list_all (λ whole. whole) bs ≡ true → b ≡ true → list_all (λ whole. whole) (bs ++ b ∷ []) ≡ true
all_and [] b all one = ap (λ x. x && true) one
all_and (true ∷ bs) b all one = all_and bs b all one
all_and (false ∷ bs) b all one = absurd (cc)

pub both_whole : (a b : Bool) → IsTrue (a && b) → (a ≡ true) × (b ≡ true)
both_whole true true e = (refl, refl)
both_whole true false e = absurd (cc)
both_whole false b e = absurd (cc)

pub body_whole : (x : BodyOf) → is_whole_body x ≡ is_whole x.table
body_whole x = search (rules, the_lemmas)

pub bodies_whole : (before new : List BodyOf) (x : BodyOf) → new ≡ before ++ x ∷ [] → list_all (λ whole. whole) (map (λ b. is_whole_body b) before) ≡ true → is_whole x.table ≡ true
    → list_all (λ whole. whole) (map (λ b. is_whole_body b) new) ≡ true
bodies_whole before new x e all one =
    ap (λ (bs : List Bool). list_all (λ whole. whole) bs) (ap (map (λ b. is_whole_body b)) e ∙ map-append (λ b. is_whole_body b) before (x ∷ []))
    ∙ all_and (map (λ b. is_whole_body b) before) (is_whole_body x) all (body_whole x ∙ one)
