-- What was reported tells what holds of it, row by row.
use Rattle.std.proofs.Common.{◌≡◌, ℕ, zero, suc, ◌+◌, ◌<◌, ◌==◌, List, [], ◌∷◌, map, length, slice_get, true, false, cond, T, Option, Some, None, IfSome, option_map, Ok, Err, is_ok, refl, sym, ◌∙◌, ap, subst, arith, codes}
use Rattle.std.specs.List.{AllByRecursion}
use Rattle.std.specs.FinMap as finmap
use Rattle.std.specs.Cmp.Lexicographic.{nat_list_cmp_total}
use Rattle.std.proofs.lemmas.Bool.{eqb-true}
use Rattle.std.proofs.lemmas.List.{length-map}
use Rattle.std.proofs.lemmas.Option.{slice_get-map, slice_get_within}
use Rattle.serde_json.specs.Data.{Data, null, boolean, number, string, array, object, Items, no_items, item}
use Rattle.graph_core.specs.declared.edge.Edge.{Edge}
use Rattle.graph_core.specs.Krate.{CrateRecord, ids_in}
use Rattle.graph_metadata.specs.declared.fault.MetaFault.{MetaFault}
use Rattle.graph_metadata.specs.declared.fault.MetaReason.TheVariants.{RepeatedId}
use Rattle.graph_metadata.specs.declared.fault.ObjectPlace.TheVariants.{Package, Root, Resolve, Dep}
use Rattle.graph_metadata.specs.Floats.{unless_float}
use Rattle.graph_metadata.specs.Nodes.{Member, RootTold, ResolveTold, NodeTold, NodesTold, DepTold, member_row, members_in, object_at, root_row, known_or_null, resolve_row, nodes_read, dep_row, deps_in, all_deps, kinds_list_at, kinds_of, edge_row, edges_in, all_edges}
use Rattle.graph_metadata.specs.Packages.{PackageKeys, id_row, manifest_row, version_row, named_row, described_row, listed_row, record_with, package_row, packages_in}
use Rattle.graph_metadata.specs.Records.{MetadataRows, rows_in}
use Rattle.graph_metadata.specs.Shape.{IdPlaces, object_here, text_from, text_at, text_here, list_at, optional_text_at, id_from, id_of_item, with_place, known_in, known_of, known_from, known_place, new_from}
use Rattle.graph_metadata.specs.Sound.{HasIdAt, AreSound}
use Rattle.graph_metadata.specs.Told.{MetadataReading, ◌>>=◌, reading_of_each, items_in, meta_fault, object_place_text, key_place, item_place}
use Rattle.graph_metadata.proofs.EntryLemmas.{by_bytes, AllEntries, all-put, all-find, all-weaker, none_some, same_some}

-- ---- one step after another

fault_ok : {A : Type 0} (fault : MetaFault) (value : A) → ◌≡◌ {A = MetadataReading A} (Err fault) (Ok value) → ⊥
fault_ok fault value e = subst T (sym (ap is_ok e)) tt

abbrev or_value : {A : Type 0} → MetadataReading A → A → A
or_value (Ok value) other = value
or_value (Err fault) other = other

same_ok : {A : Type 0} (x y : A) → ◌≡◌ {A = MetadataReading A} (Ok x) (Ok y) → x ≡ y
same_ok x y e = ap (λ told. or_value told x) e

abbrev Went : {A B : Type 0} → MetadataReading A → (A → MetadataReading B) → B → Type 0
Went {A} told next value = (first : A) × (told ≡ Ok first) × (next first ≡ Ok value)

went : {A B : Type 0} (told : MetadataReading A) (next : A → MetadataReading B) (value : B) → told >>= next ≡ Ok value → Went told next value
went (Ok first) next value e = (first, refl, e)
went (Err fault) next value e = absurd (fault_ok fault value e)

-- ---- lists

module _ {A V : Type 0} (row : ℕ → A → MetadataReading V) where
  record Split (i : ℕ) (first : A) (rest : List A) (all : List V) : Type 0 where
    told : V
    others : List V
    head : row i first ≡ Ok told
    tail : reading_of_each row (i + 1) rest ≡ Ok others
    is : all ≡ told ∷ others

  split : (i : ℕ) (first : A) (rest : List A) (all : List V) → reading_of_each row i (first ∷ rest) ≡ Ok all → Split i first rest all
  unfolding reading_of_each
  split i first rest all e =
      let one = went (row i first) (λ told. reading_of_each row (i + 1) rest >>= (λ others. Ok (told ∷ others))) all e in
      let two = went (reading_of_each row (i + 1) rest) (λ others. Ok (one.0 ∷ others)) all one.2 in
      record { told = one.0; others = two.0; head = one.1; tail = two.1; is = sym (same_ok (one.0 ∷ two.0) all two.2) }

  none : (i : ℕ) (all : List V) → reading_of_each row i [] ≡ Ok all → all ≡ []
  unfolding reading_of_each
  none i all e = sym (same_ok [] all e)

  -- each item is reported, and each that is reported is of an item
  pub each-at : (i : ℕ) (xs : List A) (ys : List V) → reading_of_each row i xs ≡ Ok ys → (j : ℕ) (x : A) → slice_get xs j ≡ Some x
      → (y : V) × (slice_get ys j ≡ Some y) × (row (i + j) x ≡ Ok y)
  each-at i [] ys e j x at = absurd (none_some x at)
  each-at i (first ∷ rest) ys e zero x at =
      let parts = split i first rest ys e in
      (parts.told, ap (λ all. slice_get all 0) parts.is, ap (λ n. row n x) (omega arith) ∙ (ap (row i) (sym (same_some first x at)) ∙ parts.head))
  each-at i (first ∷ rest) ys e (suc j) x at =
      let parts = split i first rest ys e in
      let later = each-at (i + 1) rest parts.others parts.tail j x at in
      (later.0, ap (λ all. slice_get all (suc j)) parts.is ∙ later.1, ap (λ n. row n x) (omega arith) ∙ later.2)

  pub each-from : (i : ℕ) (xs : List A) (ys : List V) → reading_of_each row i xs ≡ Ok ys → (j : ℕ) (y : V) → slice_get ys j ≡ Some y
      → (x : A) × (row (i + j) x ≡ Ok y)
  each-from i [] ys e j y at = absurd (none_some y (ap (λ all. slice_get all j) (sym (none i ys e)) ∙ at))
  each-from i (first ∷ rest) ys e zero y at =
      let parts = split i first rest ys e in
      let same : parts.told ≡ y = same_some parts.told y (ap (λ all. slice_get all 0) (sym parts.is) ∙ at) in
      (first, ap (λ n. row n first) (omega arith) ∙ (parts.head ∙ ap Ok same))
  each-from i (first ∷ rest) ys e (suc j) y at =
      let parts = split i first rest ys e in
      let later = each-from (i + 1) rest parts.others parts.tail j y (ap (λ all. slice_get all (suc j)) (sym parts.is) ∙ at) in
      (later.0, ap (λ n. row n later.0) (omega arith) ∙ later.1)

  pub each-all : (P : A → Type 0) (Q : V → Type 0) → ((i : ℕ) (x : A) (y : V) → P x → row i x ≡ Ok y → Q y)
      → (i : ℕ) (xs : List A) (ys : List V) → AllByRecursion P xs → reading_of_each row i xs ≡ Ok ys → AllByRecursion Q ys
  each-all P Q step i [] ys all e = subst (AllByRecursion Q) (sym (none i ys e)) tt
  each-all P Q step i (first ∷ rest) ys all e =
      let parts = split i first rest ys e in
      subst (AllByRecursion Q) (sym parts.is)
      (step i first parts.told all.0 parts.head, each-all P Q step (i + 1) rest parts.others all.1 parts.tail)

abbrev Anything : {A : Type 0} → A → Type 0
Anything x = Unit {0}

all_anything : {A : Type 0} (xs : List A) → AllByRecursion Anything xs
all_anything [] = tt
all_anything (x ∷ xs) = (tt, all_anything xs)

-- ---- single rows

same_object : (place : List ℕ) (found value : Data) → object_here place found ≡ Ok value → found ≡ value
same_object place null value e = absurd (fault_ok _ value e)
same_object place (boolean b) value e = absurd (fault_ok _ value e)
same_object place (number n) value e = absurd (fault_ok _ value e)
same_object place (string text) value e = absurd (fault_ok _ value e)
same_object place (array items) value e = absurd (fault_ok _ value e)
same_object place (object inside) value e = same_ok (object inside) value e

text_is : (place : List ℕ) (found : Option Data) (id : List ℕ) → text_from place found ≡ Ok id → id_from found ≡ Some id
text_is place None id e = absurd (fault_ok _ id e)
text_is place (Some null) id e = absurd (fault_ok _ id e)
text_is place (Some (boolean b)) id e = absurd (fault_ok _ id e)
text_is place (Some (number n)) id e = absurd (fault_ok _ id e)
text_is place (Some (string text)) id e = ap Some (same_ok text id e)
text_is place (Some (array items)) id e = absurd (fault_ok _ id e)
text_is place (Some (object inside)) id e = absurd (fault_ok _ id e)

known_is : (place : List ℕ) (found : Option ℕ) (to : ℕ) → known_from place found ≡ Ok to → found ≡ Some to
known_is place None to e = absurd (fault_ok _ to e)
known_is place (Some first) to e = ap Some (same_ok first to e)

new_is : (index : ℕ) (place id : List ℕ) (found : Option ℕ) (told : List ℕ) → new_from index place id found ≡ Ok told
    → (id ≡ told) × (found ≡ Some index)
new_is index place id None told e = absurd (fault_ok _ told e)
new_is index place id (Some first) told e =
    elim (first == index) as (λ b. (first == index) ≡ b → ◌≡◌ {A = MetadataReading (List ℕ)} (cond b (Ok id) (meta_fault place RepeatedId)) (Ok told) → (id ≡ told) × (Some first ≡ Some index)) [
      | true ↦ λ same is. (same_ok id told is, ap Some (eqb-true first index same))
      | false ↦ λ same is. absurd (fault_ok _ told is)
    ] refl e

id_is : (known : IdPlaces) (index : ℕ) (found : Data) (id : List ℕ) → id_row known index found ≡ Ok id
    → (id_of_item found ≡ Some id) × (finmap.get known id ≡ Some index)
unfolding id_row
id_is known index found id e =
    let one = went (text_at (Package index) (codes "id") found) (λ id. new_from index (key_place (Package index) (codes "id")) id (finmap.get known id)) id e in
    let new = new_is index (key_place (Package index) (codes "id")) one.0 (finmap.get known one.0) id one.2 in
    (text_is _ _ one.0 one.1 ∙ ap Some new.0, ap (finmap.get known) (sym new.0) ∙ new.1)

named_id : (known : IdPlaces) (index : ℕ) (found : Data) (named : PackageKeys) → named_row known index found ≡ Ok named
    → id_row known index found ≡ Ok named.id
unfolding named_row
named_id known index found named e =
    let one = went (text_at (Package index) (codes "name") found) _ named e in
    let two = went (id_row known index found) _ named one.2 in
    let three = went (manifest_row index found) _ named two.2 in
    let four = went (version_row index found) _ named three.2 in
    two.1 ∙ ap Ok (ap (λ named. named.id) (same_ok _ named four.2))

-- a package is known by its id, at its place
pub package_is : (sparse_dir : List ℕ) (known : IdPlaces) (index : ℕ) (found : Data) (krate : CrateRecord)
    → package_row sparse_dir known index found ≡ Ok krate
    → (id_of_item found ≡ Some krate.id) × (finmap.get known krate.id ≡ Some index)
unfolding package_row
package_is sparse_dir known index found krate e =
    let one = went (object_here (object_place_text (Package index)) found) _ krate e in
    let two = went (named_row known index one.0) _ krate one.2 in
    let three = went (described_row sparse_dir index two.0.manifest_path one.0) _ krate two.2 in
    let four = went (listed_row index one.0) _ krate three.2 in
    let same : two.0.id ≡ krate.id = ap (λ krate. krate.id) (same_ok (record_with two.0 three.0 four.0) krate four.2) in
    let id = id_is known index one.0 two.0.id (named_id known index one.0 two.0 two.1) in
    (ap id_of_item (same_object _ found one.0 one.1) ∙ (id.0 ∙ ap Some same), ap (finmap.get known) (sym same) ∙ id.1)

-- ---- the ids of packages

place-all : (ids : List (Option (List ℕ))) (known : IdPlaces) (index : ℕ) (id : Option (List ℕ)) → slice_get ids index ≡ Some id
    → AllEntries (λ id place. slice_get ids place ≡ Some (Some id)) (finmap.entries known)
    → AllEntries (λ id place. slice_get ids place ≡ Some (Some id)) (finmap.entries (with_place known index id))
place-all ids known index None at all = all
place-all ids known index (Some id) at all =
    elim (finmap.contains_key known id) as (λ b. AllEntries (λ id place. slice_get ids place ≡ Some (Some id)) (finmap.entries (cond b known (finmap.insert known id index)))) [
      | true ↦ all
      | false ↦ subst (AllEntries (λ id place. slice_get ids place ≡ Some (Some id))) (sym (finmap.entries-insert nat_list_cmp_total known id index))
          (all-put (λ id place. slice_get ids place ≡ Some (Some id)) id index (finmap.entries known) at all)
    ]

known-all : (ids : List (Option (List ℕ))) (known : IdPlaces) (index : ℕ) (items : Items)
    → ((j : ℕ) → slice_get (map id_of_item (items_in items)) j ≡ slice_get ids (index + j))
    → AllEntries (λ id place. slice_get ids place ≡ Some (Some id)) (finmap.entries known)
    → AllEntries (λ id place. slice_get ids place ≡ Some (Some id)) (finmap.entries (known_in known index items))
unfolding known_in
known-all ids known index no_items same all = all
known-all ids known index (item first rest) same all =
    known-all ids (with_place known index (id_of_item first)) (index + 1) rest
    (λ j. same (suc j) ∙ ap (slice_get ids) (omega arith))
    (place-all ids known index (id_of_item first) (ap (slice_get ids) (omega arith) ∙ sym (same 0)) all)

no_entries : {A : Type 0} (xs : List A) → length xs ≡ 0 → xs ≡ []
no_entries [] e = refl
no_entries (x ∷ xs) e = absurd (omega arith)

entries-empty : finmap.entries (finmap.empty {K = List ℕ} {X = ℕ} {R = by_bytes}) ≡ []
entries-empty =
    no_entries (finmap.entries (finmap.empty {R = by_bytes}))
    (sym (finmap.len-entries (finmap.empty {R = by_bytes})) ∙ finmap.len-empty by_bytes ℕ)

known-has : (items : Items)
    → AllEntries (λ id place. slice_get (map id_of_item (items_in items)) place ≡ Some (Some id)) (finmap.entries (known_of items))
known-has items =
    known-all (map id_of_item (items_in items)) finmap.empty 0 items
    (λ j. ap (slice_get (map id_of_item (items_in items))) (omega arith))
    (subst (AllEntries (λ id place. slice_get (map id_of_item (items_in items)) place ≡ Some (Some id))) (sym entries-empty) tt)

some_of_map : {A B : Type 0} (f : A → B) (xs : List A) (i : ℕ) (y : B) → slice_get (map f xs) i ≡ Some y
    → (x : A) × (slice_get xs i ≡ Some x) × (f x ≡ y)
some_of_map f [] i y e = absurd (none_some y e)
some_of_map f (x ∷ xs) zero y e = (x, refl, same_some (f x) y e)
some_of_map f (x ∷ xs) (suc i) y e = some_of_map f xs i y e

module _ (sparse_dir : List ℕ) (packages : Items) (crates : List CrateRecord)
    (told : packages_in sparse_dir (known_of packages) packages ≡ Ok crates) where
  stands : (id : List ℕ) (place : ℕ) → slice_get (map id_of_item (items_in packages)) place ≡ Some (Some id)
      → HasIdAt (ids_in crates) id place
  stands id place at =
      let found = some_of_map id_of_item (items_in packages) place (Some id) at in
      let one = each-at (package_row sparse_dir (known_of packages)) 0 (items_in packages) crates told place found.0 found.1 in
      let is = package_is sparse_dir (known_of packages) (0 + place) found.0 one.0 one.2 in
      slice_get-map (λ krate. krate.id) crates place
      ∙ (ap (option_map (λ krate. krate.id)) one.1 ∙ ap Some (same_some one.0.id id (sym is.0 ∙ found.2)))

  pub located : AllEntries (HasIdAt (ids_in crates)) (finmap.entries (known_of packages))
  located = all-weaker _ _ stands (finmap.entries (known_of packages)) (known-has packages)

  pub complete : (place : ℕ) (krate : CrateRecord) → slice_get crates place ≡ Some krate
      → finmap.get (known_of packages) krate.id ≡ Some place
  complete place krate at =
      let one = each-from (package_row sparse_dir (known_of packages)) 0 (items_in packages) crates told place krate at in
      (package_is sparse_dir (known_of packages) (0 + place) one.0 krate one.1).1 ∙ ap Some (omega arith)

  -- an id that is known leads to the crate that has it
  pub leads : (id : List ℕ) (place : ℕ) → finmap.get (known_of packages) id ≡ Some place → HasIdAt (ids_in crates) id place
  leads id place e =
      all-find (HasIdAt (ids_in crates)) id place (finmap.entries (known_of packages)) located
      (sym (finmap.get-entries (known_of packages) id) ∙ e)

  pub below : (id : List ℕ) (place : ℕ) → finmap.get (known_of packages) id ≡ Some place → place < length crates
  below id place e =
      subst (λ n. place < n) (length-map crates (λ krate. krate.id)) (slice_get_within (ids_in crates) place id (leads id place e))

-- ---- members, the root and edges

abbrev Reaches : IdPlaces → ℕ → Type 0
Reaches known place = (id : List ℕ) × (finmap.get known id ≡ Some place)

member_is : (known : IdPlaces) (index : ℕ) (found : Data) (told : Member) → member_row known index found ≡ Ok told
    → finmap.get known told.id ≡ Some told.place
unfolding member_row
member_is known index found told e =
    let one = went (text_here (item_place Root (codes "workspace_members") index) found) _ told e in
    let two = went (known_place known (item_place Root (codes "workspace_members") index) one.0) _ told one.2 in
    subst (λ (row : Member). finmap.get known row.id ≡ Some row.place) (same_ok (record { id = one.0; place = two.0 }) told two.2)
    (known_is _ (finmap.get known one.0) two.0 two.1)

members_are : (known : IdPlaces) (items : Items) (members : List Member) → members_in known items ≡ Ok members
    → AllByRecursion (λ member. finmap.get known member.id ≡ Some member.place) members
members_are known items members e =
    each-all (member_row known) Anything (λ member. finmap.get known member.id ≡ Some member.place)
    (λ i x y any is. member_is known i x y is) 0 (items_in items) members (all_anything (items_in items)) e

dep_is : (known : IdPlaces) (i j : ℕ) (found : Data) (dep : DepTold) → dep_row known i j found ≡ Ok dep → Reaches known dep.to
unfolding dep_row
dep_is known i j found dep e =
    let one = went (object_here (object_place_text (Dep i j)) found) _ dep e in
    let two = went (text_at (Dep i j) (codes "pkg") one.0) _ dep one.2 in
    let three = went (known_place known (key_place (Dep i j) (codes "pkg")) two.0) _ dep two.2 in
    let four = went (kinds_list_at (Dep i j) (codes "dep_kinds") one.0) _ dep three.2 in
    (two.0, known_is _ (finmap.get known two.0) three.0 three.1 ∙ ap (λ (dep : DepTold). Some dep.to) (same_ok _ dep four.2))

deps_are : (known : IdPlaces) (nodes : List NodeTold) (lists : List (List DepTold)) → all_deps known nodes ≡ Ok lists
    → AllByRecursion (AllByRecursion (λ dep. Reaches known dep.to)) lists
deps_are known nodes lists e =
    each-all (deps_in known) Anything (AllByRecursion (λ dep. Reaches known dep.to))
    (λ i node deps any is.
    each-all (dep_row known i) Anything (λ dep. Reaches known dep.to) (λ j x y any is. dep_is known i j x y is) 0
    (items_in node.deps) deps (all_anything (items_in node.deps)) is)
    0 nodes lists (all_anything nodes) e

edge_is : (i j : ℕ) (dep : DepTold) (edge : Edge) → edge_row i j dep ≡ Ok edge → dep.to ≡ edge.to
unfolding edge_row
edge_is i j dep edge e =
    let one = went (kinds_of i j dep.kinds) _ edge e in
    ap (λ (edge : Edge). edge.to) (same_ok _ edge one.2)

edges_are : (known : IdPlaces) (lists : List (List DepTold)) (edges : List (List Edge)) → all_edges lists ≡ Ok edges
    → AllByRecursion (AllByRecursion (λ dep. Reaches known dep.to)) lists
    → AllByRecursion (AllByRecursion (λ edge. Reaches known edge.to)) edges
edges_are known lists edges e all =
    each-all edges_in (AllByRecursion (λ dep. Reaches known dep.to)) (AllByRecursion (λ edge. Reaches known edge.to))
    (λ i deps list reach is.
    each-all (edge_row i) (λ dep. Reaches known dep.to) (λ edge. Reaches known edge.to)
    (λ j x y reach is. subst (Reaches known) (edge_is i j x y is) reach) 0 deps list reach is)
    0 lists edges all e

root_known : (known : IdPlaces) (place : List ℕ) (text : Option (List ℕ)) (root : Option ℕ)
    → known_or_null known place text ≡ Ok root → IfSome root (Reaches known)
root_known known place None root e = subst (λ root. IfSome root (Reaches known)) (same_ok None root e) tt
root_known known place (Some id) root e =
    let one = went (known_place known place id) _ root e in
    subst (λ root. IfSome root (Reaches known)) (same_ok (Some one.0) root one.2) (id, known_is _ (finmap.get known id) one.0 one.1)

resolve_is : (known : IdPlaces) (found : Data) (told : ResolveTold) → resolve_row known found ≡ Ok told → IfSome told.root (Reaches known)
unfolding resolve_row
resolve_is known found told e =
    let one = went (list_at Resolve (codes "nodes") found) _ told e in
    let two = went (optional_text_at Resolve (codes "root") found) _ told one.2 in
    let three = went (known_or_null known (key_place Resolve (codes "root")) two.0) _ told two.2 in
    subst (λ (row : ResolveTold). IfSome row.root (Reaches known)) (same_ok (record { nodes = one.0; root = three.0 }) told three.2)
    (root_known known (key_place Resolve (codes "root")) two.0 three.0 three.1)

record RootIs (told : RootTold) : Type 0 where
  known : told.known ≡ known_of told.packages
  members : AllByRecursion (λ member. finmap.get told.known member.id ≡ Some member.place) told.members

root_is : (found : Data) (told : RootTold) → root_row found ≡ Ok told → RootIs told
unfolding root_row
root_is found told e =
    let one = went (object_here (object_place_text Root) found) _ told e in
    let two = went (list_at Root (codes "packages") one.0) _ told one.2 in
    let three = went (list_at Root (codes "workspace_members") one.0) _ told two.2 in
    let four = went (members_in (known_of two.0) three.0) _ told three.2 in
    let five = went (text_at Root (codes "workspace_root") one.0) _ told four.2 in
    let six = went (object_at Root (codes "resolve") one.0) _ told five.2 in
    subst RootIs (same_ok _ told six.2)
    (record { known = refl; members = members_are (known_of two.0) three.0 four.0 four.1 })

-- ---- all rows

some-weaker : {A : Type 0} (P Q : A → Type 0) → ((x : A) → P x → Q x) → (o : Option A) → IfSome o P → IfSome o Q
some-weaker P Q step None h = tt
some-weaker P Q step (Some x) h = step x h

every-weaker : {A : Type 0} (P Q : A → Type 0) → ((x : A) → P x → Q x) → (xs : List A) → AllByRecursion P xs → AllByRecursion Q xs
every-weaker P Q step [] h = tt
every-weaker P Q step (x ∷ xs) h = (step x h.0, every-weaker P Q step xs h.1)

sound_with : (sparse_dir : List ℕ) (root : RootTold) (crates : List CrateRecord) (resolve : ResolveTold) (nodes : NodesTold)
    (edges : List (List Edge)) → RootIs root → packages_in sparse_dir root.known root.packages ≡ Ok crates
    → IfSome resolve.root (Reaches root.known) → AllByRecursion (AllByRecursion (λ edge. Reaches root.known edge.to)) edges
    → AreSound (record { root = root; crates = crates; resolve = resolve; nodes = nodes; edges = edges })
sound_with sparse_dir root crates resolve nodes edges is packages told reach =
    let known : packages_in sparse_dir (known_of root.packages) root.packages ≡ Ok crates =
    subst (λ known. packages_in sparse_dir known root.packages ≡ Ok crates) is.known packages in
    let lead : (id : List ℕ) (place : ℕ) → finmap.get root.known id ≡ Some place → HasIdAt (ids_in crates) id place =
    subst (λ known. (id : List ℕ) (place : ℕ) → finmap.get known id ≡ Some place → HasIdAt (ids_in crates) id place)
    (sym is.known) (leads sparse_dir root.packages crates known) in
    let low : (place : ℕ) → Reaches root.known place → place < length crates =
    subst (λ known. (place : ℕ) → Reaches known place → place < length crates) (sym is.known)
    (λ place r. below sparse_dir root.packages crates known r.0 place r.1) in
    record {
      located = subst (λ known. AllEntries (HasIdAt (ids_in crates)) (finmap.entries known)) (sym is.known)
          (located sparse_dir root.packages crates known);
      complete = subst (λ known. (place : ℕ) (krate : CrateRecord) → slice_get crates place ≡ Some krate
          → finmap.get known krate.id ≡ Some place) (sym is.known) (complete sparse_dir root.packages crates known);
      members = every-weaker (λ (m : Member). finmap.get root.known m.id ≡ Some m.place)
          (λ (m : Member). HasIdAt (ids_in crates) m.id m.place) (λ m e. lead m.id m.place e) root.members is.members;
      root = some-weaker (Reaches root.known) (λ place. place < length crates) low resolve.root told;
      within = every-weaker (AllByRecursion (λ (edge : Edge). Reaches root.known edge.to))
          (AllByRecursion (λ (edge : Edge). edge.to < length crates))
          (λ list h. every-weaker (λ (edge : Edge). Reaches root.known edge.to) (λ (edge : Edge). edge.to < length crates) (λ edge r. low edge.to r) list h) edges reach;
    }

pub sound : (sparse_dir : List ℕ) (found : Data) (rows : MetadataRows) → rows_in sparse_dir found ≡ Ok rows → AreSound rows
unfolding rows_in nodes_read
sound sparse_dir found rows e =
    let one = went (unless_float found) _ rows e in
    let root = went (root_row one.0) _ rows one.2 in
    let crates = went (packages_in sparse_dir root.0.known root.0.packages) _ rows root.2 in
    let resolve = went (resolve_row root.0.known root.0.resolve) _ rows crates.2 in
    let nodes = went (nodes_read root.0.known resolve.0.nodes) _ rows resolve.2 in
    let deps = went (all_deps root.0.known nodes.0.nodes) _ rows nodes.2 in
    let edges = went (all_edges deps.0) _ rows deps.2 in
    subst AreSound (same_ok _ rows edges.2)
    (sound_with sparse_dir root.0 crates.0 resolve.0 nodes.0 edges.0 (root_is one.0 root.0 root.1) crates.1
    (resolve_is root.0.known root.0.resolve resolve.0 resolve.1)
    (edges_are root.0.known deps.0 edges.0 edges.1 (deps_are root.0.known nodes.0.nodes deps.0 deps.1)))
