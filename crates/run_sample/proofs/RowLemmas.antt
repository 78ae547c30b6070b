-- The rows that the sample's metadata tells, and the graph that they make.
use Rattle.std.proofs.Common.{◌≡◌, ◌∙◌, refl, sym, ap, ap₂, subst, ℕ, zero, suc, ◌+◌, ◌*◌, ◌%◌, ◌<◌, ◌≤◌, ◌^◌, List, [], ◌∷◌, ◌++◌, drop, map, Bool, true, false, cond, codes, decimal, Option, Some, None, is_some, Ok, append-nil, arith, inl, inr}
use Rattle.std.specs.Prelude.{nat_lt}
use Rattle.std.specs.FinMap as finmap
use Rattle.std.specs.FinMap.{get-empty, nat_cmp-IsAntisymmetric, slice_cmp-IsAntisymmetric}
use Rattle.std.specs.List.{range_with_len, AllByRecursion}
use Rattle.std.specs.Option.{option_or}
use Rattle.std.specs.Ordering.{nat_cmp, is_eq}
use Rattle.std.specs.Cmp.{tied_itself}
use Rattle.std.specs.Cmp.Lexicographic.{slice_cmp, nat_list_cmp_total}
use Rattle.std.specs.declared.cmp.Ordering.{Ordering}
use Rattle.std.specs.declared.cmp.Ordering.TheVariants.{Less, Equal, Greater}
use Rattle.std.proofs.lemmas.Bool.{cases_lt, eq-eqb, ltb-true}
use Rattle.std.proofs.lemmas.Fmt.{decimal_digit, decimal_injective}
use Rattle.semver.specs.Parse.{version_parts}
use Rattle.semver.proofs.Grammar.{version_parts-complete}
use Rattle.serde_json.specs.Data.{Data, string, Items}
use Rattle.deny_text.specs.Path.{parent_of}
use Rattle.graph_core.specs.declared.edge.Edge.{Edge}
use Rattle.graph_core.specs.declared.edge.DepKind.TheVariants.{Normal}
use Rattle.graph_core.specs.Krate.{CrateRecord}
use Rattle.graph_core.specs.Metadata.{no_kinds}
use Rattle.graph_metadata.specs.declared.fault.MetaReason.TheVariants.{RepeatedId}
use Rattle.graph_metadata.specs.Floats.{float_in, float_in_items, unless_found}
use Rattle.graph_metadata.specs.Nodes.{Member, NodeTold, DepTold, member_row, root_row, resolve_row, node_row, nodes_read, dep_row, deps_in, all_deps, with_kind, edge_row, edges_in, all_edges}
use Rattle.graph_metadata.specs.Packages.{PackageKeys, PackageTexts, PackageLists, id_row, manifest_row, in_folder, version_row, version_from, source_row, named_row, described_row, listed_row, record_with, package_row, packages_in}
use Rattle.graph_metadata.specs.Records.{MetadataRows, rows_in}
use Rattle.graph_metadata.specs.Shape.{IdPlaces, optional_text_from, texts_or_empty_at, optional_texts_at, id_of_item, with_place, known_in, known_of, known_from, new_from}
use Rattle.graph_metadata.specs.Told.{MetadataReading, ◌>>=◌, reading_of_each, items_in, meta_fault, with_key}
use Rattle.run_sample.specs.Metadata.{numbers, sample_name}
use Rattle.run_sample.proofs.SampleData.{data_items, dep_data, field_data, license_field, node_data, package_data, resolve_data, sample_data, sample_manifest, sample_version, targets}

-- ---- one step after another

bind : {A B : Type 0} (told : MetadataReading A) (value : A) (next : A → MetadataReading B) → told ≡ Ok value → (told >>= next) ≡ next value
bind told value next e = ap (λ one. one >>= next) e

each_range : {A T : Type 0} (row : ℕ → A → MetadataReading T) (make : ℕ → A) (told : ℕ → T) (a k : ℕ) → ((i : ℕ) → i < a + k → row i (make i) ≡ Ok (told i))
    → reading_of_each row a (map make (range_with_len a k)) ≡ Ok (map told (range_with_len a k))
unfolding reading_of_each
each_range row make told a zero tells = refl
each_range row make told a (suc k) tells =
    bind (row a (make a)) (told a) (λ first. reading_of_each row (a + 1) (map make (range_with_len (a + 1) k)) >>= (λ others. Ok (first ∷ others))) (tells a (omega arith))
    ∙ bind (reading_of_each row (a + 1) (map make (range_with_len (a + 1) k))) (map told (range_with_len (a + 1) k)) (λ others. Ok (told a ∷ others))
    (each_range row make told (a + 1) k (λ i less. tells i (omega (arith, less))))

each_list : {A T : Type 0} (row : ℕ → A → MetadataReading T) (make : ℕ → A) (told : ℕ → T) (n a : ℕ) (xs : List ℕ) → AllByRecursion (λ x. x < n) xs → ((j x : ℕ) → x < n → row j (make x) ≡ Ok (told x))
    → reading_of_each row a (map make xs) ≡ Ok (map told xs)
unfolding reading_of_each
each_list row make told n a [] all tells = refl
each_list row make told n a (x ∷ xs) all tells =
    bind (row a (make x)) (told x) (λ first. reading_of_each row (a + 1) (map make xs) >>= (λ others. Ok (first ∷ others))) (tells a x all.0)
    ∙ bind (reading_of_each row (a + 1) (map make xs)) (map told xs) (λ others. Ok (told x ∷ others)) (each_list row make told n (a + 1) xs all.1 tells)

items_map : (make : ℕ → Data) (xs : List ℕ) → items_in (data_items make xs) ≡ map make xs
items_map make [] = refl
items_map make (x ∷ xs) = ap (λ rest. make x ∷ rest) (items_map make xs)

known_told : (place : List ℕ) (found : Option ℕ) (at : ℕ) → found ≡ Some at → known_from place found ≡ Ok at
known_told place found at e = ap (known_from place) e

new_told : (i : ℕ) (place id : List ℕ) (found : Option ℕ) → found ≡ Some i → new_from i place id found ≡ Ok id
new_told i place id found e = ap (new_from i place id) e ∙ ap (λ (b : Bool). cond b (Ok id) (meta_fault place RepeatedId)) (eq-eqb i i refl)

folder_told : (place path : List ℕ) (found : Option (List ℕ)) (folder : List ℕ) → found ≡ Some folder → in_folder place path found ≡ Ok path
folder_told place path found folder e = ap (in_folder place path) e

-- ---- no float

float_field : (place : List ℕ) (field : Option (List ℕ)) → float_in place (field_data field) ≡ None
float_field place None = refl
float_field place (Some text) = refl

float_package : (place : List ℕ) (i : ℕ) → float_in place (package_data i) ≡ None
float_package place i = ap (λ found. option_or found None) (float_field (with_key place (codes "license")) (license_field (i % 4)))

float_items : (make : ℕ → Data) (place : List ℕ) (a : ℕ) (xs : List ℕ) → ((at : List ℕ) (i : ℕ) → float_in at (make i) ≡ None) → float_in_items place a (data_items make xs) ≡ None
float_items make place a [] each_none = refl
float_items make place a (x ∷ xs) each_none = ap₂ option_or (each_none _ x) (float_items make place (a + 1) xs each_none)

float_node : (n : ℕ) (place : List ℕ) (i : ℕ) → float_in place (node_data n i) ≡ None
float_node n place i = ap (λ found. option_or found None) (float_items dep_data (with_key place (codes "deps")) 0 (targets n i) (λ at j. refl))

float_sample : (n : ℕ) → float_in [] (sample_data n) ≡ None
float_sample n =
    ap₂ (λ first second. option_or first (option_or (option_or second None) None))
    (float_items package_data (with_key [] (codes "packages")) 0 (numbers n) float_package)
    (float_items (node_data n) (with_key (with_key [] (codes "resolve")) (codes "nodes")) 0 (numbers n) (float_node n))

-- ---- ids

is_equal : (r : Ordering) → is_eq r ≡ true → r ≡ Equal
is_equal Less e = cc
is_equal Equal e = refl
is_equal Greater e = cc

get_same : (known : IdPlaces) (id : List ℕ) (index : ℕ) → finmap.get (finmap.insert known id index) id ≡ Some index
get_same known id index =
    finmap.get-insert nat_list_cmp_total known id index id ∙ ap (λ r. cond (is_eq r) (Some index) (finmap.get known id)) (tied_itself nat_list_cmp_total id)

get_other : (known : IdPlaces) (id other : List ℕ) (index : ℕ) → (other ≡ id → ⊥) → finmap.get (finmap.insert known id index) other ≡ finmap.get known other
get_other known id other index differs = finmap.get-insert nat_list_cmp_total known id index other ∙ by (is_eq (slice_cmp nat_cmp other id)) refl
  where
    by : (tied : Bool) → is_eq (slice_cmp nat_cmp other id) ≡ tied → cond tied (Some index) (finmap.get known other) ≡ finmap.get known other
    by true is = absurd (differs (slice_cmp-IsAntisymmetric nat_cmp-IsAntisymmetric other id (is_equal _ is)))
    by false is = refl

names_apart : (i j : ℕ) → i < 2 ^ 64 → j < i → sample_name i ≡ sample_name j → ⊥
names_apart i j small less e = let same = decimal_injective i j small (omega (arith, small, less)) (ap (drop 1) e) in omega (arith, same, less)

-- a place that is known stays
keeps : (known : IdPlaces) (a : ℕ) (new : Option (List ℕ)) (id : List ℕ) (place : ℕ) → finmap.get known id ≡ Some place → finmap.get (with_place known a new) id ≡ Some place
keeps known a None id place e = e
keeps known a (Some new) id place e = by (finmap.contains_key known new) refl
  where
    by : (there : Bool) → finmap.contains_key known new ≡ there → finmap.get (cond there known (finmap.insert known new a)) id ≡ Some place
    by true is = e
    by false is = get_other known new id a (λ same. let bad : true ≡ false = sym (ap is_some e) ∙ ap (λ one. is_some (finmap.get known one)) same ∙ is in absurd (cc bad)) ∙ e

module _ (make : ℕ → Data) (named : (i : ℕ) → id_of_item (make i) ≡ Some (sample_name i)) where
  stays : (known : IdPlaces) (a k : ℕ) (id : List ℕ) (place : ℕ) → finmap.get known id ≡ Some place → finmap.get (known_in known a (data_items make (range_with_len a k))) id ≡ Some place
  unfolding known_in
  stays known a zero id place e = e
  stays known a (suc k) id place e = stays (with_place known a (id_of_item (make a))) (a + 1) k id place (keeps known a (id_of_item (make a)) id place e)

  added : (known : IdPlaces) (a : ℕ) → finmap.get known (sample_name a) ≡ None → with_place known a (id_of_item (make a)) ≡ finmap.insert known (sample_name a) a
  added known a new = ap (with_place known a) (named a) ∙ ap (λ found. cond (is_some found) known (finmap.insert known (sample_name a) a)) new

  finds : (known : IdPlaces) (a k : ℕ) → a + k ≤ 2 ^ 64 → ((j : ℕ) → a ≤ j → j < a + k → finmap.get known (sample_name j) ≡ None) → (j : ℕ) → a ≤ j → j < a + k
      → finmap.get (known_in known a (data_items make (range_with_len a k))) (sample_name j) ≡ Some j
  unfolding known_in
  finds known a zero small fresh j low high = absurd (omega (arith, low, high))
  finds known a (suc k) small fresh j low high =
      let now = added known a (fresh a (omega arith) (omega arith)) in
      elim (cases_lt a j) [
        | inl later ↦ finds (with_place known a (id_of_item (make a))) (a + 1) k (omega (arith, small))
            (λ i least most.
            ap (λ one. finmap.get one (sample_name i)) now
            ∙ get_other known (sample_name a) (sample_name i) a (names_apart i a (omega (arith, small, most)) (omega (arith, least)))
            ∙ fresh i (omega (arith, least)) (omega (arith, most)))
            j (omega (arith, later)) (omega (arith, high))
        | inr most ↦
            let same : j ≡ a = omega (arith, low, most) in
            stays (with_place known a (id_of_item (make a))) (a + 1) k (sample_name j) j
            (ap (λ one. finmap.get one (sample_name j)) now ∙ subst (λ i. finmap.get (finmap.insert known (sample_name a) a) (sample_name i) ≡ Some i) (sym same) (get_same known (sample_name a) a))
      ]

  -- each number's name leads to its place
  known_all : (n : ℕ) → n ≤ 2 ^ 32 → (i : ℕ) → i < n → finmap.get (known_of (data_items make (numbers n))) (sample_name i) ≡ Some i
  known_all n small i less =
      finds finmap.empty 0 n (omega (arith, small)) (λ j low high. get-empty (slice_cmp nat_cmp) (sample_name j)) i (omega arith) (omega (arith, less))

-- ---- a crate

version_told : (i : ℕ) → i < 2 ^ 64 → version_parts (sample_version i) ≡ Ok (1, 0, i, [], [])
version_told i small =
    ap version_parts
    (sym
    (ap₂ (λ (major minor : List ℕ). major ++ (46 ∷ (minor ++ (46 ∷ (decimal i ++ []))))) (decimal_digit 1 (omega arith)) (decimal_digit 0 (omega arith))
    ∙ ap (λ (s : List ℕ). codes "1.0." ++ s) (append-nil (decimal i))))
    ∙ version_parts-complete (1, 0, i, [], []) (omega arith, omega arith, small, refl, refl)

field_told : (place : List ℕ) (field : Option (List ℕ)) → optional_text_from place (Some (field_data field)) ≡ Ok field
field_told place None = refl
field_told place (Some text) = refl

abbrev package_keys : ℕ → PackageKeys
package_keys i = record { name = sample_name i; id = sample_name i; manifest_path = sample_manifest i; version = (1, 0, i, [], []) }

abbrev package_texts : ℕ → PackageTexts
package_texts i = record { license = license_field (i % 4); license_file = None; source = None; repository = None; description = None; rust_version = None }

abbrev no_lists : PackageLists
no_lists = record { authors = []; features = finmap.empty; publish = None }

abbrev pub package_record : ℕ → CrateRecord
package_record i = record_with (package_keys i) (package_texts i) no_lists

module _ (sparse_dir : List ℕ) (known : IdPlaces) (i : ℕ) (small : i < 2 ^ 64) (place_known : finmap.get known (sample_name i) ≡ Some i) (in_one : (folder : List ℕ) × (parent_of (sample_manifest i) ≡ Some folder)) where
  id_told : id_row known i (package_data i) ≡ Ok (sample_name i)
  unfolding id_row
  id_told = new_told i _ (sample_name i) _ place_known

  manifest_told : manifest_row i (package_data i) ≡ Ok (sample_manifest i)
  unfolding manifest_row
  manifest_told = folder_told _ (sample_manifest i) _ in_one.0 in_one.1

  version_row_told : version_row i (package_data i) ≡ Ok (1, 0, i, [], [])
  unfolding version_row
  version_row_told = ap (version_from _) (version_told i small)

  named_told : named_row known i (package_data i) ≡ Ok (package_keys i)
  unfolding named_row
  named_told = bind _ _ _ id_told ∙ bind _ _ _ manifest_told ∙ bind _ _ _ version_row_told

  described_told : described_row sparse_dir i (sample_manifest i) (package_data i) ≡ Ok (package_texts i)
  unfolding described_row source_row
  described_told = bind _ _ _ (field_told _ (license_field (i % 4)))

  listed_told : listed_row i (package_data i) ≡ Ok no_lists
  unfolding listed_row texts_or_empty_at optional_texts_at reading_of_each
  listed_told = refl

  package_told : package_row sparse_dir known i (package_data i) ≡ Ok (package_record i)
  unfolding package_row
  package_told = bind _ _ _ named_told ∙ bind _ _ _ described_told ∙ bind _ _ _ listed_told

-- ---- the edges

targets_within : (n i : ℕ) → AllByRecursion (λ x. x < n) (targets n i)
targets_within n i = by (nat_lt (2 * i + 1) n) (nat_lt (2 * i + 2) n) refl refl
  where
    by : (a b : Bool) → nat_lt (2 * i + 1) n ≡ a → nat_lt (2 * i + 2) n ≡ b → AllByRecursion (λ x. x < n) (cond a ((2 * i + 1) ∷ cond b ((2 * i + 2) ∷ []) []) [])
    by true true first second = (ltb-true (2 * i + 1) n first, (ltb-true (2 * i + 2) n second, tt))
    by true false first second = (ltb-true (2 * i + 1) n first, tt)
    by false b first second = tt

abbrev dep_told : ℕ → DepTold
dep_told j = record { to = j; kinds = None }

abbrev edge_told : ℕ → Edge
edge_told j = record { to = j; kinds = with_kind no_kinds Normal }

abbrev node_told : ℕ → ℕ → NodeTold
node_told n i = record { deps = data_items dep_data (targets n i) }

abbrev deps_told : ℕ → ℕ → List DepTold
deps_told n i = map dep_told (targets n i)

abbrev edges_told : ℕ → ℕ → List Edge
edges_told n i = map edge_told (targets n i)

edge_row_told : (i j x : ℕ) → edge_row i j (dep_told x) ≡ Ok (edge_told x)
unfolding edge_row
edge_row_told i j x = refl

module _ (n : ℕ) (known : IdPlaces) (all_known : (i : ℕ) → i < n → finmap.get known (sample_name i) ≡ Some i) where
  dep_row_told : (i j x : ℕ) → x < n → dep_row known i j (dep_data x) ≡ Ok (dep_told x)
  unfolding dep_row
  dep_row_told i j x less = bind _ _ _ (known_told _ _ x (all_known x less))

  deps_in_told : (i : ℕ) → deps_in known i (node_told n i) ≡ Ok (deps_told n i)
  deps_in_told i = ap (reading_of_each (dep_row known i) 0) (items_map dep_data (targets n i)) ∙ each_list (dep_row known i) dep_data dep_told n 0 (targets n i) (targets_within n i) (dep_row_told i)

  edges_in_told : (i : ℕ) → edges_in i (deps_told n i) ≡ Ok (edges_told n i)
  edges_in_told i = each_list (edge_row i) dep_told edge_told n 0 (targets n i) (targets_within n i) (λ j x less. edge_row_told i j x)

  node_row_told : (firsts : IdPlaces) (i : ℕ) → i < n → finmap.get firsts (sample_name i) ≡ Some i → node_row known firsts i (node_data n i) ≡ Ok (node_told n i)
  unfolding node_row
  node_row_told firsts i less first =
      bind _ _ _ (known_told _ _ i (all_known i less)) ∙ bind _ _ _ (new_told i _ (sample_name i) _ first)

-- ---- all rows

name_zero : sample_name 0 ≡ codes "c0"
name_zero = ap (λ (s : List ℕ). 99 ∷ s) (decimal_digit 0 (omega arith))

abbrev packages_of : ℕ → Items
packages_of n = data_items package_data (numbers n)

abbrev nodes_of : ℕ → Items
nodes_of n = data_items (node_data n) (numbers n)

abbrev first_member : Member
first_member = record { id = codes "c0"; place = 0 }

abbrev pub sample_rows : ℕ → MetadataRows
sample_rows n = record {
  root = record {
    packages = packages_of n;
    known = known_of (packages_of n);
    members = first_member ∷ [];
    workspace_root = codes "/s";
    resolve = resolve_data (nodes_of n);
  };
  crates = map package_record (numbers n);
  resolve = record { nodes = nodes_of n; root = Some 0 };
  nodes = record { firsts = known_of (nodes_of n); nodes = map (node_told n) (numbers n) };
  edges = map (edges_told n) (numbers n);
}

pub packages_known : (n : ℕ) → n ≤ 2 ^ 32 → (i : ℕ) → i < n → finmap.get (known_of (packages_of n)) (sample_name i) ≡ Some i
packages_known n small = known_all package_data (λ i. refl) n small

module _ (n : ℕ) (small : n ≤ 2 ^ 32) (some : 1 ≤ n) (sparse_dir : List ℕ) (parents : (i : ℕ) → i < 2 ^ 32 → (folder : List ℕ) × (parent_of (sample_manifest i) ≡ Some folder)) where
  abbrev known : IdPlaces
  known = known_of (packages_of n)

  all_known : (i : ℕ) → i < n → finmap.get known (sample_name i) ≡ Some i
  all_known = packages_known n small

  nodes_known : (i : ℕ) → i < n → finmap.get (known_of (nodes_of n)) (sample_name i) ≡ Some i
  nodes_known = known_all (node_data n) (λ i. refl) n small

  root_known : finmap.get known (codes "c0") ≡ Some 0
  root_known = ap (finmap.get known) (sym name_zero) ∙ all_known 0 (omega (arith, some))

  member_told : member_row known 0 (string (codes "c0")) ≡ Ok first_member
  unfolding member_row
  member_told = bind _ _ _ (known_told _ _ 0 root_known)

  root_told : root_row (sample_data n) ≡ Ok (sample_rows n).root
  unfolding root_row reading_of_each
  root_told = bind _ _ _ (bind _ _ _ member_told)

  packages_told : packages_in sparse_dir known (packages_of n) ≡ Ok (map package_record (numbers n))
  packages_told =
      ap (reading_of_each (package_row sparse_dir known) 0) (items_map package_data (numbers n))
      ∙ each_range (package_row sparse_dir known) package_data package_record 0 n
      (λ i less. package_told sparse_dir known i (omega (arith, small, less)) (all_known i (omega (arith, less))) (parents i (omega (arith, small, less))))

  resolve_told : resolve_row known (resolve_data (nodes_of n)) ≡ Ok (sample_rows n).resolve
  unfolding resolve_row
  resolve_told = bind _ _ _ (bind _ _ _ (known_told _ _ 0 root_known))

  nodes_told : nodes_read known (nodes_of n) ≡ Ok (sample_rows n).nodes
  unfolding nodes_read
  nodes_told =
      bind _ _ _
      (ap (reading_of_each (node_row known (known_of (nodes_of n))) 0) (items_map (node_data n) (numbers n))
      ∙ each_range (node_row known (known_of (nodes_of n))) (node_data n) (node_told n) 0 n
      (λ i less. node_row_told n known all_known (known_of (nodes_of n)) i (omega (arith, less)) (nodes_known i (omega (arith, less)))))

  all_deps_told : all_deps known (map (node_told n) (numbers n)) ≡ Ok (map (deps_told n) (numbers n))
  all_deps_told = each_range (deps_in known) (node_told n) (deps_told n) 0 n (λ i less. deps_in_told n known all_known i)

  all_edges_told : all_edges (map (deps_told n) (numbers n)) ≡ Ok (map (edges_told n) (numbers n))
  all_edges_told = each_range edges_in (deps_told n) (edges_told n) 0 n (λ i less. edges_in_told n known all_known i)

  pub rows_told : rows_in sparse_dir (sample_data n) ≡ Ok (sample_rows n)
  unfolding rows_in
  rows_told =
      bind _ _ _ (ap (unless_found (sample_data n)) (float_sample n))
      ∙ bind _ _ _ root_told
      ∙ bind _ _ _ packages_told
      ∙ bind _ _ _ resolve_told
      ∙ bind _ _ _ nodes_told
      ∙ bind _ _ _ all_deps_told
      ∙ bind _ _ _ all_edges_told
