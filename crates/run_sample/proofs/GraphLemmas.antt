-- The graph of the sample's metadata has a root.
use Rattle.std.proofs.Common.{◌≡◌, ◌∙◌, ◌⊎◌, inl, inr, refl, sym, ap, ap₂, subst, ℕ, zero, suc, ◌^◌, ◌<◌, ◌≤◌, List, [], ◌∷◌, map, Bool, true, false, cond, ◌&&◌, Option, Some, None, option_map, Ok, arith}
use Rattle.std.specs.Prelude.{Contains}
use Rattle.std.specs.FinMap as finmap
use Rattle.std.specs.FinMap.{find, slice_cmp-IsAntisymmetric, nat_cmp-IsAntisymmetric}
use Rattle.std.specs.List.{filter_map}
use Rattle.std.specs.Ordering.{nat_cmp, is_eq}
use Rattle.std.specs.Cmp.Lexicographic.{slice_cmp}
use Rattle.std.specs.declared.cmp.Ordering.{Ordering}
use Rattle.std.specs.declared.cmp.Ordering.TheVariants.{Less, Equal, Greater}
use Rattle.std.proofs.lemmas.List.Elements.{Contains-append_left, Contains-append_right, Contains-push}
use Rattle.std.proofs.lemmas.Slice.Eq.{bytes_eq-Decides}
use Rattle.deny_text.specs.Path.{parent_of}
use Rattle.graph_core.specs.Metadata.{Graph, CrateNode}
use Rattle.graph_metadata.specs.Records.{edges_of_node, graph_node_at, graph_of, link_to, metadata_of, rows_in, spot_of, spots_of, told_graph}
use Rattle.graph_core.specs.selection.Choice.{Choice}
use Rattle.graph_core.specs.selection.Roots.{HasRoot, crates_of}
use Rattle.run_sample.specs.Metadata.{sample_metadata, sample_name}
use Rattle.run_sample.proofs.SampleData.{sample_manifest}
use Rattle.run_sample.proofs.TextLemmas.{read_sample}
use Rattle.run_sample.proofs.RowLemmas.{package_record, packages_known, rows_told, sample_rows}

-- ---- what is among items

abbrev Among : {A : Type 0} → List A → A → Type 0
Among [] x = ⊥
Among (y ∷ ys) x = (y ≡ x) ⊎ Among ys x

contains : {A : Type 0} (xs : List A) (x : A) → Among xs x → Contains xs x
contains [] x among = absurd among
contains (y ∷ ys) x (inl same) = subst (λ one. Contains (one ∷ ys) x) (sym same) (Contains-append_left (x ∷ []) ys x (Contains-push [] x))
contains (y ∷ ys) x (inr later) = Contains-append_right (y ∷ []) ys x (contains ys x later)

among_map : {A B : Type 0} (f : A → B) (xs : List A) (x : A) → Among xs x → Among (map f xs) (f x)
among_map f [] x among = absurd among
among_map f (y ∷ ys) x (inl same) = inl (ap f same)
among_map f (y ∷ ys) x (inr later) = inr (among_map f ys x later)

module _ {A B : Type 0} (f : A → Option B) where
  among_kept : (xs : List A) (x : A) (y : B) → f x ≡ Some y → Among xs x → Among (filter_map f xs) y
  among_kept [] x y is among = absurd among
  among_kept (first ∷ rest) x y is (inl same) = rw (ap f same ∙ is) (inl refl)
  among_kept (first ∷ rest) x y is (inr later) = by (f first) refl (among_kept rest x y is later)
    where
      by : (found : Option B) → f first ≡ found → Among (filter_map f rest) y → Among (filter_map f (first ∷ rest)) y
      by None none behind = rw none behind
      by (Some other) some behind = rw some (inr behind)

is_equal : (r : Ordering) → is_eq r ≡ true → r ≡ Equal
is_equal Less e = cc
is_equal Equal e = refl
is_equal Greater e = cc

among_found : {V : Type 0} (q : List ℕ) (v : V) (es : List (List ℕ × V)) → find (slice_cmp nat_cmp) q es ≡ Some v → Among es (q, v)
among_found q v [] e = absurd (cc e)
among_found {V} q v (first ∷ rest) e = by (is_eq (slice_cmp nat_cmp q first.0)) refl (λ later. among_found q v rest later) e
  where
    by : (tied : Bool) → is_eq (slice_cmp nat_cmp q first.0) ≡ tied → (find (slice_cmp nat_cmp) q rest ≡ Some v → Among rest (q, v)) → cond tied (Some first.1) (find (slice_cmp nat_cmp) q rest) ≡ Some v → Among (first ∷ rest) (q, v)
    by true is behind found =
        let same : q ≡ first.0 = slice_cmp-IsAntisymmetric nat_cmp-IsAntisymmetric q first.0 (is_equal _ is) in
        let value : first.1 ≡ v = cc found in
        inl (ap₂ (λ a b. (a, b)) (sym same) value)
    by false is behind found = inr (behind found)

-- ---- the root

abbrev pub plain_choice : Choice
plain_choice = record { workspace = false; exclude = []; exclude_dev = false; exclude_unpublished = false }

module _ (m : ℕ) (small : suc m ≤ 2 ^ 32) where
  abbrev rows_here : Graph
  rows_here = graph_of (sample_rows (suc m))

  first_known : finmap.get (sample_rows (suc m)).root.known (sample_name 0) ≡ Some 0
  first_known = packages_known (suc m) small 0 (omega arith)

  first_there : Among (finmap.entries (sample_rows (suc m)).root.known) (sample_name 0, 0)
  first_there = among_found (sample_name 0) 0 (finmap.entries (sample_rows (suc m)).root.known) (sym (finmap.get-entries (sample_rows (suc m)).root.known (sample_name 0)) ∙ first_known)

  abbrev first_node : CrateNode
  first_node = record {
    krate = package_record 0;
    edges = map (link_to (sample_rows (suc m)).crates) (edges_of_node (sample_rows (suc m)).edges (finmap.get (sample_rows (suc m)).nodes.firsts (sample_name 0)));
  }

  crate_there : Contains (crates_of rows_here) (package_record 0)
  crate_there =
      contains (crates_of rows_here) (package_record 0)
      (among_map (λ (node : CrateNode). node.krate) rows_here.nodes first_node
      (among_kept (graph_node_at (sample_rows (suc m)).crates (sample_rows (suc m)).edges) (spots_of (sample_rows (suc m)).root.known (sample_rows (suc m)).nodes.firsts)
      (spot_of (sample_rows (suc m)).nodes.firsts (sample_name 0, 0)) first_node refl
      (among_map (spot_of (sample_rows (suc m)).nodes.firsts) (finmap.entries (sample_rows (suc m)).root.known) (sample_name 0, 0) first_there)))

  root_there : HasRoot rows_here plain_choice
  root_there = (
    sample_name 0,
    record {
      krate = package_record 0;
      stands = crate_there;
      named = refl;
      passes = ap (λ b. b && true) ((bytes_eq-Decides (sample_name 0) (sample_name 0)).1 refl);
    },
  )

pub has_root : (n : ℕ) → n ≤ 2 ^ 32 → 1 ≤ n → HasRoot (graph_of (sample_rows n)) plain_choice
has_root zero small some = absurd (omega (arith, some))
has_root (suc m) small some = root_there m small

-- what the text tells
pub graph_told : (n : ℕ) → n ≤ 2 ^ 32 → 1 ≤ n → (sparse_dir : List ℕ) → ((i : ℕ) → i < 2 ^ 32 → (folder : List ℕ) × (parent_of (sample_manifest i) ≡ Some folder))
    → metadata_of (sample_metadata n) sparse_dir ≡ Some (Ok (graph_of (sample_rows n)))
graph_told n small some sparse_dir parents =
    ap (λ found. option_map told_graph (option_map (rows_in sparse_dir) found)) (read_sample n small)
    ∙ ap (λ told. Some (told_graph told)) (rows_told n small some sparse_dir parents)
