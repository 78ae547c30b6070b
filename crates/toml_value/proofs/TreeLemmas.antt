-- Tables of the program that may grow, level by level.
use Rattle.std.proofs.Common.{◌≡◌, ℕ, zero, suc, ◌<◌, ⊎_elim, Bool, true, false, ◌&&◌, eqb, List, [], ◌∷◌, ◌++◌, map, length, length-append, length-set, get_or, set, Option, Some, None, option_map, IsTrue, refl, ap, sym, subst, ◌∙◌, arith, rules}
use Rattle.std.proofs.lemmas.Bool.Decides.{nat_tests}
use Rattle.std.proofs.lemmas.List.{length-map}
use Rattle.std.specs.List.{list_all}
use Rattle.std.specs.Str.{bytes_eq}
use Rattle.toml_subset.specs.key_index.KeyPlaces.{first_key_place}
use Rattle.toml_subset.specs.TableFaults.{table_node_at}
use Rattle.deny_text.specs.declared.span.Span.{Span}
use Rattle.toml_subset.specs.Tables.{Node, growing, dotted, branch, same_key, has_key, branches_with_key}
use Rattle.toml_subset.specs.declared.string.Key.{Key}
use Rattle.toml_subset.proofs.Law.Basics.{map_some, is_some, if_is, if_true, if_false}
use Rattle.toml_value.specs.BranchViews.{branches_of_lists, node_view, branches_view, is_whole, is_whole_node}
use Rattle.toml_value.specs.declared.tree.Mark.TheVariants.{Dotted}
use Rattle.toml_value.specs.declared.tree.Node.{Node as NodeOf, Growing, the_lemmas}
use Rattle.toml_value.specs.declared.tree.Branches.{Branches as BranchesOf, out-Branches}

pub branches_view-is : (b : BranchesOf) → branches_view b ≡ branches_of_lists (out-Branches b).keys (map (λ n. node_view n) (out-Branches b).nodes.items)
branches_view-is b = search (rules, the_lemmas)

abbrev all_whole : List NodeOf → Bool
all_whole nodes = list_all (λ whole. whole) (map (λ n. is_whole_node n) nodes)

abbrev test_whole : List Key → List NodeOf → Bool
test_whole keys nodes = eqb (length keys) (length (map (λ n. is_whole_node n) nodes)) && all_whole nodes

is_whole-is : (b : BranchesOf) → is_whole b ≡ test_whole (out-Branches b).keys (out-Branches b).nodes.items
is_whole-is b = search (rules, the_lemmas)

-- a whole table has a node for each key, and whole nodes
pub record AreWhole (keys : List Key) (nodes : List NodeOf) : Type 0 where
  pub same : length keys ≡ length nodes
  pub all : all_whole nodes ≡ true

both : (a b : Bool) → (a && b) ≡ true → (a ≡ true) × (b ≡ true)
both true true e = (refl, refl)
both true false e = absurd (cc)
both false b e = absurd (cc)

pub opened_whole : (b : BranchesOf) → IsTrue (is_whole b) → AreWhole (out-Branches b).keys (out-Branches b).nodes.items
opened_whole b whole =
    let parts = both (eqb (length (out-Branches b).keys) (length (map (λ n. is_whole_node n) (out-Branches b).nodes.items))) (all_whole (out-Branches b).nodes.items)
    (sym (is_whole-is b) ∙ whole) in
    let longs : length (out-Branches b).keys ≡ length (map (λ n. is_whole_node n) (out-Branches b).nodes.items) = grind (arith, nat_tests, parts.0) in
    record { same = longs ∙ length-map (out-Branches b).nodes.items (λ n. is_whole_node n); all = parts.1 }

pub whole_closed : (b : BranchesOf) → AreWhole (out-Branches b).keys (out-Branches b).nodes.items → IsTrue (is_whole b)
whole_closed b whole =
    let longs : length (out-Branches b).keys ≡ length (map (λ n. is_whole_node n) (out-Branches b).nodes.items)
    = whole.same ∙ sym (length-map (out-Branches b).nodes.items (λ n. is_whole_node n)) in
    let test : eqb (length (out-Branches b).keys) (length (map (λ n. is_whole_node n) (out-Branches b).nodes.items)) ≡ true = grind (arith, nat_tests, longs) in
    is_whole-is b ∙ ap (λ t. t && all_whole (out-Branches b).nodes.items) test ∙ whole.all

pub node_view-dotted : (span : Span) (b : BranchesOf) → node_view (Growing span Dotted b) ≡ growing span dotted (branches_view b)
node_view-dotted span b = search (rules, the_lemmas)

pub is_whole-dotted : (span : Span) (b : BranchesOf) → is_whole_node (Growing span Dotted b) ≡ is_whole b
is_whole-dotted span b = search (rules, the_lemmas)

-- lists of nodes

pub whole_at : (nodes : List NodeOf) (i : ℕ) (d : NodeOf) → all_whole nodes ≡ true → i < length nodes → is_whole_node (get_or nodes i d) ≡ true
whole_at [] i d all inside = absurd (omega arith)
whole_at (n ∷ ns) zero d all inside = (both (is_whole_node n) (all_whole ns) all).0
whole_at (n ∷ ns) (suc i) d all inside = whole_at ns i d (both (is_whole_node n) (all_whole ns) all).1 (omega arith)

whole_set : (nodes : List NodeOf) (i : ℕ) (new : NodeOf) → all_whole nodes ≡ true → is_whole_node new ≡ true → all_whole (set nodes i new) ≡ true
whole_set [] i new all whole = all
whole_set (n ∷ ns) zero new all whole = ap (λ b. b && all_whole ns) whole ∙ (both (is_whole_node n) (all_whole ns) all).1
whole_set (n ∷ ns) (suc i) new all whole =
    let parts = both (is_whole_node n) (all_whole ns) all in
    ap (λ b. b && all_whole (set ns i new)) parts.0 ∙ whole_set ns i new parts.1 whole

whole_push : (nodes : List NodeOf) (new : NodeOf) → all_whole nodes ≡ true → is_whole_node new ≡ true → all_whole (nodes ++ new ∷ []) ≡ true
whole_push [] new all whole = ap (λ b. b && true) whole
whole_push (n ∷ ns) new all whole =
    let parts = both (is_whole_node n) (all_whole ns) all in
    ap (λ b. b && all_whole (ns ++ new ∷ [])) parts.0 ∙ whole_push ns new parts.1 whole

pub are_whole-set : (keys : List Key) (nodes : List NodeOf) (i : ℕ) (new : NodeOf) → AreWhole keys nodes → is_whole_node new ≡ true → AreWhole keys (set nodes i new)
are_whole-set keys nodes i new whole one = record { same = whole.same ∙ sym (length-set nodes i new); all = whole_set nodes i new whole.all one }

pub are_whole-push : (keys : List Key) (nodes : List NodeOf) (key : Key) (new : NodeOf) → AreWhole keys nodes → is_whole_node new ≡ true
    → AreWhole (keys ++ key ∷ []) (nodes ++ new ∷ [])
are_whole-push keys nodes key new whole one = record {
  same = let same = whole.same in let more = length-append keys (key ∷ []) in let as_many = length-append nodes (new ∷ []) in omega arith;
  all = whole_push nodes new whole.all one;
}

pub seen-set : (nodes : List NodeOf) (i : ℕ) (new : NodeOf) → map (λ n. node_view n) (set nodes i new) ≡ set (map (λ n. node_view n) nodes) i (node_view new)
seen-set [] i new = refl
seen-set (n ∷ ns) zero new = refl
seen-set (n ∷ ns) (suc i) new = ap (λ l. node_view n ∷ l) (seen-set ns i new)

pub seen-at : (nodes : List NodeOf) (i : ℕ) (d : NodeOf) → get_or (map (λ n. node_view n) nodes) i (node_view d) ≡ node_view (get_or nodes i d)
seen-at [] i d = refl
seen-at (n ∷ ns) zero d = refl
seen-at (n ∷ ns) (suc i) d = seen-at ns i d

-- look-ups

pub is_found : (key : Key) (keys : List Key) (nodes : List Node) (i : ℕ) (d : Node) → length keys ≡ length nodes → first_key_place key.name.text keys ≡ Some i
    → table_node_at key (branches_of_lists keys nodes) ≡ Some (get_or nodes i d)
is_found key [] nodes i d same e = absurd (cc)
is_found key (k ∷ ks) [] i d same e = absurd (omega arith)
is_found key (k ∷ ks) (n ∷ ns) i d same e =
    ⊎_elim
    (λ h. subst (λ j. table_node_at key (branches_of_lists (k ∷ ks) (n ∷ ns)) ≡ Some (get_or (n ∷ ns) j d)) (is_some 0 i h.1) (if_true (same_key key k) (Some n) (table_node_at key (branches_of_lists ks ns)) h.0))
    (λ h.
    let more = map_some suc (first_key_place key.name.text ks) i h.1 in
    let rest = is_found key ks ns more.0 d (omega arith) more.1 in
    subst (λ j. table_node_at key (branches_of_lists (k ∷ ks) (n ∷ ns)) ≡ Some (get_or (n ∷ ns) j d)) more.2 (if_false (same_key key k) (Some n) (table_node_at key (branches_of_lists ks ns)) h.0 ∙ rest))
    (if_is (bytes_eq key.name.text k.name.text) (Some 0) (option_map suc (first_key_place key.name.text ks)) (Some i) e)

map_none : {A B : Type 0} (f : A → B) (o : Option A) → option_map f o ≡ None → o ≡ None
map_none f None e = refl
map_none f (Some x) e = absurd (cc)

pub is_missing : (key : Key) (keys : List Key) (nodes : List Node) → first_key_place key.name.text keys ≡ None → table_node_at key (branches_of_lists keys nodes) ≡ None
is_missing key [] nodes e = refl
is_missing key (k ∷ ks) [] e = refl
is_missing key (k ∷ ks) (n ∷ ns) e =
    ⊎_elim (λ h. let other : Some 0 ≡ None = h.1 in absurd (cc))
    (λ h. if_false (same_key key k) (Some n) (table_node_at key (branches_of_lists ks ns)) h.0 ∙ is_missing key ks ns (map_none suc (first_key_place key.name.text ks) h.1))
    (if_is (bytes_eq key.name.text k.name.text) (Some 0) (option_map suc (first_key_place key.name.text ks)) None e)

-- a key that its table does not have has no place in it
pub has_no_place : (key : Key) (keys : List Key) (nodes : List Node) → length keys ≡ length nodes → has_key key (branches_of_lists keys nodes) ≡ false → first_key_place key.name.text keys ≡ None
has_no_place key [] nodes same e = refl
has_no_place key (k ∷ ks) [] same e = absurd (omega arith)
has_no_place key (k ∷ ks) (n ∷ ns) same e =
    ⊎_elim (λ h. let other : true ≡ false = h.1 in absurd (cc))
    (λ h. if_false (bytes_eq key.name.text k.name.text) (Some 0) (option_map suc (first_key_place key.name.text ks)) h.0
    ∙ ap (option_map suc) (has_no_place key ks ns (omega arith) h.1))
    (if_is (same_key key k) true (has_key key (branches_of_lists ks ns)) false e)

pub added-joined : (key : Key) (node : Node) (keys : List Key) (nodes : List Node) → length keys ≡ length nodes
    → branches_with_key key node (branches_of_lists keys nodes) ≡ branches_of_lists (keys ++ key ∷ []) (nodes ++ node ∷ [])
added-joined key node [] [] same = refl
added-joined key node [] (n ∷ ns) same = absurd (omega arith)
added-joined key node (k ∷ ks) [] same = absurd (omega arith)
added-joined key node (k ∷ ks) (n ∷ ns) same = ap (branch k n) (added-joined key node ks ns (omega arith))

pub seen-push : (nodes : List NodeOf) (new : NodeOf) → map (λ n. node_view n) (nodes ++ new ∷ []) ≡ map (λ n. node_view n) nodes ++ node_view new ∷ []
seen-push [] new = refl
seen-push (n ∷ ns) new = ap (λ l. node_view n ∷ l) (seen-push ns new)

-- the place of a key is that of a node
pub is_within : (key : Key) (keys : List Key) (nodes : List NodeOf) (i : ℕ) → length keys ≡ length nodes → first_key_place key.name.text keys ≡ Some i → i < length nodes
is_within key [] nodes i same e = absurd (cc)
is_within key (k ∷ ks) [] i same e = absurd (omega arith)
is_within key (k ∷ ks) (n ∷ ns) i same e =
    ⊎_elim (λ h. let first = is_some 0 i h.1 in omega arith)
    (λ h.
    let more = map_some suc (first_key_place key.name.text ks) i h.1 in
    let rest = is_within key ks ns more.0 (omega arith) more.1 in
    let next = more.2 in
    omega arith)
    (if_is (bytes_eq key.name.text k.name.text) (Some 0) (option_map suc (first_key_place key.name.text ks)) (Some i) e)
