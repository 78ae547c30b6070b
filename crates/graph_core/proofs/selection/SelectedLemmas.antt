-- Of crates that a choice reaches, those that are selected by their kinds are the list of the selected.
use Rattle.std.proofs.Common.{◌≡◌, ℕ, zero, suc, ◌<◌, ◌&&◌, ◌||◌, not, Bool, true, false, cond, List, [], ◌∷◌, filter, length, slice_index_or, Contains, Some, None, refl, sym, ◌∙◌, ap, subst, nat_cmp, arith}
use Rattle.std.specs.List.{AllByRecursion}
use Rattle.std.specs.List.Sorted.{IsStrictlySortedBy}
use Rattle.std.specs.Cmp.Lexicographic.{slice_cmp}
use Rattle.std.specs.declared.cmp.Ordering.TheVariants.{Less}
use Rattle.std.proofs.lemmas.List.Elements.{All-contains, All-from_recursion, recursion_from_All}
use Rattle.graph_core.specs.declared.edge.DepKind.{DepKind}
use Rattle.graph_core.specs.declared.edge.DepKind.TheVariants.{Normal, Dev, Build}
use Rattle.graph_core.specs.declared.edge.Kinds.{Kinds}
use Rattle.graph_core.specs.Krate.{ids_in}
use Rattle.graph_core.specs.Metadata.{Graph, AreRising}
use Rattle.graph_core.specs.declared.selection.selection.Include.{Include}
use Rattle.graph_core.specs.selection.Choice.{Choice}
use Rattle.graph_core.specs.selection.Roots.{crates_of}
use Rattle.graph_core.specs.selection.Walks.{Reached, Selected}
use Rattle.graph_core.specs.selection.Listed.{ReachedCrates, IsChosen, IsListOf, ReachedCrate, crates_in, has_kind, is_selected, reached_in, selected_in}
use Rattle.graph_core.specs.selection.Places.{covers, left_out, only_kind}
use Rattle.graph_core.proofs.selection.PutLemmas.{both-left, both-right, true-false}
use Rattle.graph_core.proofs.selection.LeftLemmas.{both}
use Rattle.graph_core.proofs.selection.Rising.{less-other}

-- ---- the test that the code makes

and-true : (b : Bool) → (b && true) ≡ b
and-true true = refl
and-true false = refl

not-not : (b : Bool) → not (not b) ≡ b
not-not true = refl
not-not false = refl

pub covers-only : (kind : DepKind) (without : Kinds) → covers (only_kind kind) without ≡ has_kind kind without
covers-only Normal without = and-true without.normal
covers-only Dev without = and-true without.dev
covers-only Build without = refl

pub covers-left_out : (include : Include) (without : Kinds) → covers (left_out include) without ≡ is_selected include without
covers-left_out include without =
    ap (λ b. (b || without.dev) && (not (not include.build) || without.build)) (not-not include.dev)
    ∙ ap (λ b. (include.dev || without.dev) && (b || without.build)) (not-not include.build)

filter-same : {A : Type 0} (p q : A → Bool) → ((x : A) → p x ≡ q x) → (xs : List A) → filter p xs ≡ filter q xs
filter-same p q same [] = refl
filter-same p q same (x ∷ xs) =
    ap (λ b. cond b (x ∷ filter p xs) (filter p xs)) (same x)
    ∙ ap (λ rest. cond (q x) (x ∷ rest) rest) (filter-same p q same xs)

pub covered-are : (include : Include) (items : List ReachedCrate)
    → crates_in (filter (λ (item : ReachedCrate). covers (left_out include) item.without) items)
    ≡ crates_in (filter (λ (item : ReachedCrate). is_selected include item.without) items)
covered-are include items =
    ap crates_in (filter-same (λ (item : ReachedCrate). covers (left_out include) item.without)
    (λ (item : ReachedCrate). is_selected include item.without) (λ item. covers-left_out include item.without) items)

-- ---- items that a test keeps

abbrev ids : List ReachedCrate → List (List ℕ)
ids items = ids_in (crates_in items)

contains-first : {A : Type 0} (x : A) (xs : List A) → Contains (x ∷ xs) x
contains-first x xs = (0, omega arith, refl)

contains-later : {A : Type 0} (first : A) (xs : List A) (x : A) → Contains xs x → Contains (first ∷ xs) x
contains-later first xs x (k, below, at) = (suc k, omega arith, at)

-- an item of the list that has the id and passes the test
pub record Passes (test : Kinds → Bool) (items : List ReachedCrate) (id : List ℕ) : Type 0 where
  pub item : ReachedCrate
  pub one : Contains items item
  pub named : item.krate.id ≡ id
  pub passes : test item.without ≡ true

by-ids : (item : ReachedCrate) (items : List ReachedCrate) → AllByRecursion (λ (other : ReachedCrate). slice_cmp nat_cmp item.krate.id other.krate.id ≡ Less) items
    → AllByRecursion (λ id. slice_cmp nat_cmp item.krate.id id ≡ Less) (ids items)
by-ids item [] below = tt
by-ids item (other ∷ items) below = (below.0, by-ids item items below.1)

by-items : (item : ReachedCrate) (items : List ReachedCrate) → AllByRecursion (λ id. slice_cmp nat_cmp item.krate.id id ≡ Less) (ids items)
    → AllByRecursion (λ (other : ReachedCrate). slice_cmp nat_cmp item.krate.id other.krate.id ≡ Less) items
by-items item [] below = tt
by-items item (other ∷ items) below = (below.0, by-items item items below.1)

module _ (test : Kinds → Bool) where
  abbrev passing : List ReachedCrate → List ReachedCrate
  passing items = filter (λ (item : ReachedCrate). test item.without) items

  passes-first : (item : ReachedCrate) (items : List ReachedCrate) → test item.without ≡ true → Passes test (item ∷ items) item.krate.id
  passes-first item items is = record { item = item; one = contains-first item items; named = refl; passes = is }

  passes-later : (first : ReachedCrate) (items : List ReachedCrate) (id : List ℕ) → Passes test items id → Passes test (first ∷ items) id
  passes-later first items id p =
      record { item = p.item; one = contains-later first items p.item p.one; named = p.named; passes = p.passes }

  -- each id of the filter is that of an item that passes
  from-one : (b : Bool) (item : ReachedCrate) (items : List ReachedCrate) → test item.without ≡ b → AllByRecursion (Passes test (item ∷ items)) (ids (passing items))
      → AllByRecursion (Passes test (item ∷ items)) (ids (cond b (item ∷ passing items) (passing items)))
  from-one true item items is rest = (passes-first item items is, rest)
  from-one false item items is rest = rest

  weaker : (first : ReachedCrate) (items : List ReachedCrate) (names : List (List ℕ)) → AllByRecursion (Passes test items) names
      → AllByRecursion (Passes test (first ∷ items)) names
  weaker first items [] all = tt
  weaker first items (name ∷ names) all = (passes-later first items name all.0, weaker first items names all.1)

  pub from-filter : (items : List ReachedCrate) → AllByRecursion (Passes test items) (ids (passing items))
  from-filter [] = tt
  from-filter (item ∷ items) = from-one (test item.without) item items refl (weaker item items (ids (passing items)) (from-filter items))

  -- and the id of each that passes is one of the filter
  to-first : (b : Bool) (item : ReachedCrate) (items : List ReachedCrate) → b ≡ true → Contains (ids (cond b (item ∷ passing items) (passing items))) item.krate.id
  to-first true item items is = contains-first item.krate.id (ids (passing items))
  to-first false item items is = absurd (true-false (sym is))

  to-later : (b : Bool) (item : ReachedCrate) (items : List ReachedCrate) (id : List ℕ) → Contains (ids (passing items)) id
      → Contains (ids (cond b (item ∷ passing items) (passing items))) id
  to-later true item items id rest = contains-later item.krate.id (ids (passing items)) id rest
  to-later false item items id rest = rest

  to-filter-at : (items : List ReachedCrate) (k : ℕ) (item : ReachedCrate) → k < length items → slice_index_or items k item ≡ item → test item.without ≡ true
      → Contains (ids (passing items)) item.krate.id
  to-filter-at [] k item below at is = absurd (omega arith)
  to-filter-at (first ∷ items) zero item below at is =
      subst (λ (i : ReachedCrate). Contains (ids (passing (first ∷ items))) i.krate.id) at
      (to-first (test first.without) first items (ap (λ (i : ReachedCrate). test i.without) at ∙ is))
  to-filter-at (first ∷ items) (suc k) item below at is =
      to-later (test first.without) first items item.krate.id (to-filter-at items k item (omega arith) at is)

  pub to-filter : (items : List ReachedCrate) (id : List ℕ) → Passes test items id → Contains (ids (passing items)) id
  to-filter items id p =
      subst (Contains (ids (passing items))) p.named (to-filter-at items p.one.0 p.item p.one.1 p.one.2 p.passes)

  -- what holds of all holds of those that a filter keeps
  all-one : (P : ReachedCrate → Type 0) (b : Bool) (item : ReachedCrate) (items : List ReachedCrate) → P item → AllByRecursion P (passing items)
      → AllByRecursion P (cond b (item ∷ passing items) (passing items))
  all-one P true item items h rest = (h, rest)
  all-one P false item items h rest = rest

  all-filter : (P : ReachedCrate → Type 0) (items : List ReachedCrate) → AllByRecursion P items → AllByRecursion P (passing items)
  all-filter P [] all = tt
  all-filter P (item ∷ items) all = all-one P (test item.without) item items all.0 (all-filter P items all.1)

  rising-one : (b : Bool) (item : ReachedCrate) (items : List ReachedCrate)
      → AllByRecursion (λ (other : ReachedCrate). slice_cmp nat_cmp item.krate.id other.krate.id ≡ Less) (passing items)
      → AreRising (ids (passing items)) → AreRising (ids (cond b (item ∷ passing items) (passing items)))
  unfolding IsStrictlySortedBy
  rising-one true item items below rest = (by-ids item (passing items) below, rest)
  rising-one false item items below rest = rest

  pub rising-filter : (items : List ReachedCrate) → AreRising (ids items) → AreRising (ids (passing items))
  unfolding IsStrictlySortedBy
  rising-filter [] rising = tt
  rising-filter (item ∷ items) rising =
      rising-one (test item.without) item items
      (all-filter (λ (other : ReachedCrate). slice_cmp nat_cmp item.krate.id other.krate.id ≡ Less) items (by-items item items rising.0))
      (rising-filter items rising.1)

-- ---- one item has an id

less-here : (item : ReachedCrate) (items : List ReachedCrate) (j : ℕ) (b : ReachedCrate)
    → AllByRecursion (λ (other : ReachedCrate). slice_cmp nat_cmp item.krate.id other.krate.id ≡ Less) items
    → j < length items → slice_index_or items j b ≡ b → item.krate.id ≡ b.krate.id → ⊥
less-here item items j b below within at same =
    less-other item.krate.id b.krate.id
    (subst (λ (i : ReachedCrate). slice_cmp nat_cmp item.krate.id i.krate.id ≡ Less) at
    (All-from_recursion (λ (other : ReachedCrate). slice_cmp nat_cmp item.krate.id other.krate.id ≡ Less) items below j b within)) same

same-item : (items : List ReachedCrate) → AreRising (ids items) → (i j : ℕ) (a b : ReachedCrate) → i < length items → j < length items
    → slice_index_or items i a ≡ a → slice_index_or items j b ≡ b → a.krate.id ≡ b.krate.id → a ≡ b
unfolding IsStrictlySortedBy
same-item [] rising i j a b below within at is same = absurd (omega arith)
same-item (item ∷ items) rising zero zero a b below within at is same = sym at ∙ is
same-item (item ∷ items) rising zero (suc j) a b below within at is same =
    absurd (less-here item items j b (by-items item items rising.0) (omega arith) is (ap (λ (x : ReachedCrate). x.krate.id) at ∙ same))
same-item (item ∷ items) rising (suc i) zero a b below within at is same =
    absurd (less-here item items i a (by-items item items rising.0) (omega arith) at (ap (λ (x : ReachedCrate). x.krate.id) is ∙ sym same))
same-item (item ∷ items) rising (suc i) (suc j) a b below within at is same =
    same-item items rising.1 i j a b (omega arith) (omega arith) at is same

-- the item that has an id of the list
item-of : (items : List ReachedCrate) (k : ℕ) (id : List ℕ) → k < length (ids items) → slice_index_or (ids items) k id ≡ id
    → (item : ReachedCrate) × (k < length items) × (slice_index_or items k item ≡ item) × (item.krate.id ≡ id)
item-of [] k id below at = absurd (omega arith)
item-of (item ∷ items) zero id below at = (item, omega arith, refl, at)
item-of (item ∷ items) (suc k) id below at =
    let found = item-of items k id (omega arith) at in (found.0, omega arith, found.2, found.3)

id-from : (items : List ReachedCrate) (item : ReachedCrate) (k : ℕ) → k < length items → slice_index_or items k item ≡ item → Contains (ids items) item.krate.id
id-from [] item k below at = absurd (omega arith)
id-from (first ∷ items) item zero below at =
    subst (λ (i : ReachedCrate). Contains (ids (first ∷ items)) i.krate.id) at (contains-first first.krate.id (ids items))
id-from (first ∷ items) item (suc k) below at =
    contains-later first.krate.id (ids items) item.krate.id (id-from items item k (omega arith) at)

or-false : (a b : Bool) → a ≡ false → (a || b) ≡ true → b ≡ true
or-false true b is e = absurd (true-false is)
or-false false b is e = e

or-case : (a b : Bool) → (a ≡ false → b ≡ true) → (a || b) ≡ true
or-case true b h = refl
or-case false b h = h refl

module _ (graph : Graph) (choice : Choice) (chosen : ReachedCrates) (is : IsChosen graph choice chosen) (include : Include) where
  kept-here : (kind : DepKind) (item : ReachedCrate) → Contains chosen.items item → has_kind kind item.without ≡ true → Reached graph choice (Some kind) item.krate.id
  kept-here kind item one has =
      All-contains (Reached graph choice (Some kind)) (ids (filter (λ (i : ReachedCrate). has_kind kind i.without) chosen.items)) item.krate.id
      (is.without kind).sound
      (to-filter (has_kind kind) chosen.items item.krate.id (record { item = item; one = one; named = refl; passes = has }))

  id-of : (item : ReachedCrate) → Contains chosen.items item → Contains (ids chosen.items) item.krate.id
  id-of item one = id-from chosen.items item one.0 one.1 one.2

  sound-one : (id : List ℕ) → Passes (is_selected include) chosen.items id → Selected graph choice include id
  sound-one id p =
      let dev = both-left (include.dev || p.item.without.dev) (include.build || p.item.without.build) p.passes in
      let build = both-right (include.dev || p.item.without.dev) (include.build || p.item.without.build) p.passes in
      subst (Selected graph choice include) p.named (record {
        reached = All-contains (Reached graph choice None) (ids chosen.items) p.item.krate.id is.reached.sound (id-of p.item p.one);
        without_dev = λ off. kept-here Dev p.item p.one (or-false include.dev p.item.without.dev off dev);
        without_build = λ off. kept-here Build p.item p.one (or-false include.build p.item.without.build off build);
      })

  sound-all : (names : List (List ℕ)) → AllByRecursion (Passes (is_selected include) chosen.items) names
      → AllByRecursion (Selected graph choice include) names
  sound-all [] all = tt
  sound-all (name ∷ names) all = (sound-one name all.0, sound-all names all.1)

  -- an item whose id is reached without a kind has the kind
  has-of : (kind : DepKind) (item : ReachedCrate) (k : ℕ) → k < length chosen.items → slice_index_or chosen.items k item ≡ item
      → Reached graph choice (Some kind) item.krate.id → has_kind kind item.without ≡ true
  has-of kind item k below at reached =
      let p = All-contains (Passes (has_kind kind) chosen.items) (ids (filter (λ (i : ReachedCrate). has_kind kind i.without) chosen.items)) item.krate.id
      (All-from_recursion (Passes (has_kind kind) chosen.items) (ids (filter (λ (i : ReachedCrate). has_kind kind i.without) chosen.items)) (from-filter (has_kind kind) chosen.items))
      ((is.without kind).whole item.krate.id reached) in
      let same : p.item ≡ item =
      same-item chosen.items is.reached.rising p.one.0 k p.item item p.one.1 below p.one.2 at p.named in
      subst (λ (i : ReachedCrate). has_kind kind i.without ≡ true) same p.passes

  whole-one : (id : List ℕ) → Selected graph choice include id → Contains (ids (filter (λ (i : ReachedCrate). is_selected include i.without) chosen.items)) id
  whole-one id selected =
      let at = is.reached.whole id selected.reached in
      let found = item-of chosen.items at.0 id at.1 at.2 in
      to-filter (is_selected include) chosen.items id (record {
        item = found.0;
        one = (at.0, found.1, found.2);
        named = found.3;
        passes = both (include.dev || found.0.without.dev) (include.build || found.0.without.build)
            (or-case include.dev found.0.without.dev (λ off. has-of Dev found.0 at.0 found.1 found.2 (subst (Reached graph choice (Some Dev)) (sym found.3) (selected.without_dev off))))
            (or-case include.build found.0.without.build (λ off. has-of Build found.0 at.0 found.1 found.2 (subst (Reached graph choice (Some Build)) (sym found.3) (selected.without_build off))));
      })

  stand-items : (items : List ReachedCrate) → AllByRecursion (Contains (crates_of graph)) (crates_in items)
      → AllByRecursion (λ (i : ReachedCrate). Contains (crates_of graph) i.krate) items
  stand-items [] all = tt
  stand-items (item ∷ items) all = (all.0, stand-items items all.1)

  stand-crates : (items : List ReachedCrate) → AllByRecursion (λ (i : ReachedCrate). Contains (crates_of graph) i.krate) items
      → AllByRecursion (Contains (crates_of graph)) (crates_in items)
  stand-crates [] all = tt
  stand-crates (item ∷ items) all = (all.0, stand-crates items all.1)

  pub selected-lists : IsListOf graph (Selected graph choice include) (selected_in include chosen)
  selected-lists = record {
    rising = rising-filter (is_selected include) chosen.items is.reached.rising;
    sound = All-from_recursion (Selected graph choice include) (ids (filter (λ (i : ReachedCrate). is_selected include i.without) chosen.items))
        (sound-all (ids (filter (λ (i : ReachedCrate). is_selected include i.without) chosen.items)) (from-filter (is_selected include) chosen.items));
    whole = whole-one;
    records = All-from_recursion (Contains (crates_of graph)) (selected_in include chosen)
        (stand-crates (filter (λ (i : ReachedCrate). is_selected include i.without) chosen.items)
        (all-filter (is_selected include) (λ (i : ReachedCrate). Contains (crates_of graph) i.krate) chosen.items
        (stand-items chosen.items (recursion_from_All (Contains (crates_of graph)) (reached_in chosen) is.reached.records))));
  }
