-- Names of crates by licences, gathered crate by crate.
use Rattle.std.proofs.Common.{◌≡◌, ◌∙◌, refl, sym, ap, ap₂, subst, ℕ, Bool, true, false, ◌||◌, ◌&&◌, cond, T, List, [], ◌∷◌, ◌++◌, map, All, nat_cmp, Ordering, Less, Equal, Greater, Option, Some, None, append_assoc, append-nil}
use Rattle.std.specs.Ordering.{is_eq, is_lt, match_ordering}
use Rattle.std.specs.Option.{is_some, unwrap_or}
use Rattle.std.specs.Cmp.{tied_itself}
use Rattle.std.specs.Cmp.Lexicographic.{slice_cmp, nat_list_cmp_total}
use Rattle.std.specs.BTreeSet.{insert_key}
use Rattle.std.specs.BTreeMap.{insert_entry, is_at}
use Rattle.std.specs.FinMap.{find, is_sorted, put}
use Rattle.std.specs.FinMap.Entries.{by_order, below_all, find-put, is_sorted-put}
use Rattle.std.specs.Map.{lookup, set_value}
use Rattle.std.specs.List.{AllByRecursion, flat_map, fold}
use Rattle.std.specs.List.Sorted.{IsStrictlySortedBy}
use Rattle.std.specs.Str.{bytes_eq}
use Rattle.std.proofs.lemmas.Map.Lookups.{exact_bytes}
use Rattle.std.proofs.lemmas.List.Concat.{flat_map-append}
use Rattle.std.proofs.lemmas.List.Elements.{recursion_from_All}
use Rattle.std.proofs.lemmas.List.Sums.{fold-append}
use Rattle.graph_core.specs.Krate.{has_text}
use Rattle.graph_core.specs.Metadata.{AreRising}
use Rattle.run_list_text.specs.declared.grouped.LicenseNames.{LicenseNames}
use Rattle.run_list_text.specs.declared.listed.ListedCrate.{ListedCrate}
use Rattle.run_list_text.specs.Grouped.{entry_data, entry_line, entry_of, gathered_names, names_at, names_by_license, with_crate, with_name}
use Rattle.run_list_text.specs.Listed.{all_licenses, distinct_texts, names_under}
use Rattle.run_list_text.specs.Listing.{license_data, license_line}
use Rattle.run_list_text.proofs.ListLemmas.{names_split}
use Rattle.run_list_text.proofs.MarkLemmas.{by_test, in_back, itself, left_too, neither, not_less, other_text, same_text}

abbrev Entries : Type 0
Entries = List (List ℕ × List (List ℕ))

abbrev key_of : List ℕ × List (List ℕ) → List ℕ
key_of entry = entry.0

-- ---- entries in order

put_keys : (k : List ℕ) (v : List (List ℕ)) (es : Entries) → map key_of (put (slice_cmp nat_cmp) k v es) ≡ insert_key (slice_cmp nat_cmp) (map key_of es) k
put_keys k v [] = refl
put_keys k v (e ∷ es) =
    elim (slice_cmp nat_cmp k e.0) as (λ r. map key_of (by_order r ((k, v) ∷ e ∷ es) ((e.0, v) ∷ es) (e ∷ put (slice_cmp nat_cmp) k v es)) ≡ match_ordering r (k ∷ e.0 ∷ map key_of es) (e.0 ∷ map key_of es) (e.0 ∷ insert_key (slice_cmp nat_cmp) (map key_of es) k)) [
      | Less ↦ refl
      | Equal ↦ refl
      | Greater ↦ ap (λ rest. e.0 ∷ rest) (put_keys k v es)
    ]

-- what a look-up among entries finds
abbrev found : Entries → List ℕ → List (List ℕ)
found es k = unwrap_or (find (slice_cmp nat_cmp) k es) []

first_holds : (a b : Bool) → T (a && b) → T a
first_holds true b p = tt
first_holds false b p = p

second_holds : (a b : Bool) → T (a && b) → T b
second_holds true b p = p
second_holds false b p = absurd p

is_less : (r : Ordering) → T (is_lt r) → r ≡ Less
is_less Less p = refl
is_less Equal p = absurd p
is_less Greater p = absurd p

is_equal : (r : Ordering) → is_eq r ≡ true → r ≡ Equal
is_equal Less e = let bad : false ≡ true = e in cc
is_equal Equal e = refl
is_equal Greater e = let bad : false ≡ true = e in cc

not_tied : (x y : List ℕ) → slice_cmp nat_cmp x y ≡ Less → is_eq (slice_cmp nat_cmp y x) ≡ false
not_tied x y less =
    by_test (is_eq (slice_cmp nat_cmp y x))
    (λ tied. not_less x y (sym (exact_bytes y x (is_equal _ tied))) less)
    (λ differs. differs)

still_found : (e : List ℕ × List (List ℕ)) (es rest : Entries) → T (below_all (slice_cmp nat_cmp) e.0 rest)
    → AllByRecursion (λ x. found es x.0 ≡ x.1) rest → AllByRecursion (λ x. found (e ∷ es) x.0 ≡ x.1) rest
still_found e es [] below are = tt
still_found e es (x ∷ rest) below are = (
  ap (λ b. unwrap_or (cond b (Some e.1) (find (slice_cmp nat_cmp) x.0 es)) []) (not_tied e.0 x.0 (is_less _ (first_holds _ _ below))) ∙ are.0,
  still_found e es rest (second_holds _ _ below) are.1,
)

each_found : (es : Entries) → T (is_sorted (slice_cmp nat_cmp) es) → AllByRecursion (λ x. found es x.0 ≡ x.1) es
each_found [] sorted = tt
each_found (e ∷ es) sorted = (
  ap (λ r. unwrap_or (cond (is_eq r) (Some e.1) (find (slice_cmp nat_cmp) e.0 es)) []) (tied_itself nat_list_cmp_total e.0),
  still_found e es es (first_holds _ _ sorted) (each_found es (second_holds _ _ sorted)),
)

by_look : (look : List ℕ → List (List ℕ)) (es : Entries) → AllByRecursion (λ x. look x.0 ≡ x.1) es → es ≡ map (λ k. (k, look k)) (map key_of es)
by_look look [] are = refl
by_look look (e ∷ es) are = ap₂ (λ v rest. (e.0, v) ∷ rest) (sym are.0) (by_look look es are.1)

-- ---- what is gathered

abbrev when : Bool → List ℕ → List (List ℕ)
when holds name = cond holds (name ∷ []) []

-- the licences so far are the keys of a map, and these are the names at each
record Holds (names : Entries) (licenses : List (List ℕ)) (at : List ℕ → List (List ℕ)) : Type 0 where
  sorted : T (is_sorted (slice_cmp nat_cmp) names)
  keys : map key_of names ≡ distinct_texts licenses
  each : (q : List ℕ) → names_at names q ≡ at q

has_other : (done : List (List ℕ)) (k q : List ℕ) → bytes_eq k q ≡ false → has_text (done ++ k ∷ []) q ≡ has_text done q
has_other [] k q differs = neither _ _ differs refl
has_other (x ∷ done) k q differs = ap (λ b. bytes_eq x q || b) (has_other done k q differs)

differ : (q k : List ℕ) → is_eq (slice_cmp nat_cmp q k) ≡ false → bytes_eq k q ≡ false
differ q k untied =
    by_test (bytes_eq k q)
    (λ same.
    let tied : slice_cmp nat_cmp q k ≡ Equal = subst (λ z. slice_cmp nat_cmp q z ≡ Equal) (sym (same_text k q same)) (tied_itself nat_list_cmp_total q) in
    let bad : true ≡ false = sym (ap is_eq tied) ∙ untied in
    cc)
    (λ differs. differs)

module _ (names : Entries) (licenses done : List (List ℕ)) (old : List ℕ → List (List ℕ)) (name k : List ℕ) (new : has_text done k ≡ false) (holds : Holds names licenses (λ q. old q ++ when (has_text done q) name)) where
  abbrev value : List (List ℕ)
  value = names_at names k ++ name ∷ []

  value_is : value ≡ old k ++ name ∷ []
  value_is =
      ap (λ texts. texts ++ name ∷ []) (holds.each k ∙ ap (λ b. old k ++ when b name) new ∙ append-nil (old k))

  at_it : (q : List ℕ) (b : Bool) → is_eq (slice_cmp nat_cmp q k) ≡ b → unwrap_or (cond b (Some value) (find (slice_cmp nat_cmp) q names)) [] ≡ old q ++ when (has_text (done ++ k ∷ []) q) name
  at_it q true tied =
      let is : q ≡ k = exact_bytes q k (is_equal _ tied) in
      value_is
      ∙ ap (λ b. old k ++ when b name) (sym (in_back done (k ∷ []) k (left_too _ _ (itself k))))
      ∙ ap (λ z. old z ++ when (has_text (done ++ k ∷ []) z) name) (sym is)
  at_it q false untied = holds.each q ∙ ap (λ b. old q ++ when b name) (sym (has_other done k q (differ q k untied)))

  one_name : Holds (with_name name names k) (licenses ++ k ∷ []) (λ q. old q ++ when (has_text (done ++ k ∷ []) q) name)
  one_name = record {
    sorted = is_sorted-put (slice_cmp nat_cmp) nat_list_cmp_total k value names holds.sorted;
    keys =
        put_keys k value names
        ∙ ap (λ texts. insert_key (slice_cmp nat_cmp) texts k) holds.keys
        ∙ sym (fold-append (insert_key (slice_cmp nat_cmp)) [] licenses (k ∷ []));
    each = λ q. ap (λ o. unwrap_or o []) (find-put (slice_cmp nat_cmp) nat_list_cmp_total q k value names) ∙ at_it q (is_eq (slice_cmp nat_cmp q k)) refl;
  }

among : (P : List ℕ → Type 0) (done : List (List ℕ)) (k : List ℕ) (rest : List (List ℕ)) → AllByRecursion P (done ++ k ∷ rest) → P k
among P [] k rest are = are.0
among P (x ∷ done) k rest are = among P done k rest are.1

not_yet : (done : List (List ℕ)) (k : List ℕ) (rest : List (List ℕ)) → AreRising (done ++ k ∷ rest) → has_text done k ≡ false
unfolding IsStrictlySortedBy
not_yet [] k rest rising = refl
not_yet (x ∷ done) k rest rising = neither _ _ (other_text x k (among (λ y. slice_cmp nat_cmp x y ≡ Less) done k rest rising.0)) (not_yet done k rest rising.1)

each_license : (name : List ℕ) (old : List ℕ → List (List ℕ)) (start rest done : List (List ℕ)) (names : Entries) → AreRising (done ++ rest)
    → Holds names (start ++ done) (λ q. old q ++ when (has_text done q) name)
    → Holds (fold (with_name name) names rest) (start ++ (done ++ rest)) (λ q. old q ++ when (has_text (done ++ rest) q) name)
each_license name old start [] done names rising holds =
    subst (λ texts. Holds names (start ++ texts) (λ q. old q ++ when (has_text texts q) name)) (sym (append-nil done)) holds
each_license name old start (k ∷ rest) done names rising holds =
    let same : (done ++ k ∷ []) ++ rest ≡ done ++ k ∷ rest = append_assoc done (k ∷ []) rest in
    subst (λ texts. Holds (fold (with_name name) (with_name name names k) rest) (start ++ texts) (λ q. old q ++ when (has_text texts q) name)) same
    (each_license name old start rest (done ++ k ∷ []) (with_name name names k) (subst AreRising (sym same) rising)
    (subst (λ texts. Holds (with_name name names k) texts (λ q. old q ++ when (has_text (done ++ k ∷ []) q) name)) (append_assoc start done (k ∷ []))
    (one_name names (start ++ done) done old name k (not_yet done k rest rising) holds)))

abbrev licenses_in : List ListedCrate → List (List ℕ)
licenses_in crates = flat_map (λ listed. listed.licenses) crates

name_when : (listed : ListedCrate) (b : Bool) → when b listed.name ≡ map (λ krate. krate.name) (cond b (listed ∷ []) [])
name_when listed true = refl
name_when listed false = refl

one_crate : (before : List ListedCrate) (listed : ListedCrate) (names : Entries) → AreRising listed.licenses → Holds names (licenses_in before) (λ q. names_under (Some q) before)
    → Holds (with_crate names listed) (licenses_in (before ++ listed ∷ [])) (λ q. names_under (Some q) (before ++ listed ∷ []))
one_crate before listed names rising holds =
    let more = each_license listed.name (λ q. names_under (Some q) before) (licenses_in before) listed.licenses [] names rising
    (record { sorted = holds.sorted; keys = holds.keys ∙ ap distinct_texts (sym (append-nil (licenses_in before))); each = λ q. holds.each q ∙ sym (append-nil (names_under (Some q) before)) }) in
    record {
      sorted = more.sorted;
      keys = more.keys ∙ ap distinct_texts (sym (flat_map-append (λ krate. krate.licenses) before (listed ∷ []) ∙ ap (λ texts. licenses_in before ++ texts) (append-nil listed.licenses)));
      each = λ q. more.each q ∙ ap (λ texts. names_under (Some q) before ++ texts) (name_when listed (has_text listed.licenses q)) ∙ sym (names_split (Some q) before (listed ∷ []));
    }

each_crate : (crates before : List ListedCrate) (names : Entries) → AllByRecursion (λ listed. AreRising listed.licenses) crates → Holds names (licenses_in before) (λ q. names_under (Some q) before)
    → Holds (fold with_crate names crates) (licenses_in (before ++ crates)) (λ q. names_under (Some q) (before ++ crates))
each_crate [] before names rising holds = subst (λ crates. Holds names (licenses_in crates) (λ q. names_under (Some q) crates)) (sym (append-nil before)) holds
each_crate (listed ∷ crates) before names rising holds =
    subst (λ all. Holds (fold with_crate (with_crate names listed) crates) (licenses_in all) (λ q. names_under (Some q) all)) (append_assoc before (listed ∷ []) crates)
    (each_crate crates (before ++ listed ∷ []) (with_crate names listed) rising.1 (one_crate before listed names rising.0 holds))

-- the entries that are gathered have all licences in order, each with the names of its crates
pub gathered : (crates : List ListedCrate) → All (λ listed. AreRising listed.licenses) crates → gathered_names crates ≡ names_by_license crates
gathered crates rising =
    let names = gathered_names crates in
    let holds = each_crate crates [] [] (recursion_from_All (λ listed. AreRising listed.licenses) crates rising) (record { sorted = tt; keys = refl; each = λ q. refl }) in
    by_look (found names) names (each_found names holds.sorted)
    ∙ ap (map (λ k. (k, found names k))) holds.keys
    ∙ (λ i. map (λ k. (k, holds.each k i)) (all_licenses crates))

-- ---- the map's own words

put_is : (k : List ℕ) (v : List (List ℕ)) (es : Entries) → insert_entry (slice_cmp nat_cmp) es k v ≡ put (slice_cmp nat_cmp) k v es
put_is k v [] = refl
put_is k v (e ∷ es) =
    elim (slice_cmp nat_cmp k e.0) as (λ r. match_ordering r ((k, v) ∷ e ∷ es) ((e.0, v) ∷ es) (e ∷ insert_entry (slice_cmp nat_cmp) es k v) ≡ by_order r ((k, v) ∷ e ∷ es) ((e.0, v) ∷ es) (e ∷ put (slice_cmp nat_cmp) k v es)) [
      | Less ↦ refl
      | Equal ↦ refl
      | Greater ↦ ap (λ rest. e ∷ rest) (put_is k v es)
    ]

find_is : (k : List ℕ) (es : Entries) → lookup (is_at (slice_cmp nat_cmp k)) es ≡ find (slice_cmp nat_cmp) k es
find_is k [] = refl
find_is k (e ∷ es) = ap (cond (is_eq (slice_cmp nat_cmp k e.0)) (Some e.1)) (find_is k es)

above_none : (k x : List ℕ) (es : Entries) → slice_cmp nat_cmp k x ≡ Less → AllByRecursion (λ y. slice_cmp nat_cmp x y ≡ Less) (map key_of es) → lookup (is_at (slice_cmp nat_cmp k)) es ≡ None
above_none k x [] less below = refl
above_none k x (e ∷ es) less below =
    ap (λ r. cond (is_eq r) (Some e.1) (lookup (is_at (slice_cmp nat_cmp k)) es)) (nat_list_cmp_total.trans k x e.0 less below.0) ∙ above_none k x es less below.1

no_Some : {G : Type 0} (old : List (List ℕ)) (o : Option (List (List ℕ))) → Some old ≡ o → o ≡ None → G
no_Some old o there none =
    let bad : true ≡ false = ap is_some (there ∙ none) in
    cc

set_is : (k : List ℕ) (old new : List (List ℕ)) (es : Entries) → IsStrictlySortedBy (slice_cmp nat_cmp) (map key_of es) → Some old ≡ lookup (is_at (slice_cmp nat_cmp k)) es
    → set_value (is_at (slice_cmp nat_cmp k)) es new ≡ put (slice_cmp nat_cmp) k new es
unfolding IsStrictlySortedBy
set_is k old new [] sorted there = no_Some old None there refl
set_is k old new (e ∷ es) sorted there =
    elim (slice_cmp nat_cmp k e.0) as (λ r. slice_cmp nat_cmp k e.0 ≡ r → Some old ≡ cond (is_eq r) (Some e.1) (lookup (is_at (slice_cmp nat_cmp k)) es)
    → cond (is_eq r) ((e.0, new) ∷ es) (e ∷ set_value (is_at (slice_cmp nat_cmp k)) es new) ≡ by_order r ((k, new) ∷ e ∷ es) ((e.0, new) ∷ es) (e ∷ put (slice_cmp nat_cmp) k new es)) [
      | Less ↦ λ is held. no_Some old (lookup (is_at (slice_cmp nat_cmp k)) es) held (above_none k e.0 es is sorted.0)
      | Equal ↦ λ is held. refl
      | Greater ↦ λ is held. ap (λ rest. e ∷ rest) (set_is k old new es sorted.1 held)
    ] refl there

-- a name more at a licence that the map has
pub name_added : (before after : Entries) (license name : List ℕ) (old new : List (List ℕ)) → IsStrictlySortedBy (slice_cmp nat_cmp) (map key_of before) → Some old ≡ lookup (is_at (slice_cmp nat_cmp license)) before
    → after ≡ set_value (is_at (slice_cmp nat_cmp license)) before new → new ≡ old ++ name ∷ [] → after ≡ with_name name before license
name_added before after license name old new sorted there writes is =
    writes
    ∙ set_is license old new before sorted there
    ∙ ap (λ names. put (slice_cmp nat_cmp) license names before)
    (is ∙ ap (λ (o : Option (List (List ℕ))). unwrap_or o [] ++ name ∷ []) (there ∙ find_is license before))

-- the first name
pub name_first : (before after : Entries) (license name : List ℕ) (new : List (List ℕ)) → unwrap_or (lookup (is_at (slice_cmp nat_cmp license)) before) [] ≡ [] → after ≡ insert_entry (slice_cmp nat_cmp) before license new → new ≡ name ∷ []
    → after ≡ with_name name before license
name_first before after license name new none inserts is =
    inserts
    ∙ put_is license new before
    ∙ ap (λ names. put (slice_cmp nat_cmp) license names before) (is ∙ ap (λ texts. texts ++ name ∷ []) (sym none ∙ ap (λ (o : Option (List (List ℕ))). unwrap_or o []) (find_is license before)))

-- ---- what is written of it

each_entry : {A B : Type 0} (f : List ℕ × List (List ℕ) → B) (g : A → List ℕ × List (List ℕ)) (xs : List A) → map (λ x. f (g x)) xs ≡ map f (map g xs)
each_entry f g [] = refl
each_entry f g (x ∷ xs) = ap (λ rest. f (g x) ∷ rest) (each_entry f g xs)

each_line : {A : Type 0} (f : List ℕ × List (List ℕ) → List ℕ) (g : A → List ℕ × List (List ℕ)) (xs : List A) → flat_map (λ x. f (g x)) xs ≡ flat_map f (map g xs)
each_line f g [] = refl
each_line f g (x ∷ xs) = ap (λ rest. f (g x) ++ rest) (each_line f g xs)

module _ (crates : List ListedCrate) (groups : List LicenseNames) (are : map entry_of groups ≡ names_by_license crates) where
  pub lines_are : flat_map (λ group. entry_line (entry_of group)) groups ≡ flat_map (license_line crates) (all_licenses crates)
  lines_are = each_line entry_line entry_of groups ∙ ap (flat_map entry_line) are ∙ sym (each_line entry_line (λ license. (license, names_under (Some license) crates)) (all_licenses crates))

  pub data_are : map (λ group. entry_data (entry_of group)) groups ≡ map (license_data crates) (all_licenses crates)
  data_are = each_entry entry_data entry_of groups ∙ ap (map entry_data) are ∙ sym (each_entry entry_data (λ license. (license, names_under (Some license) crates)) (all_licenses crates))
