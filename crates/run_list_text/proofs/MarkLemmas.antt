-- Columns that are marked by walking beside them.
use Rattle.std.proofs.Common.{◌≡◌, ◌∙◌, refl, sym, ap, ap₂, subst, ℕ, ◌+◌, ◌<◌, ◌≤◌, Bool, true, false, ◌||◌, List, [], ◌∷◌, ◌++◌, length, drop, get_or, All, nat_cmp, Ordering, Less, Equal, Greater, append_assoc, append-nil, drop_of_length-le}
use Rattle.std.specs.Ordering.{match_ordering}
use Rattle.std.specs.Cmp.{tied_itself}
use Rattle.std.specs.Cmp.Lexicographic.{slice_cmp, nat_list_cmp_total}
use Rattle.std.specs.BTreeSet.{insert_key}
use Rattle.std.specs.List.{AllByRecursion, flat_map, fold}
use Rattle.std.specs.List.Sorted.{IsStrictlySortedBy}
use Rattle.deny_text.specs.Fronts.{StandsInFront}
use Rattle.std.specs.Str.{bytes_eq}
use Rattle.std.proofs.lemmas.Map.Lookups.{exact_bytes}
use Rattle.std.proofs.lemmas.Slice.Eq.{bytes_eq-Decides}
use Rattle.std.proofs.lemmas.List.Elements.{All-from_recursion, recursion_from_All}
use Rattle.graph_core.specs.Krate.{has_text}
use Rattle.graph_core.specs.Metadata.{AreRising}
use Rattle.run_list_text.specs.declared.listed.ListedCrate.{ListedCrate}
use Rattle.run_list_text.specs.Listed.{all_licenses}
use Rattle.run_list_text.specs.Listing.{mark_if, marks}
use Rattle.run_list_text.specs.Marks.{HasColumns, is_next, rest_if, column_marks}
use Rattle.run_list_text.proofs.ListLemmas.{item_first}

-- what is in front stays there
pub front_then : {A : Type 0} (first second third : List A) → StandsInFront first second → StandsInFront second third → StandsInFront first third
front_then first second third (more, is) (others, grown) = (more ++ others, grown ∙ ap (λ items. items ++ others) is ∙ append_assoc first more others)

-- four pieces, one behind the other
pub four_pieces : {A : Type 0} (out one two three four first second third : List A) → first ≡ out ++ one → second ≡ first ++ two → third ≡ second ++ three
    → third ++ four ≡ out ++ (one ++ (two ++ (three ++ four)))
four_pieces out one two three four first second third a b c =
    ap (λ items. items ++ four) (c ∙ ap (λ items. items ++ three) (b ∙ ap (λ items. items ++ two) a))
    ∙ append_assoc (out ++ one ++ two) three four ∙ append_assoc (out ++ one) two (three ++ four) ∙ append_assoc out one (two ++ (three ++ four))

-- ---- tests

right_too : (a b : Bool) → b ≡ true → (a || b) ≡ true
right_too true b e = refl
right_too false b e = e

pub left_too : (a b : Bool) → a ≡ true → (a || b) ≡ true
left_too true b e = refl
left_too false b e = let bad : false ≡ true = e in cc

other_one : (a b : Bool) → a ≡ false → (a || b) ≡ true → b ≡ true
other_one true b first e = let bad : true ≡ false = first in cc
other_one false b first e = e

pub neither : (a b : Bool) → a ≡ false → b ≡ false → (a || b) ≡ false
neither true b first none = first
neither false b first none = none

pub by_test : {G : Type 0} (b : Bool) → (b ≡ true → G) → (b ≡ false → G) → G
by_test true holds differs = holds refl
by_test false holds differs = differs refl

pub same_text : (x y : List ℕ) → bytes_eq x y ≡ true → x ≡ y
same_text x y e = (bytes_eq-Decides x y).0 e

pub itself : (x : List ℕ) → bytes_eq x x ≡ true
itself x = (bytes_eq-Decides x x).1 refl

pub not_less : {G : Type 0} (x y : List ℕ) → x ≡ y → slice_cmp nat_cmp x y ≡ Less → G
not_less x y e less =
    let tied : slice_cmp nat_cmp x x ≡ Equal = tied_itself nat_list_cmp_total x in
    let same : slice_cmp nat_cmp x x ≡ Less = subst (λ z. slice_cmp nat_cmp x z ≡ Less) (sym e) less in
    let bad : Equal ≡ Less = sym tied ∙ same in
    cc

-- a text that is less is another
pub other_text : (x y : List ℕ) → slice_cmp nat_cmp x y ≡ Less → bytes_eq x y ≡ false
other_text x y less = by_test (bytes_eq x y) (λ same. not_less x y (same_text x y same) less) (λ differs. differs)

greater_text : (x y : List ℕ) → slice_cmp nat_cmp x y ≡ Less → bytes_eq y x ≡ false
greater_text x y less = by_test (bytes_eq y x) (λ same. not_less x y (sym (same_text y x same)) less) (λ differs. differs)

less_than_both : (x y z : List ℕ) → slice_cmp nat_cmp x y ≡ Less → slice_cmp nat_cmp y z ≡ Less → slice_cmp nat_cmp x z ≡ Less
less_than_both x y z = nat_list_cmp_total.trans x y z

-- ---- the walk

-- a licence that is in front of all columns marks none of them
marks_skip : (columns : List (List ℕ)) (license : List ℕ) (licenses : List (List ℕ)) → AllByRecursion (λ column. slice_cmp nat_cmp license column ≡ Less) columns → marks columns (license ∷ licenses) ≡ marks columns licenses
marks_skip [] license licenses less = refl
marks_skip (column ∷ columns) license licenses less =
    ap₂ (λ hit rest. mark_if (hit || has_text licenses column) ++ rest) (other_text license column less.0) (marks_skip columns license licenses less.1)

-- licences that are behind a column lack it
lacks : (licenses : List (List ℕ)) (column : List ℕ) → AllByRecursion (λ license. slice_cmp nat_cmp column license ≡ Less) licenses → has_text licenses column ≡ false
lacks [] column behind = refl
lacks (license ∷ licenses) column behind = neither _ _ (greater_text column license behind.0) (lacks licenses column behind.1)

-- those behind a column are among the other columns
among_rest : (licenses : List (List ℕ)) (column : List ℕ) (columns : List (List ℕ)) → AllByRecursion (λ license. slice_cmp nat_cmp column license ≡ Less) licenses
    → AllByRecursion (λ license. has_text (column ∷ columns) license ≡ true) licenses → AllByRecursion (λ license. has_text columns license ≡ true) licenses
among_rest [] column columns behind among = tt
among_rest (license ∷ licenses) column columns behind among =
    (other_one _ _ (other_text column license behind.0) among.0, among_rest licenses column columns behind.1 among.1)

-- what is behind a text is behind what is less
all_behind : (x y : List ℕ) (texts : List (List ℕ)) → slice_cmp nat_cmp x y ≡ Less → AllByRecursion (λ z. slice_cmp nat_cmp y z ≡ Less) texts → AllByRecursion (λ z. slice_cmp nat_cmp x z ≡ Less) texts
all_behind x y [] less behind = tt
all_behind x y (z ∷ texts) less behind = (less_than_both x y z less behind.0, all_behind x y texts less behind.1)

-- a text among those behind another is greater
behind_it : (columns : List (List ℕ)) (column license : List ℕ) → AllByRecursion (λ z. slice_cmp nat_cmp column z ≡ Less) columns → has_text columns license ≡ true → slice_cmp nat_cmp column license ≡ Less
behind_it [] column license behind has = let bad : false ≡ true = has in cc
behind_it (next ∷ columns) column license behind has =
    by_test (bytes_eq next license)
    (λ same. subst (λ z. slice_cmp nat_cmp column z ≡ Less) (same_text next license same) behind.0)
    (λ differs. behind_it columns column license behind.1 (other_one _ _ differs has))

step : (license column : List ℕ) (licenses columns : List (List ℕ)) → (b : Bool) → bytes_eq license column ≡ b
    → (b ≡ true → column_marks columns licenses ≡ marks columns (license ∷ licenses))
    → (b ≡ false → (has_text licenses column ≡ false) × (column_marks columns (license ∷ licenses) ≡ marks columns (license ∷ licenses)))
    → mark_if b ++ column_marks columns (rest_if b (license ∷ licenses)) ≡ mark_if (b || has_text licenses column) ++ marks columns (license ∷ licenses)
step license column licenses columns true is hit miss = ap (λ rest. mark_if true ++ rest) (hit refl)
step license column licenses columns false is hit miss =
    let both = miss refl in
    ap₂ (λ has rest. mark_if has ++ rest) (sym both.0) both.1

pub walked_marks : (columns licenses : List (List ℕ)) → AreRising columns → AreRising licenses → AllByRecursion (λ license. has_text columns license ≡ true) licenses → column_marks columns licenses ≡ marks columns licenses
unfolding IsStrictlySortedBy
walked_marks [] licenses rising ordered among = refl
walked_marks (column ∷ columns) [] rising ordered among = ap (λ rest. mark_if false ++ rest) (walked_marks columns [] rising.1 tt tt)
walked_marks (column ∷ columns) (license ∷ licenses) rising ordered among =
    step license column licenses columns (bytes_eq license column) refl
    (λ same.
    let is : license ≡ column = same_text license column same in
    let behind : AllByRecursion (λ z. slice_cmp nat_cmp column z ≡ Less) licenses = subst (λ x. AllByRecursion (λ z. slice_cmp nat_cmp x z ≡ Less) licenses) is ordered.0 in
    let front : AllByRecursion (λ z. slice_cmp nat_cmp license z ≡ Less) columns = subst (λ x. AllByRecursion (λ z. slice_cmp nat_cmp x z ≡ Less) columns) (sym is) rising.0 in
    walked_marks columns licenses rising.1 ordered.1 (among_rest licenses column columns behind among.1)
    ∙ sym (marks_skip columns license licenses front))
    (λ differs.
    let not_column : bytes_eq column license ≡ false = by_test (bytes_eq column license) (λ same. let bad : true ≡ false = sym (subst (λ z. bytes_eq license z ≡ true) (sym (same_text column license same)) (itself license)) ∙ differs in cc) (λ no. no) in
    let later : has_text columns license ≡ true = other_one _ _ not_column among.0 in
    let less : slice_cmp nat_cmp column license ≡ Less = behind_it columns column license rising.0 later in
    let behind : AllByRecursion (λ z. slice_cmp nat_cmp column z ≡ Less) licenses = all_behind column license licenses less ordered.0 in
    (lacks licenses column behind, walked_marks columns (license ∷ licenses) rising.1 ordered (later, among_rest licenses column columns behind among.1)))

-- ---- each licence of a crate has its column

kept_by_insert : (texts : List (List ℕ)) (k q : List ℕ) → has_text texts q ≡ true → has_text (insert_key (slice_cmp nat_cmp) texts k) q ≡ true
kept_by_insert [] k q has = let bad : false ≡ true = has in cc
kept_by_insert (x ∷ texts) k q has = by (slice_cmp nat_cmp k x) (by_test (bytes_eq x q) (λ same. left_too _ _ same) (λ differs. right_too (bytes_eq x q) _ (kept_by_insert texts k q (other_one _ _ differs has))))
  where
    by : (r : Ordering) → has_text (x ∷ insert_key (slice_cmp nat_cmp) texts k) q ≡ true → has_text (match_ordering r (k ∷ x ∷ texts) (x ∷ texts) (x ∷ insert_key (slice_cmp nat_cmp) texts k)) q ≡ true
    by Less later = right_too (bytes_eq k q) _ has
    by Equal later = has
    by Greater later = later

new_by_insert : (texts : List (List ℕ)) (k : List ℕ) → has_text (insert_key (slice_cmp nat_cmp) texts k) k ≡ true
new_by_insert [] k = left_too _ _ (itself k)
new_by_insert (x ∷ texts) k = by (slice_cmp nat_cmp k x) refl (new_by_insert texts k)
  where
    by : (r : Ordering) → slice_cmp nat_cmp k x ≡ r → has_text (insert_key (slice_cmp nat_cmp) texts k) k ≡ true → has_text (match_ordering r (k ∷ x ∷ texts) (x ∷ texts) (x ∷ insert_key (slice_cmp nat_cmp) texts k)) k ≡ true
    by Less is later = left_too _ _ (itself k)
    by Equal is later = left_too _ _ (subst (λ z. bytes_eq z k ≡ true) (exact_bytes k x is) (itself k))
    by Greater is later = right_too (bytes_eq x k) _ later

kept_by_all : (texts start : List (List ℕ)) (q : List ℕ) → has_text start q ≡ true → has_text (fold (insert_key (slice_cmp nat_cmp)) start texts) q ≡ true
kept_by_all [] start q has = has
kept_by_all (text ∷ texts) start q has = kept_by_all texts (insert_key (slice_cmp nat_cmp) start text) q (kept_by_insert start text q has)

new_by_all : (texts start : List (List ℕ)) (q : List ℕ) → has_text texts q ≡ true → has_text (fold (insert_key (slice_cmp nat_cmp)) start texts) q ≡ true
new_by_all [] start q has = let bad : false ≡ true = has in cc
new_by_all (text ∷ texts) start q has =
    by_test (bytes_eq text q)
    (λ same. kept_by_all texts (insert_key (slice_cmp nat_cmp) start text) q (subst (λ z. has_text (insert_key (slice_cmp nat_cmp) start text) z ≡ true) (same_text text q same) (new_by_insert start text)))
    (λ differs. new_by_all texts (insert_key (slice_cmp nat_cmp) start text) q (other_one _ _ differs has))

in_front : (texts more : List (List ℕ)) (q : List ℕ) → has_text texts q ≡ true → has_text (texts ++ more) q ≡ true
in_front [] more q has = let bad : false ≡ true = has in cc
in_front (text ∷ texts) more q has =
    by_test (bytes_eq text q) (λ same. left_too _ _ same) (λ differs. right_too (bytes_eq text q) _ (in_front texts more q (other_one _ _ differs has)))

pub in_back : (texts more : List (List ℕ)) (q : List ℕ) → has_text more q ≡ true → has_text (texts ++ more) q ≡ true
in_back [] more q has = has
in_back (text ∷ texts) more q has = right_too (bytes_eq text q) _ (in_back texts more q has)

each_among : (columns texts : List (List ℕ)) → ((q : List ℕ) → has_text texts q ≡ true → has_text columns q ≡ true) → AllByRecursion (λ q. has_text columns q ≡ true) texts
each_among columns [] are = tt
each_among columns (text ∷ texts) are =
    (are text (left_too _ _ (itself text)), each_among columns texts (λ q has. are q (right_too (bytes_eq text q) _ has)))

each_has_columns : (columns : List (List ℕ)) (crates : List ListedCrate) → AreRising columns
    → ((q : List ℕ) → has_text (flat_map (λ listed. listed.licenses) crates) q ≡ true → has_text columns q ≡ true)
    → AllByRecursion (λ listed. AreRising listed.licenses) crates → AllByRecursion (λ listed. HasColumns columns listed.licenses) crates
each_has_columns columns [] rising are ordered = tt
each_has_columns columns (listed ∷ crates) rising are ordered = (
  record {
    columns_ordered = rising;
    licenses_ordered = ordered.0;
    among = each_among columns listed.licenses (λ q has. are q (in_front listed.licenses (flat_map (λ other. other.licenses) crates) q has));
  },
  each_has_columns columns crates rising (λ q has. are q (in_back listed.licenses (flat_map (λ other. other.licenses) crates) q has)) ordered.1,
)

-- the licences of all crates are columns for each of them
pub all_have_columns : (crates : List ListedCrate) → AreRising (all_licenses crates) → All (λ listed. AreRising listed.licenses) crates → All (λ listed. HasColumns (all_licenses crates) listed.licenses) crates
all_have_columns crates rising ordered =
    All-from_recursion (λ listed. HasColumns (all_licenses crates) listed.licenses) crates
    (each_has_columns (all_licenses crates) crates rising (λ q has. new_by_all (flat_map (λ listed. listed.licenses) crates) [] q has)
    (recursion_from_All (λ listed. AreRising listed.licenses) crates ordered))

-- ---- the columns one by one

-- one column more was walked past
pub walk_step : (columns : List (List ℕ)) (i : ℕ) (column : List ℕ) → i < length columns → column ≡ get_or columns i column
    → (rest : List (List ℕ)) (before after : List ℕ) (is_marked : Bool) (left : List (List ℕ)) → is_marked ≡ is_next rest column → after ≡ before ++ mark_if is_marked → left ≡ rest_if is_marked rest
    → (whole : List ℕ) → before ++ column_marks (drop i columns) rest ≡ whole → after ++ column_marks (drop (i + 1) columns) left ≡ whole
walk_step columns i column within at rest before after is_marked left marked adds used whole is =
    ap₂ (λ text others. text ++ column_marks (drop (i + 1) columns) others) (adds ∙ ap (λ m. before ++ mark_if m) marked) (used ∙ ap (λ m. rest_if m rest) marked)
    ∙ append_assoc before (mark_if (is_next rest column)) (column_marks (drop (i + 1) columns) (rest_if (is_next rest column) rest))
    ∙ ap (λ cs. before ++ column_marks cs rest) (sym (item_first columns i column within at))
    ∙ is

-- all columns were walked past
pub walk_end : (columns licenses : List (List ℕ)) → HasColumns columns licenses → (i : ℕ) → length columns ≤ i → (rest : List (List ℕ)) (start text : List ℕ)
    → text ++ column_marks (drop i columns) rest ≡ start ++ column_marks columns licenses → text ≡ start ++ marks columns licenses
walk_end columns licenses has i end rest start text is =
    sym (append-nil text)
    ∙ ap (λ cs. text ++ column_marks cs rest) (sym (drop_of_length-le columns end))
    ∙ is
    ∙ ap (λ marked. start ++ marked) (walked_marks columns licenses has.columns_ordered has.licenses_ordered has.among)
