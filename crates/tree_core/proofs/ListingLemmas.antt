-- What is right in a folder, and that its names rise.
use Rattle.std.proofs.Common.{◌≡◌, ◌≢◌, ℕ, Bool, true, false, cond, T, List, [], ◌∷◌, ◌++◌, map, Option, Some, None, refl, sym, ap, ◌∙◌, subst, append_assoc, append-nil, ◌&&◌}
use Rattle.std.specs.Ordering.{nat_cmp, is_lt, is_le, is_gt, ordering_reverse}
use Rattle.std.specs.declared.cmp.Ordering.{Ordering}
use Rattle.std.specs.declared.cmp.Ordering.TheVariants.{Less, Equal, Greater}
use Rattle.std.specs.BTreeMap.Range.{range_contains, entries_between}
use Rattle.std.specs.declared.ops.Bound.TheVariants.{Included, Excluded}
use Rattle.std.specs.Cmp.Lexicographic.{slice_cmp}
use Rattle.std.specs.List.{filter_map, cons_option, AllByRecursion}
use Rattle.std.specs.List.Sorted.{IsStrictlySortedBy, IsSorted}
use Rattle.std.specs.Option.{option_to_list}
use Rattle.std.specs.Str.{bytes_eq}
use Rattle.std.specs.FinMap as finite
use Rattle.std.specs.FinMap.{entries-from_sorted}
use Rattle.std.specs.FinMap.Entries.{below_all}
use Rattle.std.proofs.lemmas.Slice.Eq.{bytes_eq-Decides}
use Rattle.tree_core.specs.Answer.{listed_entry, IsInNameOrder}
use Rattle.tree_core.specs.Content.{Place, TreeNode, ListedEntry, folder, is_file, place_cmp, place_cmp_total, entry_in, entries_in}
use Rattle.tree_core.specs.SystemNames.{system_names}
use Rattle.tree_core.specs.Stored.{node_of, entry_of, with_root, content_of}
use Rattle.tree_core.specs.declared.nodes.StoredNode.{StoredNode}
use Rattle.tree_core.specs.declared.tree.Entry.{Entry}
use Rattle.tree_core.proofs.PlaceLemmas.{place_cmp-siblings, place_cmp-within}
use Rattle.tree_core.proofs.NameOrderLemmas.{IsInNameOrder-names_of, IsSorted-strictly}

bytes_eq-itself : (xs : List ℕ) → bytes_eq xs xs ≡ true
bytes_eq-itself xs = (bytes_eq-Decides xs xs).1 refl

pub entry_in-there : (above : Place) (name : List ℕ) (node : TreeNode) → entry_in above (above ++ name ∷ []) node ≡ Some (name, is_file node)
entry_in-there [] name node = refl
entry_in-there (at ∷ above) name node = rw (bytes_eq-itself at) (entry_in-there above name node)

-- only what is right in a folder is an entry of it
pub entry_in-is : (above place : Place) (node : TreeNode) (entry : ListedEntry) → entry_in above place node ≡ Some entry → place ≡ above ++ entry.0 ∷ []
entry_in-is [] [] node entry e = cc
entry_in-is [] (name ∷ []) node entry e = let same : (name, is_file node) ≡ entry = cc in ap (λ (l : ListedEntry). l.0 ∷ []) same
entry_in-is [] (name ∷ below ∷ rest) node entry e = cc
entry_in-is (at ∷ above) [] node entry e = cc
entry_in-is (at ∷ above) (name ∷ rest) node entry e =
    elim (bytes_eq at name) as (λ b. bytes_eq at name ≡ b → cond b (entry_in above rest node) None ≡ Some entry → name ∷ rest ≡ at ∷ (above ++ entry.0 ∷ [])) [
      | true ↦ λ same there.
          let name_is : at ≡ name = (bytes_eq-Decides at name).0 same in
          let rest_is : rest ≡ above ++ entry.0 ∷ [] = entry_in-is above rest node entry there in cc
      | false ↦ λ _ there. cc
    ] refl e

pub entry_in-elsewhere : (above place : Place) (node : TreeNode) → ((name : List ℕ) → place ≢ above ++ name ∷ []) → entry_in above place node ≡ None
entry_in-elsewhere above place node nowhere =
    elim (entry_in above place node) as (λ (o : Option ListedEntry). entry_in above place node ≡ o → entry_in above place node ≡ None) [
      | None ↦ λ e. e
      | Some entry ↦ λ e. absurd (nowhere entry.0 (entry_in-is above place node entry e))
    ] refl

-- one more item of a list that is filtered
pub filter_map-step : {X Y : Type 0} (f : X → Option Y) (done : List Y) (x : X) (rest : List X) → (done ++ option_to_list (f x)) ++ filter_map f rest ≡ done ++ filter_map f (x ∷ rest)
filter_map-step f done x rest =
    elim (f x) as (λ o. (done ++ option_to_list o) ++ filter_map f rest ≡ done ++ cons_option o (filter_map f rest)) [
      | None ↦ ap (λ front. front ++ filter_map f rest) (append-nil done)
      | Some y ↦ append_assoc done (y ∷ []) (filter_map f rest)
    ]

-- the entries of a folder, among those of the tree
abbrev pub listing_of : Place → List (Place × StoredNode) → List ListedEntry
listing_of above entries = filter_map (λ e. entry_in above e.0 e.1) (map entry_of entries)

-- what is right in the folder comes from its least possible entry on, and before the least possible entry of the folder
-- with the least name in it
abbrev pub least_in : Place → Place
least_in place = place ++ [] ∷ []

from_empty : (name : List ℕ) → is_le (slice_cmp nat_cmp [] name) ≡ true
from_empty [] = refl
from_empty (byte ∷ name) = refl

pub least_in-is_forward : (above : Place) → is_gt (place_cmp (least_in above) (least_in (least_in above))) ≡ false
least_in-is_forward above = ap is_gt (place_cmp_total.antisymm (least_in above) (least_in (least_in above)) ∙ ap ordering_reverse (place_cmp-within above [] [] []))

pub contains-child : (above : Place) (name : List ℕ) → range_contains place_cmp (Included (least_in above)) (Excluded (least_in (least_in above))) (above ++ name ∷ []) ≡ true
contains-child above name = rw (place_cmp-siblings above [] name, from_empty name, place_cmp-within above [] [] name) refl

-- so a folder's entries are a run of the tree's
pub listing_of-between : (above : Place) (entries : List (Place × StoredNode)) → listing_of above (entries_between place_cmp (Included (least_in above)) (Excluded (least_in (least_in above))) entries) ≡ listing_of above entries
listing_of-between above [] = refl
listing_of-between above (e ∷ es) =
    elim (range_contains place_cmp (Included (least_in above)) (Excluded (least_in (least_in above))) e.0) as (λ b. range_contains place_cmp (Included (least_in above)) (Excluded (least_in (least_in above))) e.0 ≡ b
    → listing_of above (cond b (e ∷ entries_between place_cmp (Included (least_in above)) (Excluded (least_in (least_in above))) es) (entries_between place_cmp (Included (least_in above)) (Excluded (least_in (least_in above))) es)) ≡ listing_of above (e ∷ es)) [
      | true ↦ λ _. ap (cons_option (entry_in above e.0 (node_of e.1))) (listing_of-between above es)
      | false ↦ λ apart.
          let none : entry_in above e.0 (node_of e.1) ≡ None = entry_in-elsewhere above e.0 (node_of e.1) (λ name is.
          let inside = contains-child above name in
          let outside : range_contains place_cmp (Included (least_in above)) (Excluded (least_in (least_in above))) (above ++ name ∷ []) ≡ false = subst (λ (p : Place). range_contains place_cmp (Included (least_in above)) (Excluded (least_in (least_in above))) p ≡ false) is apart in cc) in
          listing_of-between above es ∙ ap (λ o. cons_option o (listing_of above es)) (sym none)
    ] refl

root_nowhere : (above : Place) (node : TreeNode) (rest : List ListedEntry) → cons_option (entry_in above [] node) rest ≡ rest
root_nowhere [] node rest = refl
root_nowhere (at ∷ above) node rest = refl

pub entries_in-content_of : (above : Place) (entries : List (Place × StoredNode)) → T (finite.is_sorted place_cmp (with_root entries)) → entries_in (content_of entries) above ≡ listing_of above entries
entries_in-content_of above entries ordered =
    ap (filter_map (λ e. entry_in above e.0 e.1)) (entries-from_sorted place_cmp (with_root entries) ordered) ∙ root_nowhere above folder (listing_of above entries)

is_lt_less : (o : Ordering) → T (is_lt o) → o ≡ Less
is_lt_less Less t = refl
is_lt_less Equal t = absurd t
is_lt_less Greater t = absurd t

first_part : (a b : Bool) → T (a && b) → T a
first_part true b t = tt
first_part false b t = absurd t

second_part : (a b : Bool) → T (a && b) → T b
second_part true b t = t
second_part false b t = absurd t

names_above : (above : Place) (name : List ℕ) (entries : List (Place × TreeNode)) → T (below_all place_cmp (above ++ name ∷ []) entries) → AllByRecursion (λ other. slice_cmp nat_cmp name other ≡ Less) (map (λ (l : ListedEntry). l.0) (filter_map (λ e. entry_in above e.0 e.1) entries))
names_above above name [] below = tt
names_above above name (e ∷ es) below =
    let rest = names_above above name es (second_part _ _ below) in
    elim (entry_in above e.0 e.1) as (λ (o : Option ListedEntry). entry_in above e.0 e.1 ≡ o → AllByRecursion (λ other. slice_cmp nat_cmp name other ≡ Less) (map (λ (l : ListedEntry). l.0) (cons_option o (filter_map (λ e. entry_in above e.0 e.1) es)))) [
      | None ↦ λ _. rest
      | Some entry ↦ λ there.
          let here : place_cmp (above ++ name ∷ []) e.0 ≡ Less = is_lt_less _ (first_part _ _ below) in
          let is : e.0 ≡ above ++ entry.0 ∷ [] = entry_in-is above e.0 e.1 entry there in
          let less : slice_cmp nat_cmp name entry.0 ≡ Less = sym (place_cmp-siblings above name entry.0) ∙ ap (place_cmp (above ++ name ∷ [])) (sym is) ∙ here in
          (less, rest)
    ] refl

names_rise : (above : Place) (entries : List (Place × TreeNode)) → T (finite.is_sorted place_cmp entries) → IsStrictlySortedBy (slice_cmp nat_cmp) (map (λ (l : ListedEntry). l.0) (filter_map (λ e. entry_in above e.0 e.1) entries))
unfolding IsStrictlySortedBy
names_rise above [] ordered = tt
names_rise above (e ∷ es) ordered =
    let rest = names_rise above es (second_part _ _ ordered) in
    elim (entry_in above e.0 e.1) as (λ (o : Option ListedEntry). entry_in above e.0 e.1 ≡ o → IsStrictlySortedBy (slice_cmp nat_cmp) (map (λ (l : ListedEntry). l.0) (cons_option o (filter_map (λ e. entry_in above e.0 e.1) es)))) [
      | None ↦ λ _. rest
      | Some entry ↦ λ there.
          let is : e.0 ≡ above ++ entry.0 ∷ [] = entry_in-is above e.0 e.1 entry there in
          (names_above above entry.0 es (subst (λ (p : Place). T (below_all place_cmp p es)) is (first_part _ _ ordered)), rest)
    ] refl

names_of_listed : (entries : List Entry) → map (λ (l : ListedEntry). l.0) (map listed_entry entries) ≡ system_names entries
names_of_listed [] = refl
names_of_listed (e ∷ es) = ap (λ rest. e.name ∷ rest) (names_of_listed es)

pub IsInNameOrder-listing_of : (above : Place) (stored : List (Place × StoredNode)) (entries : List Entry) → T (finite.is_sorted place_cmp (with_root stored)) → map listed_entry entries ≡ listing_of above stored → IsInNameOrder entries
IsInNameOrder-listing_of above stored entries ordered is =
    let names_are : map (λ (l : ListedEntry). l.0) (listing_of above stored) ≡ system_names entries = ap (map (λ (l : ListedEntry). l.0)) (sym is) ∙ names_of_listed entries in
    let rise : IsStrictlySortedBy (slice_cmp nat_cmp) (map (λ (l : ListedEntry). l.0) (listing_of above stored)) = names_rise above (map entry_of stored) (second_part _ _ ordered) in
    IsInNameOrder-names_of entries (subst (λ (ns : List (List ℕ)). IsSorted (slice_cmp nat_cmp) ns) names_are (IsSorted-strictly _ rise))

pub map_listed-push : (entries : List Entry) (entry : Entry) → map listed_entry (entries ++ entry ∷ []) ≡ map listed_entry entries ++ listed_entry entry ∷ []
map_listed-push [] entry = refl
map_listed-push (e ∷ es) entry = ap (λ rest. listed_entry e ∷ rest) (map_listed-push es entry)
