-- The entries of a tree in memory against the content that it tells.
use Rattle.std.proofs.Common.{◌≡◌, ◌≢◌, true, false, cond, T, List, [], ◌∷◌, map, Some, None, refl, sym, ap, ◌∙◌, subst}
use Rattle.std.specs.Ordering.{is_eq, match_ordering}
use Rattle.std.specs.declared.cmp.Ordering.TheVariants.{Less, Equal, Greater}
use Rattle.std.specs.Option.{option_map}
use Rattle.std.specs.Map.{lookup, remove_entry}
use Rattle.std.specs.BTreeMap.{insert_entry, is_at}
use Rattle.std.specs.FinMap as map
use Rattle.std.specs.FinMap.{get-from_sorted, entries-from_sorted, entries-insert, entries_sorted, same_entries_map, put}
use Rattle.std.specs.FinMap.Entries.{by_order}
use Rattle.tree_core.specs.Content.{Place, TreeNode, folder, place_cmp, place_cmp_total}
use Rattle.tree_core.specs.Stored.{node_of, entry_of, with_root, content_of, stored_at}
use Rattle.tree_core.specs.declared.nodes.StoredNode.{StoredNode}
use Rattle.tree_core.proofs.PlaceLemmas.{place_ties_itself, place_cmp-root}

-- a look-up among the entries
find-entry_of : (place : Place) (entries : List (Place × StoredNode)) → map.find place_cmp place (map entry_of entries) ≡ option_map node_of (lookup (is_at (place_cmp place)) entries)
find-entry_of place [] = refl
find-entry_of place (e ∷ es) =
    elim (is_eq (place_cmp place e.0)) as (λ b. cond b (Some (node_of e.1)) (map.find place_cmp place (map entry_of es)) ≡ option_map node_of (cond b (Some e.1) (lookup (is_at (place_cmp place)) es))) [ true ↦ refl | false ↦ find-entry_of place es ]

pub stored_at-lookup : (entries : List (Place × StoredNode)) (place : Place) → place ≢ [] → stored_at entries place ≡ option_map node_of (lookup (is_at (place_cmp place)) entries)
stored_at-lookup entries [] ne = absurd (ne refl)
stored_at-lookup entries (name ∷ names) ne = rw (place_cmp-root name names) (find-entry_of (name ∷ names) entries)

pub stored_at-root : (entries : List (Place × StoredNode)) (place : Place) → place ≡ [] → stored_at entries place ≡ Some folder
stored_at-root entries place e = rw e refl

pub get-content_of : (entries : List (Place × StoredNode)) (place : Place) → T (map.is_sorted place_cmp (with_root entries)) → map.get (content_of entries) place ≡ stored_at entries place
get-content_of entries place ordered = get-from_sorted place_cmp (with_root entries) place ordered

put-insert_entry : (place : Place) (stored : StoredNode) (entries : List (Place × StoredNode)) → map entry_of (insert_entry place_cmp entries place stored) ≡ put place_cmp place (node_of stored) (map entry_of entries)
put-insert_entry place stored [] = refl
put-insert_entry place stored (e ∷ es) =
    elim (place_cmp place e.0) as (λ o. map entry_of (match_ordering o ((place, stored) ∷ e ∷ es) ((e.0, stored) ∷ es) (e ∷ insert_entry place_cmp es place stored)) ≡ by_order o ((place, node_of stored) ∷ entry_of e ∷ map entry_of es) ((e.0, node_of stored) ∷ map entry_of es) (entry_of e ∷ put place_cmp place (node_of stored) (map entry_of es))) [
      | Less ↦ refl
      | Equal ↦ refl
      | Greater ↦ ap (λ rest. entry_of e ∷ rest) (put-insert_entry place stored es)
    ]

-- an entry goes below the root
with_root-insert_entry : (place : Place) (stored : StoredNode) (entries : List (Place × StoredNode)) → place ≢ [] → with_root (insert_entry place_cmp entries place stored) ≡ put place_cmp place (node_of stored) (with_root entries)
with_root-insert_entry [] stored entries ne = absurd (ne refl)
with_root-insert_entry (name ∷ names) stored entries ne = rw (place_cmp-root name names) (ap (λ rest. ([], folder) ∷ rest) (put-insert_entry (name ∷ names) stored entries))

-- the entries after an insert are those of the content after it
inserted : (place : Place) (stored : StoredNode) (entries : List (Place × StoredNode)) → place ≢ [] → T (map.is_sorted place_cmp (with_root entries)) → with_root (insert_entry place_cmp entries place stored) ≡ map.entries (map.insert (content_of entries) place (node_of stored))
inserted place stored entries ne ordered =
    with_root-insert_entry place stored entries ne
    ∙ ap (put place_cmp place (node_of stored)) (sym (entries-from_sorted place_cmp (with_root entries) ordered))
    ∙ sym (entries-insert place_cmp_total (content_of entries) place (node_of stored))

pub ordered-insert_entry : (place : Place) (stored : StoredNode) (entries : List (Place × StoredNode)) → place ≢ [] → T (map.is_sorted place_cmp (with_root entries)) → T (map.is_sorted place_cmp (with_root (insert_entry place_cmp entries place stored)))
ordered-insert_entry place stored entries ne ordered =
    subst (λ (es : List (Place × TreeNode)). T (map.is_sorted place_cmp es)) (sym (inserted place stored entries ne ordered)) (entries_sorted (map.insert (content_of entries) place (node_of stored)))

pub content_of-insert_entry : (place : Place) (stored : StoredNode) (entries : List (Place × StoredNode)) → place ≢ [] → T (map.is_sorted place_cmp (with_root entries)) → content_of (insert_entry place_cmp entries place stored) ≡ map.insert (content_of entries) place (node_of stored)
content_of-insert_entry place stored entries ne ordered =
    same_entries_map _ _ (entries-from_sorted place_cmp _ (ordered-insert_entry place stored entries ne ordered) ∙ inserted place stored entries ne ordered)

-- what was new goes away again
pub remove_entry-insert_entry : (place : Place) (stored : StoredNode) (entries : List (Place × StoredNode)) → lookup (is_at (place_cmp place)) entries ≡ None → remove_entry (is_at (place_cmp place)) (insert_entry place_cmp entries place stored) ≡ entries
remove_entry-insert_entry place stored [] none = rw (place_ties_itself place) refl
remove_entry-insert_entry place stored (e ∷ es) none =
    elim (place_cmp place e.0) as (λ o. place_cmp place e.0 ≡ o → cond (is_eq o) (Some e.1) (lookup (is_at (place_cmp place)) es) ≡ None → remove_entry (is_at (place_cmp place)) (match_ordering o ((place, stored) ∷ e ∷ es) ((e.0, stored) ∷ es) (e ∷ insert_entry place_cmp es place stored)) ≡ e ∷ es) [
      | Less ↦ λ is gone. rw (place_ties_itself place) refl
      | Equal ↦ λ is gone. cc
      | Greater ↦ λ is gone. rw is (ap (λ rest. e ∷ rest) (remove_entry-insert_entry place stored es gone))
    ] refl none
