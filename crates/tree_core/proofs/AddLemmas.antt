-- An entry was added where nothing was, and what is above it comes next.
use Rattle.std.proofs.Common.{◌≡◌, ◌≢◌, ℕ, ◌-◌, ◌<◌, T, List, [], ◌∷◌, length, take, Option, Some, None, refl, sym, ap, ◌∙◌, subst, arith}
use Rattle.std.specs.Option.{option_map}
use Rattle.std.specs.Map.{lookup, remove_entry}
use Rattle.std.specs.BTreeMap.{insert_entry, is_at}
use Rattle.std.specs.FinMap as finite
use Rattle.tree_core.specs.Content.{Content, Place, TreeNode, file, folder, place_cmp}
use Rattle.tree_core.specs.Stored.{node_of, with_root, content_of, stored_at}
use Rattle.tree_core.specs.TreeState.{Clashes, Puts, IsClosedAbove}
use Rattle.tree_core.specs.declared.nodes.StoredNode.{StoredNode}
use Rattle.tree_core.proofs.PlaceLemmas.{length-above}
use Rattle.tree_core.proofs.StoredLemmas.{stored_at-lookup, stored_at-root, get-content_of, ordered-insert_entry, content_of-insert_entry, remove_entry-insert_entry}
use Rattle.tree_core.proofs.PutLemmas.{Puts-below_folder, no_Clashes-below_folder, Clashes-below_file, Puts-made, no_Clashes-made, Clashes-made, IsClosedAbove-made}

none_before : (o : Option StoredNode) → option_map node_of o ≡ None → o ≡ None
none_before None e = refl
none_before (Some stored) e = cc

some_long : (place : Place) → place ≢ [] → 0 < length place
some_long [] ne = absurd (ne refl)
some_long (name ∷ names) ne = omega arith

module _ (entries after : List (Place × StoredNode)) (place above : Place) (stored : StoredNode)
    (ordered : T (finite.is_sorted place_cmp (with_root entries))) (absent : stored_at entries place ≡ None)
    (is : after ≡ insert_entry place_cmp entries place stored) (right : above ≡ take (length place - 1) place) where
  not_root : place ≢ []
  not_root e = let root = stored_at-root entries place e in cc

  gone : lookup (is_at (place_cmp place)) entries ≡ None
  gone = none_before _ (sym (stored_at-lookup entries place not_root) ∙ absent)

  nothing : finite.get (content_of entries) place ≡ None
  nothing = get-content_of entries place ordered ∙ absent

  long : 0 < length place
  long = some_long place not_root

  content_is : content_of after ≡ finite.insert (content_of entries) place (node_of stored)
  content_is = ap content_of is ∙ content_of-insert_entry place stored entries not_root ordered

  pub after_ordered : T (finite.is_sorted place_cmp (with_root after))
  after_ordered = subst (λ (es : List (Place × StoredNode)). T (finite.is_sorted place_cmp (with_root es))) (sym is) (ordered-insert_entry place stored entries not_root ordered)

  pub after_restored : remove_entry (is_at (place_cmp place)) after ≡ entries
  after_restored = ap (remove_entry (is_at (place_cmp place))) is ∙ remove_entry-insert_entry place stored entries gone

  pub above_shorter : length above < length place
  above_shorter = omega (arith, ap length right, length-above place, long)

  -- what was found above, as the content tells it
  found : (o : Option TreeNode) → stored_at after above ≡ o → finite.get (finite.insert (content_of entries) place (node_of stored)) (take (length place - 1) place) ≡ o
  found o there = ap (λ (content : Content). finite.get content (take (length place - 1) place)) (sym content_is) ∙ ap (finite.get (content_of after)) (sym right) ∙ get-content_of after above after_ordered ∙ there

  pub after_Puts : IsClosedAbove (content_of entries) place → stored_at after above ≡ Some folder → Puts (content_of entries) (content_of after) place (node_of stored)
  after_Puts closed there = rw content_is (Puts-below_folder (content_of entries) place (node_of stored) nothing long closed (found _ there))

  pub after_clear : IsClosedAbove (content_of entries) place → stored_at after above ≡ Some folder → ¬ (Clashes (content_of entries) place)
  after_clear closed there = no_Clashes-below_folder (content_of entries) place (node_of stored) nothing long closed (found _ there)

  pub after_below_file : (bytes : List ℕ) → stored_at after above ≡ Some (file bytes) → Clashes (content_of entries) place
  after_below_file bytes there = Clashes-below_file (content_of entries) place (node_of stored) nothing long bytes (found _ there)

  pub after_closed : IsClosedAbove (content_of entries) place → IsClosedAbove (content_of after) above
  after_closed closed = rw (content_is, right) (IsClosedAbove-made (content_of entries) place (node_of stored) nothing long closed)

  pub made_Puts : (new : Content) → Puts (content_of after) new above folder → Puts (content_of entries) new place (node_of stored)
  made_Puts new made = Puts-made (content_of entries) place (node_of stored) nothing long new (rw (content_is, right) at made)

  pub made_clear : stored_at after above ≡ None → ¬ (Clashes (content_of after) above) → ¬ (Clashes (content_of entries) place)
  made_clear none clear = no_Clashes-made (content_of entries) place (node_of stored) nothing long (found _ none) (λ clash. clear (rw (content_is, right) clash))

  pub made_Clashes : stored_at after above ≡ None → Clashes (content_of after) above → Clashes (content_of entries) place
  made_Clashes none clash = Clashes-made (content_of entries) place (node_of stored) nothing long (found _ none) (rw (content_is, right) at clash)
