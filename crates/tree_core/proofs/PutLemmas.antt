-- To put a node in a tree.
use Rattle.std.proofs.Common.{◌≡◌, ◌≢◌, ℕ, zero, suc, ◌+◌, ◌-◌, ◌<◌, ◌≤◌, cond, T, List, [], ◌∷◌, ◌++◌, length, take, get_or, Some, None, Result, Ok, Err, refl, sym, ap, ◌∙◌, subst, inl, inr, arith}
use Rattle.std.specs.Ordering.{eq_by_cmp}
use Rattle.std.proofs.lemmas.List.{take-take, length-take, length-append, take_more, take_at, take_all}
use Rattle.std.proofs.lemmas.Bool.{cases_lt}
use Rattle.std.specs.FinMap as map
use Rattle.std.specs.FinMap.{get-insert, get-empty, same_map}
use Rattle.tree_core.specs.Content.{Content, Place, TreeNode, file, folder, place_cmp, place_cmp_total, IsRooted}
use Rattle.std.specs.BTreeMap.{insert_entry}
use Rattle.std.specs.Result.{OnOk, OnErr}
use Rattle.tree_core.specs.Stored.{content_of, node_of, stored_at, with_root, IsSound}
use Rattle.tree_core.specs.declared.nodes.StoredNode.{StoredNode}
use Rattle.tree_core.specs.declared.nodes.PutError.{PutError}
use Rattle.tree_core.specs.TreeState.{root_alone, IsPlaceFront, Clashes, at_folder, below_file, Puts, IsClosedAbove}
use Rattle.tree_core.proofs.PlaceLemmas.{place_cmp-IsAntisymmetric, place_is_itself, apart, cases_place, IsFront-above, IsFront-at_above, IsFront-itself, length-above, above_or_shorter, last_name}
use Rattle.tree_core.proofs.StoredLemmas.{get-content_of, content_of-insert_entry, ordered-insert_entry}

pub get-insert_same : (content : Content) (place : Place) (node : TreeNode) → map.get (map.insert content place node) place ≡ Some node
get-insert_same content place node = get-insert place_cmp_total content place node place ∙ ap (λ b. cond b (Some node) (map.get content place)) (place_is_itself place)

pub get-insert_other : (content : Content) (place other : Place) (node : TreeNode) → other ≢ place → map.get (map.insert content place node) other ≡ map.get content other
get-insert_other content place other node ne = get-insert place_cmp_total content place node other ∙ ap (λ b. cond b (Some node) (map.get content other)) (apart other place ne)

-- the root alone
pub content_of-none : content_of [] ≡ root_alone
content_of-none =
    same_map place_cmp_total place_cmp-IsAntisymmetric (content_of []) root_alone
    (λ q. get-content_of [] q tt ∙ sym (get-insert place_cmp_total map.empty [] folder q ∙ ap (cond (eq_by_cmp place_cmp q []) (Some folder)) (get-empty place_cmp q)))

not_root : (place : Place) (name : List ℕ) → (place ++ name ∷ []) ≢ []
not_root [] name e = cc
not_root (at ∷ place) name e = cc

IsRooted-root_alone : IsRooted root_alone
IsRooted-root_alone =
    record {
      root = get-insert_same map.empty [] folder;
      above = λ place name node there.
          let other : map.get root_alone (place ++ name ∷ []) ≡ map.get map.empty (place ++ name ∷ []) = get-insert_other map.empty [] (place ++ name ∷ []) folder (not_root place name) in
          let none : map.get (map.empty {R = place_cmp}) (place ++ name ∷ []) ≡ None = get-empty place_cmp (place ++ name ∷ []) in
          let wrong : Some node ≡ None = sym there ∙ other ∙ none in cc;
    }

pub IsSound-none : IsSound []
IsSound-none = record { ordered = tt; rooted = subst IsRooted (sym content_of-none) IsRooted-root_alone }

-- what was replaced or added at a place is not seen at its shorter prefixes
shorter_apart : (front place : Place) → length front < length place → front ≢ place
shorter_apart front place shorter e = omega (arith, ap length e)

-- in a rooted content each shorter front of what is there is a folder
folders_down : (content : Content) (place : Place) → IsClosedAbove content place → (more count : ℕ) → count + more + 1 ≡ length place → map.get content (take (count + more) place) ≡ Some folder → map.get content (take count place) ≡ Some folder
folders_down content place closed zero count e there = subst (λ (n : ℕ). map.get content (take n place) ≡ Some folder) (omega arith) there
folders_down content place closed (suc more) count e there =
    let here : map.get content (take (count + 1) place) ≡ Some folder = folders_down content place closed more (count + 1) (omega arith) (subst (λ (n : ℕ). map.get content (take n place) ≡ Some folder) (omega arith) there) in
    closed.folders count folder (omega arith) here

-- the place above is where nothing was, and is folder or absent: what is put there
module _ (old : Content) (place : Place) (node : TreeNode) (absent : map.get old place ≡ None) (below : 0 < length place) where
  abbrev above_of : Place
  above_of = take (length place - 1) place

  abbrev mid : Content
  mid = map.insert old place node

  -- other places hold what they held
  kept : (other : Place) → other ≢ place → map.get mid other ≡ map.get old other
  kept other ne = get-insert_other old place other node ne

  above_apart : above_of ≢ place
  above_apart = shorter_apart above_of place (omega (arith, length-above place))

  kept_above : map.get mid above_of ≡ map.get old above_of
  kept_above = kept above_of above_apart

  no_front : (other : Place) → ¬ (IsPlaceFront other place) → other ≢ place
  no_front other elsewhere e = elsewhere (subst (λ (p : Place). IsPlaceFront p place) (sym e) (IsFront-itself place))

  not_folder : map.get old place ≡ Some folder → ⊥
  not_folder there = let wrong : Some folder ≡ None = sym there ∙ absent in cc

  -- where the folder above is there
  folders_above : IsClosedAbove old place → map.get mid above_of ≡ Some folder → (front : Place) → IsPlaceFront front place → length front < length place → map.get old front ≡ Some folder
  folders_above closed there front is shorter =
      let top : map.get old (take (length front + (length place - 1 - length front)) place) ≡ Some folder = subst (λ (n : ℕ). map.get old (take n place) ≡ Some folder) (omega arith) (sym kept_above ∙ there) in
      subst (λ (p : Place). map.get old p ≡ Some folder) is (folders_down old place closed (length place - 1 - length front) (length front) (omega arith) top)

  pub Puts-below_folder : IsClosedAbove old place → map.get mid above_of ≡ Some folder → Puts old mid place node
  Puts-below_folder closed there =
      record {
        there = get-insert_same old place node;
        above = λ front is shorter. kept front (shorter_apart front place shorter) ∙ folders_above closed there front is shorter;
        others = λ other elsewhere. kept other (no_front other elsewhere);
      }

  pub no_Clashes-below_folder : IsClosedAbove old place → map.get mid above_of ≡ Some folder → ¬ (Clashes old place)
  no_Clashes-below_folder closed there (at_folder is) = not_folder is
  no_Clashes-below_folder closed there (below_file front bytes is shorter held) =
      let wrong : Some (file bytes) ≡ Some folder = sym held ∙ folders_above closed there front is shorter in cc

  -- where a file is above
  pub Clashes-below_file : (bytes : List ℕ) → map.get mid above_of ≡ Some (file bytes) → Clashes old place
  Clashes-below_file bytes there =
      below_file above_of bytes (IsFront-above above_of place (IsFront-itself above_of)) (omega (arith, length-above place)) (sym kept_above ∙ there)

  -- where nothing is above, and it was made
  pub Puts-made : (new : Content) → Puts mid new above_of folder → Puts old new place node
  Puts-made new made =
      record {
        there = made.others place (λ is. above_apart (omega_front is)) ∙ get-insert_same old place node;
        above = λ front is shorter. elim (above_or_shorter front place is shorter) [
          | inl same ↦ subst (λ (p : Place). map.get new p ≡ Some folder) (sym same) made.there
          | inr less ↦ made.above front (IsFront-at_above front place is shorter) (omega (arith, length-above place))
        ];
        others = λ other elsewhere. made.others other (λ is. elsewhere (IsFront-above other place is)) ∙ kept other (no_front other elsewhere);
      }
    where
      omega_front : IsPlaceFront place above_of → above_of ≡ place
      omega_front is = absurd (omega (arith, ap length is, length-take (length place) above_of, length-above place))

  pub no_Clashes-made : map.get mid above_of ≡ None → ¬ (Clashes mid above_of) → ¬ (Clashes old place)
  no_Clashes-made none clear (at_folder is) = not_folder is
  no_Clashes-made none clear (below_file front bytes is shorter held) =
      let here : map.get mid front ≡ Some (file bytes) = kept front (shorter_apart front place shorter) ∙ held in
      elim (above_or_shorter front place is shorter) [
        | inl same ↦ let wrong : Some (file bytes) ≡ None = sym here ∙ ap (map.get mid) same ∙ none in cc
        | inr less ↦ absurd (clear (below_file front bytes (IsFront-at_above front place is shorter) (omega (arith, length-above place)) here))
      ]

  pub Clashes-made : map.get mid above_of ≡ None → Clashes mid above_of → Clashes old place
  Clashes-made none (at_folder is) = let wrong : Some folder ≡ None = sym is ∙ none in cc
  Clashes-made none (below_file front bytes is shorter held) =
      let len : length front < length place = omega (arith, length-above place) in
      below_file front bytes (IsFront-above front place is) len (sym (kept front (shorter_apart front place len)) ∙ held)

  pub IsClosedAbove-made : IsClosedAbove old place → IsClosedAbove mid above_of
  IsClosedAbove-made closed =
      record {
        folders = λ count held more there.
            let len : count + 1 < length place = omega (arith, length-above place) in
            let same : take (count + 1) above_of ≡ take (count + 1) place = take-take (count + 1) (length place - 1) place (omega (arith, length-above place)) in
            let lower : take count above_of ≡ take count place = take-take count (length place - 1) place (omega (arith, length-above place)) in
            let ne : take (count + 1) place ≢ place = λ e. omega (arith, ap length e, length-take (count + 1) place) in
            let ne' : take count place ≢ place = λ e. omega (arith, ap length e, length-take count place) in
            let was : map.get old (take (count + 1) place) ≡ Some held = sym (kept _ ne) ∙ ap (map.get mid) (sym same) ∙ there in
            ap (map.get mid) lower ∙ kept _ ne' ∙ closed.folders count held len was;
      }

-- a rooted content is closed above each place
pub IsClosedAbove-rooted : (content : Content) (place : Place) → IsRooted content → IsClosedAbove content place
IsClosedAbove-rooted content place rooted =
    record {
      folders = λ count node more there.
          rooted.above (take count place) (get_or place count []) node (subst (λ (p : Place). map.get content p ≡ Some node) (take_more place count [] (omega arith)) there);
    }

-- in a rooted content, what is above anything is a folder
folders_above_held : (content : Content) (place : Place) (node : TreeNode) → IsRooted content → map.get content place ≡ Some node → (front : Place) → IsPlaceFront front place → length front < length place → map.get content front ≡ Some folder
folders_above_held content place node rooted held front is shorter =
    let top : map.get content (take (length place - 1) place) ≡ Some folder = rooted.above (take (length place - 1) place) (get_or place (length place - 1) []) node (subst (λ (p : Place). map.get content p ≡ Some node) (last_name place [] (omega arith)) held) in
    let down : map.get content (take (length front + (length place - 1 - length front)) place) ≡ Some folder = subst (λ (n : ℕ). map.get content (take n place) ≡ Some folder) (omega arith) top in
    subst (λ (p : Place). map.get content p ≡ Some folder) is (folders_down content place (IsClosedAbove-rooted content place rooted) (length place - 1 - length front) (length front) (omega arith) down)

-- in place of a file
pub Puts-over_file : (old : Content) (place : Place) (bytes : List ℕ) (node : TreeNode) → IsRooted old → map.get old place ≡ Some (file bytes) → Puts old (map.insert old place node) place node
Puts-over_file old place bytes node rooted held =
    record {
      there = get-insert_same old place node;
      above = λ front is shorter. get-insert_other old place front node (shorter_apart front place shorter) ∙ folders_above_held old place (file bytes) rooted held front is shorter;
      others = λ other elsewhere. get-insert_other old place other node (λ e. elsewhere (subst (λ (p : Place). IsPlaceFront p place) (sym e) (IsFront-itself place)));
    }

pub no_Clashes-over_file : (old : Content) (place : Place) (bytes : List ℕ) → IsRooted old → map.get old place ≡ Some (file bytes) → ¬ (Clashes old place)
no_Clashes-over_file old place bytes rooted held (at_folder is) = let wrong : Some (file bytes) ≡ Some folder = sym held ∙ is in cc
no_Clashes-over_file old place bytes rooted held (below_file front other is shorter there) =
    let wrong : Some (file other) ≡ Some folder = sym there ∙ folders_above_held old place (file bytes) rooted held front is shorter in cc

front_of_front : (place above : Place) (name : List ℕ) → IsPlaceFront (above ++ name ∷ []) place → IsPlaceFront above place × (length above < length place)
front_of_front place above name is =
    let len : length (above ++ name ∷ []) ≡ length above + 1 = length-append above (name ∷ []) in
    let fits : length above + 1 ≤ length place = omega (arith, ap length is, length-take (length (above ++ name ∷ [])) place, len) in
    (sym (take-take (length above) (length (above ++ name ∷ [])) place (omega (arith, len))) ∙ ap (take (length above)) is ∙ take_at above (name ∷ []) (length above) refl, omega (arith, fits))

full_front : (front place : Place) → IsPlaceFront front place → length place ≤ length front → front ≡ place
full_front front place is long = sym is ∙ take_all (length front) place long

pub IsRooted-Puts : (old new : Content) (place : Place) (node : TreeNode) → IsRooted old → Puts old new place node → map.get old place ≢ Some folder → IsRooted new
IsRooted-Puts old new place node rooted puts ne =
    record {
      root = elim (cases_place place []) [
        | inl e ↦ absurd (ne (ap (map.get old) e ∙ rooted.root))
        | inr some ↦ puts.above [] refl (some_names place some)
      ];
      above = λ above name held there.
          elim (cases_place (take (length (above ++ name ∷ [])) place) (above ++ name ∷ [])) [
            | inl front ↦ let p = front_of_front place above name front in puts.above above p.0 p.1
            | inr elsewhere ↦
                let was : map.get old above ≡ Some folder = rooted.above above name held (sym (puts.others (above ++ name ∷ []) elsewhere) ∙ there) in
                elim (cases_place (take (length above) place) above) [
                  | inl front ↦ elim (cases_lt (length above) (length place)) [
                    | inl shorter ↦ puts.above above front shorter
                    | inr long ↦ absurd (ne (ap (map.get old) (sym (full_front above place front long)) ∙ was))
                  ]
                  | inr apart ↦ puts.others above apart ∙ was
                ]
          ];
    }
  where
    some_names : (p : Place) → p ≢ [] → 0 < length p
    some_names [] none = absurd (none refl)
    some_names (name ∷ names) none = omega arith

not_root_held : (content : Content) (place : Place) → IsRooted content → map.get content place ≢ Some folder → place ≢ []
not_root_held content place rooted ne e = ne (ap (map.get content) e ∙ rooted.root)

-- the entries after nothing or something was added
pub IsSound-added : (entries after : List (Place × StoredNode)) (place : Place) (stored : StoredNode) (r : Result (Unit {0}) PutError) → IsSound entries → stored_at entries place ≡ None → T (map.is_sorted place_cmp (with_root after)) → OnOk r (Puts (content_of entries) (content_of after) place (node_of stored)) → OnErr r (after ≡ entries) → IsSound after
IsSound-added entries after place stored (Ok u) sound absent ordered ok err =
    let nothing : map.get (content_of entries) place ≡ None = get-content_of entries place sound.ordered ∙ absent in
    record { ordered = ordered; rooted = IsRooted-Puts (content_of entries) (content_of after) place (node_of stored) sound.rooted ok (λ e. let wrong : Some folder ≡ None = sym e ∙ nothing in cc) }
IsSound-added entries after place stored (Err error) sound absent ordered ok err = subst IsSound (sym err) sound

module _ (entries after : List (Place × StoredNode)) (place : Place) (stored : StoredNode) (bytes : List ℕ) (sound : IsSound entries) (held : stored_at entries place ≡ Some (file bytes))
    (is : after ≡ insert_entry place_cmp entries place stored) where
  there_before : map.get (content_of entries) place ≡ Some (file bytes)
  there_before = get-content_of entries place sound.ordered ∙ held

  no_folder : map.get (content_of entries) place ≢ Some folder
  no_folder e = let wrong : Some (file bytes) ≡ Some folder = sym there_before ∙ e in cc

  below_root : place ≢ []
  below_root = not_root_held (content_of entries) place sound.rooted no_folder

  content_after : content_of after ≡ map.insert (content_of entries) place (node_of stored)
  content_after = ap content_of is ∙ content_of-insert_entry place stored entries below_root sound.ordered

  pub replaced_Puts : Puts (content_of entries) (content_of after) place (node_of stored)
  replaced_Puts = rw content_after (Puts-over_file (content_of entries) place bytes (node_of stored) sound.rooted there_before)

  pub replaced_clear : ¬ (Clashes (content_of entries) place)
  replaced_clear = no_Clashes-over_file (content_of entries) place bytes sound.rooted there_before

  pub replaced_IsSound : IsSound after
  replaced_IsSound =
      record {
        ordered = subst (λ (es : List (Place × StoredNode)). T (map.is_sorted place_cmp (with_root es))) (sym is) (ordered-insert_entry place stored entries below_root sound.ordered);
        rooted = IsRooted-Puts (content_of entries) (content_of after) place (node_of stored) sound.rooted replaced_Puts no_folder;
      }
