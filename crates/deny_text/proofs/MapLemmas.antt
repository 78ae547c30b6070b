-- The entries of a map against what it holds.
use Rattle.std.proofs.Common.{◌≡◌, ◌↔◌, arith, ℕ, suc, Bool, ◌&&◌, cond, T, is_some, List, [], ◌∷◌, length, Some, None, Option, true, false, refl, sym, ap, ◌∙◌, subst}
use Rattle.std.specs.Ordering.{nat_cmp, is_eq, is_lt, match_ordering}
use Rattle.std.specs.declared.cmp.Ordering.{Ordering}
use Rattle.std.specs.Cmp.Lexicographic.{slice_cmp, nat_list_cmp_total}
use Rattle.std.specs.declared.cmp.Ordering.TheVariants.{Less, Equal, Greater}
use Rattle.std.specs.Prelude.{String, string_bytes, string_cmp}
use Rattle.std.specs.Global.{Global}
use Rattle.std.specs.Map.{lookup, set_value}
use Rattle.std.specs.BTreeMap.{insert_entry, is_at}
use Rattle.std.specs.FinMap.{find, put, is_sorted, entries, entries_sorted, get, insert, len, empty, from_sorted, entries-insert, entries-from_sorted, get-from_sorted, len-entries, len-empty, empty_of_len, same_entries_map}
use Rattle.std.specs.FinMap.Entries.{by_order, below_all, is_sorted-put}
use Rattle.deny_text.specs.TextMap.{entries_of_held, with_value}

first_holds : (a b : Bool) → T (a && b) → T a
first_holds true b p = tt
first_holds false b p = p

second_holds : (a b : Bool) → T (a && b) → T b
second_holds true b p = p
second_holds false b p = absurd p

is_less : (r : Ordering) → T (is_lt r) → r ≡ Less
is_less Less p = refl
is_less Equal p = absurd p
is_less Greater p = absurd p

both_keep : {A : Type 0} (b : Bool) (x : A) (xs ys : List A) → x ∷ cond b xs ys ≡ cond b (x ∷ xs) (x ∷ ys)
both_keep true x xs ys = refl
both_keep false x xs ys = refl

module _ {V : Type 0} where
  -- a look-up
  find-held : (key : List ℕ) (es : List (String Global × V)) → find (slice_cmp nat_cmp) key (entries_of_held es) ≡ lookup (is_at (λ k. slice_cmp nat_cmp key (string_bytes k))) es
  find-held key [] = refl
  find-held key (e ∷ es) = ap (cond (is_eq (slice_cmp nat_cmp key (string_bytes e.0))) (Some e.1)) (find-held key es)

  -- an insertion
  put-held : (key : String Global) (value : V) (es : List (String Global × V)) → entries_of_held (insert_entry string_cmp es key value) ≡ put (slice_cmp nat_cmp) (string_bytes key) value (entries_of_held es)
  put-held key value [] = refl
  put-held key value (e ∷ es) =
      elim (string_cmp key e.0) as (λ r. entries_of_held (match_ordering r ((key, value) ∷ e ∷ es) ((e.0, value) ∷ es) (e ∷ insert_entry string_cmp es key value)) ≡ by_order r ((string_bytes key, value) ∷ (string_bytes e.0, e.1) ∷ entries_of_held es) ((string_bytes e.0, value) ∷ entries_of_held es) ((string_bytes e.0, e.1) ∷ put (slice_cmp nat_cmp) (string_bytes key) value (entries_of_held es))) [
        | Less ↦ refl
        | Equal ↦ refl
        | Greater ↦ ap (λ rest. (string_bytes e.0, e.1) ∷ rest) (put-held key value es)
      ]

  pub get-held : (key : List ℕ) (es : List (String Global × V)) → T (is_sorted (slice_cmp nat_cmp) (entries_of_held es)) → get (from_sorted {R = slice_cmp nat_cmp} (entries_of_held es)) key ≡ lookup (is_at (λ k. slice_cmp nat_cmp key (string_bytes k))) es
  get-held key es sorted = get-from_sorted (slice_cmp nat_cmp) (entries_of_held es) key sorted ∙ find-held key es

  -- the entries with one put among them are those of the map with it
  put_entries : (key : String Global) (value : V) (es : List (String Global × V)) → T (is_sorted (slice_cmp nat_cmp) (entries_of_held es))
      → entries_of_held (insert_entry string_cmp es key value) ≡ entries (insert (from_sorted {R = slice_cmp nat_cmp} (entries_of_held es)) (string_bytes key) value)
  put_entries key value es sorted =
      put-held key value es
      ∙ ap (put (slice_cmp nat_cmp) (string_bytes key) value) (sym (entries-from_sorted (slice_cmp nat_cmp) (entries_of_held es) sorted))
      ∙ sym (entries-insert nat_list_cmp_total (from_sorted (entries_of_held es)) (string_bytes key) value)

  pub sorted-insert : (key : String Global) (value : V) (es : List (String Global × V)) → T (is_sorted (slice_cmp nat_cmp) (entries_of_held es)) → T (is_sorted (slice_cmp nat_cmp) (entries_of_held (insert_entry string_cmp es key value)))
  sorted-insert key value es sorted =
      subst (λ l. T (is_sorted (slice_cmp nat_cmp) l)) (sym (put_entries key value es sorted)) (entries_sorted (insert (from_sorted (entries_of_held es)) (string_bytes key) value))

  pub insert-held : (key : String Global) (value : V) (es : List (String Global × V)) → T (is_sorted (slice_cmp nat_cmp) (entries_of_held es))
      → from_sorted {R = slice_cmp nat_cmp} (entries_of_held (insert_entry string_cmp es key value)) ≡ insert (from_sorted (entries_of_held es)) (string_bytes key) value
  insert-held key value es sorted =
      same_entries_map _ _ (entries-from_sorted (slice_cmp nat_cmp) _ (sorted-insert key value es sorted) ∙ put_entries key value es sorted)

  pub entries-held : (es : List (String Global × V)) → T (is_sorted (slice_cmp nat_cmp) (entries_of_held es)) → entries (from_sorted {R = slice_cmp nat_cmp} (entries_of_held es)) ≡ entries_of_held es
  entries-held es sorted = entries-from_sorted (slice_cmp nat_cmp) (entries_of_held es) sorted

  length-held : (es : List (String Global × V)) → length (entries_of_held es) ≡ length es
  length-held [] = refl
  length-held (e ∷ es) = ap suc (length-held es)

  pub len-held : (es : List (String Global × V)) → T (is_sorted (slice_cmp nat_cmp) (entries_of_held es)) → len (from_sorted {R = slice_cmp nat_cmp} (entries_of_held es)) ≡ length es
  len-held es sorted = len-entries _ ∙ ap length (entries-held es sorted) ∙ length-held es

  pub empty-held : (es : List (String Global × V)) → es ≡ [] → from_sorted {R = slice_cmp nat_cmp} (entries_of_held es) ≡ empty
  empty-held es none = ap (λ l. from_sorted {R = slice_cmp nat_cmp} (entries_of_held l)) none ∙ empty_of_len _ (len-held [] tt)

  no_entries : (es : List (String Global × V)) → length es ≡ 0 → es ≡ []
  no_entries [] e = refl
  no_entries (x ∷ es) e = absurd (omega arith)

  pub is_empty-held : (es : List (String Global × V)) → T (is_sorted (slice_cmp nat_cmp) (entries_of_held es)) → (length es ≡ 0) ↔ (from_sorted {R = slice_cmp nat_cmp} (entries_of_held es) ≡ empty)
  is_empty-held es sorted = (λ none. empty-held es (no_entries es none), λ none. sym (len-held es sorted) ∙ ap len none ∙ len-empty (slice_cmp nat_cmp) V)

  above_none : (key : List ℕ) (x : List ℕ) (es : List (String Global × V)) → slice_cmp nat_cmp key x ≡ Less → T (below_all (slice_cmp nat_cmp) x (entries_of_held es)) → find (slice_cmp nat_cmp) key (entries_of_held es) ≡ None
  above_none key x [] less below = refl
  above_none key x (e ∷ es) less below =
      let first : slice_cmp nat_cmp key (string_bytes e.0) ≡ Less = nat_list_cmp_total.trans key x (string_bytes e.0) less (is_less _ (first_holds _ _ below)) in
      ap (λ r. cond (is_eq r) (Some e.1) (find (slice_cmp nat_cmp) key (entries_of_held es))) first ∙ above_none key x es less (second_holds _ _ below)

  -- a value in place of another
  set-held : (key : List ℕ) (value : V) (es : List (String Global × V)) → T (is_sorted (slice_cmp nat_cmp) (entries_of_held es))
      → entries_of_held (set_value (is_at (λ k. slice_cmp nat_cmp key (string_bytes k))) es value) ≡ cond (is_some (find (slice_cmp nat_cmp) key (entries_of_held es))) (put (slice_cmp nat_cmp) key value (entries_of_held es)) (entries_of_held es)
  set-held key value [] sorted = refl
  set-held key value (e ∷ es) sorted =
      let k = string_bytes e.0 in
      let found = find (slice_cmp nat_cmp) key (entries_of_held es) in
      let rest = set-held key value es (second_holds _ _ sorted) in
      elim (slice_cmp nat_cmp key k) as (λ r. slice_cmp nat_cmp key k ≡ r →
      entries_of_held (cond (is_eq r) ((e.0, value) ∷ es) (e ∷ set_value (is_at (λ s. slice_cmp nat_cmp key (string_bytes s))) es value))
      ≡ cond (is_some (cond (is_eq r) (Some e.1) found)) (by_order r ((key, value) ∷ (k, e.1) ∷ entries_of_held es) ((k, value) ∷ entries_of_held es) ((k, e.1) ∷ put (slice_cmp nat_cmp) key value (entries_of_held es))) ((k, e.1) ∷ entries_of_held es)) [
        | Less ↦ λ is. let none = above_none key k es is (first_holds _ _ sorted) in
            ap (λ l. (k, e.1) ∷ l) (rest ∙ ap (λ (o : Option V). cond (is_some o) (put (slice_cmp nat_cmp) key value (entries_of_held es)) (entries_of_held es)) none)
            ∙ sym (ap (λ (o : Option V). cond (is_some o) ((key, value) ∷ (k, e.1) ∷ entries_of_held es) ((k, e.1) ∷ entries_of_held es)) none)
        | Equal ↦ λ is. refl
        | Greater ↦ λ is. ap (λ l. (k, e.1) ∷ l) rest ∙ both_keep (is_some found) _ _ _
      ] refl

  sorted_either : (b : Bool) (key : List ℕ) (value : V) (es : List (List ℕ × V)) → T (is_sorted (slice_cmp nat_cmp) es) → T (is_sorted (slice_cmp nat_cmp) (cond b (put (slice_cmp nat_cmp) key value es) es))
  sorted_either true key value es sorted = is_sorted-put (slice_cmp nat_cmp) nat_list_cmp_total key value es sorted
  sorted_either false key value es sorted = sorted

  map_either : (b : Bool) (key : List ℕ) (value : V) (es : List (List ℕ × V)) → T (is_sorted (slice_cmp nat_cmp) es)
      → from_sorted {R = slice_cmp nat_cmp} (cond b (put (slice_cmp nat_cmp) key value es) es) ≡ cond b (insert (from_sorted es) key value) (from_sorted es)
  map_either true key value es sorted =
      let same = entries-from_sorted (slice_cmp nat_cmp) _ (sorted_either true key value es sorted)
      ∙ ap (put (slice_cmp nat_cmp) key value) (sym (entries-from_sorted (slice_cmp nat_cmp) es sorted))
      ∙ sym (entries-insert nat_list_cmp_total (from_sorted es) key value) in
      same_entries_map _ _ same
  map_either false key value es sorted = refl

  pub sorted-set : (key : List ℕ) (value : V) (es fs : List (String Global × V)) → T (is_sorted (slice_cmp nat_cmp) (entries_of_held es)) → fs ≡ set_value (is_at (λ k. slice_cmp nat_cmp key (string_bytes k))) es value → T (is_sorted (slice_cmp nat_cmp) (entries_of_held fs))
  sorted-set key value es fs sorted is =
      subst (λ l. T (is_sorted (slice_cmp nat_cmp) l)) (sym (ap entries_of_held is ∙ set-held key value es sorted)) (sorted_either _ key value (entries_of_held es) sorted)

  pub map-set : (key : List ℕ) (value : V) (es fs : List (String Global × V)) → T (is_sorted (slice_cmp nat_cmp) (entries_of_held es)) → fs ≡ set_value (is_at (λ k. slice_cmp nat_cmp key (string_bytes k))) es value
      → from_sorted {R = slice_cmp nat_cmp} (entries_of_held fs) ≡ with_value (from_sorted (entries_of_held es)) key value
  map-set key value es fs sorted is =
      let whole = from_sorted {R = slice_cmp nat_cmp} (entries_of_held es) in
      ap (from_sorted {R = slice_cmp nat_cmp}) (ap entries_of_held is ∙ set-held key value es sorted)
      ∙ map_either _ key value (entries_of_held es) sorted
      ∙ ap (λ (o : Option V). cond (is_some o) (insert whole key value) whole) (sym (get-from_sorted (slice_cmp nat_cmp) (entries_of_held es) key sorted))
