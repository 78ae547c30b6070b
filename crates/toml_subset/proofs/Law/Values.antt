-- Values are read exactly where they are, keep the table rules, and are not too deep.
use Rattle.std.proofs.Common.{◌≡◌, ℕ, zero, suc, ◌+◌, ◌-◌, ◌*◌, ◌≤◌, inl, inr, ⊎_elim, Bool, true, false, cond, eqb, nat_lt, ◌||◌, ◌&&◌, List, [], ◌∷◌, length, drop, Some, Ok, Err, option_map, option_and_then, true≢false, refl, ap, sym, subst, ◌∙◌, eqb-true, arith}
use Rattle.std.proofs.lemmas.Bool.Decides.{nat_tests}
use Rattle.std.proofs.lemmas.List.{drop-drop}
use Rattle.std.specs.List.{prefix_len}
use Rattle.deny_text.specs.declared.span.Span.{Span}
use Rattle.toml_subset.specs.Answer.{TomlReading, fault_at, stop_error, then_read, fault_or}
use Rattle.toml_subset.specs.Bytes.{quote, apostrophe, hash, comma, open_bracket, close_bracket, open_brace, close_brace, begins_run, may_stand}
use Rattle.toml_subset.specs.Data as «data»
use Rattle.toml_subset.specs.Data.{TomlContent, Items, depth_of, items_depth, depth_limit}
use Rattle.toml_subset.specs.Numbers.{integer, decimal}
use Rattle.toml_subset.specs.Places.{front_is, from_to, passes_at, stands, run_end, after_blanks, after_blanks_and_comment, after_lines_of, after_space}
use Rattle.toml_subset.specs.Raw.{Raw, RawItems, RawEntries, raw_text, raw_integer, raw_decimal, raw_boolean, raw_array, raw_table, raw_none, raw_item, raw_empty, raw_entry, IsValue, AreItems, AreItemsBehind, AreEntries, AreEntriesBehind}
use Rattle.toml_subset.specs.Reading.{ValueFound, ItemsFound, EntriesFound, read_scalar, space_fault, cut_in_comment, array_items_behind, array_items_from, edit_reading, entries_behind, entry_put, entries_from, array_read, table_read, table_from, value_from, read_value, read_items, read_entries}
use Rattle.toml_subset.specs.StringReading.{KeysFound, read_left}
use Rattle.toml_subset.specs.TableFaults.{put_fault}
use Rattle.toml_subset.specs.Tables.{Branches, unbranched, closed, branches_with_value, entries_of, meant, items_meant, entries_meant}
use Rattle.toml_subset.specs.declared.error.SyntaxReason.TheVariants.{TooDeep}
use Rattle.toml_subset.specs.declared.string.Key.{Key}
use Rattle.toml_subset.proofs.Law.Basics.{then_some, map_some, is_some, is_ok, not_ok, then_ok, unless_ok, made_ok, if_is, if_true, if_false}
use Rattle.toml_subset.proofs.Law.Depths.{depth}
use Rattle.toml_subset.proofs.Law.Forward.{space_goes, value_goes, items_go, behind_goes, entries_go, entries_behind_go, keys_go}
use Rattle.toml_subset.proofs.Law.Fronts.{stands_other, passes_other, opening_front, word_front}
use Rattle.toml_subset.proofs.Law.Scalars.{scalar_sound, text_read, boolean_read, number_is_read}
use Rattle.toml_subset.proofs.Law.Texts.{left_sound, left_read, keys_other}
use Rattle.toml_subset.proofs.Law.Ways.{put_below, put_free, put_grows, put_room}

-- what is read is there

abbrev pub ValueAt : ℕ → List ℕ → ℕ → ValueFound → Type 0
ValueAt above text i r = (raw : Raw) × IsValue text i r.0 raw r.2 × (meant raw ≡ Some r.1) × (above + depth_of r.1 ≤ depth_limit)

abbrev pub ItemsAt : ℕ → List ℕ → ℕ → ItemsFound → Type 0
ItemsAt above text i r = (items : RawItems) × AreItems text (after_space text i) items r.1 × (items_meant items ≡ Some r.0) × (above + items_depth r.0 ≤ depth_limit)

abbrev BehindAt : ℕ → List ℕ → ℕ → ItemsFound → Type 0
BehindAt above text i r = (items : RawItems) × AreItemsBehind text (after_space text i) items r.1 × (items_meant items ≡ Some r.0) × (above + items_depth r.0 ≤ depth_limit)

-- the entries of an inline table that is not empty
pub record EntriesAt (above : ℕ) (text : List ℕ) (branches : Branches) (i : ℕ) (r : EntriesFound) : Type 0 where
  pub keys : List Key
  pub span : Span
  pub value : Raw
  pub more : RawEntries
  pub stand : AreEntries text i (raw_entry keys span value more) r.1
  pub mean : entries_meant (raw_entry keys span value more) branches ≡ Some r.0
  pub low : above + depth r.0 ≤ depth_limit

comma_behind : (text : List ℕ) (j : ℕ) (items : RawItems) (next : ℕ) → stands text j comma ≡ true → AreItems text (after_space text (j + 1)) items next → AreItemsBehind text j items next
comma_behind text j raw_none next at is = inr (at, is.0, is.1)
comma_behind text j (raw_item span value more) next at is = (at, is)

module _ (above : ℕ) (text : List ℕ) (value : ℕ → TomlReading ValueFound) (rest : ℕ → TomlReading ItemsFound)
    (value_ok : (k : ℕ) (x : ValueFound) → value k ≡ Ok x → ValueAt above text k x)
    (rest_ok : (k : ℕ) (x : ItemsFound) → rest k ≡ Ok x → ItemsAt above text k x) (low : above ≤ depth_limit) (r : ItemsFound) where
  behind_sound : (v : ValueFound) → array_items_behind rest text v ≡ Ok r → (m : ItemsFound) × BehindAt above text v.2 m × ((data.item v.0 v.1 m.0, m.1) ≡ r)
  behind_sound v e =
      let j = after_space text v.2 in
      ⊎_elim (λ h. ((data.no_item, j + 1), (raw_none, inl (h.0, refl), refl, omega arith), is_ok _ r h.1))
      (λ h.
      ⊎_elim
      (λ k.
      let found = then_ok (λ (x : ItemsFound). Ok (data.item v.0 v.1 x.0, x.1)) (rest (j + 1)) r k.1 in
      let are = rest_ok (j + 1) found.0 found.1 in
      (found.0, (are.0, comma_behind text j are.0 found.0.1 k.0 are.1, are.2, are.3), is_ok _ r found.2))
      (λ k. absurd (not_ok _ r k.1))
      (if_is (stands text j comma) (then_read (λ (x : ItemsFound). Ok (data.item v.0 v.1 x.0, x.1)) (rest (j + 1))) (Err (space_fault text v.2)) (Ok r) h.1))
      (if_is (stands text j close_bracket) (Ok (data.item v.0 v.1 data.no_item, j + 1))
      (cond (stands text j comma) (then_read (λ (x : ItemsFound). Ok (data.item v.0 v.1 x.0, x.1)) (rest (j + 1))) (Err (space_fault text v.2))) (Ok r) e)

  items_from_sound : (i : ℕ) → array_items_from value rest text i ≡ Ok r → ItemsAt above text i r
  items_from_sound i e =
      let j = after_space text i in
      ⊎_elim (λ h. absurd (not_ok _ r h.1))
      (λ h.
      ⊎_elim (λ k. subst (ItemsAt above text i) (is_ok _ r k.1) (raw_none, (k.0, refl), refl, omega arith))
      (λ k.
      let found = then_ok (array_items_behind rest text) (value j) r k.1 in
      let v = found.0 in
      let is = value_ok j v found.1 in
      let behind = behind_sound v found.2 in
      let m = behind.0 in
      let deep = is.3 in
      let deeper = behind.1.3 in
      let all : items_meant (raw_item v.0 is.0 behind.1.0) ≡ Some (data.item v.0 v.1 m.0) =
      ap (option_and_then (λ content. option_map (data.item v.0 content) (items_meant behind.1.0))) is.2 ∙ ap (option_map (data.item v.0 v.1)) behind.1.2 in
      subst (ItemsAt above text i) behind.2 (raw_item v.0 is.0 behind.1.0, (v.2, is.1, behind.1.1), all, omega arith))
      (if_is (stands text j close_bracket) (Ok (data.no_item, j + 1)) (then_read (array_items_behind rest text) (value j)) (Ok r) h.1))
      (if_is (cut_in_comment text i) (Err (space_fault text i)) (cond (stands text j close_bracket) (Ok (data.no_item, j + 1)) (then_read (array_items_behind rest text) (value j))) (Ok r) e)

module _ (above : ℕ) (text : List ℕ) (value : ℕ → ℕ → TomlReading ValueFound) (rest : Branches → ℕ → TomlReading EntriesFound)
    (value_ok : (high k : ℕ) (x : ValueFound) → high ≤ depth_limit → value high k ≡ Ok x → ValueAt high text k x)
    (rest_ok : (branches : Branches) (k : ℕ) (x : EntriesFound) → above + depth branches ≤ depth_limit → rest branches k ≡ Ok x → EntriesAt above text branches k x)
    (r : EntriesFound) where
  entries_behind_sound : (i : ℕ) (branches : Branches) → above + depth branches ≤ depth_limit → entries_behind rest text i branches ≡ Ok r
      → (more : RawEntries) × AreEntriesBehind text (after_blanks text i) more r.1 × (entries_meant more branches ≡ Some r.0) × (above + depth r.0 ≤ depth_limit)
  entries_behind_sound i branches low e =
      let j = after_blanks text i in
      ⊎_elim
      (λ h.
      let same : (branches, j + 1) ≡ r = is_ok _ r h.1 in
      subst (λ (x : EntriesFound). (more : RawEntries) × AreEntriesBehind text j more x.1 × (entries_meant more branches ≡ Some x.0) × (above + depth x.0 ≤ depth_limit)) same
      (raw_empty, (h.0, refl), refl, low))
      (λ h.
      ⊎_elim (λ k. let are = rest_ok branches (after_blanks text (j + 1)) r low k.1 in (raw_entry are.keys are.span are.value are.more, (k.0, are.stand), are.mean, are.low))
      (λ k. absurd (not_ok _ r k.1))
      (if_is (stands text j comma) (rest branches (after_blanks text (j + 1))) (Err (stop_error text j)) (Ok r) h.1))
      (if_is (stands text j close_brace) (Ok (branches, j + 1)) (cond (stands text j comma) (rest branches (after_blanks text (j + 1))) (Err (stop_error text j))) (Ok r) e)

  abbrev entry_from : Branches → KeysFound → TomlReading EntriesFound
  entry_from branches left =
      fault_or (put_fault left.0 branches above) (then_read (entry_put rest text left.0 branches) (value (above + (length left.0 - 1)) left.1))

  entries_from_sound : (i : ℕ) (branches : Branches) → above + depth branches ≤ depth_limit → entries_from value rest text above branches i ≡ Ok r → EntriesAt above text branches i r
  entries_from_sound i branches low e =
      let left = then_ok (entry_from branches) (read_left text i) r e in
      let keys = left.0.0 in
      let at = left_sound text i left.0 left.1 in
      let free = unless_ok (put_fault keys branches above) (then_read (entry_put rest text keys branches) (value (above + (length keys - 1)) left.0.1)) r left.2 in
      let found = then_ok (entry_put rest text keys branches) (value (above + (length keys - 1)) left.0.1) r free.1 in
      let v = found.0 in
      let is = value_ok (above + (length keys - 1)) left.0.1 v (put_room keys branches above free.0 low) found.1 in
      let new = then_ok (entries_behind rest text v.2) (edit_reading text (branches_with_value keys (closed v.0 v.1) branches)) r found.2 in
      let edit = made_ok text (branches_with_value keys (closed v.0 v.1) branches) new.0 new.1 in
      let under = put_below keys (closed v.0 v.1) branches new.0 above free.0 edit is.3 low in
      let behind = entries_behind_sound v.2 new.0 under new.2 in
      record {
        keys = keys;
        span = v.0;
        value = is.0;
        more = behind.0;
        stand = (v.2, (at.0, at.1, at.2, subst (λ k. IsValue text k v.0 is.0 v.2) (sym at.3) is.1), behind.1);
        mean = ap (option_and_then (λ content. option_and_then (entries_meant behind.0) (branches_with_value keys (closed v.0 content) branches))) is.2
            ∙ ap (option_and_then (entries_meant behind.0)) edit ∙ behind.2;
        low = behind.3;
      }

module _ (above : ℕ) (text : List ℕ) (items : ℕ → TomlReading ItemsFound) (entries : ℕ → TomlReading EntriesFound)
    (items_ok : (k : ℕ) (x : ItemsFound) → above + 1 ≤ depth_limit → items k ≡ Ok x → ItemsAt (above + 1) text k x)
    (entries_ok : (k : ℕ) (x : EntriesFound) → above + 1 ≤ depth_limit → entries k ≡ Ok x → EntriesAt (above + 1) text unbranched k x)
    (i : ℕ) (r : ValueFound) where
  abbrev array_by : TomlReading ValueFound
  array_by = then_read (array_read i) (items (i + 1))

  abbrev table_by : TomlReading ValueFound
  table_by = then_read (table_read i) (table_from entries text i)

  abbrev opened_by : TomlReading ValueFound
  opened_by = cond (eqb above depth_limit) (Err (fault_at TooDeep i (i + 1))) (cond (stands text i open_bracket) array_by table_by)

  table_sound : above + 1 ≤ depth_limit → stands text i open_brace ≡ true → table_by ≡ Ok r → ValueAt above text i r
  table_sound room at e =
      let found = then_ok (table_read i) (table_from entries text i) r e in
      let j = after_blanks text (i + 1) in
      ⊎_elim
      (λ h.
      let same : (unbranched, j + 1) ≡ found.0 = is_ok _ found.0 h.1 in
      let all : table_read i (unbranched, j + 1) ≡ Ok r = ap (table_read i) same ∙ found.2 in
      subst (ValueAt above text i) (is_ok _ r all) (raw_table raw_empty, (at, (h.0, refl), refl), refl, omega arith))
      (λ h.
      let are = entries_ok j found.0 room h.1 in
      let low = are.low in
      subst (ValueAt above text i) (is_ok _ r found.2) (
        raw_table (raw_entry are.keys are.span are.value are.more),
        (at, are.stand, refl),
        ap (option_map (λ branches. data.table (entries_of branches))) are.mean,
        omega arith,
      ))
      (if_is (stands text j close_brace) (Ok (unbranched, j + 1)) (entries j) (Ok found.0) found.1)

  array_sound : above + 1 ≤ depth_limit → stands text i open_bracket ≡ true → array_by ≡ Ok r → ValueAt above text i r
  array_sound room at e =
      let found = then_ok (array_read i) (items (i + 1)) r e in
      let are = items_ok (i + 1) found.0 room found.1 in
      let low = are.3 in
      subst (ValueAt above text i) (is_ok _ r found.2) (raw_array are.0, (at, are.1, refl), ap (option_map data.array) are.2, omega arith)

  or_second : (a b : Bool) → (a || b) ≡ true → a ≡ false → b ≡ true
  or_second true b h k = absurd (true≢false k)
  or_second false b h k = h

  value_from_sound : above ≤ depth_limit → value_from items entries text above i ≡ Ok r → ValueAt above text i r
  value_from_sound low e =
      ⊎_elim
      (λ h.
      ⊎_elim (λ k. absurd (not_ok _ r k.1))
      (λ k.
      let room : above + 1 ≤ depth_limit = grind (arith, nat_tests) in
      ⊎_elim (λ l. array_sound room l.0 l.1) (λ l. table_sound room (or_second _ _ h.0 l.0) l.1) (if_is (stands text i open_bracket) array_by table_by (Ok r) k.1))
      (if_is (eqb above depth_limit) (Err (fault_at TooDeep i (i + 1))) (cond (stands text i open_bracket) array_by table_by) (Ok r) h.1))
      (λ h. let is = scalar_sound text i r h.1 in (is.0, is.1, is.2, let flat = is.3 in omega arith))
      (if_is (stands text i open_bracket || stands text i open_brace) opened_by (read_scalar text i) (Ok r) e)

mutual
  pub value_sound : (n : ℕ) (text : List ℕ) (above i : ℕ) (r : ValueFound) → above ≤ depth_limit → read_value n text above i ≡ Ok r → ValueAt above text i r
  value_sound zero text above i r low e = absurd (not_ok (stop_error text i) r e)
  value_sound (suc n) text above i r low e =
      value_from_sound above text (read_items n text (above + 1)) (read_entries n text (above + 1) unbranched)
      (λ k x room is. items_sound n text (above + 1) k x room is) (λ k x room is. entries_sound n text (above + 1) unbranched k x (omega arith) is) i r low e

  pub items_sound : (n : ℕ) (text : List ℕ) (above i : ℕ) (r : ItemsFound) → above ≤ depth_limit → read_items n text above i ≡ Ok r → ItemsAt above text i r
  items_sound zero text above i r low e = absurd (not_ok (stop_error text i) r e)
  items_sound (suc n) text above i r low e =
      items_from_sound above text (read_value n text above) (read_items n text above) (λ k x is. value_sound n text above k x low is)
      (λ k x is. items_sound n text above k x low is) low r i e

  pub entries_sound : (n : ℕ) (text : List ℕ) (above : ℕ) (branches : Branches) (i : ℕ) (r : EntriesFound) → above + depth branches ≤ depth_limit
      → read_entries n text above branches i ≡ Ok r → EntriesAt above text branches i r
  entries_sound zero text above branches i r low e = absurd (not_ok (stop_error text i) r e)
  entries_sound (suc n) text above branches i r low e =
      entries_from_sound above text (read_value n text) (read_entries n text above) (λ high k x room is. value_sound n text high k x room is)
      (λ bs k x room is. entries_sound n text above bs k x room is) r i branches low e

-- what is there is read

front_stops : (p : ℕ → Bool) (s : List ℕ) → front_is p (drop (prefix_len p s) s) ≡ false
front_stops p [] = refl
front_stops p (c ∷ cs) =
    elim (p c) as (λ b. p c ≡ b → front_is p (drop (cond b (1 + prefix_len p cs) 0) (c ∷ cs)) ≡ false) [
      | true ↦ λ is. let one : 1 + prefix_len p cs ≡ suc (prefix_len p cs) = omega arith in ap (λ n. front_is p (drop n (c ∷ cs))) one ∙ front_stops p cs
      | false ↦ λ is. is
    ] refl

pub run_stops : (p : ℕ → Bool) (text : List ℕ) (i : ℕ) → passes_at p text (run_end p text i) ≡ false
run_stops p text i = ap (front_is p) (sym (drop-drop (prefix_len p (drop i text)) i text)) ∙ front_stops p (drop i text)

comment_stops : (b : Bool) (text : List ℕ) (i : ℕ) → passes_at may_stand text (cond b (run_end may_stand text (i + 1)) i) ≡ true → b ≡ false
comment_stops true text i h = absurd (true≢false (sym h ∙ run_stops may_stand text (i + 1)))
comment_stops false text i h = refl

-- the space of an array does not end in a comment where a token is behind it
pub uncut : (text : List ℕ) (i : ℕ) → passes_at may_stand text (after_space text i) ≡ true → cut_in_comment text i ≡ false
uncut text i h =
    let line = after_lines_of after_blanks_and_comment text i in
    ap (λ b. b && nat_lt (after_space text i) (length text)) (comment_stops (stands text (after_blanks text line) hash) text (after_blanks text line) h)

front_may : (c : ℕ) → may_stand c ≡ true → (s : List ℕ) → front_is (λ b. eqb b c) s ≡ true → front_is may_stand s ≡ true
front_may c may [] k = k
front_may c may (d ∷ ds) k = ap may_stand (eqb-true d c k) ∙ may

stands_may : (c : ℕ) → may_stand c ≡ true → (text : List ℕ) (i : ℕ) → stands text i c ≡ true → passes_at may_stand text i ≡ true
stands_may c may text i h = front_may c may (drop i text) h

run_may : (c : ℕ) → begins_run c ≡ true → may_stand c ≡ true
run_may c h = grind (arith, nat_tests)

front_run_may : (s : List ℕ) → front_is begins_run s ≡ true → front_is may_stand s ≡ true
front_run_may [] h = h
front_run_may (c ∷ cs) h = run_may c h

value_may : (text : List ℕ) (i : ℕ) (span : Span) (raw : Raw) (next : ℕ) → IsValue text i span raw next → passes_at may_stand text i ≡ true
value_may text i span (raw_text w) next is =
    ⊎_elim (λ q. stands_may quote refl text i q) (λ q. stands_may apostrophe refl text i q) (opening_front text i (is.0, is.1.first) is.1.opens)
value_may text i span (raw_integer z) next is = front_run_may (drop i text) is.begins
value_may text i span (raw_decimal z) next is = front_run_may (drop i text) is.begins
value_may text i span (raw_boolean true) next is = stands_may 116 refl text i (word_front true text i is.is)
value_may text i span (raw_boolean false) next is = stands_may 102 refl text i (word_front false text i is.is)
value_may text i span (raw_array items) next is = stands_may open_bracket refl text i is.0
value_may text i span (raw_table entries) next is = stands_may open_brace refl text i is.0

-- no value begins with a byte that begins none
value_other : (c : ℕ) → eqb quote c ≡ false → eqb apostrophe c ≡ false → begins_run c ≡ false → eqb 116 c ≡ false → eqb 102 c ≡ false → eqb open_bracket c ≡ false → eqb open_brace c ≡ false
    → (text : List ℕ) (i : ℕ) (span : Span) (raw : Raw) (next : ℕ) → IsValue text i span raw next → stands text i c ≡ false
value_other c q a n t f b e text i span (raw_text w) next is =
    ⊎_elim (λ h. stands_other (λ x. eqb x c) quote q text i h) (λ h. stands_other (λ x. eqb x c) apostrophe a text i h) (opening_front text i (is.0, is.1.first) is.1.opens)
value_other c q a n t f b e text i span (raw_integer z) next is = passes_other begins_run c n text i is.begins
value_other c q a n t f b e text i span (raw_decimal z) next is = passes_other begins_run c n text i is.begins
value_other c q a n t f b e text i span (raw_boolean true) next is = stands_other (λ x. eqb x c) 116 t text i (word_front true text i is.is)
value_other c q a n t f b e text i span (raw_boolean false) next is = stands_other (λ x. eqb x c) 102 f text i (word_front false text i is.is)
value_other c q a n t f b e text i span (raw_array items) next is = stands_other (λ x. eqb x c) open_bracket b text i is.0
value_other c q a n t f b e text i span (raw_table entries) next is = stands_other (λ x. eqb x c) open_brace e text i is.0

-- a tree never gets shallower
pub entries_grow : (entries : RawEntries) (branches new : Branches) → entries_meant entries branches ≡ Some new → depth branches ≤ depth new
entries_grow raw_empty branches new e = let same = ap depth (is_some branches new e) in omega arith
entries_grow (raw_entry keys span value more) branches new e =
    let first = then_some (λ content. option_and_then (entries_meant more) (branches_with_value keys (closed span content) branches)) (meant value) new e in
    let edit = then_some (entries_meant more) (branches_with_value keys (closed span first.0) branches) new first.2 in
    let one = put_grows keys (closed span first.0) branches edit.0 edit.1 in
    let two = entries_grow more edit.0 new edit.2 in
    omega arith

past_opening : (text : List ℕ) (i : ℕ) (span : Span) (raw : Raw) (next : ℕ) → IsValue text i span raw next
    → stands text i open_bracket ≡ false → stands text i open_brace ≡ false → (opened scalar : TomlReading ValueFound) → cond (stands text i open_bracket || stands text i open_brace) opened scalar ≡ scalar
past_opening text i span raw next is bracket brace opened scalar =
    if_false (stands text i open_bracket || stands text i open_brace) opened scalar (ap (λ b. b || stands text i open_brace) bracket ∙ brace)

abbrev opened_from : (ℕ → TomlReading ItemsFound) → (ℕ → TomlReading EntriesFound) → List ℕ → ℕ → ℕ → TomlReading ValueFound
opened_from items entries text above i =
    cond (eqb above depth_limit) (Err (fault_at TooDeep i (i + 1)))
    (cond (stands text i open_bracket) (then_read (array_read i) (items (i + 1))) (then_read (table_read i) (table_from entries text i)))

scalar_first : (items : ℕ → TomlReading ItemsFound) (entries : ℕ → TomlReading EntriesFound) (text : List ℕ) (above i : ℕ)
    → stands text i open_bracket ≡ false → stands text i open_brace ≡ false → value_from items entries text above i ≡ read_scalar text i
scalar_first items entries text above i bracket brace =
    if_false (stands text i open_bracket || stands text i open_brace) (opened_from items entries text above i) (read_scalar text i)
    (ap (λ b. b || stands text i open_brace) bracket ∙ brace)

abbrev left_from : (ℕ → ℕ → TomlReading ValueFound) → (Branches → ℕ → TomlReading EntriesFound) → List ℕ → ℕ → Branches → KeysFound → TomlReading EntriesFound
left_from value rest text above branches left =
    fault_or (put_fault left.0 branches above) (then_read (entry_put rest text left.0 branches) (value (above + (length left.0 - 1)) left.1))

or_first : (a b : Bool) → a ≡ true → (a || b) ≡ true
or_first a b h = ap (λ x. x || b) h

or_last : (a b : Bool) → b ≡ true → (a || b) ≡ true
or_last true b h = refl
or_last false b h = h

module _ (n : ℕ) (text : List ℕ) (above : ℕ) (rest : ℕ → TomlReading ItemsFound)
    (rest_read : (i : ℕ) (items : RawItems) (next : ℕ) (content : Items) → AreItems text (after_space text i) items next → items_meant items ≡ Some content
    → above + items_depth content ≤ depth_limit → next ≤ length text → 2 * next + 1 ≤ 2 * i + n → rest i ≡ Ok (content, next)) where
  abbrev comma_from : ValueFound → TomlReading ItemsFound
  comma_from v =
      let j = after_space text v.2 in
      cond (stands text j comma) (then_read (λ (x : ItemsFound). Ok (data.item v.0 v.1 x.0, x.1)) (rest (j + 1))) (Err (space_fault text v.2))

  comma_read : (v : ValueFound) (more : RawItems) (next : ℕ) (content : Items) → stands text (after_space text v.2) comma ≡ true
      → AreItems text (after_space text (after_space text v.2 + 1)) more next → items_meant more ≡ Some content
      → above + items_depth content ≤ depth_limit → next ≤ length text → 2 * next + 1 ≤ 2 * (v.2 + 1) + n
      → array_items_behind rest text v ≡ Ok (data.item v.0 v.1 content, next)
  comma_read v more next content at are mean low inside room =
      let j = after_space text v.2 in
      let gap = space_goes text v.2 in
      if_false (stands text j close_bracket) (Ok (data.item v.0 v.1 data.no_item, j + 1)) (comma_from v) (stands_other (λ b. eqb b close_bracket) comma refl text j at)
      ∙ if_true (stands text j comma) (then_read (λ (x : ItemsFound). Ok (data.item v.0 v.1 x.0, x.1)) (rest (j + 1))) (Err (space_fault text v.2)) at
      ∙ ap (then_read (λ (x : ItemsFound). Ok (data.item v.0 v.1 x.0, x.1))) (rest_read (j + 1) more next content are mean low inside (omega arith))

  behind_read : (v : ValueFound) (more : RawItems) (next : ℕ) (content : Items) → AreItemsBehind text (after_space text v.2) more next → items_meant more ≡ Some content
      → above + items_depth content ≤ depth_limit → next ≤ length text → 2 * next + 1 ≤ 2 * (v.2 + 1) + n
      → array_items_behind rest text v ≡ Ok (data.item v.0 v.1 content, next)
  behind_read v raw_none next content (inl only) mean low inside room =
      let j = after_space text v.2 in
      if_true (stands text j close_bracket) (Ok (data.item v.0 v.1 data.no_item, j + 1)) (comma_from v) only.0
      ∙ ap (λ (k : ℕ). Ok (data.item v.0 v.1 data.no_item, k)) (sym only.1) ∙ ap (λ (x : Items). Ok (data.item v.0 v.1 x, next)) (is_some data.no_item content mean)
  behind_read v raw_none next content (inr further) mean low inside room = comma_read v raw_none next content further.0 (further.1, further.2) mean low inside room
  behind_read v (raw_item span raw more) next content are mean low inside room = comma_read v (raw_item span raw more) next content are.0 are.1 mean low inside room

module _ (n : ℕ) (text : List ℕ) (above : ℕ) (rest : Branches → ℕ → TomlReading EntriesFound)
    (rest_read : (branches : Branches) (i : ℕ) (keys : List Key) (span : Span) (raw : Raw) (more : RawEntries) (next : ℕ) (new : Branches)
    → AreEntries text i (raw_entry keys span raw more) next → entries_meant (raw_entry keys span raw more) branches ≡ Some new
    → above + depth new ≤ depth_limit → next ≤ length text → 2 * next + 1 ≤ 2 * i + n → rest branches i ≡ Ok (new, next)) where
  further_read : (k : ℕ) (branches : Branches) (more : RawEntries) (next : ℕ) (new : Branches) → AreEntriesBehind text (after_blanks text k) more next
      → entries_meant more branches ≡ Some new → above + depth new ≤ depth_limit → next ≤ length text → 2 * next + 1 ≤ 2 * (k + 1) + n
      → entries_behind rest text k branches ≡ Ok (new, next)
  further_read k branches raw_empty next new are mean low inside room =
      let j = after_blanks text k in
      if_true (stands text j close_brace) (Ok (branches, j + 1)) (cond (stands text j comma) (rest branches (after_blanks text (j + 1))) (Err (stop_error text j))) are.0
      ∙ ap (λ (x : ℕ). Ok (branches, x)) (sym are.1) ∙ ap (λ (x : Branches). Ok (x, next)) (is_some branches new mean)
  further_read k branches (raw_entry keys span raw more) next new are mean low inside room =
      let j = after_blanks text k in
      if_false (stands text j close_brace) (Ok (branches, j + 1)) (cond (stands text j comma) (rest branches (after_blanks text (j + 1))) (Err (stop_error text j)))
      (stands_other (λ b. eqb b close_brace) comma refl text j are.0)
      ∙ if_true (stands text j comma) (rest branches (after_blanks text (j + 1))) (Err (stop_error text j)) are.0
      ∙ rest_read branches (after_blanks text (j + 1)) keys span raw more next new are.1 mean low inside (omega arith)

mutual
  pub value_read : (n : ℕ) (text : List ℕ) (above i : ℕ) (span : Span) (raw : Raw) (next : ℕ) (content : TomlContent) → IsValue text i span raw next → meant raw ≡ Some content
      → above + depth_of content ≤ depth_limit → next ≤ length text → 2 * next ≤ 2 * i + n → read_value n text above i ≡ Ok (span, content, next)
  value_read zero text above i span raw next content is mean low inside room = let goes = value_goes text i span raw next is in absurd (omega arith)
  value_read (suc n) text above i span (raw_text w) next content is mean low inside room =
      let front = opening_front text i (is.0, is.1.first) is.1.opens in
      let items = read_items n text (above + 1) in
      let entries = read_entries n text (above + 1) unbranched in
      scalar_first items entries text above i
      (⊎_elim (λ q. stands_other (λ b. eqb b open_bracket) quote refl text i q) (λ q. stands_other (λ b. eqb b open_bracket) apostrophe refl text i q) front)
      (⊎_elim (λ q. stands_other (λ b. eqb b open_brace) quote refl text i q) (λ q. stands_other (λ b. eqb b open_brace) apostrophe refl text i q) front)
      ∙ text_read text i is.0 w span next is.1 inside ∙ ap (λ (x : TomlContent). Ok (span, x, next)) (is_some (data.string w) content mean)
  value_read (suc n) text above i span (raw_integer z) next content is mean low inside room =
      scalar_first (read_items n text (above + 1)) (read_entries n text (above + 1) unbranched) text above i
      (passes_other begins_run open_bracket refl text i is.begins) (passes_other begins_run open_brace refl text i is.begins)
      ∙ number_is_read text i (integer z) (data.integer z) span next is refl ∙ ap (λ (x : TomlContent). Ok (span, x, next)) (is_some (data.integer z) content mean)
  value_read (suc n) text above i span (raw_decimal z) next content is mean low inside room =
      scalar_first (read_items n text (above + 1)) (read_entries n text (above + 1) unbranched) text above i
      (passes_other begins_run open_bracket refl text i is.begins) (passes_other begins_run open_brace refl text i is.begins)
      ∙ number_is_read text i (decimal z) (data.decimal z) span next is refl ∙ ap (λ (x : TomlContent). Ok (span, x, next)) (is_some (data.decimal z) content mean)
  value_read (suc n) text above i span (raw_boolean true) next content is mean low inside room =
      let front = word_front true text i is.is in
      scalar_first (read_items n text (above + 1)) (read_entries n text (above + 1) unbranched) text above i
      (stands_other (λ b. eqb b open_bracket) 116 refl text i front) (stands_other (λ b. eqb b open_brace) 116 refl text i front)
      ∙ boolean_read text i true span next is ∙ ap (λ (x : TomlContent). Ok (span, x, next)) (is_some (data.boolean true) content mean)
  value_read (suc n) text above i span (raw_boolean false) next content is mean low inside room =
      let front = word_front false text i is.is in
      scalar_first (read_items n text (above + 1)) (read_entries n text (above + 1) unbranched) text above i
      (stands_other (λ b. eqb b open_bracket) 102 refl text i front) (stands_other (λ b. eqb b open_brace) 102 refl text i front)
      ∙ boolean_read text i false span next is ∙ ap (λ (x : TomlContent). Ok (span, x, next)) (is_some (data.boolean false) content mean)
  value_read (suc n) text above i span (raw_array items) next content is mean low inside room =
      let content_is = map_some data.array (items_meant items) content mean in
      let deep = ap depth_of content_is.2 in
      let at = read_items n text (above + 1) in
      let entries = read_entries n text (above + 1) unbranched in
      let differs : eqb above depth_limit ≡ false = grind (arith, nat_tests) in
      if_true (stands text i open_bracket || stands text i open_brace) (opened_from at entries text above i) (read_scalar text i) (or_first _ _ is.0)
      ∙ if_false (eqb above depth_limit) (Err (fault_at TooDeep i (i + 1)))
      (cond (stands text i open_bracket) (then_read (array_read i) (at (i + 1))) (then_read (table_read i) (table_from entries text i))) differs
      ∙ if_true (stands text i open_bracket) (then_read (array_read i) (at (i + 1))) (then_read (table_read i) (table_from entries text i)) is.0
      ∙ ap (then_read (array_read i)) (items_read n text (above + 1) (i + 1) items next content_is.0 is.1 content_is.1 (omega arith) inside (omega arith))
      ∙ ap (λ (x : Span). Ok (x, data.array content_is.0, next)) (sym is.2) ∙ ap (λ (x : TomlContent). Ok (span, x, next)) content_is.2
  value_read (suc n) text above i span (raw_table raw_empty) next content is mean low inside room =
      let deep = ap depth_of (is_some _ content mean) in
      let items = read_items n text (above + 1) in
      let entries = read_entries n text (above + 1) unbranched in
      let differs : eqb above depth_limit ≡ false = grind (arith, nat_tests) in
      let j = after_blanks text (i + 1) in
      if_true (stands text i open_bracket || stands text i open_brace) (opened_from items entries text above i) (read_scalar text i) (or_last _ _ is.0)
      ∙ if_false (eqb above depth_limit) (Err (fault_at TooDeep i (i + 1)))
      (cond (stands text i open_bracket) (then_read (array_read i) (items (i + 1))) (then_read (table_read i) (table_from entries text i))) differs
      ∙ if_false (stands text i open_bracket) (then_read (array_read i) (items (i + 1))) (then_read (table_read i) (table_from entries text i))
      (stands_other (λ b. eqb b open_bracket) open_brace refl text i is.0)
      ∙ ap (then_read (table_read i)) (if_true (stands text j close_brace) (Ok (unbranched, j + 1)) (entries j) is.1.0)
      ∙ ap (λ (k : ℕ). Ok (from_to i k, data.table (entries_of unbranched), k)) (sym is.1.1)
      ∙ ap (λ (x : Span). Ok (x, data.table (entries_of unbranched), next)) (sym is.2) ∙ ap (λ (x : TomlContent). Ok (span, x, next)) (is_some _ content mean)
  value_read (suc n) text above i span (raw_table (raw_entry keys at value more)) next content is mean low inside room =
      let content_is = map_some (λ branches. data.table (entries_of branches)) (entries_meant (raw_entry keys at value more) unbranched) content mean in
      let deep = ap depth_of content_is.2 in
      let items = read_items n text (above + 1) in
      let entries = read_entries n text (above + 1) unbranched in
      let differs : eqb above depth_limit ≡ false = grind (arith, nat_tests) in
      let j = after_blanks text (i + 1) in
      if_true (stands text i open_bracket || stands text i open_brace) (opened_from items entries text above i) (read_scalar text i) (or_last _ _ is.0)
      ∙ if_false (eqb above depth_limit) (Err (fault_at TooDeep i (i + 1)))
      (cond (stands text i open_bracket) (then_read (array_read i) (items (i + 1))) (then_read (table_read i) (table_from entries text i))) differs
      ∙ if_false (stands text i open_bracket) (then_read (array_read i) (items (i + 1))) (then_read (table_read i) (table_from entries text i))
      (stands_other (λ b. eqb b open_bracket) open_brace refl text i is.0)
      ∙ ap (then_read (table_read i)) (
      if_false (stands text j close_brace) (Ok (unbranched, j + 1)) (entries j) (keys_other close_brace refl refl refl text j keys is.1.1.0 is.1.1.1)
      ∙ entries_read n text (above + 1) unbranched j keys at value more next content_is.0 is.1 content_is.1 (omega arith) inside (omega arith)
      )
      ∙ ap (λ (x : Span). Ok (x, data.table (entries_of content_is.0), next)) (sym is.2) ∙ ap (λ (x : TomlContent). Ok (span, x, next)) content_is.2

  pub items_read : (n : ℕ) (text : List ℕ) (above i : ℕ) (items : RawItems) (next : ℕ) (content : Items) → AreItems text (after_space text i) items next
      → items_meant items ≡ Some content → above + items_depth content ≤ depth_limit → next ≤ length text → 2 * next + 1 ≤ 2 * i + n
      → read_items n text above i ≡ Ok (content, next)
  items_read zero text above i items next content are mean low inside room =
      let goes = items_go text (after_space text i) items next are in
      let space = space_goes text i in
      absurd (omega arith)
  items_read (suc n) text above i raw_none next content are mean low inside room =
      let j = after_space text i in
      let value = read_value n text above in
      let rest = read_items n text above in
      if_false (cut_in_comment text i) (Err (space_fault text i)) (cond (stands text j close_bracket) (Ok (data.no_item, j + 1)) (then_read (array_items_behind rest text) (value j)))
      (uncut text i (stands_may close_bracket refl text j are.0))
      ∙ if_true (stands text j close_bracket) (Ok (data.no_item, j + 1)) (then_read (array_items_behind rest text) (value j)) are.0
      ∙ ap (λ (k : ℕ). Ok (data.no_item, k)) (sym are.1) ∙ ap (λ (x : Items). Ok (x, next)) (is_some data.no_item content mean)
  items_read (suc n) text above i (raw_item span raw more) next content are mean low inside room =
      let j = after_space text i in
      let k = are.0 in
      let value = read_value n text above in
      let rest = read_items n text above in
      let first = then_some (λ c. option_map (data.item span c) (items_meant more)) (meant raw) content mean in
      let others = map_some (data.item span first.0) (items_meant more) content first.2 in
      let deep = ap items_depth others.2 in
      let space = space_goes text i in
      let goes = value_goes text j span raw k are.1 in
      let further = behind_goes text (after_space text k) more next are.2 in
      let gap = space_goes text k in
      if_false (cut_in_comment text i) (Err (space_fault text i)) (cond (stands text j close_bracket) (Ok (data.no_item, j + 1)) (then_read (array_items_behind rest text) (value j)))
      (uncut text i (value_may text j span raw k are.1))
      ∙ if_false (stands text j close_bracket) (Ok (data.no_item, j + 1)) (then_read (array_items_behind rest text) (value j))
      (value_other close_bracket refl refl refl refl refl refl refl text j span raw k are.1)
      ∙ ap (then_read (array_items_behind rest text)) (value_read n text above j span raw k first.0 are.1 first.1 (omega arith) (omega arith) (omega arith))
      ∙ behind_read n text above rest (items_read n text above) (span, first.0, k) more next others.0 are.2 others.1 (omega arith) inside (omega arith)
      ∙ ap (λ (x : Items). Ok (x, next)) others.2

  pub entries_read : (n : ℕ) (text : List ℕ) (above : ℕ) (branches : Branches) (i : ℕ) (keys : List Key) (span : Span) (raw : Raw) (more : RawEntries) (next : ℕ) (new : Branches)
      → AreEntries text i (raw_entry keys span raw more) next → entries_meant (raw_entry keys span raw more) branches ≡ Some new
      → above + depth new ≤ depth_limit → next ≤ length text → 2 * next + 1 ≤ 2 * i + n → read_entries n text above branches i ≡ Ok (new, next)
  entries_read zero text above branches i keys span raw more next new are mean low inside room =
      let goes = entries_go text i (raw_entry keys span raw more) next are in absurd (omega arith)
  entries_read (suc n) text above branches i keys span raw more next new are mean low inside room =
      let value = read_value n text in
      let rest = read_entries n text above in
      let k = are.0 in
      let end = are.1.0 in
      let at = after_blanks text (after_blanks text end + 1) in
      let high = above + (length keys - 1) in
      let first = then_some (λ content. option_and_then (entries_meant more) (branches_with_value keys (closed span content) branches)) (meant raw) new mean in
      let edit = then_some (entries_meant more) (branches_with_value keys (closed span first.0) branches) new first.2 in
      let grows = entries_grow more edit.0 new edit.2 in
      let free = put_free keys (closed span first.0) branches edit.0 above edit.1 (omega arith) in
      let key = keys_go text i keys end are.1.1 in
      let goes = value_goes text at span raw k are.1.3 in
      let further = entries_behind_go text (after_blanks text k) more next are.2 in
      ap (then_read (left_from value rest text above branches)) (left_read text i keys end are.1.1 are.1.2 (omega arith))
      ∙ ap (λ o. fault_or o (then_read (entry_put rest text keys branches) (value high at))) free.0
      ∙ ap (then_read (entry_put rest text keys branches)) (value_read n text high at span raw k first.0 are.1.3 first.1 free.1 (omega arith) (omega arith))
      ∙ ap (λ o. then_read (entries_behind rest text k) (edit_reading text o)) edit.1
      ∙ further_read n text above rest (entries_read n text above) k edit.0 more next new are.2 edit.2 low inside (omega arith)
