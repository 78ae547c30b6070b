-- Readings that keep places of one text.
use Rattle.std.proofs.Common.{ℕ, true, false, cond, List, [], ◌∷◌, ◌++◌, Option, Some, None, Ok, Err}
use Rattle.std.specs.Prelude.{ℤ, ⊤, codes, map, option_map, unwrap_or}
use Rattle.std.specs.List.{AllByRecursion, filter_map, flat_map, cons_option}
use Rattle.std.specs.Result.{result_ok}
use Rattle.std.specs.Str.{bytes_eq}
use Rattle.deny_text.specs.declared.span.Span.{Span}
use Rattle.deny_text.specs.Spans.{LiesBetween}
use Rattle.toml_subset.specs.text_laws.Placed.{IsPlaced, IsContentPlaced, AreItemsPlaced, AreEntriesPlaced}
use Rattle.toml_subset.specs.shapes.Kinds.{kind_word}
use Rattle.toml_subset.specs.shapes.Shaped.{ShapeReading, shaped_map, shaped_then, faults_in, shaped_of}
use Rattle.toml_subset.specs.shapes.Shapes.{ShapeFault}
use Rattle.toml_subset.specs.declared.shapes.shape.ValueKind.TheVariants as kind
use Rattle.toml_subset.specs.Data.{TomlContent, Items, Entries, Toml, string, integer, decimal, boolean, array, table, no_item, item, no_entry, entry}
use Rattle.toml_subset.specs.Written.{WrittenString}
use Rattle.toml_value.specs.Lookup.{value_at}
use Rattle.toml_value.specs.Removal.{entries_without, names_in}
use Rattle.toml_value.specs.Taken.{or_wanted, string_of, values_of}
use Rattle.policy_toml.specs.HelperState.{given_value, faults_of, unexpected_faults}
use Rattle.policy_toml.specs.Readings.{text_of, boolean_of, i64_of, u32_of, in_32_bits, or_out_of_range, spanned_of, array_of, list_of, name_of, or_unexpected, thing_of_name}
use Rattle.policy_toml.specs.rows.Rows.{KeyRow, key, passed_key, optional_value, rows_faults, shaped_by, in_table, required_value, needed_at, entries_besides, names_of_rows}
use Rattle.policy_core.specs.place_laws.Places.{IsToldIn, StaysIn, KeepsPlacesIn, keeps_nothing, keeps_its_span, keeps_each, keeps_where}

-- what a thing keeps, by the text
abbrev pub Keeping : Type 0 → Type 1
Keeping A = List ℕ → A → Type 0

each_append : {A : Type 0} (P : A → Type 0) (xs ys : List A) → AllByRecursion P xs → AllByRecursion P ys → AllByRecursion P (xs ++ ys)
each_append P [] ys all more = more
each_append P (x ∷ xs) ys all more = (all.0, each_append P xs ys all.1 more)

module _ (text : List ℕ) where
  -- ---- answers

  abbrev pub AreToldIn : List ShapeFault → Type 0
  AreToldIn = AllByRecursion (IsToldIn text)

  pub map_stays : {A B : Type 0} (keeps : Keeping A) (holds : Keeping B) (f : A → B) (read : ShapeReading A)
      → ((x : A) → keeps text x → holds text (f x)) → StaysIn keeps text read → StaysIn holds text (shaped_map f read)
  map_stays keeps holds f (Ok x) h stays = h x stays
  map_stays keeps holds f (Err faults) h stays = stays

  pub then_stays : {A B : Type 0} (keeps : Keeping A) (holds : Keeping B) (f : A → ShapeReading B) (read : ShapeReading A)
      → ((x : A) → keeps text x → StaysIn holds text (f x)) → StaysIn keeps text read → StaysIn holds text (shaped_then f read)
  then_stays keeps holds f (Ok x) h stays = h x stays
  then_stays keeps holds f (Err faults) h stays = stays

  pub answer_stays : {A : Type 0} (keeps : Keeping A) (faults : List ShapeFault) (x : A) → AreToldIn faults → keeps text x → StaysIn keeps text (shaped_of faults x)
  answer_stays keeps [] x told kept = kept
  answer_stays keeps (fault ∷ faults) x told kept = told

  -- ---- values of one kind

  pub wanted_stays : {A : Type 0} (expected : List ℕ) (value : Toml) (found : Option A) → IsPlaced text value
      → StaysIn keeps_nothing text (or_wanted expected value found)
  wanted_stays expected value None placed = (placed.0, tt)
  wanted_stays expected value (Some x) placed = tt

  pub string_stays : (expected : List ℕ) → KeepsPlacesIn text keeps_nothing (string_of expected)
  string_stays expected value placed = wanted_stays expected value _ placed

  pub text_stays : KeepsPlacesIn text keeps_nothing text_of
  text_stays value placed = map_stays keeps_nothing keeps_nothing (λ (w : WrittenString). w.text) (string_of (kind_word kind.String) value) (λ x h. tt) (string_stays (kind_word kind.String) value placed)

  pub boolean_stays : KeepsPlacesIn text keeps_nothing boolean_of
  boolean_stays value placed = wanted_stays (kind_word kind.Boolean) value _ placed

  pub i64_stays : KeepsPlacesIn text keeps_nothing i64_of
  i64_stays value placed = wanted_stays (kind_word kind.Integer) value _ placed

  pub range_stays : {A : Type 0} (type : List ℕ) (span : Span) (found : Option A) → LiesBetween text span
      → StaysIn keeps_nothing text (or_out_of_range type span found)
  range_stays type span None lies = (lies, tt)
  range_stays type span (Some x) lies = tt

  pub u32_stays : KeepsPlacesIn text keeps_nothing u32_of
  u32_stays value placed =
      then_stays keeps_nothing keeps_nothing (λ (z : ℤ). or_out_of_range (codes "u32") value.span (in_32_bits z)) (i64_of value)
      (λ z h. range_stays (codes "u32") value.span (in_32_bits z) placed.0) (i64_stays value placed)

  unexpected_stays : {A : Type 0} (names : List (List ℕ)) (span : Span) (found : Option A) → LiesBetween text span
      → StaysIn keeps_nothing text (or_unexpected names span found)
  unexpected_stays names span None lies = (lies, tt)
  unexpected_stays names span (Some x) lies = tt

  pub name_stays : {A : Type 0} (expected : List ℕ) (rows : List (List ℕ × A)) → KeepsPlacesIn text keeps_nothing (name_of expected rows)
  name_stays {A} expected rows value placed =
      then_stays keeps_nothing keeps_nothing (λ (w : WrittenString). or_unexpected (map (λ (row : List ℕ × A). row.0) rows) value.span (thing_of_name rows w.text)) (string_of expected value)
      (λ w h. unexpected_stays (map (λ (row : List ℕ × A). row.0) rows) value.span (thing_of_name rows w.text) placed.0)
      (string_stays expected value placed)

  pub spanned_stays : {A : Type 0} (keeps : Keeping A) (reads : Toml → ShapeReading A) → KeepsPlacesIn text keeps reads → KeepsPlacesIn text keeps_its_span (spanned_of reads)
  spanned_stays keeps reads law value placed =
      map_stays keeps keeps_its_span (λ x. record { value = x; span = value.span }) (reads value) (λ x h. placed.0) (law value placed)

  -- ---- lists

  values_placed : (items : Items) → AreItemsPlaced text items → AllByRecursion (IsPlaced text) (values_of items)
  values_placed no_item placed = tt
  values_placed (item span content more) placed = ((placed.0, placed.1), values_placed more placed.2)

  abbrev keeps_placed : List ℕ → List Toml → Type 0
  keeps_placed text values = AllByRecursion (IsPlaced text) values

  array_by : (span : Span) (content : TomlContent) → LiesBetween text span → IsContentPlaced text span content
      → StaysIn keeps_placed text (array_of (record { content = content; span = span }))
  array_by span (string w) lies placed = (lies, tt)
  array_by span (integer z) lies placed = (lies, tt)
  array_by span (decimal z) lies placed = (lies, tt)
  array_by span (boolean b) lies placed = (lies, tt)
  array_by span (array items) lies placed = values_placed items placed
  array_by span (table entries) lies placed = (lies, tt)

  item_faults : {A : Type 0} (keeps : Keeping A) (read : ShapeReading A) → StaysIn keeps text read → AreToldIn (faults_in read)
  item_faults keeps (Ok x) stays = tt
  item_faults keeps (Err faults) stays = stays

  each_told : {A : Type 0} (keeps : Keeping A) (reads : Toml → ShapeReading A) → KeepsPlacesIn text keeps reads → (values : List Toml)
      → keeps_placed text values → AreToldIn (flat_map (λ value. faults_in (reads value)) values)
  each_told keeps reads law [] placed = tt
  each_told keeps reads law (value ∷ values) placed =
      each_append (IsToldIn text) (faults_in (reads value)) (flat_map (λ value. faults_in (reads value)) values)
      (item_faults keeps (reads value) (law value placed.0)) (each_told keeps reads law values placed.1)

  item_kept : {A : Type 0} (keeps : Keeping A) (read : ShapeReading A) (more : List A) → StaysIn keeps text read
      → keeps_each keeps text more → keeps_each keeps text (cons_option (result_ok read) more)
  item_kept keeps (Ok x) more stays kept = (stays, kept)
  item_kept keeps (Err faults) more stays kept = kept

  each_kept : {A : Type 0} (keeps : Keeping A) (reads : Toml → ShapeReading A) → KeepsPlacesIn text keeps reads → (values : List Toml)
      → keeps_placed text values → keeps_each keeps text (filter_map (λ value. result_ok (reads value)) values)
  each_kept keeps reads law [] placed = tt
  each_kept keeps reads law (value ∷ values) placed =
      item_kept keeps (reads value) (filter_map (λ value. result_ok (reads value)) values) (law value placed.0)
      (each_kept keeps reads law values placed.1)

  pub list_stays : {A : Type 0} (keeps : Keeping A) (reads : Toml → ShapeReading A) → KeepsPlacesIn text keeps reads → KeepsPlacesIn text (keeps_each keeps) (list_of reads)
  list_stays keeps reads law value placed =
      then_stays keeps_placed (keeps_each keeps) (λ values. shaped_of (flat_map (λ value. faults_in (reads value)) values) (filter_map (λ value. result_ok (reads value)) values))
      (array_of value)
      (λ values h. answer_stays (keeps_each keeps) (flat_map (λ value. faults_in (reads value)) values) (filter_map (λ value. result_ok (reads value)) values)
      (each_told keeps reads law values h) (each_kept keeps reads law values h))
      (array_by value.span value.content placed.0 placed.1)

  -- ---- tables

  -- a value that may be there
  abbrev pub IsPlacedWhere : Option Toml → Type 0
  IsPlacedWhere None = ⊤
  IsPlacedWhere (Some value) = IsPlaced text value

  pub found_placed : (name : List ℕ) (entries : Entries) → AreEntriesPlaced text entries → IsPlacedWhere (value_at name entries)
  found_placed name no_entry placed = tt
  found_placed name (entry key span content more) placed =
      elim (bytes_eq key.name.text name) as (λ b. IsPlacedWhere (cond b (Some (record { content = content; span = span })) (value_at name more))) [
        | true ↦ (placed.1, placed.2)
        | false ↦ found_placed name more placed.3
      ]

  -- what is left behind a key
  pub without_placed : (name : List ℕ) (entries : Entries) → AreEntriesPlaced text entries → AreEntriesPlaced text (entries_without name entries)
  without_placed name no_entry placed = tt
  without_placed name (entry key span content more) placed =
      elim (bytes_eq key.name.text name) as (λ b. AreEntriesPlaced text (cond b more (entry key span content (entries_without name more)))) [
        | true ↦ placed.3
        | false ↦ (placed.0, placed.1, placed.2, without_placed name more placed.3)
      ]

  abbrev pub KeepsInTable : {A : Type 0} → Keeping A → (Entries → Span → ShapeReading A) → Type 0
  KeepsInTable keeps reads = (entries : Entries) (span : Span) → LiesBetween text span → AreEntriesPlaced text entries → StaysIn keeps text (reads entries span)

  table_by : {A : Type 0} (keeps : Keeping A) (reads : Entries → Span → ShapeReading A) → KeepsInTable keeps reads → (span : Span) (content : TomlContent)
      → LiesBetween text span → IsContentPlaced text span content → StaysIn keeps text (in_table reads (record { content = content; span = span }))
  table_by keeps reads law span (string w) lies placed = (lies, tt)
  table_by keeps reads law span (integer z) lies placed = (lies, tt)
  table_by keeps reads law span (decimal z) lies placed = (lies, tt)
  table_by keeps reads law span (boolean b) lies placed = (lies, tt)
  table_by keeps reads law span (array items) lies placed = (lies, tt)
  table_by keeps reads law span (table entries) lies placed = law entries span lies placed

  pub table_stays : {A : Type 0} (keeps : Keeping A) (reads : Entries → Span → ShapeReading A) → KeepsInTable keeps reads → KeepsPlacesIn text keeps (in_table reads)
  table_stays keeps reads law value placed = table_by keeps reads law value.span value.content placed.0 placed.1

  -- ---- keys

  pub needed_by : {A : Type 0} (keeps : Keeping A) (reads : Toml → ShapeReading A) → KeepsPlacesIn text keeps reads → (name : List ℕ) (span : Span) (value : Option Toml)
      → LiesBetween text span → IsPlacedWhere value → StaysIn keeps text (needed_at name span (option_map reads value))
  needed_by keeps reads law name span None lies placed = (lies, tt)
  needed_by keeps reads law name span (Some value) lies placed = law value placed

  pub needed_stays : {A : Type 0} (keeps : Keeping A) (name : List ℕ) (reads : Toml → ShapeReading A) → KeepsPlacesIn text keeps reads → KeepsInTable keeps (required_value name reads)
  needed_stays keeps name reads law entries span lies placed = needed_by keeps reads law name span (value_at name entries) lies (found_placed name entries placed)

  read_where : {A : Type 0} (keeps : Keeping A) (read : ShapeReading A) → StaysIn keeps text read → keeps_where keeps text (given_value (Some read))
  read_where keeps (Ok x) stays = stays
  read_where keeps (Err faults) stays = tt

  given_by : {A : Type 0} (keeps : Keeping A) (reads : Toml → ShapeReading A) → KeepsPlacesIn text keeps reads → (value : Option Toml)
      → IsPlacedWhere value → keeps_where keeps text (given_value (option_map reads value))
  given_by keeps reads law None placed = tt
  given_by keeps reads law (Some value) placed = read_where keeps (reads value) (law value placed)

  pub given_kept : {A : Type 0} (keeps : Keeping A) (name : List ℕ) (reads : Toml → ShapeReading A) → KeepsPlacesIn text keeps reads → (entries : Entries)
      → AreEntriesPlaced text entries → keeps_where keeps text (optional_value name reads entries)
  given_kept keeps name reads law entries placed = given_by keeps reads law (value_at name entries) (found_placed name entries placed)

  pub list_kept : {A : Type 0} (keeps : Keeping A) (list : Option (List A)) → keeps_where (keeps_each keeps) text list → keeps_each keeps text (unwrap_or list [])
  list_kept keeps None kept = tt
  list_kept keeps (Some xs) kept = kept

  -- ---- rows

  abbrev pub TellsPlaces : KeyRow → Type 0
  TellsPlaces row = (value : Option Toml) → IsPlacedWhere value → AreToldIn (row.faults value)

  faults_told : {A : Type 0} (keeps : Keeping A) (read : ShapeReading A) → StaysIn keeps text read → AreToldIn (faults_of (Some read))
  faults_told keeps (Ok x) stays = tt
  faults_told keeps (Err faults) stays = stays

  pub key_tells : {A : Type 0} (keeps : Keeping A) (name : List ℕ) (reads : Toml → ShapeReading A) → KeepsPlacesIn text keeps reads → TellsPlaces (key name reads)
  key_tells keeps name reads law None placed = tt
  key_tells keeps name reads law (Some value) placed = faults_told keeps (reads value) (law value placed)

  pub passed_tells : (name : List ℕ) → TellsPlaces (passed_key name)
  passed_tells name value placed = tt

  rows_tell : (rows : List KeyRow) → AllByRecursion TellsPlaces rows → (entries : Entries) → AreEntriesPlaced text entries → AreToldIn (rows_faults rows entries)
  rows_tell [] tell entries placed = tt
  rows_tell (row ∷ rows) tell entries placed =
      each_append (IsToldIn text) (row.faults (value_at row.name entries)) (rows_faults rows entries)
      (tell.0 (value_at row.name entries) (found_placed row.name entries placed)) (rows_tell rows tell.1 entries placed)

  left_told : (names : List (List ℕ)) (span : Span) → LiesBetween text span → AreToldIn (unexpected_faults names span)
  left_told [] span lies = tt
  left_told (name ∷ names) span lies = (lies, tt)

  pub rows_stay : {A : Type 0} (keeps : Keeping A) (front : List (List ℕ)) (rows : List KeyRow) (stands_for : Entries → A) → AllByRecursion TellsPlaces rows
      → (entries : Entries) (span : Span) → LiesBetween text span → AreEntriesPlaced text entries → keeps text (stands_for entries)
      → StaysIn keeps text (shaped_by front rows stands_for entries span)
  rows_stay keeps front rows stands_for tell entries span lies placed kept =
      let unread = names_in (entries_besides (front ++ names_of_rows rows) entries) in
      answer_stays keeps (rows_faults rows entries ++ unexpected_faults unread span) (stands_for entries)
      (each_append (IsToldIn text) (rows_faults rows entries) (unexpected_faults unread span) (rows_tell rows tell entries placed) (left_told unread span lies))
      kept
