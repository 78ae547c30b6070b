-- Keys that are read one after another are read as if each were the first.
use Rattle.std.proofs.Common.{◌≡◌, ℕ, Bool, true, false, not, ◌&&◌, List, [], ◌∷◌, ◌++◌, append-nil, append_assoc, is_some, Option, Some, None, Ok, Err, refl, sym, ap, subst, ◌∙◌}
use Rattle.std.specs.Prelude.{codes, option_map}
use Rattle.std.specs.Cmp.{first_so, second_so}
use Rattle.std.specs.Str.{bytes_eq}
use Rattle.deny_text.specs.declared.span.Span.{Span}
use Rattle.toml_subset.specs.Data.{Entries, Toml}
use Rattle.toml_subset.specs.declared.string.Key.{Key}
use Rattle.toml_subset.specs.shapes.Shaped.{ShapeReading, TellsFaults, shaped_map, shaped_then, shaped_of}
use Rattle.toml_subset.specs.shapes.Shapes.{ShapeFault, fault_alone, missing}
use Rattle.toml_subset.specs.declared.shapes.shape.DeserError.{DeserError}
use Rattle.toml_subset.specs.declared.shapes.shape.DeserError.TheVariants.{Faults, Memory}
use Rattle.toml_value.specs.Lookup.{value_at}
use Rattle.toml_value.specs.Removal.{entry_at, entries_without, names_in}
use Rattle.toml_value.specs.Taken.{as_table, left_by, left_where, or_wanted}
use Rattle.policy_toml.specs.HelperState.{HelperState, with_faults, without_key, opened_table, optional_of, required_of, needed_value, given_value, faults_at_end, unexpected_faults}
use Rattle.policy_toml.specs.rows.Rows.{KeyRow, passed_key, key_span, names_of_rows, rows_faults, entries_besides, table_faults, in_table, left_of_table, required_value, needed_at, optional_value, is_besides, are_apart}
use Rattle.policy_toml.proofs.rows.Keys.{value_at_without, entry_at_without}

-- a state behind one more row, and behind several
abbrev pub after_row : KeyRow → HelperState → HelperState
after_row row state = with_faults (row.faults (value_at row.name state.left)) (without_key row.name state)

abbrev pub after_rows : List KeyRow → HelperState → HelperState
after_rows [] state = state
after_rows (row ∷ rows) state = after_rows rows (after_row row state)

not_so : (b : Bool) → not b ≡ true → b ≡ false
not_so true e = sym e
not_so false e = refl

-- ---- other keys are found as before

rows_without : (name : List ℕ) (rows : List KeyRow) (entries : Entries) → is_besides name (names_of_rows rows) ≡ true
    → rows_faults rows (entries_without name entries) ≡ rows_faults rows entries
rows_without name [] entries apart = refl
rows_without name (row ∷ rows) entries apart =
    let other = not_so (bytes_eq name row.name) (first_so (not (bytes_eq name row.name)) (is_besides name (names_of_rows rows)) apart) in
    let more = rows_without name rows entries (second_so (not (bytes_eq name row.name)) (is_besides name (names_of_rows rows)) apart) in
    ap (λ value. row.faults value ++ rows_faults rows (entries_without name entries)) (value_at_without row.name name entries other)
    ∙ ap (λ faults. row.faults (value_at row.name entries) ++ faults) more

-- none of these is the name
abbrev pub none_is : List ℕ → List (List ℕ) → Bool
none_is name [] = true
none_is name (other ∷ more) = not (bytes_eq other name) && none_is name more

pub found_behind : (name : List ℕ) (passed : List (List ℕ)) (entries : Entries) → none_is name passed ≡ true
    → value_at name (entries_besides passed entries) ≡ value_at name entries
found_behind name [] entries apart = refl
found_behind name (other ∷ more) entries apart =
    found_behind name more (entries_without other entries) (second_so (not (bytes_eq other name)) (none_is name more) apart)
    ∙ value_at_without name other entries (not_so (bytes_eq other name) (first_so (not (bytes_eq other name)) (none_is name more) apart))

pub entry_behind : (name : List ℕ) (passed : List (List ℕ)) (entries : Entries) → none_is name passed ≡ true
    → entry_at name (entries_besides passed entries) ≡ entry_at name entries
entry_behind name [] entries apart = refl
entry_behind name (other ∷ more) entries apart =
    entry_behind name more (entries_without other entries) (second_so (not (bytes_eq other name)) (none_is name more) apart)
    ∙ entry_at_without name other entries (not_so (bytes_eq other name) (first_so (not (bytes_eq other name)) (none_is name more) apart))

-- ---- a key that is passed over

-- the state behind it
pub passed_row : (name : List ℕ) (state : HelperState) → without_key name state ≡ after_row (passed_key name) state
passed_row name state = ap (λ (faults : List ShapeFault). record { left = entries_without name state.left; span = state.span; faults = faults }) (sym (append-nil state.faults))

-- its place, behind the keys that were read before it
pub passed_span : (name : List ℕ) (passed : List (List ℕ)) (entries : Entries) (state : HelperState) → none_is name passed ≡ true
    → state.left ≡ entries_besides passed entries → key_span name state.left ≡ key_span name entries
passed_span name passed entries state apart left =
    ap (option_map (λ (found : Key × Toml). found.0.span)) (ap (entry_at name) left ∙ entry_behind name passed entries apart)

-- ---- a field behind the keys that were read before it

pub field : {A : Type 0} (name : List ℕ) (reads : Toml → ShapeReading A) (passed : List (List ℕ)) (entries : Entries) (state : HelperState) (x : Option A)
    → none_is name passed ≡ true → state.left ≡ entries_besides passed entries → x ≡ optional_of name reads state → x ≡ optional_value name reads entries
field name reads passed entries state x apart left is =
    is ∙ ap (λ value. given_value (option_map reads value)) (ap (value_at name) left ∙ found_behind name passed entries apart)

-- ---- the faults of a table

gathered : (rows : List KeyRow) (state : HelperState) → are_apart (names_of_rows rows) ≡ true
    → after_rows rows state ≡ record { left = entries_besides (names_of_rows rows) state.left; span = state.span; faults = state.faults ++ rows_faults rows state.left }
gathered [] state apart = ap (λ (faults : List ShapeFault). record state { faults = faults }) (sym (append-nil state.faults))
gathered (row ∷ rows) state apart =
    let first = first_so (is_besides row.name (names_of_rows rows)) (are_apart (names_of_rows rows)) apart in
    let more = second_so (is_besides row.name (names_of_rows rows)) (are_apart (names_of_rows rows)) apart in
    let own = row.faults (value_at row.name state.left) in
    gathered rows (after_row row state) more
    ∙ ap (λ (faults : List ShapeFault). record { left = entries_besides (names_of_rows rows) (entries_without row.name state.left); span = state.span; faults = faults })
    (append_assoc state.faults own (rows_faults rows (entries_without row.name state.left))
    ∙ ap (λ faults. state.faults ++ (own ++ faults)) (rows_without row.name rows state.left first))

-- ---- rows behind keys that had to be there

besides_back : (name : List ℕ) (front names : List (List ℕ)) → is_besides name (front ++ names) ≡ true → is_besides name names ≡ true
besides_back name [] names apart = apart
besides_back name (other ∷ front) names apart =
    besides_back name front names (second_so (not (bytes_eq name other)) (is_besides name (front ++ names)) apart)

apart_back : (front names : List (List ℕ)) → are_apart (front ++ names) ≡ true → are_apart names ≡ true
apart_back [] names apart = apart
apart_back (name ∷ front) names apart =
    apart_back front names (second_so (is_besides name (front ++ names)) (are_apart (front ++ names)) apart)

rows_behind : (passed : List (List ℕ)) (rows : List KeyRow) (entries : Entries) → are_apart (passed ++ names_of_rows rows) ≡ true
    → rows_faults rows (entries_besides passed entries) ≡ rows_faults rows entries
rows_behind [] rows entries apart = refl
rows_behind (name ∷ passed) rows entries apart =
    let names = names_of_rows rows in
    let here = first_so (is_besides name (passed ++ names)) (are_apart (passed ++ names)) apart in
    rows_behind passed rows (entries_without name entries) (second_so (is_besides name (passed ++ names)) (are_apart (passed ++ names)) apart)
    ∙ rows_without name rows entries (besides_back name passed names here)

besides_both : (passed names : List (List ℕ)) (entries : Entries)
    → entries_besides names (entries_besides passed entries) ≡ entries_besides (passed ++ names) entries
besides_both [] names entries = refl
besides_both (name ∷ passed) names entries = besides_both passed names (entries_without name entries)

-- a table of which the needed keys were read, and nothing is wrong so far
abbrev pub begun : List (List ℕ) → Entries → Span → HelperState
begun passed entries span = record { left = entries_besides passed entries; span = span; faults = [] }

abbrev ended_by : {A : Type 0} → Span → A → Entries → List ShapeFault → ShapeReading A
ended_by span x left faults = shaped_of (faults ++ unexpected_faults (names_in left) span) x

-- the end of a table whose rows were read one after another
pub finished : {A : Type 0} (passed : List (List ℕ)) (rows : List KeyRow) (entries : Entries) (span : Span) (after : HelperState) (x : A)
    → are_apart (passed ++ names_of_rows rows) ≡ true → after ≡ after_rows rows (begun passed entries span)
    → shaped_of (faults_at_end false after) x ≡ shaped_of (table_faults passed rows entries span) x
finished passed rows entries span after x apart is =
    ap (λ (s : HelperState). shaped_of (faults_at_end false s) x) (is ∙ gathered rows (begun passed entries span) (apart_back passed (names_of_rows rows) apart))
    ∙ ap (λ left. ended_by span x left (rows_faults rows (entries_besides passed entries))) (besides_both passed (names_of_rows rows) entries)
    ∙ ap (ended_by span x (entries_besides (passed ++ names_of_rows rows) entries)) (rows_behind passed rows entries apart)

-- ---- a key that has to be there, before any other

needed_is : {A : Type 0} (name : List ℕ) (read : Option (ShapeReading A)) (state : HelperState) → state.faults ≡ []
    → needed_value name state read ≡ needed_at name state.span read
needed_is name None state none = ap (λ faults. Err (faults ++ fault_alone (missing name) state.span)) none
needed_is name (Some (Ok x)) state none = refl
needed_is name (Some (Err faults)) state none = ap (λ before. Err (before ++ faults)) none

pub required_is : {A : Type 0} (name : List ℕ) (reads : Toml → ShapeReading A) (state : HelperState) → state.faults ≡ []
    → required_of name reads state ≡ required_value name reads state.left state.span
required_is name reads state none = needed_is name (option_map reads (value_at name state.left)) state none

-- ---- a table that is opened

abbrev unread : Span → Entries → HelperState
unread span entries = record { left = entries; span = span; faults = [] }

opened_by : {A : Type 0} (reads : Entries → Span → ShapeReading A) (value : Toml) (there : Option Entries)
    → shaped_then (λ (entries : Entries). reads entries value.span) (or_wanted (codes "a table") value there)
    ≡ shaped_then (λ (state : HelperState). reads state.left state.span) (shaped_map (unread value.span) (or_wanted (codes "a table") value there))
opened_by reads value None = refl
opened_by reads value (Some entries) = refl

abbrev faults_so_far : ShapeReading HelperState → List ShapeFault
faults_so_far (Ok state) = state.faults
faults_so_far (Err faults) = []

none_so_far : (value : Toml) (there : Option Entries)
    → faults_so_far (shaped_map (unread value.span) (or_wanted (codes "a table") value there)) ≡ []
none_so_far value None = refl
none_so_far value (Some entries) = refl

left_by_kind : (value : Toml) (there : Option Entries)
    → left_by (shaped_map (unread value.span) (or_wanted (codes "a table") value there)) value ≡ left_where (is_some there) value
left_by_kind value None = refl
left_by_kind value (Some entries) = refl

-- the shape of a table, read from the helper
pub in_table-opened : {A : Type 0} (reads : Entries → Span → ShapeReading A) (value : Toml)
    → in_table reads value ≡ shaped_then (λ state. reads state.left state.span) (opened_table value)
in_table-opened reads value = opened_by reads value (as_table value.content)

pub opened-no_faults : (value : Toml) (state : HelperState) → opened_table value ≡ Ok state → state.faults ≡ []
opened-no_faults value state is = sym (ap faults_so_far is) ∙ none_so_far value (as_table value.content)

pub opened-left : (value : Toml) → left_by (opened_table value) value ≡ left_of_table value
opened-left value = left_by_kind value (as_table value.content)

-- what refuses a table refuses what is read of it
pub opened-refused : {A : Type 0} (reads : Entries → Span → ShapeReading A) (value : Toml) (error : DeserError) → TellsFaults (opened_table value) error
    → TellsFaults (in_table reads value) error
opened-refused reads value (Faults told) h =
    (in_table-opened reads value ∙ ap (shaped_then (λ (state : HelperState). reads state.left state.span)) h.0, h.1)
opened-refused reads value Memory h = h
