-- What reading owes of a frame is the definition, read on from it.
use Rattle.std.proofs.Common.{◌≡◌, ℕ, suc, ◌+◌, ◌-◌, ◌<◌, ◌≤◌, Bool, true, false, cond, eqb, max, ◌||◌, List, length, Option, Some, None, Ok, Err, refl, ap, sym, ◌∙◌, arith}
use Rattle.toml_subset.specs.Answer.{TomlReading, fault_at, then_read, fault_or}
use Rattle.toml_subset.specs.Bytes.{comma, open_bracket, close_bracket, open_brace, close_brace}
use Rattle.toml_subset.specs.Data as «data»
use Rattle.toml_subset.specs.Data.{Items, depth_of, items_depth, depth_limit}
use Rattle.toml_subset.specs.Places.{stands, after_blanks, after_space}
use Rattle.toml_subset.specs.Reading.{ValueFound, ItemsFound, read_scalar, space_fault, cut_in_comment, array_items_behind, array_items_from, entry_put, entries_from, array_read, table_read, table_from, value_from, call_bound, value_at}
use Rattle.toml_subset.specs.StringReading.{KeysFound, read_left}
use Rattle.toml_subset.specs.TableFaults.{put_fault}
use Rattle.toml_subset.specs.Tables.{Branches, unbranched, closed, branches_with_value, entries_of}
use Rattle.toml_subset.specs.declared.error.SyntaxError.{SyntaxError}
use Rattle.toml_subset.specs.declared.error.SyntaxReason.TheVariants.{TooDeep}
use Rattle.toml_subset.specs.declared.string.Key.{Key}
use Rattle.toml_subset.proofs.Law.Basics.{if_true, if_false}
use Rattle.toml_subset.proofs.Law.Depths.{depth}
use Rattle.toml_subset.proofs.Law.Forward.{value_goes}
use Rattle.toml_subset.proofs.Law.Inside.{value_in}
use Rattle.toml_subset.proofs.Law.Steady.{value_steady, items_steady, entries_steady}
use Rattle.toml_subset.proofs.Law.Values.{value_sound}
use Rattle.toml_subset.proofs.Law.Ways.{put_below, put_room}
use Rattle.toml_subset.specs.declared.frames.between.Next.{Next}
use Rattle.toml_subset.specs.declared.frames.between.Next.TheVariants.{Closed, Further}
use Rattle.toml_subset.specs.frames.Between.{item_place, behind_item, entry_place, behind_entry}
use Rattle.toml_subset.specs.frames.Frames.{Frame, in_array, in_table, depth_within, IsShallowFrame, items_at, entries_at, joined_items, with_last, joined_found, on_with, array_on, entry_on, table_on}

-- the definition, one call opened

pub value_on : (text : List ℕ) (above i : ℕ) → above ≤ depth_limit
    → value_at text above i ≡ value_from (items_at text (above + 1)) (entries_at text (above + 1) unbranched) text above i
value_on text above i low = value_steady (call_bound text) (suc (call_bound text)) text above i low (omega arith) (omega arith)

items_on : (text : List ℕ) (above i : ℕ) → above ≤ depth_limit → items_at text above i ≡ array_items_from (value_at text above) (items_at text above) text i
items_on text above i low = items_steady (call_bound text) (suc (call_bound text)) text above i low (omega arith) (omega arith)

entries_on : (text : List ℕ) (above : ℕ) (branches : Branches) (i : ℕ) → above + depth branches ≤ depth_limit
    → entries_at text above branches i ≡ entries_from (value_at text) (entries_at text above) text above branches i
entries_on text above branches i low = entries_steady (call_bound text) (suc (call_bound text)) text above branches i low (omega arith) (omega arith)

-- reading on behind an answer

then_then : {A B C : Type 0} (g : B → TomlReading C) (f : A → TomlReading B) (o : TomlReading A) → then_read g (then_read f o) ≡ then_read (λ x. then_read g (f x)) o
then_then g f (Ok x) = refl
then_then g f (Err fault) = refl

then_same : {A B : Type 0} (f g : A → TomlReading B) (o : TomlReading A) → ((x : A) → f x ≡ g x) → then_read f o ≡ then_read g o
then_same f g (Ok x) same = same x
then_same f g (Err fault) same = refl

then_unless : {A B : Type 0} (f : A → TomlReading B) (fault : Option SyntaxError) (o : TomlReading A) → then_read f (fault_or fault o) ≡ fault_or fault (then_read f o)
then_unless f (Some fault) o = refl
then_unless f None o = refl

-- two tests in a row, on both sides
first_place : {A : Type 0} (f : Next → TomlReading A) (b c : Bool) (fault : SyntaxError) (x y : Next)
    → cond b (Err fault) (cond c (f x) (f y)) ≡ then_read f (cond b (Err fault) (cond c (Ok x) (Ok y)))
first_place f true c fault x y = refl
first_place f false true fault x y = refl
first_place f false false fault x y = refl

next_place : {A B : Type 0} (f : A → TomlReading B) (g : Next → TomlReading B) (b c : Bool) (fault : SyntaxError) (x : A) (n : Next) (o : TomlReading A) (p : TomlReading Next)
    → f x ≡ g n → then_read f o ≡ then_read g p
    → then_read f (cond b (Ok x) (cond c o (Err fault))) ≡ then_read g (cond b (Ok n) (cond c p (Err fault)))
next_place f g true c fault x n o p first second = first
next_place f g false true fault x n o p first second = second
next_place f g false false fault x n o p first second = refl

-- items in a row

joined_last : (items : Items) (v : ValueFound) (more : Items) → joined_items (with_last items v) more ≡ joined_items items (data.item v.0 v.1 more)
joined_last data.no_item v more = refl
joined_last (data.item span content rest) v more = ap (data.item span content) (joined_last rest v more)

joined_none : (o : TomlReading ItemsFound) → then_read (joined_found data.no_item) o ≡ o
joined_none (Ok r) = refl
joined_none (Err fault) = refl

joined_more : (items : Items) (v : ValueFound) (o : TomlReading ItemsFound)
    → then_read (joined_found items) (then_read (λ (r : ItemsFound). Ok (data.item v.0 v.1 r.0, r.1)) o) ≡ then_read (joined_found (with_last items v)) o
joined_more items v (Ok r) = ap (λ (all : Items). Ok (all, r.1)) (sym (joined_last items v r.0))
joined_more items v (Err fault) = refl

joined_depth : (a b : Items) → items_depth (joined_items a b) ≡ max (items_depth a) (items_depth b)
joined_depth data.no_item b = omega arith
joined_depth (data.item span content rest) b = let more = joined_depth rest b in omega arith

-- an array

items_by : List ℕ → ℕ → Next → TomlReading ItemsFound
items_by text above (Closed next) = Ok (data.no_item, next)
items_by text above (Further i) = then_read (array_items_behind (items_at text above) text) (value_at text above i)

items_placed : (text : List ℕ) (above i : ℕ) → above ≤ depth_limit → items_at text above i ≡ then_read (items_by text above) (item_place text i)
unfolding items_by
items_placed text above i low =
    let j = after_space text i in
    items_on text above i low
    ∙ first_place (items_by text above) (cut_in_comment text i) (stands text j close_bracket) (space_fault text i) (Closed (j + 1)) (Further j)

array_first : (text : List ℕ) (start above : ℕ) (next : Next)
    → then_read (array_read start) (items_by text (above + 1) next) ≡ array_on text start above data.no_item next
unfolding items_by
array_first text start above (Closed next) = refl
array_first text start above (Further i) =
    let behind = array_items_behind (items_at text (above + 1)) text in
    then_then (array_read start) behind (value_at text (above + 1) i)
    ∙ then_same _ _ (value_at text (above + 1) i) (λ v. ap (then_read (array_read start)) (sym (joined_none (behind v))))

array_next : (text : List ℕ) (start above : ℕ) (items : Items) (v : ValueFound) (next : Next)
    → then_read (array_read start) (then_read (joined_found items) (then_read (λ (r : ItemsFound). Ok (data.item v.0 v.1 r.0, r.1)) (items_by text (above + 1) next)))
    ≡ array_on text start above (with_last items v) next
unfolding items_by
array_next text start above items v (Closed next) = refl
array_next text start above items v (Further i) =
    let behind = array_items_behind (items_at text (above + 1)) text in
    let value = value_at text (above + 1) i in
    ap (then_read (array_read start)) (joined_more items v (then_read behind value) ∙ then_then (joined_found (with_last items v)) behind value)
    ∙ then_then (array_read start) (λ w. then_read (joined_found (with_last items v)) (behind w)) value

pub array_goes_on : (text : List ℕ) (start above : ℕ) (items : Items) (v : ValueFound) → above + 1 ≤ depth_limit
    → on_with text (in_array start above items) v ≡ then_read (array_on text start above (with_last items v)) (behind_item text v.2)
array_goes_on text start above items v low =
    let j = after_space text v.2 in
    let further = λ (r : ItemsFound). Ok (data.item v.0 v.1 r.0, r.1) in
    let rest = items_at text (above + 1) (j + 1) in
    let whole = λ (r : ItemsFound). then_read (array_read start) (joined_found items r) in
    let placed = items_placed text (above + 1) (j + 1) low in
    let by = items_by text (above + 1) in
    let place = item_place text (j + 1) in
    then_then (array_read start) (joined_found items) (array_items_behind (items_at text (above + 1)) text v)
    ∙ next_place whole (array_on text start above (with_last items v)) (stands text j close_bracket) (stands text j comma) (space_fault text v.2)
    (data.item v.0 v.1 data.no_item, j + 1) (Closed (j + 1)) (then_read further rest) place refl
    (sym (then_then (array_read start) (joined_found items) (then_read further rest))
    ∙ ap (λ (o : TomlReading ItemsFound). then_read (array_read start) (then_read (joined_found items) (then_read further o))) placed
    ∙ ap (λ (o : TomlReading ItemsFound). then_read (array_read start) (then_read (joined_found items) o)) (then_then further by place)
    ∙ ap (then_read (array_read start)) (then_then (joined_found items) (λ n. then_read further (by n)) place)
    ∙ then_then (array_read start) (λ n. then_read (joined_found items) (then_read further (by n))) place
    ∙ then_same _ _ place (array_next text start above items v))

-- an inline table

unless_same : {A : Type 0} (fault : Option SyntaxError) (x y : TomlReading A) → x ≡ y → fault_or fault x ≡ fault_or fault y
unless_same fault x y same = ap (fault_or fault) same

table_entry : (text : List ℕ) (start above : ℕ) (branches : Branches) (i : ℕ) → above + 1 + depth branches ≤ depth_limit
    → then_read (table_read start) (entries_at text (above + 1) branches i) ≡ then_read (entry_on text start above branches) (read_left text i)
table_entry text start above branches i low =
    let rest = entries_at text (above + 1) in
    let entry = λ (left : KeysFound). fault_or (put_fault left.0 branches (above + 1))
    (then_read (entry_put rest text left.0 branches) (value_at text (above + 1 + (length left.0 - 1)) left.1)) in
    ap (then_read (table_read start)) (entries_on text (above + 1) branches i low)
    ∙ then_then (table_read start) entry (read_left text i)
    ∙ then_same _ _ (read_left text i)
    (λ left.
    let value = value_at text (above + 1 + (length left.0 - 1)) left.1 in
    then_unless (table_read start) (put_fault left.0 branches (above + 1)) (then_read (entry_put rest text left.0 branches) value)
    ∙ ap (fault_or (put_fault left.0 branches (above + 1))) (then_then (table_read start) (entry_put rest text left.0 branches) value))

pub table_goes_on : (text : List ℕ) (start above : ℕ) (branches : Branches) (keys : List Key) (v : ValueFound) (new : Branches)
    → branches_with_value keys (closed v.0 v.1) branches ≡ Some new → above + 1 + depth new ≤ depth_limit
    → on_with text (in_table start above branches keys) v ≡ then_read (table_on text start above new) (behind_entry text v.2)
table_goes_on text start above branches keys v new is low =
    let j = after_blanks text v.2 in
    let k = after_blanks text (j + 1) in
    rw is (next_place (table_read start) (table_on text start above new) (stands text j close_brace) (stands text j comma) _
    (new, j + 1) (Closed (j + 1)) (entries_at text (above + 1) new k) (Ok (Further k)) refl (table_entry text start above new k low))

-- a value's first byte

pub value_scalar : (text : List ℕ) (above i : ℕ) → (stands text i open_bracket || stands text i open_brace) ≡ false → value_at text above i ≡ read_scalar text i
value_scalar text above i none = if_false (stands text i open_bracket || stands text i open_brace) _ _ none

pub value_deep : (text : List ℕ) (above i : ℕ) → (stands text i open_bracket || stands text i open_brace) ≡ true → eqb above depth_limit ≡ true
    → value_at text above i ≡ Err (fault_at TooDeep i (i + 1))
value_deep text above i opens deep =
    if_true (stands text i open_bracket || stands text i open_brace) _ _ opens ∙ if_true (eqb above depth_limit) _ _ deep

opened : (text : List ℕ) (above i : ℕ) → (stands text i open_bracket || stands text i open_brace) ≡ true → eqb above depth_limit ≡ false → above ≤ depth_limit
    → value_at text above i ≡ cond (stands text i open_bracket) (then_read (array_read i) (items_at text (above + 1) (i + 1)))
    (then_read (table_read i) (table_from (entries_at text (above + 1) unbranched) text i))
opened text above i opens shallow low =
    value_on text above i low ∙ if_true (stands text i open_bracket || stands text i open_brace) _ _ opens ∙ if_false (eqb above depth_limit) _ _ shallow

pub array_begins : (text : List ℕ) (above i : ℕ) → (stands text i open_bracket || stands text i open_brace) ≡ true → above + 1 ≤ depth_limit → stands text i open_bracket ≡ true
    → eqb above depth_limit ≡ false → value_at text above i ≡ then_read (array_on text i above data.no_item) (item_place text (i + 1))
array_begins text above i opens low array shallow =
    opened text above i opens shallow (omega arith) ∙ if_true (stands text i open_bracket) _ _ array
    ∙ ap (then_read (array_read i)) (items_placed text (above + 1) (i + 1) low)
    ∙ then_then (array_read i) (items_by text (above + 1)) (item_place text (i + 1))
    ∙ then_same _ _ (item_place text (i + 1)) (array_first text i above)

table_first : (text : List ℕ) (start above : ℕ) (b : Bool) (j : ℕ) → above + 1 ≤ depth_limit
    → then_read (table_read start) (cond b (Ok (unbranched, j + 1)) (entries_at text (above + 1) unbranched j))
    ≡ table_on text start above unbranched (cond b (Closed (j + 1)) (Further j))
table_first text start above true j low = refl
table_first text start above false j low = table_entry text start above unbranched j (omega arith)

pub table_begins : (text : List ℕ) (above i : ℕ) → (stands text i open_bracket || stands text i open_brace) ≡ true → above + 1 ≤ depth_limit → stands text i open_bracket ≡ false
    → eqb above depth_limit ≡ false → value_at text above i ≡ table_on text i above unbranched (entry_place text (i + 1))
table_begins text above i opens low table shallow =
    let j = after_blanks text (i + 1) in
    opened text above i opens shallow (omega arith) ∙ if_false (stands text i open_bracket) _ _ table
    ∙ table_first text i above (stands text j close_brace) j low

-- depths, and where values end

pub items_shallow : (start above : ℕ) (items : Items) (v : ValueFound) → IsShallowFrame (in_array start above items) → above + 1 + depth_of v.1 ≤ depth_limit
    → above + depth_of (data.array (with_last items v)) ≤ depth_limit
items_shallow start above items v low room = let both = joined_depth items (data.item v.0 v.1 data.no_item) in omega arith

pub entries_shallow : (start above : ℕ) (branches : Branches) (keys : List Key) (v : ValueFound) (new : Branches) → IsShallowFrame (in_table start above branches keys)
    → above + 1 + (length keys - 1) + depth_of v.1 ≤ depth_limit → branches_with_value keys (closed v.0 v.1) branches ≡ Some new
    → above + depth_of (data.table (entries_of new)) ≤ depth_limit
entries_shallow start above branches keys v new low room is =
    let held = low.0 in
    let below = put_below keys (closed v.0 v.1) branches new (above + 1) low.1 is room (omega arith) in omega arith

pub inside_shallow : (frame : Frame) → IsShallowFrame frame → depth_within frame ≤ depth_limit
inside_shallow (in_array start above items) low = omega arith
inside_shallow (in_table start above branches keys) low = let held = low.0 in put_room keys branches (above + 1) low.1 (omega arith)

pub found_goes : (text : List ℕ) (above i : ℕ) (v : ValueFound) → above ≤ depth_limit → value_at text above i ≡ Ok v → (i < v.2) × (v.2 ≤ length text)
found_goes text above i v low is =
    let stood = value_sound (call_bound text) text above i v low is in
    (value_goes text i v.0 stood.0 v.2 stood.1, value_in text i v.0 stood.0 v.2 stood.1)
