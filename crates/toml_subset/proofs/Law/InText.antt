-- Each fault lies in the text.
use Rattle.std.proofs.Common.{◌≡◌, ℕ, zero, suc, ◌+◌, ◌-◌, ◌<◌, ◌≤◌, inl, inr, ⊎_elim, Bool, true, false, cond, eqb, nat_lt, ◌||◌, ◌&&◌, List, [], ◌∷◌, length, take, drop, Option, Some, None, Ok, Err, true≢false, refl, sym, subst, ◌∙◌, eqb-true, eq-eqb, arith, length-drop}
use Rattle.std.proofs.lemmas.Bool.Decides.{nat_tests}
use Rattle.std.proofs.lemmas.List.Sums.{prefix_len-le-length}
use Rattle.std.specs.List.{prefix_len}
use Rattle.toml_subset.specs.Answer.{TomlReading, fault_at, stop_error, then_read, fault_or}
use Rattle.deny_text.specs.Character.{goes_on}
use Rattle.toml_subset.specs.Bytes.{quote, apostrophe, backslash, dot, equals, hash, comma, open_bracket, close_bracket, open_brace, close_brace, is_bare, is_run, may_stand}
use Rattle.toml_subset.specs.Data.{depth_limit}
use Rattle.deny_text.specs.Spans.{LiesIn}
use Rattle.toml_subset.specs.Faults.{begins_number}
use Rattle.toml_subset.specs.Keys.{IsKey, AreKeys}
use Rattle.toml_subset.specs.Lines.{Document, no_lines}
use Rattle.toml_subset.specs.Numbers.{Class, unsupported, number_form, number_range, integer, decimal, class_of, is_digit_in}
use Rattle.toml_subset.specs.Places.{from_to, passes_at, stands, run_end, run_at, after_blanks, after_comment, behind_line_end, next_line, after_space, char_end, in_comment}
use Rattle.toml_subset.specs.Reading.{number_read, shared_len, word_read, read_scalar, cut_in_comment, space_fault, array_items_behind, edit_reading, entries_behind, entry_put, array_read, table_read, table_from, read_value, read_items, read_entries, call_bound, value_at, section_of, LineFound, line_rest, with_root, is_blank_line, pair_put, pair_from, header_from, array_header_from, line_from, read_lines, read_text}
use Rattle.toml_subset.specs.Raw.{word_of}
use Rattle.toml_subset.specs.StringReading.{scalar_fault, escape_is_cut, escape_fault, part_fault, Pieces, after_part, read_pieces, string_from, read_string, begins_long, read_key, KeysFound, keys_behind, read_keys, keys_at, equals_behind, read_left}
use Rattle.toml_subset.specs.Strings.{Quoting, mark_of, has_escapes, StringPiece, StringPart, piece, closing, broken, opening, part_at, ArePieces, IsString}
use Rattle.toml_subset.specs.TableFaults.{Inside, table_node_at, inside_any, inside_dotted, fault_at_key, way_fault, new_key_fault, put_fault, taken_over_fault, open_table_fault, header_fault, appended_fault, open_array_fault, array_header_fault}
use Rattle.toml_subset.specs.Tables.{Node, Branches, by_header, implicit, dotted, closed, growing, tables, unbranched, has_key, branches_with_value}
use Rattle.toml_subset.specs.declared.error.SyntaxError.{SyntaxError}
use Rattle.toml_subset.specs.declared.error.SyntaxReason.{SyntaxReason}
use Rattle.toml_subset.specs.declared.error.SyntaxReason.TheVariants.{Unexpected, InvalidEscape, ControlCharacter, RedefinedTable, TooDeep}
use Rattle.toml_subset.specs.declared.string.Key.{Key}
use Rattle.toml_subset.proofs.Law.Basics.{if_true}
use Rattle.toml_subset.proofs.Law.Forward.{closing_goes, piece_goes}
use Rattle.toml_subset.proofs.Law.Fronts.{passes_inside, and_last}
use Rattle.toml_subset.proofs.Law.Inside.{pieces_in, take_within}
use Rattle.toml_subset.proofs.Law.Steady.{opens_inside}
use Rattle.toml_subset.proofs.Law.Texts.{left_sound, keys_sound}
use Rattle.toml_subset.proofs.NumberRuns.{begins_some}

abbrev Lies : List ℕ → SyntaxError → Type 0
Lies text fault = LiesIn text fault.span

abbrev ErrLies : {A : Type 0} → List ℕ → TomlReading A → Type 0
ErrLies text (Ok x) = Unit {0}
ErrLies text (Err fault) = Lies text fault

abbrev SomeLies : List ℕ → Option SyntaxError → Type 0
SomeLies text (Some fault) = Lies text fault
SomeLies text None = Unit {0}

then_lies : {A B : Type 0} (text : List ℕ) (f : A → TomlReading B) (o : TomlReading A) → ErrLies text o → ((x : A) → o ≡ Ok x → ErrLies text (f x)) → ErrLies text (then_read f o)
then_lies text f (Ok x) here further = further x refl
then_lies text f (Err fault) here further = here

if_lies : {A : Type 0} (b : Bool) (text : List ℕ) (x y : TomlReading A) → (b ≡ true → ErrLies text x) → (b ≡ false → ErrLies text y) → ErrLies text (cond b x y)
if_lies true text x y first second = first refl
if_lies false text x y first second = second refl

if_so : (b : Bool) (text : List ℕ) (x y : SyntaxError) → (b ≡ true → Lies text x) → (b ≡ false → Lies text y) → Lies text (cond b x y)
if_so true text x y first second = first refl
if_so false text x y first second = second refl

some_if : (b : Bool) (text : List ℕ) (x y : Option SyntaxError) → (b ≡ true → SomeLies text x) → (b ≡ false → SomeLies text y) → SomeLies text (cond b x y)
some_if true text x y first second = first refl
some_if false text x y first second = second refl

unless_lies : {A : Type 0} (text : List ℕ) (fault : Option SyntaxError) (o : TomlReading A) → SomeLies text fault → ErrLies text o → ErrLies text (fault_or fault o)
unless_lies text (Some fault) o here further = here
unless_lies text None o here further = further

run_inside : (p : ℕ → Bool) (text : List ℕ) (i : ℕ) → i ≤ length text → run_end p text i ≤ length text
run_inside p text i inside = let least = prefix_len-le-length p (drop i text) in let rest = length-drop i text in omega arith

char_lies : (reason : SyntaxReason) (text : List ℕ) (i j : ℕ) → i ≤ j → j < length text → Lies text (fault_at reason i (char_end text j))
char_lies reason text i j le inside = let whole = run_inside goes_on text (j + 1) (omega arith) in (omega arith, omega arith)

stuck_lies : (text : List ℕ) (i : ℕ) → Lies text (stop_error text i)
stuck_lies text i =
    if_so (nat_lt i (length text)) text _ _ (λ h. let inside : i < length text = grind (arith, nat_tests) in char_lies Unexpected text i i (omega arith) inside)
    (λ h. (omega arith, omega arith))

-- strings

scalar_lies : (digits : ℕ) (text : List ℕ) (i : ℕ) → i + 2 ≤ length text → Lies text (scalar_fault digits text i)
scalar_lies digits text i inside =
    let found = prefix_len (is_digit_in 16) (take digits (drop (i + 2) text)) in
    let most = prefix_len-le-length (is_digit_in 16) (take digits (drop (i + 2) text)) in
    let taken = take_within digits (drop (i + 2) text) in
    let rest = length-drop (i + 2) text in
    if_so (eqb found digits) text _ _ (λ h. let same = eqb-true found digits h in (omega arith, omega arith))
    (λ h.
    if_so (nat_lt (i + 2 + found) (length text)) text _ _
    (λ k. let within : i + 2 + found < length text = grind (arith, nat_tests) in char_lies InvalidEscape text i (i + 2 + found) (omega arith) within)
    (λ k. stuck_lies text (length text)))

or_false : (a b : Bool) → (a || b) ≡ false → a ≡ false
or_false true b h = absurd (true≢false h)
or_false false b h = refl

escape_lies : (kind : Quoting) (text : List ℕ) (i : ℕ) → i < length text → Lies text (escape_fault kind text i)
escape_lies kind text i inside =
    if_so (stands text (i + 1) 117) text _ _ (λ h. let next = passes_inside (λ b. eqb b 117) text (i + 1) h in scalar_lies 4 text i (omega arith))
    (λ h.
    if_so (stands text (i + 1) 85) text _ _ (λ k. let next = passes_inside (λ b. eqb b 85) text (i + 1) k in scalar_lies 8 text i (omega arith))
    (λ k.
    if_so (escape_is_cut kind text i) text _ _ (λ cut. stuck_lies text (length text))
    (λ whole_escape.
    let other : eqb (i + 1) (length text) ≡ false = or_false _ _ whole_escape in
    let within : i + 1 < length text = grind (arith, nat_tests) in
    char_lies InvalidEscape text i (i + 1) (omega arith) within)))

part_lies : (kind : Quoting) (text : List ℕ) (i : ℕ) → Lies text (part_fault kind text i)
part_lies kind text i =
    if_so (stands text i (mark_of kind)) text _ _ (λ h. stuck_lies text (i + 5))
    (λ h.
    if_so (has_escapes kind && stands text i backslash) text _ _
    (λ k. escape_lies kind text i (passes_inside (λ b. eqb b backslash) text i (and_last (has_escapes kind) (stands text i backslash) k)))
    (λ k.
    if_so (nat_lt i (length text)) text _ _ (λ l. let inside : i < length text = grind (arith, nat_tests) in (omega arith, omega arith)) (λ l. stuck_lies text i)))

after_part_lies : (kind : Quoting) (text : List ℕ) (i : ℕ) (rest : ℕ → TomlReading Pieces) → ((k : ℕ) → ErrLies text (rest k)) → (q : StringPart) → ErrLies text (after_part kind text i rest q)
after_part_lies kind text i rest further (piece p k) = then_lies text _ (rest k) (further k) (λ x is. tt)
after_part_lies kind text i rest further (closing k) = tt
after_part_lies kind text i rest further broken = part_lies kind text i

pieces_lie : (n : ℕ) (kind : Quoting) (text : List ℕ) (i : ℕ) → ErrLies text (read_pieces n kind text i)
pieces_lie zero kind text i = stuck_lies text i
pieces_lie (suc n) kind text i = after_part_lies kind text i (read_pieces n kind text) (pieces_lie n kind text) (part_at kind text i)

string_lies : (text : List ℕ) (i : ℕ) → ErrLies text (read_string text i)
string_lies text i =
    elim (opening text i) as (λ o. ErrLies text (elim o [ Some first ↦ string_from text first | None ↦ Err (stop_error text i) ])) [
      | Some first ↦ then_lies text _ (read_pieces (suc (length text)) first.0 text first.1) (pieces_lie (suc (length text)) first.0 text first.1) (λ x is. tt)
      | None ↦ stuck_lies text i
    ]

-- keys

key_lies : (text : List ℕ) (i : ℕ) → ErrLies text (read_key text i)
key_lies text i =
    if_lies (passes_at is_bare text i) text _ _ (λ h. tt)
    (λ h.
    if_lies (begins_long text i) text _ _ (λ k. stuck_lies text (i + 2))
    (λ k. then_lies text _ (read_string text i) (string_lies text i) (λ x is. tt)))

keys_lie : (n : ℕ) (text : List ℕ) (i : ℕ) → ErrLies text (read_keys n text i)
keys_lie zero text i = stuck_lies text i
keys_lie (suc n) text i =
    then_lies text (keys_behind (read_keys n text) text) (read_key text i) (key_lies text i)
    (λ key is.
    if_lies (stands text (after_blanks text key.1) dot) text _ _
    (λ h. then_lies text _ (read_keys n text (after_blanks text (after_blanks text key.1 + 1))) (keys_lie n text _) (λ x found. tt)) (λ h. tt))

left_lies : (text : List ℕ) (i : ℕ) → ErrLies text (read_left text i)
left_lies text i =
    then_lies text (equals_behind text) (keys_at text i) (keys_lie (suc (length text)) text i)
    (λ keys is. if_lies (stands text (after_blanks text keys.1) equals) text _ _ (λ h. tt) (λ h. stuck_lies text (after_blanks text keys.1)))

-- the spans of keys

abbrev KeysLie : List ℕ → List Key → Type 0
KeysLie text [] = Unit {0}
KeysLie text (key ∷ more) = LiesIn text key.span × KeysLie text more

pieces_order : (kind : Quoting) (text : List ℕ) (i : ℕ) (ps : List StringPiece) (close next : ℕ) → ArePieces kind text i ps close next → (i ≤ close) × (close < next)
pieces_order kind text i [] close next is = let at = is.1 in let goes = closing_goes kind text i next is.0 in (omega arith, omega arith)
pieces_order kind text i (p ∷ ps) close next is =
    let goes = piece_goes kind text i p is.0 is.1 in let rest = pieces_order kind text is.0 ps close next is.2 in let le = rest.0 in (omega arith, rest.1)

string_span : (text : List ℕ) (i : ℕ) (kind : Quoting) (key : Key) (next : ℕ) → IsString text i kind key.name key.span next → LiesIn text key.span
string_span text i kind key next is =
    let order = pieces_order kind text is.first is.pieces is.close next is.body in
    let le = order.0 in
    let less = order.1 in
    let inside = pieces_in kind text is.first is.pieces is.close next is.body in
    subst (LiesIn text) (sym is.spans) (omega arith, omega arith)

key_span : (text : List ℕ) (i : ℕ) (key : Key) (next : ℕ) → IsKey text i key next → LiesIn text key.span
key_span text i key next (inl bare) =
    let some = bare.some in
    let ends = bare.ends in
    let least = prefix_len-le-length is_bare (drop i text) in
    let rest = length-drop i text in
    subst (λ (x : Key). LiesIn text x.span) (sym bare.is) (omega arith, omega arith)
key_span text i key next (inr (inl is)) = string_span text i _ key next is
key_span text i key next (inr (inr is)) = string_span text i _ key next is

keys_spans : (text : List ℕ) (i : ℕ) (keys : List Key) (next : ℕ) → AreKeys text i keys next → KeysLie text keys
keys_spans text i [] next is = absurd is
keys_spans text i (key ∷ more) next is =
    (key_span text i key is.0 is.1, ⊎_elim (λ dotted. keys_spans text (after_blanks text (after_blanks text is.0 + 1)) more next dotted.1) (λ only. subst (KeysLie text) (sym only.1) tt) is.2)

-- the table rules point at a key

abbrev PointsAt : (Key → Branches → ℕ → Option SyntaxError) → Type 0
PointsAt end = (text : List ℕ) (key : Key) (branches : Branches) (above : ℕ) → LiesIn text key.span → SomeLies text (end key branches above)

way_lies : (inside : Node → Option Inside) (end : Key → Branches → ℕ → Option SyntaxError) → PointsAt end
    → (text : List ℕ) (keys : List Key) (branches : Branches) (above : ℕ) → KeysLie text keys → SomeLies text (way_fault inside end keys branches above)
way_lies inside end points text [] branches above lie = tt
way_lies inside end points text (key ∷ []) branches above lie = points text key branches above lie.0
way_lies inside end points text (key ∷ next ∷ more) branches above lie =
    elim (table_node_at key branches) as (λ o. SomeLies text (elim o [
      | Some node ↦ elim (inside node) [ Some found ↦ way_fault inside end (next ∷ more) found.0 (above + found.1) | None ↦ fault_at_key RedefinedTable key ]
      | None ↦ cond (eqb above depth_limit) (fault_at_key TooDeep key) (way_fault inside end (next ∷ more) unbranched (above + 1))
    ])) [
      | Some node ↦ elim (inside node) as (λ o. SomeLies text (elim o [ Some found ↦ way_fault inside end (next ∷ more) found.0 (above + found.1) | None ↦ fault_at_key RedefinedTable key ])) [
        | Some found ↦ way_lies inside end points text (next ∷ more) found.0 (above + found.1) lie.1
        | None ↦ lie.0
      ]
      | None ↦ some_if (eqb above depth_limit) text _ _ (λ h. lie.0) (λ h. way_lies inside end points text (next ∷ more) unbranched (above + 1) lie.1)
    ]

new_key_points : PointsAt new_key_fault
new_key_points text key branches above lie = some_if (has_key key branches) text _ _ (λ h. lie) (λ h. tt)

taken_points : (text : List ℕ) (key : Key) (node : Node) → LiesIn text key.span → SomeLies text (taken_over_fault key node)
taken_points text key (closed span content) lie = lie
taken_points text key (growing span by_header branches) lie = lie
taken_points text key (growing span implicit branches) lie = tt
taken_points text key (growing span dotted branches) lie = lie
taken_points text key (tables span bodies) lie = lie

open_table_points : PointsAt open_table_fault
open_table_points text key branches above lie =
    elim (table_node_at key branches) as (λ o. SomeLies text (elim o [ Some node ↦ taken_over_fault key node | None ↦ cond (eqb above depth_limit) (fault_at_key TooDeep key) None ])) [
      | Some node ↦ taken_points text key node lie
      | None ↦ some_if (eqb above depth_limit) text _ _ (λ h. lie) (λ h. tt)
    ]

appended_points : (text : List ℕ) (key : Key) (node : Node) → LiesIn text key.span → SomeLies text (appended_fault key node)
appended_points text key (closed span content) lie = lie
appended_points text key (growing span mark branches) lie = lie
appended_points text key (tables span bodies) lie = tt

open_array_points : PointsAt open_array_fault
open_array_points text key branches above lie =
    elim (table_node_at key branches) as (λ o. SomeLies text (elim o [ Some node ↦ appended_fault key node | None ↦ cond (nat_lt (above + 1) depth_limit) None (fault_at_key TooDeep key) ])) [
      | Some node ↦ appended_points text key node lie
      | None ↦ some_if (nat_lt (above + 1) depth_limit) text _ _ (λ h. tt) (λ h. lie)
    ]

-- values

run_lies : (text : List ℕ) (i : ℕ) → i < run_end is_run text i → LiesIn text (from_to i (run_end is_run text i))
run_lies text i some = let least = prefix_len-le-length is_run (drop i text) in let rest = length-drop i text in (omega arith, omega arith)

less_is : (a b : ℕ) → nat_lt a b ≡ true → a < b
less_is a b h = grind (arith, nat_tests)

number_lies : (text : List ℕ) (i : ℕ) → i < run_end is_run text i → (class : Class) → ErrLies text (number_read text i class)
number_lies text i some unsupported = run_lies text i some
number_lies text i some number_form = run_lies text i some
number_lies text i some number_range = run_lies text i some
number_lies text i some (integer z) = tt
number_lies text i some (decimal z) = tt

word_lies : (b : Bool) (text : List ℕ) (i : ℕ) → ErrLies text (word_read b text i)
word_lies b text i =
    let shared = shared_len (word_of b) (drop i text) in if_lies (eqb shared (length (word_of b))) text _ _ (λ h. tt) (λ h. stuck_lies text (i + shared))

scalar_value_lies : (text : List ℕ) (i : ℕ) → ErrLies text (read_scalar text i)
scalar_value_lies text i =
    if_lies (begins_number text i) text _ _ (λ h. number_lies text i (begins_some text i h) (class_of (run_at is_run text i)))
    (λ h.
    if_lies (stands text i quote || stands text i apostrophe) text _ _ (λ k. then_lies text _ (read_string text i) (string_lies text i) (λ x is. tt))
    (λ k.
    if_lies (stands text i 116) text _ _ (λ l. word_lies true text i)
    (λ l. if_lies (stands text i 102) text _ _ (λ m. word_lies false text i) (λ m. stuck_lies text i))))

space_lies : (text : List ℕ) (i : ℕ) → Lies text (space_fault text i)
space_lies text i =
    let j = after_space text i in
    if_so (cut_in_comment text i) text _ _
    (λ h.
    let less = and_last (in_comment text i) (nat_lt j (length text)) h in
    let inside : j < length text = less_is j (length text) less in
    (omega arith, omega arith))
    (λ h. stuck_lies text j)

made_lies : {A : Type 0} (text : List ℕ) (o : Option A) → ErrLies text (edit_reading text o)
made_lies text (Some x) = tt
made_lies text None = stuck_lies text (length text)

mutual
  value_lies : (n : ℕ) (text : List ℕ) (above i : ℕ) → ErrLies text (read_value n text above i)
  value_lies zero text above i = stuck_lies text i
  value_lies (suc n) text above i =
      let j = after_blanks text (i + 1) in
      if_lies (stands text i open_bracket || stands text i open_brace) text _ _
      (λ opens.
      let inside = opens_inside text i opens in
      if_lies (eqb above depth_limit) text _ _ (λ deep. (omega arith, omega arith))
      (λ shallow.
      if_lies (stands text i open_bracket) text _ _
      (λ array. then_lies text (array_read i) (read_items n text (above + 1) (i + 1)) (items_lie n text (above + 1) (i + 1)) (λ x is. tt))
      (λ table. then_lies text (table_read i) (table_from (read_entries n text (above + 1) unbranched) text i)
      (if_lies (stands text j close_brace) text _ _ (λ none. tt) (λ some. entries_lie n text (above + 1) unbranched j)) (λ x is. tt))))
      (λ scalar. scalar_value_lies text i)

  items_lie : (n : ℕ) (text : List ℕ) (above i : ℕ) → ErrLies text (read_items n text above i)
  items_lie zero text above i = stuck_lies text i
  items_lie (suc n) text above i =
      let j = after_space text i in
      if_lies (cut_in_comment text i) text _ _ (λ cut. space_lies text i)
      (λ go_on. if_lies (stands text j close_bracket) text _ _ (λ closed_here. tt)
      (λ further. then_lies text (array_items_behind (read_items n text above) text) (read_value n text above j) (value_lies n text above j)
      (λ v is.
      let k = after_space text v.2 in
      if_lies (stands text k close_bracket) text _ _ (λ last_one. tt)
      (λ more. if_lies (stands text k comma) text _ _
      (λ at. then_lies text _ (read_items n text above (k + 1)) (items_lie n text above (k + 1)) (λ x found. tt)) (λ none. space_lies text v.2)))))

  entries_lie : (n : ℕ) (text : List ℕ) (above : ℕ) (branches : Branches) (i : ℕ) → ErrLies text (read_entries n text above branches i)
  entries_lie zero text above branches i = stuck_lies text i
  entries_lie (suc n) text above branches i =
      then_lies text _ (read_left text i) (left_lies text i)
      (λ left is_left.
      let at = left_sound text i left is_left in
      let high = above + (length left.0 - 1) in
      unless_lies text (put_fault left.0 branches above) _
      (way_lies inside_dotted new_key_fault new_key_points text left.0 branches above (keys_spans text i left.0 at.0 at.1))
      (then_lies text (entry_put (read_entries n text above) text left.0 branches) (read_value n text high left.1) (value_lies n text high left.1)
      (λ v is.
      then_lies text (entries_behind (read_entries n text above) text v.2) (edit_reading text (branches_with_value left.0 (closed v.0 v.1) branches)) (made_lies text _)
      (λ new is_new.
      let k = after_blanks text v.2 in
      if_lies (stands text k close_brace) text _ _ (λ last_one. tt)
      (λ more. if_lies (stands text k comma) text _ _ (λ here. entries_lie n text above new (after_blanks text (k + 1))) (λ none. stuck_lies text k))))))

-- lines

not_end : (text : List ℕ) (i : ℕ) → next_line text i ≡ None → (after_comment text (after_blanks text i) ≡ length text → ⊥)
not_end text i e at =
    let j = after_comment text (after_blanks text i) in
    let here = sym (if_true (eqb j (length text)) (Some j) (behind_line_end text j) (eq-eqb j (length text) at)) ∙ e in
    absurd (cc)

rest_lies : (text : List ℕ) (i : ℕ) (document : Document) → ErrLies text (line_rest text i document)
rest_lies text i document =
    let b = after_blanks text i in
    let j = after_comment text b in
    elim (next_line text i) as (λ o. next_line text i ≡ o → ErrLies {A = LineFound} text (elim o [
      | Some next ↦ Ok (document, next)
      | None ↦ cond (stands text b hash) (Err (fault_at ControlCharacter j (j + 1))) (Err (stop_error text j))
    ])) [
      | Some next ↦ λ is. tt
      | None ↦ λ is.
          if_lies (stands text b hash) text _ _
          (λ h.
          let inside = passes_inside (λ c. eqb c hash) text b h in
          let whole_run = run_inside may_stand text (b + 1) (omega arith) in
          let comment : j ≡ run_end may_stand text (b + 1) = if_true (stands text b hash) (run_end may_stand text (b + 1)) b h in
          let other = not_end text i is in
          (omega arith, omega arith))
          (λ h. stuck_lies text j)
    ] refl

with_root_lies : (text : List ℕ) (i : ℕ) (section : List Key) (root : Option Branches) → ErrLies text (with_root text i section root)
with_root_lies text i section root = then_lies text _ (edit_reading text root) (made_lies text root) (λ b is. rest_lies text i _)

pair_lies : (text : List ℕ) (document : Document) (j : ℕ) (left : KeysFound) → read_left text j ≡ Ok left → ErrLies text (pair_from text document left)
pair_lies text document j left is_left =
    let here = section_of document.section document.root 0 in
    let at = left_sound text j left is_left in
    unless_lies text (put_fault left.0 here.0 here.1) _
    (way_lies inside_dotted new_key_fault new_key_points text left.0 here.0 here.1 (keys_spans text j left.0 at.0 at.1))
    (then_lies text (pair_put text left.0 document) (value_at text (here.1 + (length left.0 - 1)) left.1) (value_lies (call_bound text) text _ left.1)
    (λ v is. with_root_lies text v.2 document.section _))

header_lies : (text : List ℕ) (i k : ℕ) (document : Document) (keys : KeysFound) → keys_at text k ≡ Ok keys → ErrLies text (header_from text i document keys)
header_lies text i k document keys is =
    let j = after_blanks text keys.1 in
    if_lies (stands text j close_bracket) text _ _
    (λ h.
    unless_lies text (header_fault keys.0 document.root) _
    (way_lies inside_any open_table_fault open_table_points text keys.0 document.root 0
    (keys_spans text k keys.0 keys.1 (keys_sound (suc (length text)) text k keys is)))
    (with_root_lies text (j + 1) keys.0 _))
    (λ h. stuck_lies text j)

array_header_lies : (text : List ℕ) (i k : ℕ) (document : Document) (keys : KeysFound) → keys_at text k ≡ Ok keys → ErrLies text (array_header_from text i document keys)
array_header_lies text i k document keys is =
    let j = after_blanks text keys.1 in
    if_lies (stands text j close_bracket) text _ _
    (λ h.
    if_lies (stands text (j + 1) close_bracket) text _ _
    (λ l.
    unless_lies text (array_header_fault keys.0 document.root) _
    (way_lies inside_any open_array_fault open_array_points text keys.0 document.root 0
    (keys_spans text k keys.0 keys.1 (keys_sound (suc (length text)) text k keys is)))
    (with_root_lies text (j + 2) keys.0 _))
    (λ l. stuck_lies text (j + 1)))
    (λ h. stuck_lies text j)

line_lies : (text : List ℕ) (document : Document) (i : ℕ) → ErrLies text (line_from text document i)
line_lies text document i =
    if_lies (is_blank_line text i) text _ _ (λ h. rest_lies text i document)
    (λ h.
    if_lies (stands text i open_bracket) text _ _
    (λ k.
    if_lies (stands text (i + 1) open_bracket) text _ _
    (λ l. then_lies text (array_header_from text i document) (keys_at text (after_blanks text (i + 2))) (keys_lie (suc (length text)) text _)
    (λ keys is. array_header_lies text i (after_blanks text (i + 2)) document keys is))
    (λ l. then_lies text (header_from text i document) (keys_at text (after_blanks text (i + 1))) (keys_lie (suc (length text)) text _)
    (λ keys is. header_lies text i (after_blanks text (i + 1)) document keys is)))
    (λ k. then_lies text (pair_from text document) (read_left text i) (left_lies text i) (λ left is. pair_lies text document i left is)))

lines_lie : (n : ℕ) (text : List ℕ) (i : ℕ) (document : Document) → ErrLies text (read_lines n text i document)
lines_lie zero text i document = stuck_lies text i
lines_lie (suc n) text i document =
    if_lies (nat_lt i (length text)) text _ _
    (λ h. then_lies text _ (line_from text document (after_blanks text i)) (line_lies text document (after_blanks text i)) (λ r is. lines_lie n text r.1 r.0)) (λ h. tt)

text_lies : (text : List ℕ) → ErrLies text (read_text text)
text_lies text = then_lies text _ (read_lines (suc (length text)) text 0 no_lines) (lines_lie (suc (length text)) text 0 no_lines) (λ document is. tt)

pub fault_lies : (text : List ℕ) (fault : SyntaxError) → read_text text ≡ Err fault → LiesIn text fault.span
fault_lies text fault e = subst (ErrLies text) e (text_lies text)
