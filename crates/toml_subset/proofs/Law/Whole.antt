-- Reading answers a value exactly where the definition has one.
use Rattle.std.proofs.Common.{◌≡◌, ℕ, zero, suc, ◌+◌, ◌-◌, ◌<◌, ◌≤◌, ⊎_elim, Bool, true, false, cond, eqb, nat_lt, ◌||◌, ◌&&◌, List, [], ◌∷◌, length, Option, Some, None, Ok, Err, option_map, option_and_then, true≢false, refl, ap, sym, subst, ◌∙◌, arith}
use Rattle.std.proofs.lemmas.Bool.Decides.{nat_tests}
use Rattle.deny_text.specs.declared.span.Span.{Span}
use Rattle.toml_subset.specs.Answer.{TomlReading, fault_at, stop_error, then_read, fault_or}
use Rattle.toml_subset.specs.Bytes.{quote, apostrophe, hash, line_feed, carriage_return, open_bracket, close_bracket, may_stand, is_blank}
use Rattle.toml_subset.specs.Data.{Toml, depth_limit}
use Rattle.toml_subset.specs.Keys.{AreKeys}
use Rattle.toml_subset.specs.Lines.{Statement, blank_line, pair, table_header, array_header, Document, no_lines, IsStatement, AreLines, after_line, after_lines}
use Rattle.toml_subset.specs.Places.{from_to, passes_at, stands, run_end, after_blanks, after_comment, behind_line_end, next_line}
use Rattle.toml_subset.specs.Raw.{IsValue}
use Rattle.toml_subset.specs.Reading.{edit_reading, call_bound, value_at, section_of, LineFound, line_rest, with_root, pair_put, pair_from, header_from, array_header_from, is_blank_line, line_from, read_lines, root_value, read_text}
use Rattle.toml_subset.specs.StringReading.{KeysFound, keys_at, read_left}
use Rattle.toml_subset.specs.TableFaults.{put_fault, header_fault, array_header_fault}
use Rattle.toml_subset.specs.Tables.{Branches, closed, implicit, branches_with_value, edit_along, through_any, open_table, open_array, edit_within, meant}
use Rattle.toml_subset.specs.Text.{IsText}
use Rattle.toml_subset.specs.declared.error.SyntaxReason.TheVariants.{ControlCharacter}
use Rattle.toml_subset.specs.declared.string.Key.{Key}
use Rattle.toml_subset.proofs.Law.Basics.{then_some, map_some, is_some, is_ok, not_ok, then_ok, unless_ok, made_ok, if_is, if_true, if_false}
use Rattle.toml_subset.proofs.Law.Depths.{depth}
use Rattle.toml_subset.proofs.Law.Forward.{keys_go, value_goes, next_line_goes, lines_inside}
use Rattle.toml_subset.proofs.Law.Fronts.{BeginsLine, begins_line_byte, begins_line_bare, next_line_inside, run_none}
use Rattle.toml_subset.proofs.Law.Headers.{header_below, header_free, header_grows, array_header_below, array_header_free, array_header_grows, is_within, section_inner}
use Rattle.toml_subset.proofs.Law.Texts.{left_sound, left_read, keys_sound, keys_read, keys_begin, keys_other}
use Rattle.toml_subset.proofs.Law.Values.{value_sound, value_read, run_stops}
use Rattle.toml_subset.proofs.Law.Ways.{put_below, put_free, put_grows, put_room}

-- lines that are read are there

abbrev rest_by : List ℕ → ℕ → Document → Option ℕ → TomlReading LineFound
rest_by text i document (Some next) = Ok (document, next)
rest_by text i document None =
    let j = after_comment text (after_blanks text i) in cond (stands text (after_blanks text i) hash) (Err (fault_at ControlCharacter j (j + 1))) (Err (stop_error text j))

rest_step : (text : List ℕ) (i : ℕ) (document : Document) → line_rest text i document ≡ rest_by text i document (next_line text i)
rest_step text i document =
    elim (next_line text i) as (λ o. elim o [
      | Some next ↦ Ok (document, next)
      | None ↦ (let j = after_comment text (after_blanks text i) in cond (stands text (after_blanks text i) hash) (Err (fault_at ControlCharacter j (j + 1))) (Err (stop_error text j)))
    ] ≡ rest_by text i document o) [ Some next ↦ refl | None ↦ refl ]

rest_by_sound : (text : List ℕ) (i : ℕ) (document : Document) (r : LineFound) (o : Option ℕ) → rest_by text i document o ≡ Ok r → (o ≡ Some r.1) × (document ≡ r.0)
rest_by_sound text i document r (Some next) e =
    let same : (document, next) ≡ r = is_ok _ r e in (ap (λ (x : LineFound). Some x.1) same, ap (λ (x : LineFound). x.0) same)
rest_by_sound text i document r None e =
    let j = after_comment text (after_blanks text i) in
    ⊎_elim (λ h. absurd (not_ok _ r h.1)) (λ h. absurd (not_ok _ r h.1))
    (if_is (stands text (after_blanks text i) hash) (Err (fault_at ControlCharacter j (j + 1))) (Err (stop_error text j)) (Ok r) e)

rest_sound : (text : List ℕ) (i : ℕ) (document : Document) (r : LineFound) → line_rest text i document ≡ Ok r → (next_line text i ≡ Some r.1) × (document ≡ r.0)
rest_sound text i document r e = rest_by_sound text i document r (next_line text i) (sym (rest_step text i document) ∙ e)

rest_read : (text : List ℕ) (i : ℕ) (document : Document) (next : ℕ) → next_line text i ≡ Some next → line_rest text i document ≡ Ok (document, next)
rest_read text i document next is = rest_step text i document ∙ ap (rest_by text i document) is

abbrev with : Branches → List Key → Document
with root section = record { root = root; section = section }

with_root_sound : (text : List ℕ) (i : ℕ) (section : List Key) (o : Option Branches) (r : LineFound) → with_root text i section o ≡ Ok r
    → (root : Branches) × (o ≡ Some root) × (next_line text i ≡ Some r.1) × (with root section ≡ r.0)
with_root_sound text i section o r e =
    let found = then_ok (λ (b : Branches). line_rest text i (with b section)) (edit_reading text o) r e in
    let rest = rest_sound text i (with found.0 section) r found.2 in
    (found.0, made_ok text o found.0 found.1, rest.0, rest.1)

with_root_read : (text : List ℕ) (i : ℕ) (section : List Key) (o : Option Branches) (root : Branches) (next : ℕ) → o ≡ Some root → next_line text i ≡ Some next
    → with_root text i section o ≡ Ok (with root section, next)
with_root_read text i section o root next is ends =
    ap (with_root text i section) is ∙ rest_read text i (with root section) next ends

-- a line that makes a document, which is not too deep
abbrev LineAt : List ℕ → ℕ → Document → LineFound → Type 0
LineAt text j document r =
    (statement : Statement) × ((k : ℕ) × IsStatement text j statement k × (next_line text k ≡ Some r.1))
    × (after_line statement document ≡ Some r.0) × (depth r.0.root ≤ depth_limit)

pair_sound : (text : List ℕ) (j : ℕ) (document : Document) (left : KeysFound) (r : LineFound) → depth document.root ≤ depth_limit → read_left text j ≡ Ok left
    → pair_from text document left ≡ Ok r → LineAt text j document r
pair_sound text j document left r low is_left e =
    let keys = left.0 in
    let here = section_of document.section document.root 0 in
    let at = left_sound text j left is_left in
    let free = unless_ok (put_fault keys here.0 here.1) _ r e in
    let found = then_ok (pair_put text keys document) (value_at text (here.1 + (length keys - 1)) left.1) r free.1 in
    let v = found.0 in
    let inner = section_inner document.section document.root 0 in
    let high = put_room keys here.0 here.1 free.0 (omega arith) in
    let is = value_sound (call_bound text) text (here.1 + (length keys - 1)) left.1 v high found.1 in
    let put_it = with_root_sound text v.2 document.section (edit_within document.section (branches_with_value keys (closed v.0 v.1)) document.root) r found.2 in
    let inside = is_within document.section (branches_with_value keys (closed v.0 v.1)) document.root put_it.0 0 put_it.1 in
    let under = put_below keys (closed v.0 v.1) here.0 inside.made here.1 free.0 inside.is is.3 (omega arith) in
    let whole_low = inside.below depth_limit (omega arith) under in
    let same = ap (λ (d : Document). depth d.root) put_it.3 in (
      pair keys v.0 is.0,
      (v.2, (at.0, at.1, at.2, subst (λ k. IsValue text k v.0 is.0 v.2) (sym at.3) is.1), put_it.2),
      ap (option_and_then (λ content. option_map (λ root. with root document.section) (edit_within document.section (branches_with_value keys (closed v.0 content)) document.root))) is.2
          ∙ ap (option_map (λ root. with root document.section)) put_it.1 ∙ ap (λ (d : Document). Some d) put_it.3,
      omega arith,
    )

header_sound : (text : List ℕ) (j : ℕ) (document : Document) (keys : KeysFound) (r : LineFound) → depth document.root ≤ depth_limit
    → stands text j open_bracket ≡ true → stands text (j + 1) open_bracket ≡ false → keys_at text (after_blanks text (j + 1)) ≡ Ok keys
    → header_from text j document keys ≡ Ok r → LineAt text j document r
header_sound text j document keys r low at one is_keys e =
    let k = after_blanks text keys.1 in
    let new = edit_along implicit through_any (open_table (from_to j (k + 1))) keys.0 document.root in
    ⊎_elim
    (λ h.
    let free = unless_ok (header_fault keys.0 document.root) (with_root text (k + 1) keys.0 new) r h.1 in
    let edit = with_root_sound text (k + 1) keys.0 new r free.1 in
    let under = header_below (from_to j (k + 1)) keys.0 document.root edit.0 free.0 edit.1 low in
    let same = ap (λ (d : Document). depth d.root) edit.3 in (
      table_header (from_to j (k + 1)) keys.0,
      (k + 1, (at, one, (keys.1, keys_sound (suc (length text)) text (after_blanks text (j + 1)) keys is_keys, h.0, refl, refl)), edit.2),
      ap (option_map (λ root. with root keys.0)) edit.1 ∙ ap (λ (d : Document). Some d) edit.3,
      omega arith,
    ))
    (λ h. absurd (not_ok _ r h.1))
    (if_is (stands text k close_bracket) (fault_or (header_fault keys.0 document.root) (with_root text (k + 1) keys.0 new)) (Err (stop_error text k)) (Ok r) e)

array_header_sound : (text : List ℕ) (j : ℕ) (document : Document) (keys : KeysFound) (r : LineFound) → depth document.root ≤ depth_limit
    → stands text j open_bracket ≡ true → stands text (j + 1) open_bracket ≡ true → keys_at text (after_blanks text (j + 2)) ≡ Ok keys
    → array_header_from text j document keys ≡ Ok r → LineAt text j document r
array_header_sound text j document keys r low at two is_keys e =
    let k = after_blanks text keys.1 in
    let new = edit_along implicit through_any (open_array (from_to j (k + 2))) keys.0 document.root in
    let made_it = fault_or (array_header_fault keys.0 document.root) (with_root text (k + 2) keys.0 new) in
    ⊎_elim
    (λ h.
    ⊎_elim
    (λ l.
    let free = unless_ok (array_header_fault keys.0 document.root) (with_root text (k + 2) keys.0 new) r l.1 in
    let edit = with_root_sound text (k + 2) keys.0 new r free.1 in
    let under = array_header_below (from_to j (k + 2)) keys.0 document.root edit.0 free.0 edit.1 low in
    let same = ap (λ (d : Document). depth d.root) edit.3 in (
      array_header (from_to j (k + 2)) keys.0,
      (k + 2, (at, two, (keys.1, keys_sound (suc (length text)) text (after_blanks text (j + 2)) keys is_keys, h.0, l.0, refl, refl)), edit.2),
      ap (option_map (λ root. with root keys.0)) edit.1 ∙ ap (λ (d : Document). Some d) edit.3,
      omega arith,
    ))
    (λ l. absurd (not_ok _ r l.1)) (if_is (stands text (k + 1) close_bracket) made_it (Err (stop_error text (k + 1))) (Ok r) h.1))
    (λ h. absurd (not_ok _ r h.1))
    (if_is (stands text k close_bracket) (cond (stands text (k + 1) close_bracket) made_it (Err (stop_error text (k + 1)))) (Err (stop_error text k)) (Ok r) e)

abbrev array_line : List ℕ → Document → ℕ → TomlReading LineFound
array_line text document j = then_read (array_header_from text j document) (keys_at text (after_blanks text (j + 2)))

abbrev table_line : List ℕ → Document → ℕ → TomlReading LineFound
table_line text document j = then_read (header_from text j document) (keys_at text (after_blanks text (j + 1)))

abbrev bracket_line : List ℕ → Document → ℕ → TomlReading LineFound
bracket_line text document j = cond (stands text (j + 1) open_bracket) (array_line text document j) (table_line text document j)

abbrev pair_line : List ℕ → Document → ℕ → TomlReading LineFound
pair_line text document j = then_read (pair_from text document) (read_left text j)

abbrev statement_line : List ℕ → Document → ℕ → TomlReading LineFound
statement_line text document j = cond (stands text j open_bracket) (bracket_line text document j) (pair_line text document j)

line_sound : (text : List ℕ) (j : ℕ) (document : Document) (r : LineFound) → depth document.root ≤ depth_limit → line_from text document j ≡ Ok r → LineAt text j document r
line_sound text j document r low e =
    ⊎_elim
    (λ h.
    let rest = rest_sound text j document r h.1 in
    let same = ap (λ (d : Document). depth d.root) rest.1 in
    (blank_line, (j, refl, rest.0), ap (λ (d : Document). Some d) rest.1, omega arith))
    (λ h.
    ⊎_elim
    (λ k.
    ⊎_elim
    (λ l.
    let keys = then_ok (array_header_from text j document) (keys_at text (after_blanks text (j + 2))) r l.1 in
    array_header_sound text j document keys.0 r low k.0 l.0 keys.1 keys.2)
    (λ l.
    let keys = then_ok (header_from text j document) (keys_at text (after_blanks text (j + 1))) r l.1 in
    header_sound text j document keys.0 r low k.0 l.0 keys.1 keys.2)
    (if_is (stands text (j + 1) open_bracket) (array_line text document j) (table_line text document j) (Ok r) k.1))
    (λ k. let left = then_ok (pair_from text document) (read_left text j) r k.1 in pair_sound text j document left.0 r low left.1 left.2)
    (if_is (stands text j open_bracket) (bracket_line text document j) (pair_line text document j) (Ok r) h.1))
    (if_is (is_blank_line text j) (line_rest text j document) (statement_line text document j) (Ok r) e)

abbrev LinesAt : List ℕ → ℕ → Document → Document → Type 0
LinesAt text i document r = (lines : List Statement) × AreLines text i lines × (after_lines lines document ≡ Some r) × (depth r.root ≤ depth_limit)

pub lines_sound : (n : ℕ) (text : List ℕ) (i : ℕ) (document r : Document) → i ≤ length text → depth document.root ≤ depth_limit → read_lines n text i document ≡ Ok r
    → LinesAt text i document r
lines_sound zero text i document r inside low e = absurd (not_ok (stop_error text i) r e)
lines_sound (suc n) text i document r inside low e =
    ⊎_elim
    (λ h.
    let line = then_ok (λ (x : LineFound). read_lines n text x.1 x.0) (line_from text document (after_blanks text i)) r h.1 in
    let is = line_sound text (after_blanks text i) document line.0 low line.1 in
    let next = next_line_inside text is.1.0 line.0.1 is.1.2 in
    let rest = lines_sound n text line.0.1 line.0.0 r next is.3 line.2 in
    let less : i < length text = grind (arith, nat_tests) in
    (is.0 ∷ rest.0, (less, (line.0.1, is.1, rest.1)), ap (option_and_then (after_lines rest.0)) is.2 ∙ rest.2, rest.3))
    (λ h.
    let past : length text ≤ i = grind (arith, nat_tests) in
    let same = ap (λ (d : Document). depth d.root) (is_ok document r h.1) in
    ([], omega arith, ap (λ (d : Document). Some d) (is_ok document r h.1), omega arith))
    (if_is (nat_lt i (length text)) (then_read (λ (x : LineFound). read_lines n text x.1 x.0) (line_from text document (after_blanks text i))) (Ok document) (Ok r) e)

pub text_sound : (text : List ℕ) (value : Toml) → read_text text ≡ Ok value → IsText text value
text_sound text value e =
    let found = then_ok (λ (document : Document). Ok (root_value text document)) (read_lines (suc (length text)) text 0 no_lines) value e in
    let lines = lines_sound (suc (length text)) text 0 no_lines found.0 (omega arith) (omega arith) found.1 in
    record {
      lines = lines.0;
      document = found.0;
      stand = lines.1;
      makes = lines.2;
      shallow = lines.3;
      is = sym (is_ok _ value found.2);
    }

-- lines that are there are read

and_none : (a b : Bool) → a ≡ false → (a && b) ≡ false
and_none a b h = ap (λ x. x && b) h

or_none : (a b : Bool) → a ≡ false → b ≡ false → (a || b) ≡ false
or_none true b h k = absurd (true≢false h)
or_none false b h k = k

or_first : (a b : Bool) → a ≡ true → (a || b) ≡ true
or_first a b h = ap (λ x. x || b) h

or_last : (a b : Bool) → b ≡ true → (a || b) ≡ true
or_last true b h = refl
or_last false b h = h

not_blank : (text : List ℕ) (j : ℕ) → BeginsLine text j → is_blank_line text j ≡ false
not_blank text j begins =
    let inside = begins.inside in
    let differs : eqb j (length text) ≡ false = grind (arith, nat_tests) in
    or_none _ _ differs (or_none _ _ begins.comment (or_none _ _ begins.lf (and_none _ _ begins.cr)))

blank_line_is : (text : List ℕ) (j next : ℕ) → passes_at is_blank text j ≡ false → next_line text j ≡ Some next → is_blank_line text j ≡ true
blank_line_is text j next blank e =
    let blanks : after_blanks text j ≡ j = run_none is_blank text j blank in
    let breaks = stands text j carriage_return && stands text (j + 1) line_feed in
    elim (stands text j hash) as (λ h. stands text j hash ≡ h → is_blank_line text j ≡ true) [
      | true ↦ λ is. or_last (eqb j (length text)) _ (or_first _ _ is)
      | false ↦ λ is.
          let comment : after_comment text j ≡ j = if_false (stands text j hash) (run_end may_stand text (j + 1)) j is in
          let here : cond (eqb j (length text)) (Some j) (behind_line_end text j) ≡ Some next =
          sym (ap (λ k. cond (eqb (after_comment text k) (length text)) (Some (after_comment text k)) (behind_line_end text (after_comment text k))) blanks
          ∙ ap (λ k. cond (eqb k (length text)) (Some k) (behind_line_end text k)) comment) ∙ e in
          ⊎_elim (λ h. or_first _ _ h.0)
          (λ h.
          ⊎_elim (λ k. or_last (eqb j (length text)) _ (or_last (stands text j hash) _ (or_first _ _ k.0)))
          (λ k.
          ⊎_elim (λ l. or_last (eqb j (length text)) _ (or_last (stands text j hash) _ (or_last (stands text j line_feed) _ l.0))) (λ l. let none = l.1 in absurd (cc))
          (if_is breaks (Some (j + 2)) None (Some next) k.1))
          (if_is (stands text j line_feed) (Some (j + 1)) (cond breaks (Some (j + 2)) None) (Some next) h.1))
          (if_is (eqb j (length text)) (Some j) (behind_line_end text j) (Some next) here)
    ] refl

key_line : (text : List ℕ) (i : ℕ) (keys : List Key) (next : ℕ) → AreKeys text i keys next → BeginsLine text i
key_line text i keys next is =
    ⊎_elim (λ h. begins_line_bare text i h)
    (λ h. ⊎_elim (λ k. begins_line_byte quote refl refl refl refl text i k) (λ k. begins_line_byte apostrophe refl refl refl refl text i k) h) (keys_begin text i keys next is)

pub statement_goes : (text : List ℕ) (i : ℕ) (s : Statement) (k : ℕ) → IsStatement text i s k → i ≤ k
statement_goes text i blank_line k is = omega (arith, is)
statement_goes text i (pair keys span value) k is =
    let key = keys_go text i keys is.0 is.1 in
    let rest = value_goes text _ span value k is.3 in
    omega arith
statement_goes text i (table_header span keys) k is = let key = keys_go text _ keys is.2.0 is.2.1 in let ends = is.2.3 in omega arith
statement_goes text i (array_header span keys) k is = let key = keys_go text _ keys is.2.0 is.2.1 in let ends = is.2.4 in omega arith

past_blank : (text : List ℕ) (j : ℕ) (document : Document) → BeginsLine text j → line_from text document j ≡ statement_line text document j
past_blank text j document begins = if_false (is_blank_line text j) (line_rest text j document) (statement_line text document j) (not_blank text j begins)

-- what a line of one kind is read as
pub line_read : (text : List ℕ) (j : ℕ) (document new : Document) (s : Statement) (k next : ℕ) → passes_at is_blank text j ≡ false → IsStatement text j s k → next_line text k ≡ Some next
    → after_line s document ≡ Some new → depth new.root ≤ depth_limit → k ≤ length text → line_from text document j ≡ Ok (new, next)
line_read text j document new blank_line k next blank is ends mean low inside =
    let here : next_line text j ≡ Some next = ap (next_line text) (sym is) ∙ ends in
    if_true (is_blank_line text j) (line_rest text j document) (statement_line text document j) (blank_line_is text j next blank here)
    ∙ rest_read text j document next here ∙ ap (λ (d : Document). Ok (d, next)) (is_some document new mean)
line_read text j document new (pair keys span raw) k next blank is ends mean low inside =
    let here = section_of document.section document.root 0 in
    let end = is.0 in
    let at = after_blanks text (after_blanks text end + 1) in
    let high = here.1 + (length keys - 1) in
    let first = then_some (λ content. option_map (λ root. with root document.section) (edit_within document.section (branches_with_value keys (closed span content)) document.root)) (meant raw) new mean in
    let edit = map_some (λ root. with root document.section) (edit_within document.section (branches_with_value keys (closed span first.0)) document.root) new first.2 in
    let inside_it = is_within document.section (branches_with_value keys (closed span first.0)) document.root edit.0 0 edit.1 in
    let least = inside_it.least in
    let same = ap (λ (d : Document). depth d.root) edit.2 in
    let free = put_free keys (closed span first.0) here.0 inside_it.made here.1 inside_it.is (omega arith) in
    let key = keys_go text j keys end is.1 in
    let goes = value_goes text at span raw k is.3 in
    past_blank text j document (key_line text j keys end is.1)
    ∙ if_false (stands text j open_bracket) (bracket_line text document j) (pair_line text document j) (keys_other open_bracket refl refl refl text j keys end is.1)
    ∙ ap (then_read (pair_from text document)) (left_read text j keys end is.1 is.2 (omega arith))
    ∙ ap (λ o. fault_or o (then_read (pair_put text keys document) (value_at text high at))) free.0
    ∙ ap (then_read (pair_put text keys document)) (value_read (call_bound text) text high at span raw k first.0 is.3 first.1 free.1 inside (omega arith))
    ∙ with_root_read text k document.section (edit_within document.section (branches_with_value keys (closed span first.0)) document.root) edit.0 next edit.1 ends
    ∙ ap (λ (d : Document). Ok (d, next)) edit.2
line_read text j document new (table_header span keys) k next blank is ends mean low inside =
    let end = is.2.0 in
    let b = after_blanks text end in
    let place = is.2.3 in
    let edit = map_some (λ root. with root keys) (edit_along implicit through_any (open_table span) keys document.root) new mean in
    let same = ap (λ (d : Document). depth d.root) edit.2 in
    let free = header_free span keys document.root edit.0 edit.1 (omega arith) in
    let spans : from_to j (b + 1) ≡ span = ap (from_to j) (sym is.2.3) ∙ sym is.2.4 in
    let tree : edit_along implicit through_any (open_table (from_to j (b + 1))) keys document.root ≡ Some edit.0 =
    ap (λ (x : Span). edit_along implicit through_any (open_table x) keys document.root) spans ∙ edit.1 in
    let made_it = fault_or (header_fault keys document.root) (with_root text (b + 1) keys (edit_along implicit through_any (open_table (from_to j (b + 1))) keys document.root)) in
    past_blank text j document (begins_line_byte open_bracket refl refl refl refl text j is.0)
    ∙ if_true (stands text j open_bracket) (bracket_line text document j) (pair_line text document j) is.0
    ∙ if_false (stands text (j + 1) open_bracket) (array_line text document j) (table_line text document j) is.1
    ∙ ap (then_read (header_from text j document)) (keys_read (suc (length text)) text (after_blanks text (j + 1)) keys end is.2.1 (omega arith) (omega arith))
    ∙ if_true (stands text b close_bracket) made_it (Err (stop_error text b)) is.2.2
    ∙ ap (λ o. fault_or o (with_root text (b + 1) keys (edit_along implicit through_any (open_table (from_to j (b + 1))) keys document.root))) free
    ∙ with_root_read text (b + 1) keys (edit_along implicit through_any (open_table (from_to j (b + 1))) keys document.root) edit.0 next tree (ap (next_line text) (sym is.2.3) ∙ ends)
    ∙ ap (λ (d : Document). Ok (d, next)) edit.2
line_read text j document new (array_header span keys) k next blank is ends mean low inside =
    let end = is.2.0 in
    let b = after_blanks text end in
    let place = is.2.4 in
    let edit = map_some (λ root. with root keys) (edit_along implicit through_any (open_array span) keys document.root) new mean in
    let same = ap (λ (d : Document). depth d.root) edit.2 in
    let free = array_header_free span keys document.root edit.0 edit.1 (omega arith) in
    let spans : from_to j (b + 2) ≡ span = ap (from_to j) (sym is.2.4) ∙ sym is.2.5 in
    let tree : edit_along implicit through_any (open_array (from_to j (b + 2))) keys document.root ≡ Some edit.0 =
    ap (λ (x : Span). edit_along implicit through_any (open_array x) keys document.root) spans ∙ edit.1 in
    let made_it = fault_or (array_header_fault keys document.root) (with_root text (b + 2) keys (edit_along implicit through_any (open_array (from_to j (b + 2))) keys document.root)) in
    past_blank text j document (begins_line_byte open_bracket refl refl refl refl text j is.0)
    ∙ if_true (stands text j open_bracket) (bracket_line text document j) (pair_line text document j) is.0
    ∙ if_true (stands text (j + 1) open_bracket) (array_line text document j) (table_line text document j) is.1
    ∙ ap (then_read (array_header_from text j document)) (keys_read (suc (length text)) text (after_blanks text (j + 2)) keys end is.2.1 (omega arith) (omega arith))
    ∙ if_true (stands text b close_bracket) (cond (stands text (b + 1) close_bracket) made_it (Err (stop_error text (b + 1)))) (Err (stop_error text b)) is.2.2
    ∙ if_true (stands text (b + 1) close_bracket) made_it (Err (stop_error text (b + 1))) is.2.3
    ∙ ap (λ o. fault_or o (with_root text (b + 2) keys (edit_along implicit through_any (open_array (from_to j (b + 2))) keys document.root))) free
    ∙ with_root_read text (b + 2) keys (edit_along implicit through_any (open_array (from_to j (b + 2))) keys document.root) edit.0 next tree (ap (next_line text) (sym is.2.4) ∙ ends)
    ∙ ap (λ (d : Document). Ok (d, next)) edit.2

line_grows : (s : Statement) (document new : Document) → after_line s document ≡ Some new → depth document.root ≤ depth new.root
line_grows blank_line document new e = let same = ap (λ (d : Document). depth d.root) (is_some document new e) in omega arith
line_grows (pair keys span raw) document new e =
    let first = then_some (λ content. option_map (λ root. with root document.section) (edit_within document.section (branches_with_value keys (closed span content)) document.root)) (meant raw) new e in
    let edit = map_some (λ root. with root document.section) (edit_within document.section (branches_with_value keys (closed span first.0)) document.root) new first.2 in
    let inside = is_within document.section (branches_with_value keys (closed span first.0)) document.root edit.0 0 edit.1 in
    let grown = inside.grows (put_grows keys (closed span first.0) (section_of document.section document.root 0).0 inside.made inside.is) in
    let same = ap (λ (d : Document). depth d.root) edit.2 in
    omega arith
line_grows (table_header span keys) document new e =
    let edit = map_some (λ root. with root keys) (edit_along implicit through_any (open_table span) keys document.root) new e in
    let grown = header_grows span keys document.root edit.0 edit.1 in
    let same = ap (λ (d : Document). depth d.root) edit.2 in
    omega arith
line_grows (array_header span keys) document new e =
    let edit = map_some (λ root. with root keys) (edit_along implicit through_any (open_array span) keys document.root) new e in
    let grown = array_header_grows span keys document.root edit.0 edit.1 in
    let same = ap (λ (d : Document). depth d.root) edit.2 in
    omega arith

pub lines_grow : (lines : List Statement) (document new : Document) → after_lines lines document ≡ Some new → depth document.root ≤ depth new.root
lines_grow [] document new e = let same = ap (λ (d : Document). depth d.root) (is_some document new e) in omega arith
lines_grow (s ∷ more) document new e =
    let first = then_some (after_lines more) (after_line s document) new e in
    let one = line_grows s document first.0 first.1 in
    let rest = lines_grow more first.0 new first.2 in
    omega arith

pub lines_read : (n : ℕ) (text : List ℕ) (i : ℕ) (lines : List Statement) (document new : Document) → AreLines text i lines → after_lines lines document ≡ Some new
    → depth new.root ≤ depth_limit → length text < i + n → read_lines n text i document ≡ Ok new
lines_read zero text i lines document new is mean low room = let inside = lines_inside text i lines is in absurd (omega arith)
lines_read (suc n) text i [] document new is mean low room =
    let past : nat_lt i (length text) ≡ false = grind (arith, nat_tests) in
    if_false (nat_lt i (length text)) (then_read (λ (x : LineFound). read_lines n text x.1 x.0) (line_from text document (after_blanks text i))) (Ok document) past
    ∙ ap (λ (d : Document). Ok d) (is_some document new mean)
lines_read (suc n) text i (s ∷ more) document new is mean low room =
    let inside = is.0 in
    let next = is.1.0 in
    let line = is.1.1 in
    let rest = lines_inside text next more is.1.2 in
    let statement = statement_goes text (after_blanks text i) s line.0 line.1 in
    let ends = next_line_goes text line.0 next line.2 in
    let within : line.0 ≤ length text = ⊎_elim (λ h. omega arith) (λ h. let at = h.0 in let le = h.1 in omega arith) ends in
    let goes : i < next = ⊎_elim (λ h. omega arith) (λ h. let at = h.0 in omega arith) ends in
    let less : nat_lt i (length text) ≡ true = grind (arith, nat_tests) in
    let first = then_some (after_lines more) (after_line s document) new mean in
    let grown = lines_grow more first.0 new first.2 in
    if_true (nat_lt i (length text)) (then_read (λ (x : LineFound). read_lines n text x.1 x.0) (line_from text document (after_blanks text i))) (Ok document) less
    ∙ ap (then_read (λ (x : LineFound). read_lines n text x.1 x.0))
    (line_read text (after_blanks text i) document first.0 s line.0 next (run_stops is_blank text i) line.1 line.2 first.1 (omega arith) within)
    ∙ lines_read n text next more first.0 new is.1.2 first.2 low (omega arith)

-- a line that is read ends behind its beginning
pub line_forward : (text : List ℕ) (i : ℕ) (document : Document) (r : LineFound) → i < length text → depth document.root ≤ depth_limit
    → line_from text document (after_blanks text i) ≡ Ok r → i < r.1
line_forward text i document r inside low e =
    let is = line_sound text (after_blanks text i) document r low e in
    let statement = statement_goes text (after_blanks text i) is.0 is.1.0 is.1.1 in
    ⊎_elim (λ h. omega arith) (λ h. let at = h.0 in omega arith) (next_line_goes text is.1.0 r.1 is.1.2)

pub text_complete : (text : List ℕ) (value : Toml) → IsText text value → read_text text ≡ Ok value
text_complete text value is =
    ap (then_read (λ (document : Document). Ok (root_value text document))) (lines_read (suc (length text)) text 0 is.lines no_lines is.document is.stand is.makes is.shallow (omega arith))
    ∙ ap (λ (x : Toml). Ok x) (sym is.is)

pub one_value : (text : List ℕ) (a b : Toml) → IsText text a → IsText text b → a ≡ b
one_value text a b first second = is_ok a b (sym (text_complete text a first) ∙ text_complete text b second)
