-- A text read from left to right: the value that it stands for, or else its first fault.
use Rattle.std.specs.Prelude.{ℕ, zero, suc, ◌+◌, ◌-◌, Bool, true, false, ◌||◌, ◌&&◌, ◌==◌, nat_lt, if◌then◌else◌, List}
use Rattle.std.specs.Prelude.{[], ◌∷◌, Option, Some, None, Ok, Err, length, drop}
use Rattle.deny_text.specs.declared.span.Span.{Span}
use Rattle.toml_subset.specs.Answer.{TomlReading, fault_at, stop_error, then_read, fault_or}
use Rattle.toml_subset.specs.Bytes.{quote, apostrophe, hash, comma, line_feed, carriage_return, open_bracket}
use Rattle.toml_subset.specs.Bytes.{close_bracket, open_brace, close_brace, is_run}
use Rattle.toml_subset.specs.Data as «data»
use Rattle.toml_subset.specs.Data.{TomlContent, Items, Toml, depth_limit}
use Rattle.toml_subset.specs.Faults.{begins_number}
use Rattle.toml_subset.specs.Lines.{Document, no_lines}
use Rattle.toml_subset.specs.Numbers.{Class, unsupported, number_form, number_range, integer, decimal, class_of}
use Rattle.toml_subset.specs.Places.{from_to, stands, run_end, run_at, after_blanks, after_comment, next_line}
use Rattle.toml_subset.specs.Places.{after_space, in_comment}
use Rattle.toml_subset.specs.Raw.{word_of}
use Rattle.toml_subset.specs.StringReading.{StringFound, KeysFound, read_string, keys_at, read_left}
use Rattle.toml_subset.specs.TableFaults.{Inside, table_node_at, inside_any, put_fault, header_fault}
use Rattle.toml_subset.specs.TableFaults.{array_header_fault}
use Rattle.toml_subset.specs.Tables.{Branches, unbranched, closed, implicit, branches_with_value, edit_along}
use Rattle.toml_subset.specs.Tables.{edit_within, through_any, open_table, open_array, entries_of}
use Rattle.toml_subset.specs.declared.error.SyntaxError.{SyntaxError}
use Rattle.toml_subset.specs.declared.error.SyntaxReason.TheVariants.{ControlCharacter, NumberForm, NumberRange}
use Rattle.toml_subset.specs.declared.error.SyntaxReason.TheVariants.{Unsupported, TooDeep}
use Rattle.toml_subset.specs.declared.string.Key.{Key}

-- a value, its span first, and the place behind it
abbrev pub ValueFound : Type 0
ValueFound = Span × TomlContent × ℕ

-- a number run by its class
abbrev pub number_read : List ℕ → ℕ → Class → TomlReading ValueFound
number_read text i unsupported = Err (fault_at Unsupported i (run_end is_run text i))
number_read text i number_form = Err (fault_at NumberForm i (run_end is_run text i))
number_read text i number_range = Err (fault_at NumberRange i (run_end is_run text i))
number_read text i (integer z) = Ok (from_to i (run_end is_run text i), data.integer z, run_end is_run text i)
number_read text i (decimal z) = Ok (from_to i (run_end is_run text i), data.decimal z, run_end is_run text i)

-- how many bytes of a word are at the front of another text
abbrev pub shared_len : List ℕ → List ℕ → ℕ
shared_len [] s = 0
shared_len (c ∷ cs) [] = 0
shared_len (c ∷ cs) (d ∷ ds) = if c == d then suc (shared_len cs ds) else 0

abbrev pub word_read : Bool → List ℕ → ℕ → TomlReading ValueFound
word_read b text i =
    let shared = shared_len (word_of b) (drop i text) in
    if shared == length (word_of b) then Ok (from_to i (i + shared), data.boolean b, i + shared)
    else Err (stop_error text (i + shared))

-- a value that is no array and no inline table
abbrev pub read_scalar : List ℕ → ℕ → TomlReading ValueFound
read_scalar text i =
    if begins_number text i then number_read text i (class_of (run_at is_run text i))
    else (if stands text i quote || stands text i apostrophe
    then then_read (λ (r : StringFound). Ok (r.1, data.string r.0, r.2)) (read_string text i)
    else (if stands text i 116 then word_read true text i
    else (if stands text i 102 then word_read false text i else Err (stop_error text i))))

-- whether the space from a place on in an array ends in a comment, at a character that may not are there
abbrev pub cut_in_comment : List ℕ → ℕ → Bool
cut_in_comment text i = in_comment text i && nat_lt (after_space text i) (length text)

-- what is wrong behind that space, where no token may be there
abbrev pub space_fault : List ℕ → ℕ → SyntaxError
space_fault text i =
    let j = after_space text i in
    if cut_in_comment text i then fault_at ControlCharacter j (j + 1) else stop_error text j

-- the rest of an array, and the place behind it
abbrev pub ItemsFound : Type 0
ItemsFound = Items × ℕ

-- from behind an item on
abbrev pub array_items_behind : (ℕ → TomlReading ItemsFound) → List ℕ → ValueFound → TomlReading ItemsFound
array_items_behind rest text v =
    let j = after_space text v.2 in
    if stands text j close_bracket then Ok (data.item v.0 v.1 data.no_item, j + 1)
    else (if stands text j comma then then_read (λ (r : ItemsFound). Ok (data.item v.0 v.1 r.0, r.1)) (rest (j + 1))
    else Err (space_fault text v.2))

-- from behind the opening or a comma on
abbrev pub array_items_from : (ℕ → TomlReading ValueFound) → (ℕ → TomlReading ItemsFound) → List ℕ → ℕ
    → TomlReading ItemsFound
array_items_from value rest text i =
    let j = after_space text i in
    if cut_in_comment text i then Err (space_fault text i)
    else (if stands text j close_bracket then Ok (data.no_item, j + 1)
    else then_read (array_items_behind rest text) (value j))

-- the entries of an inline table, and the place behind it
abbrev pub EntriesFound : Type 0
EntriesFound = Branches × ℕ

-- an edit that no fault refuses
abbrev pub edit_reading : {A : Type 0} → List ℕ → Option A → TomlReading A
edit_reading text (Some x) = Ok x
edit_reading text None = Err (stop_error text (length text))

-- from behind an entry on
abbrev pub entries_behind : (Branches → ℕ → TomlReading EntriesFound) → List ℕ → ℕ → Branches → TomlReading EntriesFound
entries_behind rest text i branches =
    let j = after_blanks text i in
    if stands text j close_brace then Ok (branches, j + 1)
    else (if stands text j comma then rest branches (after_blanks text (j + 1)) else Err (stop_error text j))

abbrev pub entry_put : (Branches → ℕ → TomlReading EntriesFound) → List ℕ → List Key → Branches → ValueFound
    → TomlReading EntriesFound
entry_put rest text keys branches v =
    then_read (entries_behind rest text v.2) (edit_reading text (branches_with_value keys (closed v.0 v.1) branches))

-- from an entry's place on, so many tables and arrays standing around the entry
abbrev pub entries_from : (ℕ → ℕ → TomlReading ValueFound) → (Branches → ℕ → TomlReading EntriesFound) → List ℕ → ℕ
    → Branches → ℕ → TomlReading EntriesFound
entries_from value rest text above branches i =
    then_read (λ (left : KeysFound). fault_or (put_fault left.0 branches above)
    (then_read (entry_put rest text left.0 branches) (value (above + (length left.0 - 1)) left.1))) (read_left text i)

abbrev pub array_read : ℕ → ItemsFound → TomlReading ValueFound
array_read i r = Ok (from_to i r.1, data.array r.0, r.1)

abbrev pub table_read : ℕ → EntriesFound → TomlReading ValueFound
table_read i r = Ok (from_to i r.1, data.table (entries_of r.0), r.1)

-- an inline table from its opening on: empty, or its entries
abbrev pub table_from : (ℕ → TomlReading EntriesFound) → List ℕ → ℕ → TomlReading EntriesFound
table_from entries text i =
    let j = after_blanks text (i + 1) in if stands text j close_brace then Ok (unbranched, j + 1) else entries j

abbrev pub value_from : (ℕ → TomlReading ItemsFound) → (ℕ → TomlReading EntriesFound) → List ℕ → ℕ → ℕ
    → TomlReading ValueFound
value_from items entries text above i =
    if stands text i open_bracket || stands text i open_brace
    then (if above == depth_limit then Err (fault_at TooDeep i (i + 1))
    else (if stands text i open_bracket then then_read (array_read i) (items (i + 1))
    else then_read (table_read i) (table_from entries text i)))
    else read_scalar text i

-- a value, so many tables and arrays standing around it; the rest of an array; the rest of an inline table
abbrev mutual
  pub read_value : ℕ → List ℕ → ℕ → ℕ → TomlReading ValueFound
  read_value zero text above i = Err (stop_error text i)
  read_value (suc n) text above i =
      value_from (read_items n text (above + 1)) (read_entries n text (above + 1) unbranched) text above i

  pub read_items : ℕ → List ℕ → ℕ → ℕ → TomlReading ItemsFound
  read_items zero text above i = Err (stop_error text i)
  read_items (suc n) text above i = array_items_from (read_value n text above) (read_items n text above) text i

  pub read_entries : ℕ → List ℕ → ℕ → Branches → ℕ → TomlReading EntriesFound
  read_entries zero text above branches i = Err (stop_error text i)
  read_entries (suc n) text above branches i =
      entries_from (read_value n text) (read_entries n text above) text above branches i

-- each call of a second kind within another goes one place on at least
abbrev pub call_bound : List ℕ → ℕ
call_bound text = suc (suc (suc (length text + length text)))

abbrev pub value_at : List ℕ → ℕ → ℕ → TomlReading ValueFound
value_at text = read_value (call_bound text) text

-- the table that a header opened, and how many tables and arrays are around its entries
abbrev pub section_of : List Key → Branches → ℕ → Inside
section_of [] branches above = (branches, above)
section_of (key ∷ more) branches above =
    elim (table_node_at key branches) [
      | Some node ↦
          elim (inside_any node) [ Some found ↦ section_of more found.0 (above + found.1) | None ↦ (unbranched, above) ]
      | None ↦ (unbranched, above)
    ]

-- what some lines make, and the place of the next line
abbrev pub LineFound : Type 0
LineFound = Document × ℕ

-- the rest of a line: nothing but blanks and a comment
abbrev pub line_rest : List ℕ → ℕ → Document → TomlReading LineFound
line_rest text i document =
    elim (next_line text i) [
      | Some next ↦ Ok (document, next)
      | None ↦ (let j = after_comment text (after_blanks text i) in
          if stands text (after_blanks text i) hash then Err (fault_at ControlCharacter j (j + 1))
          else Err (stop_error text j))
    ]

abbrev pub with_root : List ℕ → ℕ → List Key → Option Branches → TomlReading LineFound
with_root text i section root =
    then_read (λ (r : Branches). line_rest text i (record { root = r; section = section })) (edit_reading text root)

abbrev pub pair_put : List ℕ → List Key → Document → ValueFound → TomlReading LineFound
pair_put text keys document v =
    with_root text v.2 document.section
    (edit_within document.section (branches_with_value keys (closed v.0 v.1)) document.root)

-- a key and a value, the table rules asked before the value is looked at
abbrev pub pair_from : List ℕ → Document → KeysFound → TomlReading LineFound
pair_from text document left =
    let here = section_of document.section document.root 0 in
    fault_or (put_fault left.0 here.0 here.1)
    (then_read (pair_put text left.0 document) (value_at text (here.1 + (length left.0 - 1)) left.1))

abbrev pub header_from : List ℕ → ℕ → Document → KeysFound → TomlReading LineFound
header_from text i document keys =
    let j = after_blanks text keys.1 in
    if stands text j close_bracket
    then fault_or (header_fault keys.0 document.root)
    (with_root text (j + 1) keys.0
    (edit_along implicit through_any (open_table (from_to i (j + 1))) keys.0 document.root))
    else Err (stop_error text j)

abbrev pub array_header_from : List ℕ → ℕ → Document → KeysFound → TomlReading LineFound
array_header_from text i document keys =
    let j = after_blanks text keys.1 in
    if stands text j close_bracket
    then (if stands text (j + 1) close_bracket
    then fault_or (array_header_fault keys.0 document.root)
    (with_root text (j + 2) keys.0
    (edit_along implicit through_any (open_array (from_to i (j + 2))) keys.0 document.root))
    else Err (stop_error text (j + 1)))
    else Err (stop_error text j)

abbrev pub is_blank_line : List ℕ → ℕ → Bool
is_blank_line text i =
    (i == length text)
    || (stands text i hash
    || (stands text i line_feed || (stands text i carriage_return && stands text (i + 1) line_feed)))

-- a line, what it says standing at a place behind its blanks
abbrev pub line_from : List ℕ → Document → ℕ → TomlReading LineFound
line_from text document i =
    if is_blank_line text i then line_rest text i document
    else (if stands text i open_bracket
    then (if stands text (i + 1) open_bracket
    then then_read (array_header_from text i document) (keys_at text (after_blanks text (i + 2)))
    else then_read (header_from text i document) (keys_at text (after_blanks text (i + 1))))
    else then_read (pair_from text document) (read_left text i))

abbrev pub read_lines : ℕ → List ℕ → ℕ → Document → TomlReading Document
read_lines zero text i document = Err (stop_error text i)
read_lines (suc n) text i document =
    if nat_lt i (length text)
    then then_read (λ (r : LineFound). read_lines n text r.1 r.0) (line_from text document (after_blanks text i))
    else Ok document

abbrev pub root_value : List ℕ → Document → Toml
root_value text document = record { content = data.table (entries_of document.root); span = from_to 0 (length text) }

-- the value of a text, or its first fault
abbrev pub read_text : List ℕ → TomlReading Toml
read_text text =
    then_read (λ (document : Document). Ok (root_value text document)) (read_lines (suc (length text)) text 0 no_lines)
