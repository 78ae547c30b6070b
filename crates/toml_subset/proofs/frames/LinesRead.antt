-- Lines, one after another.
use Rattle.std.proofs.Common.{◌≡◌, ℕ, zero, suc, ◌+◌, ◌<◌, ◌≤◌, true, false, nat_lt, List, length, Ok, Err, refl, ap, sym, ◌∙◌, arith}
use Rattle.std.proofs.lemmas.Bool.Decides.{nat_tests}
use Rattle.toml_subset.specs.Answer.{TomlReading, then_read}
use Rattle.toml_subset.specs.Lines.{Document, no_lines}
use Rattle.toml_subset.specs.Places.{after_blanks}
use Rattle.toml_subset.specs.Reading.{LineFound, line_from, read_lines, root_value, read_text}
use Rattle.toml_subset.specs.declared.error.SyntaxError.{SyntaxError}
use Rattle.toml_subset.proofs.Law.Basics.{if_true, if_false}
use Rattle.toml_subset.proofs.Law.Whole.{line_forward}
use Rattle.toml_subset.specs.frames.Levels.{Cursor, at_start, IsWay}
use Rattle.toml_subset.specs.frames.LinesRead.{AreLinesRead}
use Rattle.toml_subset.proofs.frames.Levels.{start_way}

pub lines_begin : (text : List ℕ) → AreLinesRead text at_start 0
lines_begin text = record {
  document = no_lines;
  left = suc (length text);
  way = start_way;
  room = omega arith;
  within = omega arith;
  is = refl;
}

module _ (text : List ℕ) (i : ℕ) (document : Document) where
  abbrev line : TomlReading LineFound
  line = line_from text document (after_blanks text i)

  abbrev further : ℕ → LineFound → TomlReading Document
  further n r = read_lines n text r.1 r.0

  reads_line : (n : ℕ) → i < length text → read_lines (suc n) text i document ≡ then_read (further n) line
  reads_line n inside =
      let less : nat_lt i (length text) ≡ true = grind (arith, nat_tests) in
      if_true (nat_lt i (length text)) (then_read (further n) line) (Ok document) less

  goes_by : (n : ℕ) (c : Cursor) (new : Document) (next : ℕ) → read_lines (suc (length text)) text 0 no_lines ≡ read_lines n text i document → length text < i + n
      → i < length text → i < next → next ≤ length text → line ≡ Ok (new, next) → IsWay new c → AreLinesRead text c next
  goes_by zero c new next is room inside goes within read way = absurd (omega arith)
  goes_by (suc n) c new next is room inside goes within read way = record {
    document = new;
    left = n;
    way = way;
    room = omega arith;
    within = within;
    is = is ∙ reads_line n inside ∙ ap (then_read (further n)) read;
  }

  refused_by : (n : ℕ) (fault : SyntaxError) → read_lines (suc (length text)) text 0 no_lines ≡ read_lines n text i document → length text < i + n
      → i < length text → line ≡ Err fault → read_lines (suc (length text)) text 0 no_lines ≡ Err fault
  refused_by zero fault is room inside read = absurd (omega arith)
  refused_by (suc n) fault is room inside read = is ∙ reads_line n inside ∙ ap (then_read (further n)) read

  ended_by : (n : ℕ) → read_lines (suc (length text)) text 0 no_lines ≡ read_lines n text i document → length text < i + n → i ≡ length text
      → read_lines (suc (length text)) text 0 no_lines ≡ Ok document
  ended_by zero is room at = absurd (omega arith)
  ended_by (suc n) is room at =
      let past : nat_lt i (length text) ≡ false = grind (arith, nat_tests) in
      is ∙ if_false (nat_lt i (length text)) (then_read (further n) line) (Ok document) past

-- a further line
pub line_goes_on : (text : List ℕ) (c d : Cursor) (i next : ℕ) (are : AreLinesRead text c i) → i < length text → next ≤ length text
    → (new : Document) → line_from text are.document (after_blanks text i) ≡ Ok (new, next) → IsWay new d → AreLinesRead text d next
line_goes_on text c d i next are inside within new read way =
    goes_by text i are.document are.left d new next are.is are.room inside (line_forward text i are.document (new, next) inside are.way.low read) within read way

-- a line with a fault
pub line_refused : (text : List ℕ) (c : Cursor) (i : ℕ) (fault : SyntaxError) (are : AreLinesRead text c i) → i < length text
    → line_from text are.document (after_blanks text i) ≡ Err fault → read_text text ≡ Err fault
line_refused text c i fault are inside read =
    ap (then_read (λ (d : Document). Ok (root_value text d))) (refused_by text i are.document are.left fault are.is are.room inside read)

-- the text's end
pub lines_end : (text : List ℕ) (c : Cursor) (i : ℕ) (are : AreLinesRead text c i) → length text ≤ i → read_text text ≡ Ok (root_value text are.document)
lines_end text c i are past =
    let within = are.within in
    ap (then_read (λ (d : Document). Ok (root_value text d))) (ended_by text i are.document are.left are.is are.room (omega arith))
