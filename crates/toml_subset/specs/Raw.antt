-- Values as they are written (TOML 1.0: Boolean, Array, Inline Table). An inline table's entries are kept as they are,
-- dotted keys and all.
use Rattle.std.specs.Prelude.{◌≡◌, ℕ, ◌+◌, Bool, true, false, ◌⊎◌, IsTrue, List, ℤ, length, take, drop, codes}
use Rattle.deny_text.specs.declared.span.Span.{Span}
use Rattle.toml_subset.specs.Bytes.{comma, equals, open_bracket, close_bracket, open_brace, close_brace, is_run}
use Rattle.toml_subset.specs.Bytes.{begins_run}
use Rattle.toml_subset.specs.Keys.{AreKeys}
use Rattle.toml_subset.specs.Numbers.{Class, integer, decimal, class_of}
use Rattle.toml_subset.specs.Places.{from_to, passes_at, stands, run_end, run_at, after_blanks, after_space}
use Rattle.toml_subset.specs.Strings.{IsString, Quoting}
use Rattle.toml_subset.specs.Written.{WrittenString}
use Rattle.toml_subset.specs.declared.string.Key.{Key}

mutual
  pub data Raw : Type 0 where
    raw_text : WrittenString → Raw
    raw_integer : ℤ → Raw
    raw_decimal : ℤ → Raw
    raw_boolean : Bool → Raw
    raw_array : RawItems → Raw
    raw_table : RawEntries → Raw

  -- the items of an array, each with its span
  pub data RawItems : Type 0 where
    raw_none : RawItems
    raw_item : Span → Raw → RawItems → RawItems

  -- the entries of an inline table, each with the parts of its key and its value's span
  pub data RawEntries : Type 0 where
    raw_empty : RawEntries
    raw_entry : List Key → Span → Raw → RawEntries → RawEntries

-- a number of a class is at a place
pub record IsNumber (text : List ℕ) (i : ℕ) (class : Class) (span : Span) (next : ℕ) : Type 0 where
  pub begins : IsTrue (passes_at begins_run text i)
  pub ends : next ≡ run_end is_run text i
  pub is : class_of (run_at is_run text i) ≡ class
  pub spans : span ≡ from_to i next

abbrev pub word_of : Bool → List ℕ
word_of true = codes "true"
word_of false = codes "false"

-- `true` or `false` is at a place
pub record IsWord (text : List ℕ) (i : ℕ) (b : Bool) (span : Span) (next : ℕ) : Type 0 where
  pub ends : next ≡ i + length (word_of b)
  pub is : take (length (word_of b)) (drop i text) ≡ word_of b
  pub spans : span ≡ from_to i next

-- A key, `=` and what `Stands` says of the value's place and the place behind it. Blanks may be around the `=`.
abbrev pub IsPairOf : (ℕ → ℕ → Type 0) → List ℕ → ℕ → List Key → ℕ → Type 0
IsPairOf Stands text i keys next =
    (k : ℕ) × AreKeys text i keys k × IsTrue (stands text (after_blanks text k) equals)
    × Stands (after_blanks text (after_blanks text k + 1)) next

-- A value is at a place, with its span, up to a further place. Between the tokens of an array there may be line ends
-- and comments, and a comma may be behind its last item. The tokens of an inline table stand on one line, and no
-- comma is behind its last entry.
abbrev mutual
  pub IsValue : List ℕ → ℕ → Span → Raw → ℕ → Type 0
  IsValue text i span (raw_text w) next = (kind : Quoting) × IsString text i kind w span next
  IsValue text i span (raw_integer z) next = IsNumber text i (integer z) span next
  IsValue text i span (raw_decimal z) next = IsNumber text i (decimal z) span next
  IsValue text i span (raw_boolean b) next = IsWord text i b span next
  IsValue text i span (raw_array items) next =
      IsTrue (stands text i open_bracket) × AreItems text (after_space text (i + 1)) items next
      × (span ≡ from_to i next)
  IsValue text i span (raw_table entries) next =
      IsTrue (stands text i open_brace) × AreEntries text (after_blanks text (i + 1)) entries next
      × (span ≡ from_to i next)

  -- the rest of an array, from an item's place on
  pub AreItems : List ℕ → ℕ → RawItems → ℕ → Type 0
  AreItems text i raw_none next = IsTrue (stands text i close_bracket) × (next ≡ i + 1)
  AreItems text i (raw_item span value more) next =
      (k : ℕ) × IsValue text i span value k × AreItemsBehind text (after_space text k) more next

  -- the rest of an array, from behind an item on
  pub AreItemsBehind : List ℕ → ℕ → RawItems → ℕ → Type 0
  AreItemsBehind text i raw_none next =
      (IsTrue (stands text i close_bracket) × (next ≡ i + 1))
      ⊎ (IsTrue (stands text i comma) × IsTrue (stands text (after_space text (i + 1)) close_bracket)
      × (next ≡ after_space text (i + 1) + 1))
  AreItemsBehind text i (raw_item span value more) next =
      IsTrue (stands text i comma)
      × ((k : ℕ) × IsValue text (after_space text (i + 1)) span value k
      × AreItemsBehind text (after_space text k) more next)

  -- the entries of an inline table, from behind its opening on
  pub AreEntries : List ℕ → ℕ → RawEntries → ℕ → Type 0
  AreEntries text i raw_empty next = IsTrue (stands text i close_brace) × (next ≡ i + 1)
  AreEntries text i (raw_entry keys span value more) next =
      (k : ℕ) × IsPairOf (λ a b. IsValue text a span value b) text i keys k
      × AreEntriesBehind text (after_blanks text k) more next

  -- the rest of an inline table, from behind an entry on
  pub AreEntriesBehind : List ℕ → ℕ → RawEntries → ℕ → Type 0
  AreEntriesBehind text i raw_empty next = IsTrue (stands text i close_brace) × (next ≡ i + 1)
  AreEntriesBehind text i (raw_entry keys span value more) next =
      IsTrue (stands text i comma)
      × ((k : ℕ) × IsPairOf (λ a b. IsValue text a span value b) text (after_blanks text (i + 1)) keys k
      × AreEntriesBehind text (after_blanks text k) more next)

-- a key, `=` and a value, as they are in an inline table and on a line of their own
abbrev pub IsPair : List ℕ → ℕ → List Key → Span → Raw → ℕ → Type 0
IsPair text i keys span value next = IsPairOf (λ a b. IsValue text a span value b) text i keys next
