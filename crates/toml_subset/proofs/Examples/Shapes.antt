-- Values without their places, to compare with what other readers of TOML answer.
use Rattle.std.proofs.Common.{◌≡◌, ℕ, Bool, true, false, List, ℤ, Option, Some, None, Ok, Err, true≢false, refl, sym}
use Rattle.toml_subset.specs.Data as «data»
use Rattle.toml_subset.specs.Data.{TomlContent, Items, Entries, Toml}
use Rattle.toml_subset.specs.Text.{IsText}
use Rattle.toml_subset.specs.Answer.{TomlReading, fault_at}
use Rattle.toml_subset.specs.Reading.{read_text}
use Rattle.toml_subset.specs.declared.error.SyntaxError.{SyntaxError}
use Rattle.toml_subset.specs.declared.error.SyntaxReason.{SyntaxReason}
use Rattle.toml_subset.proofs.Law.Whole.{text_sound, text_complete}

mutual
  pub data Shape : Type 0 where
    text : List ℕ → Shape
    integer : ℤ → Shape
    hundredths : ℤ → Shape
    boolean : Bool → Shape
    array : Row → Shape
    table : Fields → Shape

  pub data Row : Type 0 where
    end : Row
    cons : Shape → Row → Row

  pub data Fields : Type 0 where
    empty : Fields
    field : List ℕ → Shape → Fields → Fields

abbrev mutual
  pub shape_of : TomlContent → Shape
  shape_of (data.string w) = text w.text
  shape_of (data.integer z) = integer z
  shape_of (data.decimal z) = hundredths z
  shape_of (data.boolean b) = boolean b
  shape_of (data.array items) = array (row_of items)
  shape_of (data.table entries) = table (fields_of entries)

  pub row_of : Items → Row
  row_of data.no_item = end
  row_of (data.item span content more) = cons (shape_of content) (row_of more)

  pub fields_of : Entries → Fields
  fields_of data.no_entry = empty
  fields_of (data.entry key span content more) = field key.name.text (shape_of content) (fields_of more)

abbrev pub shape_read : List ℕ → Option Shape
shape_read s = elim (read_text s) [ Ok value ↦ Some (shape_of value.content) | Err fault ↦ None ]

-- a text lies in the subset and stands for a value of a shape
abbrev pub LiesInside : List ℕ → Shape → Type 0
LiesInside s shape = (value : Toml) × IsText s value × (shape_of value.content ≡ shape)

shape_from : (s : List ℕ) (r : TomlReading Toml) → read_text s ≡ r → (shape : Shape)
    → ◌≡◌ {A = Option Shape} (elim r [ Ok value ↦ Some (shape_of value.content) | Err fault ↦ None ]) (Some shape) → LiesInside s shape
shape_from s (Ok value) is shape e = (value, text_sound s value is, cc)
shape_from s (Err fault) is shape e = absurd (cc)

pub inside : (s : List ℕ) (shape : Shape) → shape_read s ≡ Some shape → LiesInside s shape
inside s shape e = shape_from s (read_text s) refl shape e

-- a text stands for no value
abbrev pub LiesOutside : List ℕ → Type 0
LiesOutside s = (value : Toml) → IsText s value → ⊥

-- a text has a first fault
abbrev pub HasFault : List ℕ → SyntaxReason → ℕ → ℕ → Type 0
HasFault s reason i j = read_text s ≡ Err (fault_at reason i j)

-- a fault shows that it stands for no value
pub lies_outside : (s : List ℕ) (fault : SyntaxError) → read_text s ≡ Err fault → LiesOutside s
lies_outside s fault e value is = let read = text_complete s value is in cc

abbrev is_read : TomlReading Toml → Bool
is_read (Ok value) = true
is_read (Err fault) = false

read_from : (s : List ℕ) (r : TomlReading Toml) → read_text s ≡ r → is_read r ≡ true → (value : Toml) × IsText s value
read_from s (Ok value) is e = (value, text_sound s value is)
read_from s (Err fault) is e = absurd (true≢false (sym e))

-- a text stands for some value
pub read_inside : (s : List ℕ) → is_read (read_text s) ≡ true → (value : Toml) × IsText s value
read_inside s e = read_from s (read_text s) refl e
