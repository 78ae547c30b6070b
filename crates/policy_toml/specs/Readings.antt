-- What the types of the crate make of a value.
use Rattle.std.specs.Prelude.{ℕ, ◌^◌, ◌*ℤ◌, ℤ, pos, negsuc, Bool, nat_lt, if◌then◌else◌, List, [], ◌∷◌, Option, Some}
use Rattle.std.specs.Prelude.{None, Ok, Err, codes, map}
use Rattle.std.specs.Int.{w64, saturate_signed}
use Rattle.std.specs.List.{filter_map, flat_map}
use Rattle.std.specs.Result.{result_ok}
use Rattle.std.specs.Str.{bytes_eq}
use denote.Ref.{Bor}
use Rattle.deny_text.specs.declared.span.Span.{Span}
use Rattle.deny_text.specs.declared.span.Spanned.{Spanned}
use Rattle.toml_subset.specs.Data.{TomlContent, Toml, integer, decimal, boolean}
use Rattle.toml_subset.specs.shapes.Kinds.{kind_word}
use Rattle.toml_subset.specs.shapes.Shaped.{ShapeReading, shaped_map, shaped_then, faults_in, shaped_of}
use Rattle.toml_subset.specs.shapes.Shapes.{fault_alone, out_of_range, unexpected_value}
use Rattle.toml_subset.specs.declared.shapes.shape.ValueKind.TheVariants as kind
use Rattle.toml_value.specs.Taken.{as_array, or_wanted, string_of, values_of}
use Rattle.policy_toml.specs.declared.hundredths.Hundredths.{Hundredths}

-- what a value holds, where it is of the kind

abbrev pub as_boolean : TomlContent → Option Bool
as_boolean (boolean b) = Some b
as_boolean _ = None

abbrev pub as_integer : TomlContent → Option ℤ
as_integer (integer z) = Some z
as_integer _ = None

-- whole hundredths: an integer counts a hundred times, cut to 64 bits
abbrev pub as_hundredths : TomlContent → Option ℤ
as_hundredths (integer z) = Some (saturate_signed w64 (z *ℤ pos 100))
as_hundredths (decimal z) = Some z
as_hundredths _ = None

-- what the type holds of a number, or else that the number leaves its range
abbrev pub or_out_of_range : {A : Type 0} → List ℕ → Span → Option A → ShapeReading A
or_out_of_range type span (Some x) = Ok x
or_out_of_range type span None = Err (fault_alone (out_of_range type) span)

-- from -2^31 to 2^31 - 1
abbrev pub in_32_bits_with_sign : ℤ → Option ℤ
in_32_bits_with_sign (pos n) = if nat_lt n (2 ^ 31) then Some (pos n) else None
in_32_bits_with_sign (negsuc n) = if nat_lt n (2 ^ 31) then Some (negsuc n) else None

-- from 0 to 2^32 - 1
abbrev pub in_32_bits : ℤ → Option ℕ
in_32_bits (pos n) = if nat_lt n (2 ^ 32) then Some n else None
in_32_bits (negsuc n) = None

abbrev pub text_of : Toml → ShapeReading (List ℕ)
text_of value = shaped_map (λ w. w.text) (string_of (kind_word kind.String) value)

abbrev pub boolean_of : Toml → ShapeReading Bool
boolean_of value = or_wanted (kind_word kind.Boolean) value (as_boolean value.content)

abbrev pub i64_of : Toml → ShapeReading ℤ
i64_of value = or_wanted (kind_word kind.Integer) value (as_integer value.content)

abbrev pub i32_of : Toml → ShapeReading ℤ
i32_of value = shaped_then (λ z. or_out_of_range (codes "i32") value.span (in_32_bits_with_sign z)) (i64_of value)

abbrev pub u32_of : Toml → ShapeReading ℕ
u32_of value = shaped_then (λ z. or_out_of_range (codes "u32") value.span (in_32_bits z)) (i64_of value)

abbrev pub hundredths_of : Toml → ShapeReading Hundredths
hundredths_of value =
    shaped_map (λ z. record { 0 = z }) (or_wanted (kind_word kind.Decimal) value (as_hundredths value.content))

-- what is read, with the place of its value
abbrev pub spanned_of : {A : Type 0} → (Toml → ShapeReading A) → Toml → ShapeReading (Spanned A)
spanned_of reads value = shaped_map (λ x. record { value = x; span = value.span }) (reads value)

abbrev pub array_of : Toml → ShapeReading (List Toml)
array_of value = shaped_map values_of (or_wanted (kind_word kind.Array) value (as_array value.content))

-- all items, or all faults of items in the order of their places
abbrev pub each_of : {A : Type 0} → (Toml → ShapeReading A) → List Toml → ShapeReading (List A)
each_of reads values =
    shaped_of (flat_map (λ value. faults_in (reads value)) values)
    (filter_map (λ value. result_ok (reads value)) values)

abbrev pub list_of : {A : Type 0} → (Toml → ShapeReading A) → Toml → ShapeReading (List A)
list_of reads value = shaped_then (each_of reads) (array_of value)

-- the rows of a table of names, each name as its text
abbrev pub rows_of : {A : Type 0} → List (Bor (List ℕ) × A) → List (List ℕ × A)
rows_of rows = map (λ row. (row.0.now, row.1)) rows

-- the thing of a name, by a table of names
abbrev pub thing_of_name : {A : Type 0} → List (List ℕ × A) → List ℕ → Option A
thing_of_name [] name = None
thing_of_name (row ∷ rows) name = if bytes_eq row.0 name then Some row.1 else thing_of_name rows name

abbrev pub or_unexpected : {A : Type 0} → List (List ℕ) → Span → Option A → ShapeReading A
or_unexpected names span (Some x) = Ok x
or_unexpected names span None = Err (fault_alone (unexpected_value names) span)

-- one of a table of names, where a thing of the type is wanted
abbrev pub name_of : {A : Type 0} → List ℕ → List (List ℕ × A) → Toml → ShapeReading A
name_of expected rows value =
    shaped_then (λ w. or_unexpected (map (λ row. row.0) rows) value.span (thing_of_name rows w.text))
    (string_of expected value)
