-- The first float of a value: members in byte order of their keys, items in order, depth first.
use Rattle.std.specs.Prelude.{◌≡◌, ℕ, ◌+◌, List, [], Option, Some, None, is_some, Ok, if◌then◌else◌}
use Rattle.std.specs.Option.{option_or}
use Rattle.serde_json.specs.Data.{Data, null, boolean, number, string, array, object, Items, no_items, item, Members}
use Rattle.serde_json.specs.Data.{no_members, member}
use Rattle.serde_json.specs.Find.{is_float}
use Rattle.serde_json.specs.Written.{has_float}
use Rattle.graph_metadata.specs.declared.fault.MetaReason.TheVariants.{Float}
use Rattle.graph_metadata.specs.Told.{MetadataReading, meta_fault, with_key, with_index}

-- where the first float of a value is, which itself is at a place; none without one
abbrev mutual
  pub float_in : List ℕ → Data → Option (List ℕ)
  float_in place null = None
  float_in place (boolean b) = None
  float_in place (number n) = if is_float n then Some place else None
  float_in place (string text) = None
  float_in place (array items) = float_in_items place 0 items
  float_in place (object members) = float_in_members place members

  pub float_in_items : List ℕ → ℕ → Items → Option (List ℕ)
  float_in_items place index no_items = None
  float_in_items place index (item first rest) =
      option_or (float_in (with_index place index) first) (float_in_items place (index + 1) rest)

  pub float_in_members : List ℕ → Members → Option (List ℕ)
  float_in_members place no_members = None
  float_in_members place (member key first rest) =
      option_or (float_in (with_key place key) first) (float_in_members place rest)

-- the value, unless a float is in it
abbrev pub unless_found : Data → Option (List ℕ) → MetadataReading Data
unless_found found None = Ok found
unless_found found (Some place) = meta_fault place Float

abbrev pub unless_float : Data → MetadataReading Data
unless_float found = unless_found found (float_in [] found)

-- there is a first float exactly where there is a float
abbrev pub FloatsAreFound : Type 0
FloatsAreFound = (place : List ℕ) (found : Data) → is_some (float_in place found) ≡ has_float found
