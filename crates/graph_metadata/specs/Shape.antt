-- The table of shapes, by its parts: strings, lists of strings, and ids. Keys that no row names are passed over.
use Rattle.std.specs.Prelude.{ℕ, ◌+◌, ◌==◌, List, codes, Option, Some, None, Ok, if◌then◌else◌}
use Rattle.std.specs.FinMap as finmap
use Rattle.deny_text.specs.TextMap.{TextMapTo}
use Rattle.serde_json.specs.Data.{Data, null, string, array, object, Items, no_items, item}
use Rattle.serde_json.specs.Find.{get}
use Rattle.graph_metadata.specs.declared.fault.MetaReason.TheVariants.{Missing, WrongKind, UnknownId, RepeatedId}
use Rattle.graph_metadata.specs.declared.fault.ObjectPlace.{ObjectPlace}
use Rattle.graph_metadata.specs.Told.{MetadataReading, ◌>>=◌, meta_fault, each_item, key_place, item_place}

-- ---- one value

-- an object
abbrev pub object_here : List ℕ → Data → MetadataReading Data
object_here place (object members) = Ok (object members)
object_here place _ = meta_fault place WrongKind

-- a string that has to be there
abbrev pub text_from : List ℕ → Option Data → MetadataReading (List ℕ)
text_from place None = meta_fault place Missing
text_from place (Some (string text)) = Ok text
text_from place (Some _) = meta_fault place WrongKind

abbrev pub text_at : ObjectPlace → List ℕ → Data → MetadataReading (List ℕ)
text_at place key found = text_from (key_place place key) (get key found)

-- a string, or null; where nothing is it counts as null
abbrev pub optional_text_from : List ℕ → Option Data → MetadataReading (Option (List ℕ))
optional_text_from place None = Ok None
optional_text_from place (Some null) = Ok None
optional_text_from place (Some (string text)) = Ok (Some text)
optional_text_from place (Some _) = meta_fault place WrongKind

abbrev pub optional_text_at : ObjectPlace → List ℕ → Data → MetadataReading (Option (List ℕ))
optional_text_at place key found = optional_text_from (key_place place key) (get key found)

-- a list that has to be there
abbrev pub list_from : List ℕ → Option Data → MetadataReading Items
list_from place None = meta_fault place Missing
list_from place (Some (array items)) = Ok items
list_from place (Some _) = meta_fault place WrongKind

abbrev pub list_at : ObjectPlace → List ℕ → Data → MetadataReading Items
list_at place key found = list_from (key_place place key) (get key found)

-- a list; where nothing is it is empty
abbrev pub list_or_empty_from : List ℕ → Option Data → MetadataReading Items
list_or_empty_from place None = Ok no_items
list_or_empty_from place (Some (array items)) = Ok items
list_or_empty_from place (Some _) = meta_fault place WrongKind

abbrev pub list_or_empty_at : ObjectPlace → List ℕ → Data → MetadataReading Items
list_or_empty_at place key found = list_or_empty_from (key_place place key) (get key found)

-- ---- lists of strings

-- an item that has to be a string
abbrev pub text_here : List ℕ → Data → MetadataReading (List ℕ)
text_here place (string text) = Ok text
text_here place _ = meta_fault place WrongKind

-- the items, each a string
abbrev pub texts_in : ObjectPlace → List ℕ → Items → MetadataReading (List (List ℕ))
texts_in place key items = each_item (λ index found. text_here (item_place place key index) found) items

-- a list of strings that may be missing; one that may be null
unfoldable pub texts_or_empty_at : ObjectPlace → List ℕ → Data → MetadataReading (List (List ℕ))
texts_or_empty_at place key found = do
  items ← list_or_empty_at place key found
  texts_in place key items

abbrev pub optional_list_from : List ℕ → Option Data → MetadataReading (Option Items)
optional_list_from place None = Ok None
optional_list_from place (Some null) = Ok None
optional_list_from place (Some (array items)) = Ok (Some items)
optional_list_from place (Some _) = meta_fault place WrongKind

abbrev pub optional_list_at : ObjectPlace → List ℕ → Data → MetadataReading (Option Items)
optional_list_at place key found = optional_list_from (key_place place key) (get key found)

abbrev pub texts_of_optional : ObjectPlace → List ℕ → Option Items → MetadataReading (Option (List (List ℕ)))
texts_of_optional place key None = Ok None
texts_of_optional place key (Some items) = do
  texts ← texts_in place key items
  Ok (Some texts)

unfoldable pub optional_texts_at : ObjectPlace → List ℕ → Data → MetadataReading (Option (List (List ℕ)))
optional_texts_at place key found = do
  items ← optional_list_at place key found
  texts_of_optional place key items

-- ---- ids

-- the string `id` of an object; none for anything else
abbrev pub id_from : Option Data → Option (List ℕ)
id_from (Some (string text)) = Some text
id_from _ = None

abbrev pub id_of_item : Data → Option (List ℕ)
id_of_item found = id_from (get (codes "id") found)

-- from each id to the place of the first item of a list that has it, also of one with a fault
abbrev pub IdPlaces : Type 0
IdPlaces = TextMapTo ℕ

abbrev pub with_place : IdPlaces → ℕ → Option (List ℕ) → IdPlaces
with_place known index None = known
with_place known index (Some id) = if finmap.contains_key known id then known else finmap.insert known id index

-- the ids known with those of the items from the one at this index on
unfoldable pub known_in : IdPlaces → ℕ → Items → IdPlaces
known_in known index no_items = known
known_in known index (item first rest) = known_in (with_place known index (id_of_item first)) (index + 1) rest

abbrev pub known_of : Items → IdPlaces
known_of items = known_in finmap.empty 0 items

-- the place of the package with an id, where it is known
abbrev pub known_from : List ℕ → Option ℕ → MetadataReading ℕ
known_from place (Some found) = Ok found
known_from place None = meta_fault place UnknownId

abbrev pub known_place : IdPlaces → List ℕ → List ℕ → MetadataReading ℕ
known_place known place id = known_from place (finmap.get known id)

-- the id, of which the first that has it is the one at this index
abbrev pub new_from : ℕ → List ℕ → List ℕ → Option ℕ → MetadataReading (List ℕ)
new_from index place id (Some first) = if first == index then Ok id else meta_fault place RepeatedId
new_from index place id None = meta_fault place RepeatedId
