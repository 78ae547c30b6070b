-- What a walk over metadata answers: a value, or the one fault that is reported, with its place.
use Rattle.std.specs.Prelude.{◌≡◌, ℕ, ◌+◌, List, [], ◌∷◌, ◌++◌, codes, decimal, Result, Ok, Err, String, string_bytes}
use Rattle.std.specs.Global.{Global}
use Rattle.std.specs.declared.alloc.AllocError.{AllocError}
use Rattle.serde_json.specs.declared.error.Error.{Error}
use Rattle.serde_json.specs.Errors.{IsMemory}
use Rattle.serde_json.specs.Data.{Data, Items, no_items, item}
use Rattle.graph_metadata.specs.declared.fault.MetaError.{MetaError}
use Rattle.graph_metadata.specs.declared.fault.MetaError.TheVariants.{Syntax, Shape, Memory}
use Rattle.graph_metadata.specs.declared.fault.MetaFault.{MetaFault}
use Rattle.graph_metadata.specs.declared.fault.MetaReason.{MetaReason}
use Rattle.graph_metadata.specs.declared.fault.ObjectPlace.{ObjectPlace}
use Rattle.graph_metadata.specs.declared.fault.ObjectPlace.TheVariants.{Root, Package, Features, Resolve, Node, Dep}
use Rattle.graph_metadata.specs.declared.fault.ObjectPlace.TheVariants.{Kind}

abbrev pub MetadataReading : Type 0 → Type 0
MetadataReading T = Result T MetaFault

-- the next step, unless this one has a fault
infixl 10 ◌>>=◌
abbrev pub ◌>>=◌ : {A B : Type 0} → MetadataReading A → (A → MetadataReading B) → MetadataReading B
(Ok value) >>= next = next value
(Err fault) >>= next = Err fault

-- ---- lists

-- What is reported of each item of a list, from the one at this index on. The first item with a fault tells it.
unfoldable pub reading_of_each : {A T : Type 0} → (ℕ → A → MetadataReading T) → ℕ → List A → MetadataReading (List T)
reading_of_each row index [] = Ok []
reading_of_each row index (first ∷ rest) = do
  told ← row index first
  others ← reading_of_each row (index + 1) rest
  Ok (told ∷ others)

-- the items of a list of JSON
abbrev pub items_in : Items → List Data
items_in no_items = []
items_in (item first rest) = first ∷ items_in rest

abbrev pub each_item : {T : Type 0} → (ℕ → Data → MetadataReading T) → Items → MetadataReading (List T)
each_item row items = reading_of_each row 0 (items_in items)

-- ---- places

-- A place joins keys and places in lists with `/`. Nothing in a key is escaped.
abbrev pub with_key : List ℕ → List ℕ → List ℕ
with_key place key = place ++ codes "/" ++ key

abbrev pub with_index : List ℕ → ℕ → List ℕ
with_index place index = place ++ codes "/" ++ decimal index

-- where a dependency is
unfoldable pub dep_place : ℕ → ℕ → List ℕ
dep_place i j = codes "/resolve/nodes/" ++ decimal i ++ codes "/deps/" ++ decimal j

-- where each object of metadata is
abbrev pub object_place_text : ObjectPlace → List ℕ
object_place_text Root = []
object_place_text (Package i) = codes "/packages/" ++ decimal i
object_place_text (Features i) = codes "/packages/" ++ decimal i ++ codes "/features"
object_place_text Resolve = codes "/resolve"
object_place_text (Node i) = codes "/resolve/nodes/" ++ decimal i
object_place_text (Dep i j) = dep_place i j
object_place_text (Kind i j k) = dep_place i j ++ codes "/dep_kinds/" ++ decimal k

-- the fault with this reason at this place, at a key of an object, and at an item of a list at a key
abbrev pub fault_with : List ℕ → MetaReason → MetaFault
fault_with place reason = record { place = place; fault = reason }

abbrev pub meta_fault : {T : Type 0} → List ℕ → MetaReason → MetadataReading T
meta_fault place reason = Err (fault_with place reason)

abbrev pub key_place : ObjectPlace → List ℕ → List ℕ
key_place place key = with_key (object_place_text place) key

abbrev pub item_place : ObjectPlace → List ℕ → ℕ → List ℕ
item_place place key index = with_index (key_place place key) index

-- ---- what a call answers

-- an error is want of memory, or the fault that is reported
abbrev pub Fails : {T : Type 0} → MetaError → MetadataReading T → Type 0
Fails Memory told = Unit {0}
Fails (Shape fault) told = told ≡ Err fault
Fails Syntax told = ⊥

-- a result, seen by `view`, is what is reported, unless memory was refused
abbrev pub AnswersMeta : {S T : Type 0} → (S → T) → Result S MetaError → MetadataReading T → Type 0
AnswersMeta view (Ok value) told = told ≡ Ok (view value)
AnswersMeta view (Err error) told = Fails error told

-- an error is the fault with this place and reason, or want of memory
abbrev pub IsMetaFault : MetaError → List ℕ → MetaReason → Type 0
IsMetaFault Memory place reason = Unit {0}
IsMetaFault (Shape fault) place reason = fault ≡ fault_with place reason
IsMetaFault Syntax place reason = ⊥

-- the same for a place that was to be written
abbrev pub IsMetaFaultOf : MetaError → Result (String Global) AllocError → MetaReason → Type 0
IsMetaFaultOf error (Ok place) reason = IsMetaFault error (string_bytes place) reason
IsMetaFaultOf error (Err refused) reason = error ≡ Memory

-- a text that has no reading is no JSON, unless memory was refused
abbrev pub ReadFails : Error → MetaError → Type 0
ReadFails unread Memory = IsMemory unread
ReadFails unread Syntax = IsMemory unread → ⊥
ReadFails unread (Shape fault) = ⊥
