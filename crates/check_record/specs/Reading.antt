-- Reading a file from left to right: a value and what is behind it, or nothing. Only the contracts of private calls
-- cite it.
use Rattle.std.specs.Prelude.{◌≡◌, ℕ, zero, suc, ◌+◌, ◌-◌, ◌*◌, ◌^◌, ◌==◌, nat_lt, nat_eq, Bool, true, false, ◌&&◌}
use Rattle.std.specs.Prelude.{List, [], ◌∷◌, ◌++◌, length, take, drop, codes, Option, Some, None, Result, Ok, Err}
use Rattle.std.specs.Prelude.{if◌then◌else◌}
use Rattle.std.specs.Char.{is_ascii_digit}
use Rattle.std.specs.List.{starts_with}
use Rattle.std.specs.Str.{is_utf8}
use Rattle.spdx_core.specs.declared.certificates.verdict.Hit.{Hit}
use Rattle.spdx_core.specs.declared.certificates.verdict.Hit.TheVariants.{Allowed, Exception}
use Rattle.check_record.specs.declared.decode_parts.ChoiceAndHits.{ChoiceAndHits}
use Rattle.check_record.specs.declared.decode_parts.PlaceHit.{PlaceHit}
use Rattle.check_record.specs.declared.error.RecordError.{RecordError}
use Rattle.check_record.specs.declared.error.RecordError.TheVariants.{Syntax, Memory}
use Rattle.check_record.specs.declared.items.RecordItem.{RecordItem}
use Rattle.check_record.specs.declared.items.RecordVerdict.{RecordVerdict}
use Rattle.check_record.specs.declared.items.RecordVerdict.TheVariants.{Skipped, Unlicensed, Accepted, Rejected}
use Rattle.check_record.specs.Items.{all_rise, ids_of, is_before, some_rise}

-- a value and the bytes behind it
abbrev pub Read : Type 0 → Type 0
Read A = Option (A × List ℕ)

-- the next step, unless this one read nothing
infixl 10 ◌>>=◌
abbrev pub ◌>>=◌ : {A B : Type 0} → Option A → (A → Option B) → Option B
(Some value) >>= next = next value
None >>= next = None

-- a function answered what is read, seen by a view; want of memory is free
abbrev pub Misses : {A : Type 0} → RecordError → Option A → Type 0
Misses Syntax read = read ≡ None
Misses Memory read = Unit {0}

abbrev pub Reads : {A B : Type 0} → (A → B) → Result A RecordError → Option B → Type 0
Reads view (Ok value) read = read ≡ Some (view value)
Reads view (Err error) read = Misses error read

-- ---- bytes

abbrev pub begins : ℕ → List ℕ → Bool
begins byte [] = false
begins byte (first ∷ bytes) = first == byte

-- what is behind a byte
abbrev pub rest_behind : ℕ → List ℕ → Option (List ℕ)
rest_behind byte bytes = if begins byte bytes then Some (drop 1 bytes) else None

-- ---- numbers

abbrev pub begins_digit : List ℕ → Bool
begins_digit [] = false
begins_digit (first ∷ bytes) = is_ascii_digit first

-- a further digit behind a number, where it stays below 2 ^ 64
abbrev pub with_digit : ℕ → ℕ → Option ℕ
with_digit number byte = if nat_lt (number * 10 + (byte - 48)) (2 ^ 64) then Some (number * 10 + (byte - 48)) else None

-- the digits at the front, behind those of a number
unfoldable pub digits_on : ℕ → List ℕ → Read ℕ
digits_on number [] = Some (number, [])
digits_on number (byte ∷ bytes) =
    if is_ascii_digit byte then (with_digit number byte >>= λ next. digits_on next bytes)
    else Some (number, byte ∷ bytes)

-- behind a leading zero the number has ended
unfoldable pub number_at : List ℕ → Read ℕ
number_at bytes =
    if begins 48 bytes then Some (0, drop 1 bytes) else (if begins_digit bytes then digits_on 0 bytes else None)

-- ---- certificates

unfoldable pub allowed_at : List ℕ → Read Hit
allowed_at bytes = do
  entry ← number_at bytes
  Some (Allowed entry.0, entry.1)

unfoldable pub exception_at : List ℕ → Read Hit
exception_at bytes = do
  exception ← number_at bytes
  rest ← rest_behind 46 exception.1
  entry ← number_at rest
  Some (Exception exception.0 entry.0, entry.1)

unfoldable pub hit_at : List ℕ → Read Hit
hit_at bytes = if begins 108 bytes then allowed_at (drop 1 bytes) else (rest_behind 101 bytes >>= exception_at)

unfoldable pub place_hit_at : List ℕ → Read PlaceHit
place_hit_at bytes = do
  place ← number_at bytes
  rest ← rest_behind 61 place.1
  hit ← hit_at rest
  Some (record { place = place.0; hit = hit.0 }, hit.1)

-- at most so many places with their hits, each behind a space, behind those so far
unfoldable pub chosen_on : ℕ → List ℕ → List Hit → List ℕ → Read ChoiceAndHits
chosen_on zero choice hits bytes = Some (record { choice = choice; hits = hits }, bytes)
chosen_on (suc most) choice hits bytes =
    if begins 32 bytes
    then (place_hit_at (drop 1 bytes)
    >>= λ next. chosen_on most (choice ++ next.0.place ∷ []) (hits ++ next.0.hit ∷ []) next.1)
    else Some (record { choice = choice; hits = hits }, bytes)

-- the same of places alone
unfoldable pub places_on : ℕ → List ℕ → List ℕ → Read (List ℕ)
places_on zero places bytes = Some (places, bytes)
places_on (suc most) places bytes =
    if begins 32 bytes
    then (number_at (drop 1 bytes) >>= λ next. places_on most (places ++ next.0 ∷ []) next.1)
    else Some (places, bytes)

-- ---- lines

unfoldable pub accepted_at : List ℕ → Read RecordVerdict
accepted_at bytes = do
  chosen ← chosen_on (length bytes) [] [] bytes
  if some_rise nat_lt chosen.0.choice then Some (Accepted chosen.0.choice chosen.0.hits, chosen.1) else None

unfoldable pub rejected_at : List ℕ → Read RecordVerdict
rejected_at bytes = do
  blocks ← places_on (length bytes) [] bytes
  if some_rise nat_lt blocks.0 then Some (Rejected blocks.0, blocks.1) else None

-- a verdict by its letter
unfoldable pub lettered_at : List ℕ → Read RecordVerdict
lettered_at bytes =
    if begins 115 bytes then Some (Skipped, drop 1 bytes)
    else (if begins 117 bytes then Some (Unlicensed, drop 1 bytes)
    else (if begins 97 bytes then accepted_at (drop 1 bytes)
    else (rest_behind 114 bytes >>= rejected_at)))

-- so many bytes, where they are a text
unfoldable pub text_of : ℕ → List ℕ → Read (List ℕ)
text_of count bytes =
    if nat_lt (length bytes) count then None
    else (if is_utf8 (take count bytes) then Some (take count bytes, drop count bytes) else None)

unfoldable pub id_at : List ℕ → Read (List ℕ)
id_at bytes = do
  count ← number_at bytes
  rest ← rest_behind 58 count.1
  text_of count.0 rest

unfoldable pub item_at : List ℕ → Read RecordItem
item_at bytes = do
  mark ← rest_behind 99 bytes
  space ← rest_behind 32 mark
  id ← id_at space
  letter ← rest_behind 32 id.1
  verdict ← lettered_at letter
  rest ← rest_behind 10 verdict.1
  Some (record { id = id.0; verdict = verdict.0 }, rest)

-- at most so many lines behind those so far
unfoldable pub items_on : ℕ → List RecordItem → List ℕ → Read (List RecordItem)
items_on zero items bytes = Some (items, bytes)
items_on (suc most) items bytes =
    if begins 99 bytes
    then (item_at bytes >>= λ next. items_on most (items ++ next.0 ∷ []) next.1)
    else Some (items, bytes)

-- ---- files

-- what is behind a text
unfoldable pub behind_text : List ℕ → List ℕ → Option (List ℕ)
behind_text text bytes = if starts_with nat_eq bytes text then Some (drop (length text) bytes) else None

unfoldable pub record_at : List ℕ → Read (List RecordItem)
record_at bytes = do
  rest ← behind_text (codes "deny-record 1\n") bytes
  items ← items_on (length rest) [] rest
  last ← behind_text (codes "end\n") items.1
  if all_rise is_before (ids_of items.0) then Some (items.0, last) else None

-- all of the bytes
unfoldable pub whole_at : List ℕ → Option (List RecordItem)
whole_at bytes = do
  items ← record_at bytes
  if length items.1 == 0 then Some items.0 else None
