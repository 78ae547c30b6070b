-- What is recorded of crates.
use Rattle.std.specs.Prelude.{◌≡◌, ℕ, ◌^◌, ◌<◌, nat_lt, Bool, true, false, ◌&&◌, IsTrue, List, [], ◌∷◌, length, map, ⊤}
use Rattle.std.specs.List.{AllByRecursion}
use Rattle.std.specs.Ordering.{is_lt, nat_cmp}
use Rattle.std.specs.Cmp.Lexicographic.{slice_cmp}
use Rattle.std.specs.Str.{IsUtf8}
use Rattle.spdx_core.specs.declared.certificates.verdict.Hit.{Hit}
use Rattle.spdx_core.specs.declared.certificates.verdict.Hit.TheVariants.{Allowed, Exception}
use Rattle.check_record.specs.declared.items.RecordItem.{RecordItem}
use Rattle.check_record.specs.declared.items.RecordVerdict.{RecordVerdict}
use Rattle.check_record.specs.declared.items.RecordVerdict.TheVariants.{Skipped, Unlicensed, Accepted, Rejected}

-- ---- order

-- each of some items is less than the next, and the first more than the one before them
abbrev pub rise_from : {A : Type 0} → (A → A → Bool) → A → List A → Bool
rise_from less before [] = true
rise_from less before (item ∷ items) = less before item && rise_from less item items

-- there are items, and each is less than the next
abbrev pub some_rise : {A : Type 0} → (A → A → Bool) → List A → Bool
some_rise less [] = false
some_rise less (item ∷ items) = rise_from less item items

-- each is less than the next; there may be none
abbrev pub all_rise : {A : Type 0} → (A → A → Bool) → List A → Bool
all_rise less [] = true
all_rise less (item ∷ items) = rise_from less item items

-- the byte order of texts
abbrev pub is_before : List ℕ → List ℕ → Bool
is_before one other = is_lt (slice_cmp nat_cmp one other)

-- ---- numbers

-- a number of 64 bits
abbrev pub IsNumber : ℕ → Type 0
IsNumber number = number < 2 ^ 64

abbrev pub IsHit : Hit → Type 0
IsHit (Allowed entry) = IsNumber entry
IsHit (Exception exception entry) = IsNumber exception × IsNumber entry

-- places of terms: there are some, and they rise strictly
pub record ArePlaces (places : List ℕ) : Type 0 where
  pub rise : IsTrue (some_rise nat_lt places)
  pub each : AllByRecursion IsNumber places

-- ---- records

-- a choice has as many hits as places
pub record IsChosen (choice : List ℕ) (hits : List Hit) : Type 0 where
  pub places : ArePlaces choice
  pub each : AllByRecursion IsHit hits
  pub as_many : length hits ≡ length choice

abbrev pub IsRecordVerdict : RecordVerdict → Type 0
IsRecordVerdict Skipped = ⊤
IsRecordVerdict Unlicensed = ⊤
IsRecordVerdict (Accepted choice hits) = IsChosen choice hits
IsRecordVerdict (Rejected blocks) = ArePlaces blocks

-- an id is a text, of so many bytes as a number counts
pub record IsRecordItem (item : RecordItem) : Type 0 where
  pub text : IsUtf8 item.id
  pub counted : IsNumber (length item.id)
  pub verdict : IsRecordVerdict item.verdict

abbrev pub ids_of : List RecordItem → List (List ℕ)
ids_of items = map (λ item. item.id) items

-- the ids rise strictly in byte order, so that none is there twice
pub record IsRecord (items : List RecordItem) : Type 0 where
  pub ids_rise : IsTrue (all_rise is_before (ids_of items))
  pub each : AllByRecursion IsRecordItem items
