-- One turn of each loop, and its end.
use Rattle.std.proofs.Common.{◌≡◌, ◌∙◌, refl, sym, ap, ℕ, zero, suc, ◌+◌, ◌-◌, ◌*◌, ◌^◌, ◌<◌, ◌≤◌, Bool, true, false, true≢false, ltb, lt-ltb, le-ltb, ltb-true, ltb-false, List, [], ◌∷◌, ◌++◌, length, length-append, get_or, drop, Option, Some, None, decimal, IsUtf8, arith}
use Rattle.std.specs.Str.{is_utf8}
use Rattle.std.proofs.lemmas.Str.{IsUtf8-from_is_utf8, is_utf8-from_IsUtf8}
use Rattle.spdx_core.specs.declared.certificates.verdict.Hit.{Hit}
use Rattle.check_record.specs.declared.decode_parts.ChoiceAndHits.{ChoiceAndHits}
use Rattle.check_record.specs.declared.decode_parts.PlaceHit.{PlaceHit}
use Rattle.check_record.specs.declared.error.RecordError.{RecordError}
use Rattle.check_record.specs.declared.error.RecordError.TheVariants.{Syntax, Memory}
use Rattle.check_record.specs.declared.items.RecordItem.{RecordItem}
use Rattle.check_record.specs.Reading.{◌>>=◌, Misses, Read, begins, begins_digit, chosen_on, digits_on, item_at, items_on, number_at, place_hit_at, places_on}
use Rattle.check_record.specs.Spelling.{chosen_text}
use Rattle.check_record.proofs.Hits.{place_hit_shortens}
use Rattle.check_record.proofs.Lines.{item_shortens}
use Rattle.check_record.proofs.Numbers.{number_takes}

-- ---- digits

pub digits_more : (number next : ℕ) (bytes : List ℕ) → begins_digit bytes ≡ true
    → (number * 10 + (get_or bytes 0 0 - 48) < 2 ^ 64) × (next ≡ number * 10 + (get_or bytes 0 0 - 48)) → digits_on next (drop 1 bytes) ≡ digits_on number bytes
unfolding digits_on
digits_more number next [] digit fits = absurd (true≢false (sym digit))
digits_more number next (byte ∷ bytes) digit fits = rw (digit, fits.1, lt-ltb (number * 10 + (byte - 48)) (2 ^ 64) fits.0) refl

above_by : (value : ℕ) (b : Bool) → ltb value (2 ^ 64) ≡ b → (value < 2 ^ 64 → ⊥) → 2 ^ 64 ≤ value
above_by value true is past = absurd (past (ltb-true value (2 ^ 64) is))
above_by value false is past = ltb-false value (2 ^ 64) is

above : (value : ℕ) → (value < 2 ^ 64 → ⊥) → 2 ^ 64 ≤ value
above value past = above_by value (ltb value (2 ^ 64)) refl past

pub digits_stop : (number : ℕ) (bytes : List ℕ) → begins_digit bytes ≡ true → (number * 10 + (get_or bytes 0 0 - 48) < 2 ^ 64 → ⊥) → digits_on number bytes ≡ None
unfolding digits_on
digits_stop number [] digit past = absurd (true≢false (sym digit))
digits_stop number (byte ∷ bytes) digit past = rw (digit, le-ltb (number * 10 + (byte - 48)) (2 ^ 64) (above (number * 10 + (byte - 48)) past)) refl

pub digits_end : (number : ℕ) (bytes : List ℕ) → begins_digit bytes ≡ false → digits_on number bytes ≡ Some (number, bytes)
unfolding digits_on
digits_end number [] other = refl
digits_end number (byte ∷ bytes) other = rw other refl

-- ---- a choice

abbrev chosen : List ℕ → List Hit → ChoiceAndHits
chosen choice hits = record { choice = choice; hits = hits }

chosen_end : (most : ℕ) (choice : List ℕ) (hits : List Hit) (bytes : List ℕ) → begins 32 bytes ≡ false → chosen_on most choice hits bytes ≡ Some (chosen choice hits, bytes)
unfolding chosen_on
chosen_end zero choice hits bytes other = refl
chosen_end (suc most) choice hits bytes other = rw other refl

chosen_step : (most : ℕ) (choice : List ℕ) (hits : List Hit) (bytes : List ℕ) (found : PlaceHit) (after : List ℕ) → begins 32 bytes ≡ true → place_hit_at (drop 1 bytes) ≡ Some (found, after)
    → chosen_on (suc most) choice hits bytes ≡ chosen_on most (choice ++ found.place ∷ []) (hits ++ found.hit ∷ []) after
unfolding chosen_on
chosen_step most choice hits bytes found after first e = rw (first, e) refl

chosen_missing : (most : ℕ) (choice : List ℕ) (hits : List Hit) (bytes : List ℕ) → begins 32 bytes ≡ true → place_hit_at (drop 1 bytes) ≡ None → length bytes ≤ most
    → chosen_on most choice hits bytes ≡ None
unfolding chosen_on
chosen_missing most choice hits [] first e enough = absurd (true≢false (sym first))
chosen_missing zero choice hits (byte ∷ bytes) first e enough = absurd (omega arith)
chosen_missing (suc most) choice hits (byte ∷ bytes) first e enough = rw (first, e) refl

-- a step behind a first byte has less than all bytes
shorter : (byte : ℕ) (bytes after : List ℕ) → begins byte bytes ≡ true → length after ≤ length (drop 1 bytes) → length after < length bytes
shorter byte [] after first short = absurd (true≢false (sym first))
shorter byte (one ∷ bytes) after first short = omega arith

pub place_hit_smaller : (bytes : List ℕ) (found : PlaceHit) (after : List ℕ) → begins 32 bytes ≡ true → place_hit_at (drop 1 bytes) ≡ Some (found, after) → length after < length bytes
place_hit_smaller bytes found after first e = shorter 32 bytes after first (place_hit_shortens (drop 1 bytes) found after e)

-- what is read does not depend on the count, where that is not less than the bytes
chosen_same : (m n : ℕ) (choice : List ℕ) (hits : List Hit) (bytes : List ℕ) (b : Bool) (read : Read PlaceHit) → begins 32 bytes ≡ b → place_hit_at (drop 1 bytes) ≡ read
    → length bytes ≤ m → length bytes ≤ n → chosen_on m choice hits bytes ≡ chosen_on n choice hits bytes
chosen_same m n choice hits bytes false read first e low high = chosen_end m choice hits bytes first ∙ sym (chosen_end n choice hits bytes first)
chosen_same m n choice hits bytes true None first e low high = chosen_missing m choice hits bytes first e low ∙ sym (chosen_missing n choice hits bytes first e high)
chosen_same zero n choice hits bytes true (Some next) first e low high = let less = place_hit_smaller bytes next.0 next.1 first e in absurd (omega arith)
chosen_same (suc m) zero choice hits bytes true (Some next) first e low high = let less = place_hit_smaller bytes next.0 next.1 first e in absurd (omega arith)
chosen_same (suc m) (suc n) choice hits bytes true (Some next) first e low high =
    let less = place_hit_smaller bytes next.0 next.1 first e in
    chosen_step m choice hits bytes next.0 next.1 first e
    ∙ chosen_same m n (choice ++ next.0.place ∷ []) (hits ++ next.0.hit ∷ []) next.1 (begins 32 next.1) (place_hit_at (drop 1 next.1)) refl refl (omega arith) (omega arith)
    ∙ sym (chosen_step n choice hits bytes next.0 next.1 first e)

pub chosen_more : (choice : List ℕ) (hits : List Hit) (bytes : List ℕ) (found : PlaceHit) (after : List ℕ) → begins 32 bytes ≡ true → place_hit_at (drop 1 bytes) ≡ Some (found, after)
    → chosen_on (length after) (choice ++ found.place ∷ []) (hits ++ found.hit ∷ []) after ≡ chosen_on (length bytes) choice hits bytes
chosen_more choice hits [] found after first e = absurd (true≢false (sym first))
chosen_more choice hits (byte ∷ bytes) found after first e =
    let less = place_hit_smaller (byte ∷ bytes) found after first e in
    chosen_same (length after) (length bytes) (choice ++ found.place ∷ []) (hits ++ found.hit ∷ []) after (begins 32 after) (place_hit_at (drop 1 after)) refl refl (omega arith) (omega arith)
    ∙ sym (chosen_step (length bytes) choice hits (byte ∷ bytes) found after first e)

pub chosen_last : (choice : List ℕ) (hits : List Hit) (bytes : List ℕ) → begins 32 bytes ≡ false → chosen_on (length bytes) choice hits bytes ≡ Some (chosen choice hits, bytes)
chosen_last choice hits bytes other = chosen_end (length bytes) choice hits bytes other

-- what fails at a step fails all
pub chosen_fails : (error : RecordError) (choice : List ℕ) (hits : List Hit) (bytes : List ℕ) (all : Read ChoiceAndHits) → begins 32 bytes ≡ true → Misses error (place_hit_at (drop 1 bytes))
    → chosen_on (length bytes) choice hits bytes ≡ all → Misses error all
chosen_fails Syntax choice hits bytes all first e same = sym same ∙ chosen_missing (length bytes) choice hits bytes first e (omega arith)
chosen_fails Memory choice hits bytes all first e same = tt

-- no place or no hit is left to write
pub no_places_left : (places : List ℕ) (hits : List Hit) → length places ≡ 0 → chosen_text places hits ≡ []
no_places_left [] hits none = refl
no_places_left (place ∷ places) hits none = absurd (omega arith)

pub no_hits_left : (places : List ℕ) (hits : List Hit) → length hits ≡ 0 → chosen_text places hits ≡ []
no_hits_left [] [] none = refl
no_hits_left (place ∷ places) [] none = refl
no_hits_left places (hit ∷ hits) none = absurd (omega arith)

-- ---- places

number_shortens : (bytes : List ℕ) (n : ℕ) (rest : List ℕ) → number_at bytes ≡ Some (n, rest) → length rest ≤ length bytes
number_shortens bytes n rest e =
    let t = number_takes bytes n rest e in
    let lengths = ap (λ (r : List ℕ). length r) t.parts in
    let more = length-append (decimal n) rest in
    omega arith

places_end : (most : ℕ) (places bytes : List ℕ) → begins 32 bytes ≡ false → places_on most places bytes ≡ Some (places, bytes)
unfolding places_on
places_end zero places bytes other = refl
places_end (suc most) places bytes other = rw other refl

places_step : (most : ℕ) (places bytes : List ℕ) (place : ℕ) (after : List ℕ) → begins 32 bytes ≡ true → number_at (drop 1 bytes) ≡ Some (place, after)
    → places_on (suc most) places bytes ≡ places_on most (places ++ place ∷ []) after
unfolding places_on
places_step most places bytes place after first e = rw (first, e) refl

places_missing : (most : ℕ) (places bytes : List ℕ) → begins 32 bytes ≡ true → number_at (drop 1 bytes) ≡ None → length bytes ≤ most → places_on most places bytes ≡ None
unfolding places_on
places_missing most places [] first e enough = absurd (true≢false (sym first))
places_missing zero places (byte ∷ bytes) first e enough = absurd (omega arith)
places_missing (suc most) places (byte ∷ bytes) first e enough = rw (first, e) refl

pub number_smaller : (bytes : List ℕ) (n : ℕ) (after : List ℕ) → begins 32 bytes ≡ true → number_at (drop 1 bytes) ≡ Some (n, after) → length after < length bytes
number_smaller bytes n after first e = shorter 32 bytes after first (number_shortens (drop 1 bytes) n after e)

places_same : (m n : ℕ) (places bytes : List ℕ) (b : Bool) (read : Read ℕ) → begins 32 bytes ≡ b → number_at (drop 1 bytes) ≡ read → length bytes ≤ m → length bytes ≤ n
    → places_on m places bytes ≡ places_on n places bytes
places_same m n places bytes false read first e low high = places_end m places bytes first ∙ sym (places_end n places bytes first)
places_same m n places bytes true None first e low high = places_missing m places bytes first e low ∙ sym (places_missing n places bytes first e high)
places_same zero n places bytes true (Some next) first e low high = let less = number_smaller bytes next.0 next.1 first e in absurd (omega arith)
places_same (suc m) zero places bytes true (Some next) first e low high = let less = number_smaller bytes next.0 next.1 first e in absurd (omega arith)
places_same (suc m) (suc n) places bytes true (Some next) first e low high =
    let less = number_smaller bytes next.0 next.1 first e in
    places_step m places bytes next.0 next.1 first e
    ∙ places_same m n (places ++ next.0 ∷ []) next.1 (begins 32 next.1) (number_at (drop 1 next.1)) refl refl (omega arith) (omega arith)
    ∙ sym (places_step n places bytes next.0 next.1 first e)

pub places_more : (places bytes : List ℕ) (place : ℕ) (after : List ℕ) → begins 32 bytes ≡ true → number_at (drop 1 bytes) ≡ Some (place, after)
    → places_on (length after) (places ++ place ∷ []) after ≡ places_on (length bytes) places bytes
places_more places [] place after first e = absurd (true≢false (sym first))
places_more places (byte ∷ bytes) place after first e =
    let less = number_smaller (byte ∷ bytes) place after first e in
    places_same (length after) (length bytes) (places ++ place ∷ []) after (begins 32 after) (number_at (drop 1 after)) refl refl (omega arith) (omega arith)
    ∙ sym (places_step (length bytes) places (byte ∷ bytes) place after first e)

pub places_last : (places bytes : List ℕ) → begins 32 bytes ≡ false → places_on (length bytes) places bytes ≡ Some (places, bytes)
places_last places bytes other = places_end (length bytes) places bytes other

pub places_fail : (error : RecordError) (places bytes : List ℕ) (all : Read (List ℕ)) → begins 32 bytes ≡ true → Misses error (number_at (drop 1 bytes))
    → places_on (length bytes) places bytes ≡ all → Misses error all
places_fail Syntax places bytes all first e same = sym same ∙ places_missing (length bytes) places bytes first e (omega arith)
places_fail Memory places bytes all first e same = tt

-- ---- lines

items_end : (most : ℕ) (items : List RecordItem) (bytes : List ℕ) → begins 99 bytes ≡ false → items_on most items bytes ≡ Some (items, bytes)
unfolding items_on
items_end zero items bytes other = refl
items_end (suc most) items bytes other = rw other refl

items_step : (most : ℕ) (items : List RecordItem) (bytes : List ℕ) (item : RecordItem) (after : List ℕ) → begins 99 bytes ≡ true → item_at bytes ≡ Some (item, after)
    → items_on (suc most) items bytes ≡ items_on most (items ++ item ∷ []) after
unfolding items_on
items_step most items bytes item after first e = rw (first, e) refl

items_missing : (most : ℕ) (items : List RecordItem) (bytes : List ℕ) → begins 99 bytes ≡ true → item_at bytes ≡ None → length bytes ≤ most → items_on most items bytes ≡ None
unfolding items_on
items_missing most items [] first e enough = absurd (true≢false (sym first))
items_missing zero items (byte ∷ bytes) first e enough = absurd (omega arith)
items_missing (suc most) items (byte ∷ bytes) first e enough = rw (first, e) refl

pub item_smaller : (bytes : List ℕ) (item : RecordItem) (after : List ℕ) → item_at bytes ≡ Some (item, after) → length after < length bytes
item_smaller bytes item after e = item_shortens bytes item after e

items_same : (m n : ℕ) (items : List RecordItem) (bytes : List ℕ) (b : Bool) (read : Read RecordItem) → begins 99 bytes ≡ b → item_at bytes ≡ read → length bytes ≤ m → length bytes ≤ n
    → items_on m items bytes ≡ items_on n items bytes
items_same m n items bytes false read first e low high = items_end m items bytes first ∙ sym (items_end n items bytes first)
items_same m n items bytes true None first e low high = items_missing m items bytes first e low ∙ sym (items_missing n items bytes first e high)
items_same zero n items bytes true (Some next) first e low high = let less = item_smaller bytes next.0 next.1 e in absurd (omega arith)
items_same (suc m) zero items bytes true (Some next) first e low high = let less = item_smaller bytes next.0 next.1 e in absurd (omega arith)
items_same (suc m) (suc n) items bytes true (Some next) first e low high =
    let less = item_smaller bytes next.0 next.1 e in
    items_step m items bytes next.0 next.1 first e
    ∙ items_same m n (items ++ next.0 ∷ []) next.1 (begins 99 next.1) (item_at next.1) refl refl (omega arith) (omega arith)
    ∙ sym (items_step n items bytes next.0 next.1 first e)

pub items_more : (items : List RecordItem) (bytes : List ℕ) (item : RecordItem) (after : List ℕ) → begins 99 bytes ≡ true → item_at bytes ≡ Some (item, after)
    → items_on (length after) (items ++ item ∷ []) after ≡ items_on (length bytes) items bytes
items_more items [] item after first e = absurd (true≢false (sym first))
items_more items (byte ∷ bytes) item after first e =
    let less = item_smaller (byte ∷ bytes) item after e in
    items_same (length after) (length bytes) (items ++ item ∷ []) after (begins 99 after) (item_at after) refl refl (omega arith) (omega arith)
    ∙ sym (items_step (length bytes) items (byte ∷ bytes) item after first e)

pub items_last : (items : List RecordItem) (bytes : List ℕ) → begins 99 bytes ≡ false → items_on (length bytes) items bytes ≡ Some (items, bytes)
items_last items bytes other = items_end (length bytes) items bytes other

pub items_fail : (error : RecordError) (items : List RecordItem) (bytes : List ℕ) (all : Read (List RecordItem)) → begins 99 bytes ≡ true → Misses error (item_at bytes)
    → items_on (length bytes) items bytes ≡ all → Misses error all
items_fail Syntax items bytes all first e same = sym same ∙ items_missing (length bytes) items bytes first e (omega arith)
items_fail Memory items bytes all first e same = tt

-- ---- texts

utf8_by : (bytes : List ℕ) (b : Bool) → is_utf8 bytes ≡ b → (IsUtf8 bytes → ⊥) → is_utf8 bytes ≡ false
utf8_by bytes true is other = absurd (other (IsUtf8-from_is_utf8 bytes is))
utf8_by bytes false is other = is

pub no_utf8 : (bytes : List ℕ) → (IsUtf8 bytes → ⊥) → is_utf8 bytes ≡ false
no_utf8 bytes other = utf8_by bytes (is_utf8 bytes) refl other

pub is_utf8_of : (bytes : List ℕ) → IsUtf8 bytes → is_utf8 bytes ≡ true
is_utf8_of bytes utf8 = is_utf8-from_IsUtf8 bytes utf8
