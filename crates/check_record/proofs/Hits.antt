-- Hits, and places with their hits.
use Rattle.std.proofs.Common.{◌≡◌, ◌∙◌, refl, sym, ap, ap₂, subst, inl, inr, ℕ, zero, suc, ◌+◌, ◌<◌, ◌≤◌, Bool, true, false, List, [], ◌∷◌, ◌++◌, append_assoc, append-nil, length, length-append, drop, Option, Some, None, decimal, flat_map, arith}
use Rattle.std.specs.List.{AllByRecursion}
use Rattle.spdx_core.specs.declared.certificates.verdict.Hit.{Hit}
use Rattle.spdx_core.specs.declared.certificates.verdict.Hit.TheVariants.{Allowed, Exception}
use Rattle.check_record.specs.declared.decode_parts.ChoiceAndHits.{ChoiceAndHits}
use Rattle.check_record.specs.declared.decode_parts.PlaceHit.{PlaceHit}
use Rattle.check_record.specs.Items.{IsHit, IsNumber}
use Rattle.check_record.specs.Spelling.{chosen_text, hit_text, place_hit_text, place_text}
use Rattle.check_record.specs.Reading.{◌>>=◌, allowed_at, begins, begins_digit, rest_behind, chosen_on, exception_at, hit_at, number_at, place_hit_at, places_on}
use Rattle.check_record.proofs.Numbers.{number_again, number_takes}
use Rattle.check_record.proofs.Steps.{begins_is, behind_is, bind_some, pick, some_is}

-- neither a digit nor a space is first
pub record Ends (bytes : List ℕ) : Type 0 where
  pub digit : begins_digit bytes ≡ false
  pub space : begins 32 bytes ≡ false

-- ---- hits

pub hit_again : (hit : Hit) (rest : List ℕ) → IsHit hit → begins_digit rest ≡ false → hit_at (hit_text hit ++ rest) ≡ Some (hit, rest)
unfolding hit_at allowed_at exception_at
hit_again (Allowed entry) rest fits ends = rw (number_again entry rest fits ends) refl
hit_again (Exception exception entry) rest fits ends =
    ap exception_at (append_assoc (decimal exception) (46 ∷ decimal entry) rest)
    ∙ rw (number_again exception (46 ∷ (decimal entry ++ rest)) fits.0 refl, number_again entry rest fits.1 ends) refl

-- a hit and what is behind it
pub record TakesHit (bytes : List ℕ) (hit : Hit) (rest : List ℕ) : Type 0 where
  pub parts : bytes ≡ hit_text hit ++ rest
  pub fits : IsHit hit

abbrev hit_pair : Hit → List ℕ → Hit × List ℕ
hit_pair hit rest = (hit, rest)

exception_takes : (bytes : List ℕ) (hit : Hit) (rest : List ℕ) → exception_at bytes ≡ Some (hit, rest) → TakesHit (101 ∷ bytes) hit rest
unfolding exception_at
exception_takes bytes hit rest e =
    let x = bind_some (number_at bytes) (λ exception. rest_behind 46 exception.1 >>= λ left. number_at left >>= λ entry. Some (Exception exception.0 entry.0, entry.1)) (hit, rest) e in
    let d = bind_some (rest_behind 46 x.0.1) (λ left. number_at left >>= λ entry. Some (Exception x.0.0 entry.0, entry.1)) (hit, rest) x.2 in
    let y = bind_some (number_at d.0) (λ entry. Some (Exception x.0.0 entry.0, entry.1)) (hit, rest) d.2 in
    let m = number_takes bytes x.0.0 x.0.1 x.1 in
    let n = number_takes d.0 y.0.0 y.0.1 y.1 in
    let inner : x.0.1 ≡ 46 ∷ (decimal y.0.0 ++ y.0.1) = behind_is 46 x.0.1 d.0 d.1 ∙ ap (λ (r : List ℕ). 46 ∷ r) n.parts in
    let whole : 101 ∷ bytes ≡ hit_text (Exception x.0.0 y.0.0) ++ y.0.1 =
    ap (λ (r : List ℕ). 101 ∷ r) (m.parts ∙ ap (λ (r : List ℕ). decimal x.0.0 ++ r) inner ∙ sym (append_assoc (decimal x.0.0) (46 ∷ decimal y.0.0) y.0.1)) in
    subst (λ (q : Hit × List ℕ). TakesHit (101 ∷ bytes) q.0 q.1) (some_is (hit_pair (Exception x.0.0 y.0.0) y.0.1) (hit_pair hit rest) y.2)
    (record { parts = whole; fits = (m.below, n.below) })

allowed_takes : (bytes : List ℕ) (hit : Hit) (rest : List ℕ) → allowed_at bytes ≡ Some (hit, rest) → TakesHit (108 ∷ bytes) hit rest
unfolding allowed_at
allowed_takes bytes hit rest e =
    let x = bind_some (number_at bytes) (λ entry. Some (Allowed entry.0, entry.1)) (hit, rest) e in
    let n = number_takes bytes x.0.0 x.0.1 x.1 in
    subst (λ (q : Hit × List ℕ). TakesHit (108 ∷ bytes) q.0 q.1) (some_is (hit_pair (Allowed x.0.0) x.0.1) (hit_pair hit rest) x.2)
    (record { parts = ap (λ (r : List ℕ). 108 ∷ r) n.parts; fits = n.below })

pub hit_takes : (bytes : List ℕ) (hit : Hit) (rest : List ℕ) → hit_at bytes ≡ Some (hit, rest) → TakesHit bytes hit rest
unfolding hit_at
hit_takes bytes hit rest e =
    elim (pick (begins 108 bytes) (allowed_at (drop 1 bytes)) (rest_behind 101 bytes >>= exception_at) (Some (hit, rest)) e) [
      | inl p ↦ subst (λ (r : List ℕ). TakesHit r hit rest) (sym (begins_is 108 bytes p.0)) (allowed_takes (drop 1 bytes) hit rest p.1)
      | inr p ↦
          let b = bind_some (rest_behind 101 bytes) exception_at (hit, rest) p.1 in
          subst (λ (r : List ℕ). TakesHit r hit rest) (sym (behind_is 101 bytes b.0 b.1)) (exception_takes b.0 hit rest b.2)
    ]

-- ---- a place with its hit

abbrev place_hit : ℕ → Hit → PlaceHit
place_hit place hit = record { place = place; hit = hit }

place_hit_again : (place : ℕ) (hit : Hit) (rest : List ℕ) → IsNumber place → IsHit hit → begins_digit rest ≡ false
    → place_hit_at ((decimal place ++ (61 ∷ hit_text hit)) ++ rest) ≡ Some (place_hit place hit, rest)
unfolding place_hit_at
place_hit_again place hit rest number fits ends =
    ap place_hit_at (append_assoc (decimal place) (61 ∷ hit_text hit) rest)
    ∙ rw (number_again place (61 ∷ (hit_text hit ++ rest)) number refl, hit_again hit rest fits ends) refl

-- a place with its hit behind a space, and what is behind them
record TakesPlaceHit (bytes : List ℕ) (found : PlaceHit) (rest : List ℕ) : Type 0 where
  parts : 32 ∷ bytes ≡ place_hit_text found.place found.hit ++ rest
  number : IsNumber found.place
  fits : IsHit found.hit

abbrev found_pair : PlaceHit → List ℕ → PlaceHit × List ℕ
found_pair found rest = (found, rest)

place_hit_takes : (bytes : List ℕ) (found : PlaceHit) (rest : List ℕ) → place_hit_at bytes ≡ Some (found, rest) → TakesPlaceHit bytes found rest
unfolding place_hit_at
place_hit_takes bytes found rest e =
    let x = bind_some (number_at bytes) (λ place. rest_behind 61 place.1 >>= λ left. hit_at left >>= λ hit. Some (place_hit place.0 hit.0, hit.1)) (found, rest) e in
    let d = bind_some (rest_behind 61 x.0.1) (λ left. hit_at left >>= λ hit. Some (place_hit x.0.0 hit.0, hit.1)) (found, rest) x.2 in
    let y = bind_some (hit_at d.0) (λ hit. Some (place_hit x.0.0 hit.0, hit.1)) (found, rest) d.2 in
    let m = number_takes bytes x.0.0 x.0.1 x.1 in
    let h = hit_takes d.0 y.0.0 y.0.1 y.1 in
    let inner : x.0.1 ≡ 61 ∷ (hit_text y.0.0 ++ y.0.1) = behind_is 61 x.0.1 d.0 d.1 ∙ ap (λ (r : List ℕ). 61 ∷ r) h.parts in
    let whole : 32 ∷ bytes ≡ place_hit_text x.0.0 y.0.0 ++ y.0.1 =
    ap (λ (r : List ℕ). 32 ∷ r) (m.parts ∙ ap (λ (r : List ℕ). decimal x.0.0 ++ r) inner ∙ sym (append_assoc (decimal x.0.0) (61 ∷ hit_text y.0.0) y.0.1)) in
    subst (λ (q : PlaceHit × List ℕ). TakesPlaceHit bytes q.0 q.1) (some_is (found_pair (place_hit x.0.0 y.0.0) y.0.1) (found_pair found rest) y.2)
    (record { parts = whole; number = m.below; fits = h.fits })

-- a choice takes bytes, so a step behind it has less of them
pub place_hit_shortens : (bytes : List ℕ) (found : PlaceHit) (rest : List ℕ) → place_hit_at bytes ≡ Some (found, rest) → length rest ≤ length bytes
place_hit_shortens bytes found rest e =
    let t = place_hit_takes bytes found rest e in
    let lengths = ap (λ (r : List ℕ). length r) t.parts in
    let more = length-append (decimal found.place ++ (61 ∷ hit_text found.hit)) rest in
    omega arith

-- ---- a choice

abbrev chosen : List ℕ → List Hit → ChoiceAndHits
chosen choice hits = record { choice = choice; hits = hits }

chosen_ends : (places : List ℕ) (hits : List Hit) (rest : List ℕ) → begins_digit rest ≡ false → begins_digit (chosen_text places hits ++ rest) ≡ false
chosen_ends [] hits rest ends = ends
chosen_ends (place ∷ places) [] rest ends = ends
chosen_ends (place ∷ places) (hit ∷ hits) rest ends = refl

chosen_end : (most : ℕ) (choice : List ℕ) (hits : List Hit) (rest : List ℕ) → begins 32 rest ≡ false → chosen_on most choice hits rest ≡ Some (chosen choice hits, rest)
unfolding chosen_on
chosen_end zero choice hits rest ends = refl
chosen_end (suc most) choice hits rest ends = rw ends refl

pub chosen_again : (places : List ℕ) (found : List Hit) (choice : List ℕ) (hits : List Hit) (rest : List ℕ) (most : ℕ)
    → length found ≡ length places → AllByRecursion IsNumber places → AllByRecursion IsHit found → length places ≤ most → Ends rest
    → chosen_on most choice hits (chosen_text places found ++ rest) ≡ Some (chosen (choice ++ places) (hits ++ found), rest)
unfolding chosen_on
chosen_again [] [] choice hits rest most as_many numbers each enough ends =
    chosen_end most choice hits rest ends.space ∙ ap₂ (λ (c : List ℕ) (h : List Hit). Some (chosen c h, rest)) (sym (append-nil choice)) (sym (append-nil hits))
chosen_again [] (hit ∷ found) choice hits rest most as_many numbers each enough ends = absurd (omega arith)
chosen_again (place ∷ places) [] choice hits rest most as_many numbers each enough ends = absurd (omega arith)
chosen_again (place ∷ places) (hit ∷ found) choice hits rest zero as_many numbers each enough ends = absurd (omega arith)
chosen_again (place ∷ places) (hit ∷ found) choice hits rest (suc most) as_many numbers each enough ends =
    let front = decimal place ++ (61 ∷ hit_text hit) in
    let more = chosen_text places found in
    let one : place_hit_at ((front ++ more) ++ rest) ≡ Some (place_hit place hit, more ++ rest) =
    ap place_hit_at (append_assoc front more rest) ∙ place_hit_again place hit (more ++ rest) numbers.0 each.0 (chosen_ends places found rest ends.digit) in
    let others = chosen_again places found (choice ++ place ∷ []) (hits ++ hit ∷ []) rest most (omega arith) numbers.1 each.1 (omega arith) ends in
    rw one (others ∙ ap₂ (λ (c : List ℕ) (h : List Hit). Some (chosen c h, rest)) (append_assoc choice (place ∷ []) places) (append_assoc hits (hit ∷ []) found))

pub chosen_count : (places : List ℕ) (hits : List Hit) (rest : List ℕ) → length hits ≡ length places → length places ≤ length (chosen_text places hits ++ rest)
chosen_count [] hits rest as_many = omega arith
chosen_count (place ∷ places) [] rest as_many = absurd (omega arith)
chosen_count (place ∷ places) (hit ∷ hits) rest as_many =
    let front = decimal place ++ (61 ∷ hit_text hit) in
    let more = chosen_text places hits in
    let others = chosen_count places hits rest (omega arith) in
    omega (arith, length-append (front ++ more) rest, length-append front more, length-append more rest)

-- the places and hits that a choice has behind others, and what is behind it
pub record TakesChosen (choice : List ℕ) (hits : List Hit) (bytes : List ℕ) (all : ChoiceAndHits) (rest : List ℕ) : Type 0 where
  pub places : List ℕ
  pub found : List Hit
  pub choice_is : all.choice ≡ choice ++ places
  pub hits_are : all.hits ≡ hits ++ found
  pub as_many : length found ≡ length places
  pub parts : bytes ≡ chosen_text places found ++ rest
  pub numbers : AllByRecursion IsNumber places
  pub each : AllByRecursion IsHit found

abbrev chosen_pair : ChoiceAndHits → List ℕ → ChoiceAndHits × List ℕ
chosen_pair all rest = (all, rest)

abbrev some_of : ChoiceAndHits → List ℕ → Option (ChoiceAndHits × List ℕ)
some_of all rest = Some (all, rest)

nothing_chosen : (choice : List ℕ) (hits : List Hit) (bytes : List ℕ) (all : ChoiceAndHits) (rest : List ℕ) → some_of (chosen choice hits) bytes ≡ some_of all rest → TakesChosen choice hits bytes all rest
nothing_chosen choice hits bytes all rest e =
    subst (λ (q : ChoiceAndHits × List ℕ). TakesChosen choice hits bytes q.0 q.1) (some_is (chosen_pair (chosen choice hits) bytes) (chosen_pair all rest) e) (record {
      places = [];
      found = [];
      choice_is = sym (append-nil choice);
      hits_are = sym (append-nil hits);
      as_many = refl;
      parts = refl;
      numbers = tt;
      each = tt;
    })

pub chosen_takes : (most : ℕ) (choice : List ℕ) (hits : List Hit) (bytes : List ℕ) (all : ChoiceAndHits) (rest : List ℕ)
    → chosen_on most choice hits bytes ≡ Some (all, rest) → TakesChosen choice hits bytes all rest
unfolding chosen_on
chosen_takes zero choice hits bytes all rest e = nothing_chosen choice hits bytes all rest e
chosen_takes (suc most) choice hits bytes all rest e =
    elim (pick (begins 32 bytes) (place_hit_at (drop 1 bytes) >>= λ next. chosen_on most (choice ++ next.0.place ∷ []) (hits ++ next.0.hit ∷ []) next.1)
    (Some (chosen choice hits, bytes)) (Some (all, rest)) e) [
      | inl p ↦
          let s = bind_some (place_hit_at (drop 1 bytes)) (λ next. chosen_on most (choice ++ next.0.place ∷ []) (hits ++ next.0.hit ∷ []) next.1) (all, rest) p.1 in
          let f = place_hit_takes (drop 1 bytes) s.0.0 s.0.1 s.1 in
          let t = chosen_takes most (choice ++ s.0.0.place ∷ []) (hits ++ s.0.0.hit ∷ []) s.0.1 all rest s.2 in
          record {
            places = s.0.0.place ∷ t.places;
            found = s.0.0.hit ∷ t.found;
            choice_is = t.choice_is ∙ append_assoc choice (s.0.0.place ∷ []) t.places;
            hits_are = t.hits_are ∙ append_assoc hits (s.0.0.hit ∷ []) t.found;
            as_many = ap suc t.as_many;
            parts = begins_is 32 bytes p.0 ∙ f.parts ∙ ap (λ (r : List ℕ). place_hit_text s.0.0.place s.0.0.hit ++ r) t.parts
                ∙ sym (append_assoc (place_hit_text s.0.0.place s.0.0.hit) (chosen_text t.places t.found) rest);
            numbers = (f.number, t.numbers);
            each = (f.fits, t.each);
          }
      | inr p ↦ nothing_chosen choice hits bytes all rest p.1
    ]

-- ---- places

places_ends : (places : List ℕ) (rest : List ℕ) → begins_digit rest ≡ false → begins_digit (flat_map place_text places ++ rest) ≡ false
places_ends [] rest ends = ends
places_ends (place ∷ places) rest ends = refl

abbrev places_pair : List ℕ → List ℕ → List ℕ × List ℕ
places_pair places rest = (places, rest)

places_end : (most : ℕ) (front rest : List ℕ) → begins 32 rest ≡ false → places_on most front rest ≡ Some (front, rest)
unfolding places_on
places_end zero front rest ends = refl
places_end (suc most) front rest ends = rw ends refl

pub places_again : (places front rest : List ℕ) (most : ℕ) → AllByRecursion IsNumber places → length places ≤ most → Ends rest
    → places_on most front (flat_map place_text places ++ rest) ≡ Some (front ++ places, rest)
unfolding places_on
places_again [] front rest most numbers enough ends =
    places_end most front rest ends.space ∙ ap (λ (p : List ℕ). Some (p, rest)) (sym (append-nil front))
places_again (place ∷ places) front rest zero numbers enough ends = absurd (omega arith)
places_again (place ∷ places) front rest (suc most) numbers enough ends =
    let more = flat_map place_text places in
    let one : number_at ((decimal place ++ more) ++ rest) ≡ Some (place, more ++ rest) =
    ap number_at (append_assoc (decimal place) more rest) ∙ number_again place (more ++ rest) numbers.0 (places_ends places rest ends.digit) in
    let others = places_again places (front ++ place ∷ []) rest most numbers.1 (omega arith) ends in
    rw one (others ∙ ap (λ (p : List ℕ). Some (p, rest)) (append_assoc front (place ∷ []) places))

pub places_count : (places rest : List ℕ) → length places ≤ length (flat_map place_text places ++ rest)
places_count [] rest = omega arith
places_count (place ∷ places) rest =
    let more = flat_map place_text places in
    let others = places_count places rest in
    omega (arith, length-append (decimal place ++ more) rest, length-append (decimal place) more, length-append more rest)

-- the places behind others, and what is behind them
pub record TakesPlaces (front bytes all rest : List ℕ) : Type 0 where
  pub places : List ℕ
  pub all_are : all ≡ front ++ places
  pub parts : bytes ≡ flat_map place_text places ++ rest
  pub numbers : AllByRecursion IsNumber places

no_places : (front bytes all rest : List ℕ) → places_pair front bytes ≡ places_pair all rest → TakesPlaces front bytes all rest
no_places front bytes all rest e =
    subst (λ (q : List ℕ × List ℕ). TakesPlaces front bytes q.0 q.1) e (record { places = []; all_are = sym (append-nil front); parts = refl; numbers = tt })

pub places_take : (most : ℕ) (front bytes all rest : List ℕ) → places_on most front bytes ≡ Some (all, rest) → TakesPlaces front bytes all rest
unfolding places_on
places_take zero front bytes all rest e = no_places front bytes all rest (some_is (places_pair front bytes) (places_pair all rest) e)
places_take (suc most) front bytes all rest e =
    elim (pick (begins 32 bytes) (number_at (drop 1 bytes) >>= λ next. places_on most (front ++ next.0 ∷ []) next.1) (Some (front, bytes)) (Some (all, rest)) e) [
      | inl p ↦
          let s = bind_some (number_at (drop 1 bytes)) (λ next. places_on most (front ++ next.0 ∷ []) next.1) (all, rest) p.1 in
          let n = number_takes (drop 1 bytes) s.0.0 s.0.1 s.1 in
          let t = places_take most (front ++ s.0.0 ∷ []) s.0.1 all rest s.2 in
          record {
            places = s.0.0 ∷ t.places;
            all_are = t.all_are ∙ append_assoc front (s.0.0 ∷ []) t.places;
            parts = begins_is 32 bytes p.0 ∙ ap (λ (r : List ℕ). 32 ∷ r) (n.parts ∙ ap (λ (r : List ℕ). decimal s.0.0 ++ r) t.parts
                ∙ sym (append_assoc (decimal s.0.0) (flat_map place_text t.places) rest));
            numbers = (n.below, t.numbers);
          }
      | inr p ↦ no_places front bytes all rest (some_is (places_pair front bytes) (places_pair all rest) p.1)
    ]
