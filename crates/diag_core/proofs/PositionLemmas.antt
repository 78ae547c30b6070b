-- Lines by the places at which they start.
use Rattle.std.proofs.Common.{◌≡◌, ℕ, zero, suc, ◌+◌, ◌-◌, ◌<◌, ◌≤◌, Bool, true, false, ◌||◌, nat_le, cond, leb, slice_index, List, [], ◌∷◌, length, get_or, take, refl, sym, ap, subst, ◌∙◌, arith}
use Rattle.std.specs.List.{count_by}
use Rattle.std.specs.List.Sorted.{IsPartitionPoint}
use Rattle.std.proofs.lemmas.Bool.{le-leb, leb-true, lt-ltb}
use Rattle.std.proofs.lemmas.Bool.Decides.{nat_tests}
use Rattle.std.proofs.lemmas.List.Sums.{sum_by-cons}
use Rattle.diag_core.specs.Lines.{FoundLine}
use Rattle.diag_core.specs.Position.{begins_character, is_line_feed, line_of, line_count, line_starts, places_behind_line_feeds}

-- each item is no less than those before it
abbrev pub Rises : List ℕ → Type 0
Rises xs = (i j d : ℕ) → i ≤ j → j < length xs → get_or xs i d ≤ get_or xs j d

-- each item is above the number
abbrev pub AllAbove : ℕ → List ℕ → Type 0
AllAbove low xs = (k d : ℕ) → k < length xs → low < get_or xs k d

above_cons : (low x : ℕ) (xs : List ℕ) → low < x → AllAbove low xs → AllAbove low (x ∷ xs)
above_cons low x xs h rest zero d within = h
above_cons low x xs h rest (suc k) d within = rest k d (omega arith)

above_less : (low high : ℕ) (xs : List ℕ) → low ≤ high → AllAbove high xs → AllAbove low xs
above_less low high xs h rest k d within = omega (arith, rest k d within)

rises_cons : (x : ℕ) (xs : List ℕ) → AllAbove x xs → Rises xs → Rises (x ∷ xs)
rises_cons x xs above rest zero zero d h within = omega arith
rises_cons x xs above rest zero (suc j) d h within = omega (arith, above j d (omega arith))
rises_cons x xs above rest (suc i) zero d h within = absurd (omega arith)
rises_cons x xs above rest (suc i) (suc j) d h within = rest i j d (omega arith) (omega arith)

all_behind : (place : ℕ) (text : List ℕ) → AllAbove place (places_behind_line_feeds place text)
all_behind place [] = λ k d within. absurd (omega arith)
all_behind place (byte ∷ text) =
    elim (is_line_feed byte) as (λ b. AllAbove place (cond b (suc place ∷ places_behind_line_feeds (suc place) text) (places_behind_line_feeds (suc place) text))) [
      | true ↦ above_cons place (suc place) _ (omega arith) (above_less place (suc place) _ (omega arith) (all_behind (suc place) text))
      | false ↦ above_less place (suc place) _ (omega arith) (all_behind (suc place) text)
    ]

behind_rise : (place : ℕ) (text : List ℕ) → Rises (places_behind_line_feeds place text)
behind_rise place [] = λ i j d h within. absurd (omega arith)
behind_rise place (byte ∷ text) =
    elim (is_line_feed byte) as (λ b. Rises (cond b (suc place ∷ places_behind_line_feeds (suc place) text) (places_behind_line_feeds (suc place) text))) [
      | true ↦ rises_cons (suc place) _ (all_behind (suc place) text) (behind_rise (suc place) text)
      | false ↦ behind_rise (suc place) text
    ]

pub line_starts_rise : (text : List ℕ) → Rises (line_starts text)
unfolding line_starts
line_starts_rise text = rises_cons 0 _ (all_behind 0 text) (behind_rise 0 text)

pub count_by-cons : (q : ℕ → Bool) (x : ℕ) (xs : List ℕ) → count_by q (x ∷ xs) ≡ cond {A = ℕ} (q x) 1 0 + count_by q xs
count_by-cons q x xs = sum_by-cons (λ y. cond (q y) 1 0) x xs

pub count_by-yes : (q : ℕ → Bool) (x : ℕ) (xs : List ℕ) (n : ℕ) → q x ≡ true → count_by q xs ≡ n → count_by q (x ∷ xs) ≡ suc n
count_by-yes q x xs n here rest =
    let one : cond {A = ℕ} (q x) 1 0 ≡ 1 = rw here refl in
    omega (arith, count_by-cons q x xs)

-- in ASCII each byte begins a character
pub ascii_count : (text : List ℕ) → ((i : ℕ) → slice_index text i < 128) → length text ≡ count_by begins_character text
ascii_count [] small = refl
ascii_count (byte ∷ text) small =
    let begins : begins_character byte ≡ true = ap (λ (low : Bool). low || nat_le 192 byte) (lt-ltb byte 128 (small 0)) in
    sym (count_by-yes begins_character byte text (length text) begins (sym (ascii_count text (λ i. small (suc i)))))

pub count_by-no : (q : ℕ → Bool) (x : ℕ) (xs : List ℕ) (n : ℕ) → q x ≡ false → count_by q xs ≡ n → count_by q (x ∷ xs) ≡ n
count_by-no q x xs n here rest =
    let none : cond {A = ℕ} (q x) 1 0 ≡ 0 = rw here refl in
    omega (arith, count_by-cons q x xs)

-- where the items up to a place pass and the others fail, so many pass
count_by-split : (q : ℕ → Bool) (xs : List ℕ) (n : ℕ) → n ≤ length xs → ((k d : ℕ) → k < n → q (get_or xs k d) ≡ true) → ((k d : ℕ) → n ≤ k → k < length xs → q (get_or xs k d) ≡ false) → count_by q xs ≡ n
count_by-split q [] zero within before after = refl
count_by-split q [] (suc n) within before after = absurd (omega arith)
count_by-split q (x ∷ xs) zero within before after =
    count_by-no q x xs 0 (after 0 0 (omega arith) (omega arith)) (count_by-split q xs 0 (omega arith) (λ k d h. absurd (omega arith)) (λ k d h w. after (suc k) d (omega arith) (omega arith)))
count_by-split q (x ∷ xs) (suc n) within before after =
    count_by-yes q x xs n (before 0 0 (omega arith)) (count_by-split q xs n (omega arith) (λ k d h. before (suc k) d (omega arith)) (λ k d h w. after (suc k) d (omega arith) (omega arith)))

leb_above : (a b : ℕ) → b < a → leb a b ≡ false
leb_above a b h = grind (arith, nat_tests)

-- the starts behind line feeds up to a place are as many as the line feeds before it
count_behind : (place : ℕ) (text : List ℕ) (n top : ℕ) → top ≡ place + n → count_by (λ start. leb start top) (places_behind_line_feeds place text) ≡ count_by is_line_feed (take n text)
count_behind place [] zero top e = refl
count_behind place [] (suc n) top e = refl
count_behind place (byte ∷ text) zero top e =
    count_by-split (λ start. leb start top) (places_behind_line_feeds place (byte ∷ text)) 0 (omega arith) (λ k d h. absurd (omega arith)) (λ k d h within. leb_above _ _ (omega (arith, all_behind place (byte ∷ text) k d within)))
count_behind place (byte ∷ text) (suc n) top e =
    let rest = count_behind (suc place) text n top (omega arith) in
    let below : suc place ≤ top = omega arith in
    let step : count_by (λ start. leb start top) (places_behind_line_feeds place (byte ∷ text)) ≡ cond {A = ℕ} (is_line_feed byte) 1 0 + count_by is_line_feed (take n text) =
    elim (is_line_feed byte) as (λ b. count_by (λ start. leb start top) (cond b (suc place ∷ places_behind_line_feeds (suc place) text) (places_behind_line_feeds (suc place) text)) ≡ cond {A = ℕ} b 1 0 + count_by is_line_feed (take n text)) [
      | true ↦ omega (arith, count_by-yes (λ start. leb start top) (suc place) (places_behind_line_feeds (suc place) text) (count_by is_line_feed (take n text)) (le-leb (suc place) top below) rest)
      | false ↦ omega (arith, rest)
    ] in
    step ∙ sym (count_by-cons is_line_feed byte (take n text))

length_behind : (place : ℕ) (text : List ℕ) → length (places_behind_line_feeds place text) ≡ count_by is_line_feed text
length_behind place [] = refl
length_behind place (byte ∷ text) =
    let rest = length_behind (suc place) text in
    let step : length (places_behind_line_feeds place (byte ∷ text)) ≡ cond {A = ℕ} (is_line_feed byte) 1 0 + count_by is_line_feed text =
    elim (is_line_feed byte) as (λ b. length (cond b (suc place ∷ places_behind_line_feeds (suc place) text) (places_behind_line_feeds (suc place) text)) ≡ cond {A = ℕ} b 1 0 + count_by is_line_feed text) [
      | true ↦ omega (arith, rest)
      | false ↦ omega (arith, rest)
    ] in
    step ∙ sym (count_by-cons is_line_feed byte text)

-- each line has a start
pub length-line_starts : (text : List ℕ) → length (line_starts text) ≡ line_count text
unfolding line_starts
length-line_starts text = omega (arith, length_behind 0 text)

-- the starts up to a place are one more than the line feeds before it
pub line_from_split : (text : List ℕ) (place n : ℕ) → n ≤ length (line_starts text) → ((k d : ℕ) → k < n → leb (get_or (line_starts text) k d) place ≡ true) → ((k d : ℕ) → n ≤ k → k < length (line_starts text) → leb (get_or (line_starts text) k d) place ≡ false) → n ≡ line_of text place + 1
unfolding line_starts
line_from_split text place n within before after =
    let counted = count_by-split (λ start. leb start place) (line_starts text) n within before after in
    let whole = count_by-yes (λ start. leb start place) 0 (places_behind_line_feeds 0 text) _ (le-leb 0 place (omega arith)) (count_behind 0 text place place (omega arith)) in
    omega (arith, counted, whole)

-- what a search in the starts finds
found : (text : List ℕ) (place n : ℕ) → n ≤ length (line_starts text) → IsPartitionPoint (λ start. leb start place ≡ true) (λ start. leb start place ≡ false) (line_starts text) n → FoundLine text place n
found text place n within parts =
    let line = line_from_split text place n within (λ k d h. parts.0 k d (omega arith) h) (λ k d h w. parts.1 k d h w) in
    record {
      some = omega arith;
      within = omega (arith, length-line_starts text);
      line = omega arith;
      start = leb-true _ _ (parts.0 (n - 1) 0 (omega arith) (omega arith));
    }

pub FoundLine-from_split : (text xs : List ℕ) (place n : ℕ) → xs ≡ line_starts text → n ≤ length xs → IsPartitionPoint (λ start. leb start place ≡ true) (λ start. leb start place ≡ false) xs n → FoundLine text place n
FoundLine-from_split text xs place n e within parts =
    let P : List ℕ → Type 0 = λ ys. n ≤ length ys → IsPartitionPoint (λ start. leb start place ≡ true) (λ start. leb start place ≡ false) ys n → FoundLine text place n in
    subst P (sym e) (found text place n) within parts
