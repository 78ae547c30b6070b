-- Lines and columns, one byte after another.
use Rattle.std.proofs.Common.{◌≡◌, add-one, inl, inr, ◌∙◌, refl, sym, ap, ap₂, ℕ, zero, suc, ◌+◌, ◌-◌, ◌<◌, ◌≤◌, Bool, true, false, cond, ◌&&◌, List, [], ◌∷◌, length, get_or, take, drop, drop-cons, Option, arith}
use Rattle.memchr.specs.Find.{NoneAfter, Nowhere, Passes, is_byte}
use Rattle.std.specs.Prelude.{slice_get, if◌then◌else◌, nat_lt}
use Rattle.std.specs.List.{count_by}
use Rattle.std.proofs.lemmas.Bool.{cases_lt}
use Rattle.std.proofs.lemmas.Bool.Decides.{nat_tests}
use Rattle.std.proofs.lemmas.List.{get_or-take, length-take-le}
use Rattle.std.proofs.lemmas.List.Sums.{count_by-le-length}
use Rattle.diag_core.specs.declared.line_scan.LineSearch.{LineSearch}
use Rattle.diag_core.specs.Lines.{search_after}
use Rattle.diag_core.specs.Position.{is_line_feed, line_of, line_starts, line_start, places_behind_line_feeds}
use Rattle.diag_core.proofs.PositionLemmas.{count_by-cons, count_by-yes, count_by-no}

-- so many items pass up to the next place
pub count_next : (q : ℕ → Bool) (text : List ℕ) (n d : ℕ) → n < length text → count_by q (take (suc n) text) ≡ count_by q (take n text) + cond {A = ℕ} (q (get_or text n d)) 1 0
count_next q [] n d within = absurd (omega arith)
count_next q (byte ∷ text) zero d within =
    let one = count_by-cons q byte [] in
    let none : count_by q [] ≡ 0 = refl in
    omega (arith, one, none)
count_next q (byte ∷ text) (suc n) d within =
    let long = count_by-cons q byte (take (suc n) text) in
    let short = count_by-cons q byte (take n text) in
    let rest = count_next q text n d (omega arith) in
    omega (arith, long, short, rest)

-- among the starts of lines from a place on, before which one is known: the start of the line of the next place
start_next : (place low : ℕ) (text : List ℕ) (n d : ℕ) → n < length text
    → get_or (low ∷ places_behind_line_feeds place text) (count_by is_line_feed (take (suc n) text)) 0
    ≡ cond (is_line_feed (get_or text n d)) (place + suc n) (get_or (low ∷ places_behind_line_feeds place text) (count_by is_line_feed (take n text)) 0)
start_next place low [] n d within = absurd (omega arith)
start_next place low (byte ∷ text) zero d within = by (is_line_feed byte) refl
  where
    by : (b : Bool) → is_line_feed byte ≡ b
        → get_or (low ∷ cond b (suc place ∷ places_behind_line_feeds (suc place) text) (places_behind_line_feeds (suc place) text)) (count_by is_line_feed (byte ∷ [])) 0
        ≡ cond b (place + 1) low
    by true is =
        ap (λ k. get_or (low ∷ suc place ∷ places_behind_line_feeds (suc place) text) k 0) (count_by-yes is_line_feed byte [] 0 is refl)
        ∙ omega arith
    by false is = ap (λ k. get_or (low ∷ places_behind_line_feeds (suc place) text) k 0) (count_by-no is_line_feed byte [] 0 is refl)
start_next place low (byte ∷ text) (suc n) d within = by (is_line_feed byte) refl (λ start. start_next (suc place) start text n d (omega arith))
  where
    long : ℕ
    long = count_by is_line_feed (take (suc n) text)

    short : ℕ
    short = count_by is_line_feed (take n text)

    feed : Bool
    feed = is_line_feed (get_or text n d)

    behinds : List ℕ
    behinds = places_behind_line_feeds (suc place) text

    over : suc place + suc n ≡ place + suc (suc n)
    over = omega arith

    by : (b : Bool) → is_line_feed byte ≡ b
        → ((start : ℕ) → get_or (start ∷ behinds) long 0 ≡ cond feed (suc place + suc n) (get_or (start ∷ behinds) short 0))
        → get_or (low ∷ cond b (suc place ∷ behinds) behinds) (count_by is_line_feed (byte ∷ take (suc n) text)) 0
        ≡ cond feed (place + suc (suc n)) (get_or (low ∷ cond b (suc place ∷ behinds) behinds) (count_by is_line_feed (byte ∷ take n text)) 0)
    by true is rest =
        ap (λ k. get_or (low ∷ suc place ∷ behinds) k 0) (count_by-yes is_line_feed byte (take (suc n) text) long is refl)
        ∙ rest (suc place)
        ∙ ap (λ far. cond feed far (get_or (suc place ∷ behinds) short 0)) over
        ∙ ap (λ k. cond feed (place + suc (suc n)) (get_or (low ∷ suc place ∷ behinds) k 0)) (sym (count_by-yes is_line_feed byte (take n text) short is refl))
    by false is rest =
        ap (λ k. get_or (low ∷ behinds) k 0) (count_by-no is_line_feed byte (take (suc n) text) long is refl)
        ∙ rest low
        ∙ ap (λ far. cond feed far (get_or (low ∷ behinds) short 0)) over
        ∙ ap (λ k. cond feed (place + suc (suc n)) (get_or (low ∷ behinds) k 0)) (sym (count_by-no is_line_feed byte (take n text) short is refl))

-- where the line of the next place starts
line_start_next : (text : List ℕ) (n d : ℕ) → n < length text → line_start text (line_of text (suc n)) ≡ cond (is_line_feed (get_or text n d)) (suc n) (line_start text (line_of text n))
unfolding line_starts
line_start_next text n d within =
    start_next 0 0 text n d within
    ∙ ap (λ far. cond (is_line_feed (get_or text n d)) far (line_start text (line_of text n))) {x = 0 + suc n} {y = suc n} (omega arith)

cond_within : (b : Bool) (high low : ℕ) → low ≤ high → cond b high low ≤ high
cond_within true high low le = omega arith
cond_within false high low le = le

-- a line starts at or before its places
pub line_start_within : (text : List ℕ) (n : ℕ) → n ≤ length text → line_start text (line_of text n) ≤ n
unfolding line_starts
line_start_within text zero within = omega arith
line_start_within text (suc n) within =
    let next = line_start_next text n 0 (omega arith) in
    let before : line_start text (line_of text n) ≤ suc n = omega (arith, line_start_within text n (omega arith)) in
    let all = cond_within (is_line_feed (get_or text n 0)) (suc n) (line_start text (line_of text n)) before in
    omega (arith, next, all)

-- there are no more line feeds than bytes
pub feeds_within : (text : List ℕ) → count_by is_line_feed text ≤ length text
feeds_within text = count_by-le-length is_line_feed text

not_true_false : (b : Bool) → ¬ (b ≡ true) → b ≡ false
not_true_false true never = absurd (never refl)
not_true_false false never = refl

-- without a line feed from an earlier place on, the line is still that of the earlier place
goes_on_in_line : (text : List ℕ) (from n : ℕ) → from ≤ n → n ≤ length text → ((k : ℕ) → from ≤ k → k < n → ¬ (is_line_feed (get_or text k 0) ≡ true))
    → line_start text (line_of text n) ≡ line_start text (line_of text from)
goes_on_in_line text from zero early within none = ap (λ k. line_start text (line_of text k)) {x = zero} {y = from} (omega arith)
goes_on_in_line text from (suc n) early within none =
    elim (cases_lt n from) [
      | inl lt ↦ ap (λ k. line_start text (line_of text k)) {x = suc n} {y = from} (omega arith)
      | inr ge ↦
          let later : from ≤ n = omega arith in
          let other : is_line_feed (get_or text n 0) ≡ false = not_true_false (is_line_feed (get_or text n 0)) (none n later (omega arith)) in
          line_start_next text n 0 (omega arith)
          ∙ ap (λ b. cond b (suc n) (line_start text (line_of text n))) other
          ∙ goes_on_in_line text from n later (omega arith) (λ k low high. none k low (omega arith))
    ]

-- the bytes before a place
module _ (text : List ℕ) (n : ℕ) (within : n ≤ length text) (front : List ℕ) (is_front : front ≡ take n text) where
  long : length front ≡ n
  long = ap length is_front ∙ length-take-le n text within

  byte_at : (k : ℕ) → k < n → get_or front k 0 ≡ get_or text k 0
  byte_at k lt = ap (λ (bytes : List ℕ). get_or bytes k 0) is_front ∙ get_or-take n text k 0 lt

  -- behind the last line feed before the place its line starts
  pub start_behind : (feed : ℕ) → NoneAfter (Passes (is_byte 10) front) 0 (length front) feed → Passes (is_byte 10) front feed → feed + 1 ≡ line_start text (line_of text n)
  start_behind feed last is =
      let early : feed < n = omega (arith, last.high, long) in
      let feed_is : is_line_feed (get_or text feed 0) ≡ true = ap is_line_feed (sym (byte_at feed early)) ∙ is in
      let start : line_start text (line_of text (suc feed)) ≡ suc feed = line_start_next text feed 0 (omega arith) ∙ ap (λ b. cond b (suc feed) (line_start text (line_of text feed))) feed_is in
      let none : (k : ℕ) → suc feed ≤ k → k < n → ¬ (is_line_feed (get_or text k 0) ≡ true) =
      λ k low high yes. last.after k (omega arith) (omega (arith, long)) (ap is_line_feed (byte_at k high) ∙ yes) in
      add-one feed ∙ sym (goes_on_in_line text (suc feed) n (omega arith) within none ∙ start)

  -- without a line feed before the place its line is the first
  pub start_of_first : Nowhere (Passes (is_byte 10) front) 0 (length front) → 0 ≡ line_start text (line_of text n)
  unfolding line_starts
  start_of_first nowhere =
      sym (goes_on_in_line text 0 n (omega arith) within (λ k low high yes. nowhere k low (omega (arith, long)) (ap is_line_feed (byte_at k high) ∙ yes)))

positive : (k : ℕ) → nat_lt 0 (suc k) ≡ true
positive k = grind (arith, nat_tests)

goes_on : (start left n : ℕ) (rest : List ℕ) (feed : Bool) (wanted : Option ℕ)
    → slice_get (start ∷ cond feed (suc n ∷ places_behind_line_feeds (suc n) rest) (places_behind_line_feeds (suc n) rest)) left ≡ wanted
    → let new : LineSearch = if nat_lt 0 left && feed then record { start = n + 1; left = left - 1 } else record { start = start; left = left } in
    slice_get (new.start ∷ places_behind_line_feeds (suc n) rest) new.left ≡ wanted
goes_on start zero n rest feed wanted is = is
goes_on start (suc left) n rest true wanted is =
    let from : n + 1 ≡ suc n = omega arith in
    let less : suc left - 1 ≡ left = omega arith in
    rw (positive left) (ap₂ (λ at k. slice_get (at ∷ places_behind_line_feeds (suc n) rest) k) from less ∙ is)
goes_on start (suc left) n rest false wanted is = rw (positive left) is

-- a search leads to that behind the next byte
pub passed_next : (text : List ℕ) (n d : ℕ) (search : LineSearch) (wanted : Option ℕ) → n < length text
    → slice_get (search.start ∷ places_behind_line_feeds n (drop n text)) search.left ≡ wanted
    → slice_get ((search_after search n (get_or text n d)).start ∷ places_behind_line_feeds (suc n) (drop (suc n) text)) (search_after search n (get_or text n d)).left ≡ wanted
passed_next text n d search wanted within is =
    goes_on search.start search.left n (drop (suc n) text) (is_line_feed (get_or text n d)) wanted
    (ap (λ rest. slice_get (search.start ∷ places_behind_line_feeds n rest) search.left) (sym (drop-cons text n d within)) ∙ is)

pub passed_more : (text : List ℕ) (n d : ℕ) (search : LineSearch) (wanted : Option ℕ) → n < length text
    → slice_get (search.start ∷ places_behind_line_feeds n (drop n text)) search.left ≡ wanted
    → slice_get ((search_after search n (get_or text n d)).start ∷ places_behind_line_feeds (n + 1) (drop (n + 1) text)) (search_after search n (get_or text n d)).left ≡ wanted
passed_more text n d search wanted within is =
    let one : n + 1 ≡ suc n = omega arith in
    let new : LineSearch = search_after search n (get_or text n d) in
    ap (λ k. slice_get (new.start ∷ places_behind_line_feeds k (drop k text)) new.left) one ∙ passed_next text n d search wanted within is
