-- Counts before the blocks of a list.
use Rattle.std.proofs.Common.{◌≡◌, ℕ, zero, suc, ◌+◌, ◌-◌, ◌*◌, ◌/◌, ◌<◌, ◌≤◌, Bool, true, false, ◌==◌, eqb-true, cond, List, [], ◌∷◌, ◌++◌, length, get_or, take, drop, take-append-drop, length-take, refl, sym, ap, ap₂, ◌∙◌, arith}
use Rattle.std.specs.List.{count_by, slice_range}
use Rattle.std.specs.Simd.{first_chunks}
use Rattle.std.proofs.lemmas.List.{drop-drop, get_or_append_left, get_or_push}
use Rattle.std.proofs.lemmas.Bool.{eqb-false}
use Rattle.std.proofs.lemmas.List.Sums.{sum_by-append}

take_past : (front rest : List ℕ) (n : ℕ) → take (length front + n) (front ++ rest) ≡ front ++ take n rest
take_past [] rest n = ap (λ k. take k rest) {x = 0 + n} {y = n} (omega arith)
take_past (x ∷ front) rest n =
    ap (λ k. take k (x ∷ (front ++ rest))) {x = suc (length front) + n} {y = suc (length front + n)} (omega arith) ∙ ap (λ l. x ∷ l) (take_past front rest n)

-- what is before a place is what is before an earlier one, and what is between them
take_split : (xs : List ℕ) (low high : ℕ) → low ≤ high → high ≤ length xs → take high xs ≡ take low xs ++ slice_range xs low high
take_split xs low high order within =
    let long : length (take low xs) ≡ low = omega (arith, length-take low xs) in
    ap (take high) (sym (take-append-drop low xs))
    ∙ ap (λ k. take k (take low xs ++ drop low xs)) {x = high} {y = length (take low xs) + (high - low)} (omega (arith, long))
    ∙ take_past (take low xs) (drop low xs) (high - low)

pub count_split : (q : ℕ → Bool) (xs : List ℕ) (low high : ℕ) → low ≤ high → high ≤ length xs → count_by q (take high xs) ≡ count_by q (take low xs) + count_by q (slice_range xs low high)
count_split q xs low high order within = ap (count_by q) (take_split xs low high order within) ∙ sum_by-append (λ x. cond (q x) 1 0) (take low xs) (slice_range xs low high)

-- one chunk
chunk_at : (n k : ℕ) (xs : List ℕ) (i : ℕ) (d : List ℕ) → i < k → get_or (first_chunks n k xs) i d ≡ take n (drop (i * n) xs)
chunk_at n zero xs i d within = absurd (omega arith)
chunk_at n (suc k) xs zero d within = ap (λ m. take n (drop m xs)) {x = 0} {y = 0 * n} (omega arith)
chunk_at n (suc k) xs (suc i) d within =
    let over : n + i * n ≡ suc i * n = omega arith in
    chunk_at n k (drop n xs) i d (omega arith) ∙ ap (take n) (drop-drop (i * n) n xs ∙ ap (λ m. drop m xs) over)

pub count_chunk : (q : ℕ → Bool) (xs : List ℕ) (i : ℕ) (d : List ℕ) → i < length xs / 256
    → count_by q (take ((i + 1) * 256) xs) ≡ count_by q (take (i * 256) xs) + count_by q (get_or (first_chunks 256 (length xs / 256) xs) i d)
count_chunk q xs i d within =
    let between : (i + 1) * 256 - i * 256 ≡ 256 = omega arith in
    count_split q xs (i * 256) ((i + 1) * 256) (omega arith) (omega arith)
    ∙ ap (λ part. count_by q (take (i * 256) xs) + count_by q part) (ap (λ n. take n (drop (i * 256) xs)) between ∙ sym (chunk_at 256 (length xs / 256) xs i d within))

-- the counts with one more
pub each_more : (counts : List ℕ) (i count : ℕ) (want : ℕ → ℕ) → length counts ≡ i + 1 → ((k : ℕ) → k ≤ i → get_or counts k 0 ≡ want k) → count ≡ want (i + 1) → (k : ℕ) → k ≤ i + 1 → get_or (counts ++ count ∷ []) k 0 ≡ want k
each_more counts i count want long each last k within = by_place (k == (i + 1)) refl
  where
    by_place : (b : Bool) → (k == (i + 1)) ≡ b → get_or (counts ++ count ∷ []) k 0 ≡ want k
    by_place true e = get_or_push counts count 0 k (omega (arith, long, eqb-true k (i + 1) e)) ∙ last ∙ ap want (sym (eqb-true k (i + 1) e))
    by_place false e =
        let early : k ≤ i = omega (arith, eqb-false k (i + 1) e) in
        get_or_append_left counts (count ∷ []) 0 k (omega arith) ∙ each k early

-- the count before one more chunk
pub count_more : (q : ℕ → Bool) (text : List ℕ) (chunks : List (List ℕ)) (i count more : ℕ) (d : List ℕ) → chunks ≡ first_chunks 256 (length text / 256) text → i < length text / 256
    → count ≡ count_by q (take (i * 256) text) → more ≡ count_by q (get_or chunks i d) → count + more ≡ count_by q (take ((i + 1) * 256) text)
count_more q text chunks i count more d are within before here =
    ap₂ (λ a b. a + b) before (here ∙ ap (λ cs. count_by q (get_or cs i d)) are) ∙ sym (count_chunk q text i d within)
