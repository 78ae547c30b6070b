-- The runs of a line, from the first one on.
use Rattle.std.proofs.Common.{◌≡◌, ◌∙◌, ℕ, suc, ◌+◌, ◌-◌, ◌<◌, Bool, true, false, ◌||◌, List, [], ◌∷◌, take, drop, filter, refl, ap, sym, length, arith}
use Rattle.std.proofs.Math.Numerals.{one-add}
use Rattle.std.proofs.Math.Seq.{drop-length}
use Rattle.std.proofs.lemmas.List.{length-drop}
use Rattle.std.specs.Char.{is_ascii_alphanumeric, is_ascii_digit, is_ascii_lowercase, is_ascii_uppercase}
use Rattle.std.specs.List.{slice_split, onto_first, position_or_len}
use Rattle.spdx_terms.specs.catalog.TextWords.{has_some, is_between, runs_of}

-- a small letter is a letter or a digit
pub small_letter : (byte : ℕ) → is_ascii_lowercase byte ≡ true → true ≡ is_ascii_alphanumeric byte
small_letter byte is = by (is_ascii_digit byte) (is_ascii_uppercase byte)
  where
    by : (a b : Bool) → true ≡ ((a || b) || is_ascii_lowercase byte)
    by true b = refl
    by false true = refl
    by false false = sym is

-- what is before the first letter or digit holds no run
skip_at : (x : ℕ) (xs : List ℕ) (b : Bool) → is_ascii_alphanumeric x ≡ b → runs_of xs ≡ runs_of (drop (position_or_len is_ascii_alphanumeric xs) xs) → runs_of (x ∷ xs) ≡ runs_of (drop (position_or_len is_ascii_alphanumeric (x ∷ xs)) (x ∷ xs))
skip_at x xs true e skipped = rw (e, e) refl
skip_at x xs false e skipped = rw e (skipped ∙ ap (λ n. runs_of (drop n (x ∷ xs))) (sym (one-add (position_or_len is_ascii_alphanumeric xs))))

pub runs_of-skip : (line : List ℕ) → runs_of line ≡ runs_of (drop (position_or_len is_ascii_alphanumeric line) line)
runs_of-skip [] = refl
runs_of-skip (x ∷ xs) = skip_at x xs (is_ascii_alphanumeric x) refl (runs_of-skip xs)

-- the parts of a line after its first one, without the empty ones, are the runs of what follows the first part
record SplitsFirst (line : List ℕ) : Type 0 where
  parts : List (List ℕ)
  split : slice_split is_between line ≡ take (position_or_len is_between line) line ∷ parts
  runs : filter has_some parts ≡ runs_of (drop (position_or_len is_between line) line)

splits_at : (x : ℕ) (xs : List ℕ) (b : Bool) → is_ascii_alphanumeric x ≡ b → SplitsFirst xs → SplitsFirst (x ∷ xs)
splits_at x xs true e rest =
    let n = position_or_len is_between xs in
    record {
      parts = rest.parts;
      split = rw e (ap (onto_first x) rest.split ∙ ap (λ k. take k (x ∷ xs) ∷ rest.parts) (sym (one-add n)));
      runs = rw e (rest.runs ∙ ap (λ k. runs_of (drop k (x ∷ xs))) (sym (one-add n)));
    }
splits_at x xs false e rest = record { parts = slice_split is_between xs; split = rw e refl; runs = rw (e, e) refl }

splits_first : (line : List ℕ) → SplitsFirst line
splits_first [] = record { parts = []; split = refl; runs = refl }
splits_first (x ∷ xs) = splits_at x xs (is_ascii_alphanumeric x) refl (splits_first xs)

run_at : (x : ℕ) (xs : List ℕ) → is_ascii_alphanumeric x ≡ true → SplitsFirst (x ∷ xs) → runs_of (x ∷ xs) ≡ take (position_or_len is_between (x ∷ xs)) (x ∷ xs) ∷ runs_of (drop (position_or_len is_between (x ∷ xs)) (x ∷ xs))
run_at x xs e splits =
    let n = position_or_len is_between xs in
    let len : position_or_len is_between (x ∷ xs) ≡ suc n = rw e (one-add n) in
    ap (filter has_some) (splits.split ∙ ap (λ k. take k (x ∷ xs) ∷ splits.parts) len)
    ∙ ap (λ runs. (x ∷ take n xs) ∷ runs) splits.runs
    ∙ ap (λ k. take k (x ∷ xs) ∷ runs_of (drop (position_or_len is_between (x ∷ xs)) (x ∷ xs))) (sym len)

starts_at : (x : ℕ) (xs : List ℕ) (b : Bool) → is_ascii_alphanumeric x ≡ b → position_or_len is_ascii_alphanumeric (x ∷ xs) ≡ 0 → is_ascii_alphanumeric x ≡ true
starts_at x xs true e starts = e
starts_at x xs false e starts = let h : position_or_len is_ascii_alphanumeric (x ∷ xs) ≡ 1 + position_or_len is_ascii_alphanumeric xs = rw e refl in absurd (omega (arith, h, starts))

-- a line that begins with a letter or a digit has its first run there
pub runs_of-run : (line : List ℕ) → position_or_len is_ascii_alphanumeric line ≡ 0 → 0 < length line → runs_of line ≡ take (position_or_len is_between line) line ∷ runs_of (drop (position_or_len is_between line) line)
runs_of-run [] starts some = absurd (omega (arith, some))
runs_of-run (x ∷ xs) starts some = run_at x xs (starts_at x xs (is_ascii_alphanumeric x) refl starts) (splits_first (x ∷ xs))

-- what is left where the first letter or digit is begins with it
starts_after : (x : ℕ) (xs : List ℕ) (b : Bool) → is_ascii_alphanumeric x ≡ b → position_or_len is_ascii_alphanumeric (drop (position_or_len is_ascii_alphanumeric xs) xs) ≡ 0 → position_or_len is_ascii_alphanumeric (drop (position_or_len is_ascii_alphanumeric (x ∷ xs)) (x ∷ xs)) ≡ 0
starts_after x xs true e rest = rw (e, e) refl
starts_after x xs false e rest = rw e (ap (λ n. position_or_len is_ascii_alphanumeric (drop n (x ∷ xs))) (one-add (position_or_len is_ascii_alphanumeric xs)) ∙ rest)

pub starts_there : (line : List ℕ) → position_or_len is_ascii_alphanumeric (drop (position_or_len is_ascii_alphanumeric line) line) ≡ 0
starts_there [] = refl
starts_there (x ∷ xs) = starts_after x xs (is_ascii_alphanumeric x) refl (starts_there xs)

-- a line with no letter and no digit has no run
pub no_runs : (line : List ℕ) → position_or_len is_ascii_alphanumeric line ≡ length line → runs_of line ≡ []
no_runs line none = runs_of-skip line ∙ ap (λ n. runs_of (drop n line)) none ∙ ap runs_of (drop-length line)

run_some_at : (x : ℕ) (xs : List ℕ) → is_ascii_alphanumeric x ≡ true → 0 < position_or_len is_between (x ∷ xs)
run_some_at x xs e = let len : position_or_len is_between (x ∷ xs) ≡ 1 + position_or_len is_between xs = rw e refl in omega (arith, len)

-- the first run has some byte
run_some : (line : List ℕ) → position_or_len is_ascii_alphanumeric line ≡ 0 → 0 < length line → 0 < position_or_len is_between line
run_some [] starts some = absurd (omega (arith, some))
run_some (x ∷ xs) starts some = run_some_at x xs (starts_at x xs (is_ascii_alphanumeric x) refl starts)

-- a line, from where its first run starts on, and that run
pub record IsCut (line left run rest : List ℕ) : Type 0 where
  pub some : position_or_len is_ascii_alphanumeric line < length line
  pub left_is : left ≡ drop (position_or_len is_ascii_alphanumeric line) line
  pub run_is : run ≡ take (position_or_len is_between left) left
  pub rest_is : rest ≡ drop (position_or_len is_between left) left

left_starts : (line left run rest : List ℕ) → IsCut line left run rest → position_or_len is_ascii_alphanumeric left ≡ 0
left_starts line left run rest cut = ap (position_or_len is_ascii_alphanumeric) cut.left_is ∙ starts_there line

left_some : (line left run rest : List ℕ) → IsCut line left run rest → length left ≡ length line - position_or_len is_ascii_alphanumeric line
left_some line left run rest cut = ap (λ (bytes : List ℕ). length bytes) cut.left_is ∙ length-drop (position_or_len is_ascii_alphanumeric line) line

pub first_run : (line left run rest : List ℕ) → IsCut line left run rest → runs_of line ≡ run ∷ runs_of rest
first_run line left run rest cut =
    runs_of-skip line
    ∙ ap runs_of (sym cut.left_is)
    ∙ runs_of-run left (left_starts line left run rest cut) (omega (arith, left_some line left run rest cut, cut.some))
    ∙ ap (λ (bytes : List ℕ). bytes ∷ runs_of (drop (position_or_len is_between left) left)) (sym cut.run_is)
    ∙ ap (λ (bytes : List ℕ). run ∷ runs_of bytes) (sym cut.rest_is)

pub rest_shorter : (line left run rest : List ℕ) → IsCut line left run rest → length rest < length line
rest_shorter line left run rest cut =
    let left_len = left_some line left run rest cut in
    let run_len : 0 < position_or_len is_between left = run_some left (left_starts line left run rest cut) (omega (arith, left_len, cut.some)) in
    let rest_len : length rest ≡ length left - position_or_len is_between left = ap (λ (bytes : List ℕ). length bytes) cut.rest_is ∙ length-drop (position_or_len is_between left) left in
    omega (arith, left_len, run_len, rest_len, cut.some)
