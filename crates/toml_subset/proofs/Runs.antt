-- What is behind a run, and in it.
use Rattle.std.proofs.Common.{◌≡◌, ℕ, ◌+◌, ◌-◌, ◌<◌, ◌≤◌, Bool, true, false, List, length, get_or, drop, arith, length-drop, zero, suc, [], ◌∷◌, not, true≢false, sym}
use Rattle.std.proofs.lemmas.List.{get_or-drop}
use Rattle.std.proofs.lemmas.List.Sums.{prefix_len_stops, prefix_len_passes}
use Rattle.std.proofs.lemmas.Bool.Decides.{nat_tests}
use Rattle.deny_text.specs.Character.{goes_on}
use Rattle.toml_subset.specs.Bytes.{may_stand}
use Rattle.toml_subset.specs.Places.{run_end, passes_at}

-- the byte behind a run does not belong to it
pub run_end_stops : (p : ℕ → Bool) (text : List ℕ) (i : ℕ) → i ≤ length text → run_end p text i < length text → p (get_or text (run_end p text i) 0) ≡ false
run_end_stops p text i inside ends =
    let stops = prefix_len_stops p (drop i text) 0 (omega (arith, length-drop i text)) in
    rw get_or-drop at stops

-- each byte in a run belongs to it
pub run_end_passes : (p : ℕ → Bool) (text : List ℕ) (i k : ℕ) → i ≤ k → k < run_end p text i → p (get_or text k 0) ≡ true
run_end_passes p text i k from before =
    let passes = rw get_or-drop at (prefix_len_passes p (drop i text) (k - i) 0 (omega arith)) in
    let same : i + (k - i) ≡ k = omega arith in
    rw same at passes

-- a byte that goes on with no character begins one, or is one
pub begins_character : (c : ℕ) → goes_on c ≡ false → 128 ≤ c → 192 ≤ c
begins_character c other high = grind (arith, nat_tests)

-- what is at a place is the byte there
pub byte_passes : (p : ℕ → Bool) (text : List ℕ) (i : ℕ) → passes_at p text i ≡ true → (i < length text) × (p (get_or text i 0) ≡ true)
byte_passes p [] zero h = absurd (true≢false (sym h))
byte_passes p [] (suc i) h = absurd (true≢false (sym h))
byte_passes p (x ∷ xs) zero h = (omega arith, h)
byte_passes p (x ∷ xs) (suc i) h = let rest = byte_passes p xs i h in (omega (arith, rest.0), rest.1)

-- a control character is ASCII
pub control_ascii : (c : ℕ) → not (may_stand c) ≡ true → c < 128
control_ascii c h = grind (arith, nat_tests)
