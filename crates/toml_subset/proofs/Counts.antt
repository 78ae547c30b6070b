-- What grouped digits count.
use Rattle.std.proofs.Common.{◌≡◌, ℕ, zero, suc, ◌+◌, ◌*◌, ◌<◌, ◌≤◌, Bool, true, false, if◌then◌else◌, eqb, List, [], ◌∷◌, get_or, length, drop, ◌^◌, ◌≢◌, drop-cons, ap, ◌∙◌, arith}
use Rattle.std.proofs.lemmas.Bool.Decides.{nat_tests}
use Rattle.toml_subset.specs.Bytes.{underscore}
use Rattle.toml_subset.specs.Numbers.{count, number_behind, digit_value}

-- a further digit makes no number less
pub shifted_least : (base high digit : ℕ) → 0 < base → high ≤ high * base + digit
shifted_least zero high digit some = absurd (omega arith)
shifted_least (suc base) high digit some = omega arith

kept_least : (b : Bool) (base high digit : ℕ) → 0 < base → high ≤ (if b then high else high * base + digit)
kept_least true base high digit some = omega arith
kept_least false base high digit some = shifted_least base high digit some

-- digits behind others make no number less
pub count_behind-least : (base high : ℕ) (s : List ℕ) → 0 < base → high ≤ number_behind base high s
count_behind-least base high [] some = omega arith
count_behind-least base high (c ∷ cs) some =
    let kept = kept_least (eqb c underscore) base high (digit_value c) some in
    let rest = count_behind-least base (if eqb c underscore then high else high * base + digit_value c) cs some in
    omega arith

-- where a digit's number is past a bound, so is the whole
pub count_past : (base total : ℕ) (run : List ℕ) (place : ℕ) → 0 < base → place < length run → get_or run place 0 ≢ 95
    → count base run ≡ number_behind base total (drop place run)
    → (total * base + digit_value (get_or run place 0) < 2 ^ 64 → ⊥) → count base run < 2 ^ 64 → ⊥
count_past base total run place some inside other same past small =
    let x = get_or run place 0 in
    let no : eqb x 95 ≡ false = grind (arith, nat_tests) in
    let rest = drop (suc place) run in
    let step : number_behind base total (x ∷ rest) ≡ number_behind base (total * base + digit_value x) rest =
    ap (λ (b : Bool). number_behind base (if b then total else total * base + digit_value x) rest) no in
    let all : count base run ≡ number_behind base (total * base + digit_value x) (drop (suc place) run) =
    same ∙ ap (number_behind base total) (drop-cons run place 0 inside) ∙ step in
    let least = count_behind-least base (total * base + digit_value x) (drop (suc place) run) some in
    past (omega arith)
