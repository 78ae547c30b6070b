-- Number runs in a text.
use Rattle.std.proofs.Common.{◌≡◌, ℕ, ◌+◌, ◌-◌, ◌<◌, ◌⊎◌, inl, inr, ⊎_elim, Bool, true, false, cond, ◌||◌, List, [], ◌∷◌, take, drop, Ok, Err, true≢false, refl, ap, sym, ◌∙◌, arith}
use Rattle.std.proofs.lemmas.Bool.Decides.{nat_tests}
use Rattle.std.specs.List.{prefix_len}
use Rattle.toml_subset.specs.Bytes.{is_run, begins_run}
use Rattle.toml_subset.specs.Answer.{fault_at}
use Rattle.toml_subset.specs.Classes.{class_answer, number_found}
use Rattle.toml_subset.specs.Faults.{begins_number}
use Rattle.toml_subset.specs.Numbers.{Class, unsupported, number_form, number_range, integer, decimal, class_of, is_special, is_unsupported, form_of, begins_date}
use Rattle.toml_subset.specs.Places.{front_is, passes_at, run_end, run_at}
use Rattle.toml_subset.specs.Reading.{number_read}
use Rattle.toml_subset.specs.declared.error.SyntaxReason.{SyntaxReason}
use Rattle.toml_subset.specs.declared.error.SyntaxReason.TheVariants.{Unsupported, NumberForm, NumberRange}
use Rattle.toml_subset.specs.declared.number.Number.{Number}
use Rattle.toml_subset.specs.declared.number.Number.TheVariants.{Integer, Decimal}

or_cases : (a b : Bool) → (a || b) ≡ true → (a ≡ true) ⊎ (b ≡ true)
or_cases true b h = inl refl
or_cases false b h = inr h

or_right : (a b : Bool) → b ≡ true → (a || b) ≡ true
or_right true b h = refl
or_right false b h = h

pub or_left : (a b : Bool) → a ≡ true → (a || b) ≡ true
or_left a b h = ap (λ x. x || b) h

-- what a number begins with belongs to its run
begins_in_run : (c : ℕ) → begins_run c ≡ true → is_run c ≡ true
begins_in_run c h = grind (arith, nat_tests)

begins_front : (s : List ℕ) → (front_is begins_run s || is_special (take (prefix_len is_run s) s)) ≡ true → 0 < prefix_len is_run s
begins_front [] h = absurd (true≢false (sym h))
begins_front (c ∷ cs) h =
    elim (is_run c) as (λ r. is_run c ≡ r → (begins_run c || is_special (take (cond r (1 + prefix_len is_run cs) 0) (c ∷ cs))) ≡ true
    → 0 < cond r (1 + prefix_len is_run cs) 0) [
      | true ↦ λ is all. omega arith
      | false ↦ λ is all. ⊎_elim (λ yes. absurd (true≢false (sym (begins_in_run c yes) ∙ is))) (λ no. absurd (true≢false (sym no))) (or_cases (begins_run c) false all)
    ] refl h

-- a number run is not empty
pub begins_some : (text : List ℕ) (i : ℕ) → begins_number text i ≡ true → i < run_end is_run text i
begins_some text i h = let some = begins_front (drop i text) h in omega arith

-- the slice from a run's start to its end is the run
pub run_slice : (text : List ℕ) (i end : ℕ) → end ≡ run_end is_run text i → take (end - i) (drop i text) ≡ run_at is_run text i
run_slice text i end e = let size : end - i ≡ prefix_len is_run (drop i text) = omega (arith, e) in ap (λ n. take n (drop i text)) size

special_unsupported : (run : List ℕ) → is_special run ≡ true → class_of run ≡ unsupported
special_unsupported run h =
    let yes : is_unsupported run ≡ true = or_left _ _ (or_left _ _ (or_right (begins_date run) _ h)) in
    ap (λ b. cond b unsupported (form_of run)) yes

-- a run with a value begins with a digit or a sign
pub begins_read : (text : List ℕ) (i : ℕ) → begins_number text i ≡ true → (class_of (run_at is_run text i) ≡ unsupported → ⊥) → passes_at begins_run text i ≡ true
begins_read text i h read =
    ⊎_elim (λ here. here) (λ special. absurd (read (special_unsupported (run_at is_run text i) special))) (or_cases _ _ h)

pub class_read : (text : List ℕ) (i : ℕ) (class : Class) (number : Number) → class_answer class ≡ Ok number
    → number_read text i class ≡ Ok (number_found i (number, run_end is_run text i))
class_read text i unsupported number e = absurd (cc)
class_read text i number_form number e = absurd (cc)
class_read text i number_range number e = absurd (cc)
class_read text i (integer z) number e = let same : Integer z ≡ number = cc in ap (λ (n : Number). Ok (number_found i (n, run_end is_run text i))) same
class_read text i (decimal z) number e = let same : Decimal z ≡ number = cc in ap (λ (n : Number). Ok (number_found i (n, run_end is_run text i))) same

pub class_refused : (text : List ℕ) (i : ℕ) (class : Class) (reason : SyntaxReason) → class_answer class ≡ Err reason
    → number_read text i class ≡ Err (fault_at reason i (run_end is_run text i))
class_refused text i unsupported reason e = let same : Unsupported ≡ reason = cc in ap (λ x. Err (fault_at x i (run_end is_run text i))) same
class_refused text i number_form reason e = let same : NumberForm ≡ reason = cc in ap (λ x. Err (fault_at x i (run_end is_run text i))) same
class_refused text i number_range reason e = let same : NumberRange ≡ reason = cc in ap (λ x. Err (fault_at x i (run_end is_run text i))) same
class_refused text i (integer z) reason e = absurd (cc)
class_refused text i (decimal z) reason e = absurd (cc)
