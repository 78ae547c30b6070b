-- Flags are set just at the places of hits.
use Rattle.std.proofs.Common.{◌≡◌, ◌∙◌, refl, sym, ap, ℕ, ◌+◌, ◌<◌, ◌≢◌, Bool, true, false, ◌||◌, eqb, List, [], ◌∷◌, ◌++◌, length, get_or, set, replicate, Option, Some, None, append-nil, append_assoc, arith}
use Rattle.std.specs.List.{fold}
use Rattle.std.proofs.lemmas.Bool.{eqb-true, eqb-false}
use Rattle.std.proofs.lemmas.List.{get_or-replicate, get_or-set_other, get_or-set_same, length-replicate, length-set}
use Rattle.std.proofs.lemmas.List.Folds.{list_any-append}
use Rattle.std.proofs.lemmas.List.FromFn.{fill_by_all, get_or-map-range_with_len, length-map-range_with_len}
use Rattle.spdx_core.specs.declared.certificates.verdict.Hit.{Hit}
use Rattle.spdx_core.specs.declared.certificates.verdict.Hit.TheVariants.{Allowed, Exception}
use Rattle.policy_core.specs.declared.valid.policy.ValidConfig.{ValidConfig}
use Rattle.check_core.specs.unused.Flags.{Flags, flag_at, flags_by, flags_of, flags_with_hit, marked_by, no_flags}
use Rattle.check_core.specs.unused.Unused.{allows, excepts, hits_in, is_exception_hit, is_license_hit}

or_true : (b : Bool) → (b || true) ≡ true
or_true true = refl
or_true false = refl

or_false : (b : Bool) → (b || false) ≡ b
or_false true = refl
or_false false = refl

same_or_not : (p k : ℕ) → eqb p k ≡ false → k ≢ p
same_or_not p k apart same = eqb-false p k apart (sym same)

-- none is set
pub unset_is : (count : ℕ) → replicate count false ≡ no_flags count
unset_is count =
    fill_by_all (λ place. false) (replicate count false) count false (length-replicate count false) (λ k below. get_or-replicate count k false false below)

-- ---- one more hit

set_by : (test : ℕ → Bool) (n p k : ℕ) → k < n → (same : Bool) → eqb p k ≡ same → get_or (set (flags_of n test) p true) k false ≡ (test k || (same || false))
set_by test n p k below true same =
    let is : p ≡ k = eqb-true p k same in
    let long : length (flags_of n test) ≡ n = length-map-range_with_len test 0 n in
    let inside : k < length (flags_of n test) = omega arith in
    ap (λ (j : ℕ). get_or (set (flags_of n test) j true) k false) is ∙ get_or-set_same (flags_of n test) k true false inside ∙ sym (or_true (test k))
set_by test n p k below false apart =
    let at : 0 + k ≡ k = omega arith in
    get_or-set_other (flags_of n test) p k true false (same_or_not p k apart) ∙ get_or-map-range_with_len test 0 n k k false below at ∙ sym (or_false (test k))

set_is : (test : ℕ → Bool) (n p : ℕ) → set (flags_of n test) p true ≡ flags_of n (λ k. test k || (eqb p k || false))
set_is test n p =
    fill_by_all (λ k. test k || (eqb p k || false)) (set (flags_of n test) p true) n false (length-set (flags_of n test) p true ∙ length-map-range_with_len test 0 n)
    (λ k below. set_by test n p k below (eqb p k) refl)

same_flags : (n : ℕ) (f g : ℕ → Bool) → ((k : ℕ) → f k ≡ g k) → flags_of n f ≡ flags_of n g
same_flags n f g same =
    fill_by_all g (flags_of n f) n false (length-map-range_with_len f 0 n)
    (λ k below. let at : 0 + k ≡ k = omega arith in get_or-map-range_with_len f 0 n k k false below at ∙ same k)

licenses_more : (n : ℕ) (hits : List Hit) (p : ℕ) → set (flags_of n (is_license_hit hits)) p true ≡ flags_of n (is_license_hit (hits ++ Allowed p ∷ []))
licenses_more n hits p =
    set_is (is_license_hit hits) n p ∙ same_flags n (λ k. is_license_hit hits k || (eqb p k || false)) (is_license_hit (hits ++ Allowed p ∷ []))
    (λ k. sym (list_any-append (allows k) hits (Allowed p ∷ [])))

licenses_same : (n : ℕ) (hits : List Hit) (p entry : ℕ) → flags_of n (is_license_hit hits) ≡ flags_of n (is_license_hit (hits ++ Exception p entry ∷ []))
licenses_same n hits p entry =
    same_flags n (is_license_hit hits) (is_license_hit (hits ++ Exception p entry ∷ []))
    (λ k. sym (list_any-append (allows k) hits (Exception p entry ∷ []) ∙ or_false (is_license_hit hits k)))

exceptions_more : (n : ℕ) (hits : List Hit) (p entry : ℕ) → set (flags_of n (is_exception_hit hits)) p true ≡ flags_of n (is_exception_hit (hits ++ Exception p entry ∷ []))
exceptions_more n hits p entry =
    set_is (is_exception_hit hits) n p ∙ same_flags n (λ k. is_exception_hit hits k || (eqb p k || false)) (is_exception_hit (hits ++ Exception p entry ∷ []))
    (λ k. sym (list_any-append (excepts k) hits (Exception p entry ∷ [])))

exceptions_same : (n : ℕ) (hits : List Hit) (p : ℕ) → flags_of n (is_exception_hit hits) ≡ flags_of n (is_exception_hit (hits ++ Allowed p ∷ []))
exceptions_same n hits p =
    same_flags n (is_exception_hit hits) (is_exception_hit (hits ++ Allowed p ∷ []))
    (λ k. sym (list_any-append (excepts k) hits (Allowed p ∷ []) ∙ or_false (is_exception_hit hits k)))

flags_more : (policy : ValidConfig) (hits : List Hit) (hit : Hit) → flags_with_hit (flags_by policy hits) hit ≡ flags_by policy (hits ++ hit ∷ [])
flags_more policy hits (Allowed entry) =
    ap (λ (flags : List Bool). record { allowed = flags; exceptions = flags_of (length policy.exceptions) (is_exception_hit hits) })
    (licenses_more (length policy.allowed) hits entry)
    ∙ ap (λ (flags : List Bool). record { allowed = flags_of (length policy.allowed) (is_license_hit (hits ++ Allowed entry ∷ [])); exceptions = flags })
    (exceptions_same (length policy.exceptions) hits entry)
flags_more policy hits (Exception exception entry) =
    ap (λ (flags : List Bool). record { allowed = flags; exceptions = set (flags_of (length policy.exceptions) (is_exception_hit hits)) exception true })
    (licenses_same (length policy.allowed) hits exception entry)
    ∙ ap (λ (flags : List Bool). record { allowed = flags_of (length policy.allowed) (is_license_hit (hits ++ Exception exception entry ∷ [])); exceptions = flags })
    (exceptions_more (length policy.exceptions) hits exception entry)

-- ---- the hits of one more expression

each_more : (policy : ValidConfig) (before : List Hit) (found : List (Option Hit)) → fold marked_by (flags_by policy before) found ≡ flags_by policy (before ++ hits_in found)
each_more policy before [] = ap (flags_by policy) (sym (append-nil before))
each_more policy before (None ∷ found) = each_more policy before found
each_more policy before (Some hit ∷ found) =
    ap (λ (flags : Flags). fold marked_by flags found) (flags_more policy before hit) ∙ each_more policy (before ++ hit ∷ []) found
    ∙ ap (flags_by policy) (append_assoc before (hit ∷ []) (hits_in found))

pub all_more : (policy : ValidConfig) (before : List Hit) (old new : Flags) (found : List (Option Hit)) → new ≡ fold marked_by old found → old ≡ flags_by policy before
    → new ≡ flags_by policy (before ++ hits_in found)
all_more policy before old new found marks is = marks ∙ ap (λ (flags : Flags). fold marked_by flags found) is ∙ each_more policy before found

-- ---- flags that are read

pub flag_is : (n : ℕ) (test : ℕ → Bool) (k : ℕ) → k < n → flag_at (flags_of n test) k ≡ test k
flag_is n test k below = let at : 0 + k ≡ k = omega arith in get_or-map-range_with_len test 0 n k k false below at
