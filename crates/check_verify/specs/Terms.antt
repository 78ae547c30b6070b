-- Whether recorded places and entries are right about the terms of an expression.
use Rattle.std.specs.Prelude.{ℕ, ◌==◌, Bool, false, true, ◌&&◌, List, [], ◌∷◌, slice_get, is_some, replicate}
use Rattle.std.specs.Prelude.{set}
use Rattle.std.specs.List.{list_any, list_all}
use Rattle.std.specs.Option.{option_map_or}
use Rattle.std.specs.Str.{bytes_eq}
use Rattle.spdx_terms.specs.declared.term.ExpressionReq.{ExpressionReq}
use Rattle.spdx_terms.specs.declared.term.LicenseReq.{LicenseReq}
use Rattle.spdx_core.specs.Grammar.{ExpressionTree}
use Rattle.spdx_core.specs.declared.certificates.verdict.Hit.{Hit}
use Rattle.spdx_core.specs.declared.certificates.verdict.Hit.TheVariants.{Allowed, Exception}
use Rattle.spdx_core.specs.certificates.Choices.{choices_of}
use Rattle.policy_core.specs.valid.Policy.{Policy, granted_licensees, hit_of}
use Rattle.policy_core.specs.valid.Satisfied.{satisfies}
use Rattle.check_core.specs.evaluate.Entries.{entries_of}

-- a number is in a list
abbrev pub is_among : List ℕ → ℕ → Bool
is_among numbers number = list_any (λ other. other == number) numbers

-- some places are a way to satisfy a tree
abbrev pub is_choice : ExpressionTree → List ℕ → Bool
is_choice tree places = list_any (λ choice. bytes_eq choice places) (choices_of tree)

-- every way to satisfy a tree holds one of some places
abbrev pub meet_each : ExpressionTree → List ℕ → Bool
meet_each tree places = list_all (λ choice. list_any (is_among places) choice) (choices_of tree)

-- ---- entries

-- the entry at a place satisfies a term; behind the end of the list there is none
abbrev pub satisfies_at : List LicenseReq → ℕ → LicenseReq → Bool
satisfies_at licensees entry term =
    option_map_or (λ licensee. satisfies licensee term) (slice_get licensees entry) false

-- a hit is an allowed licensee, or one of an exception that counts, and it satisfies a term
abbrev pub is_allowed_by : Policy → List ℕ → LicenseReq → Hit → Bool
is_allowed_by policy counted term (Allowed entry) = satisfies_at policy.allowed entry term
is_allowed_by policy counted term (Exception exception entry) =
    is_among counted exception && satisfies_at (granted_licensees policy.exceptions exception) entry term

-- each hit allows the term at its place
abbrev pub are_allowed : Policy → List ℕ → List ExpressionReq → List ℕ → List Hit → Bool
are_allowed policy counted terms [] [] = true
are_allowed policy counted terms [] (hit ∷ hits) = false
are_allowed policy counted terms (place ∷ places) [] = false
are_allowed policy counted terms (place ∷ places) (hit ∷ hits) =
    option_map_or (λ (term : ExpressionReq). is_allowed_by policy counted term.req hit) (slice_get terms place) false
    && are_allowed policy counted terms places hits

-- a place is outside an expression, or its term has a hit
abbrev pub hit_or_none_by : Policy → List ℕ → List ExpressionReq → ℕ → Bool
hit_or_none_by policy counted terms place =
    option_map_or (λ (term : ExpressionReq). is_some (hit_of policy counted term.req)) (slice_get terms place) true

-- How many entries are asked at most for the term at a place: those of its licence family in each exception that counts
-- and in what is allowed. For a place outside of the expression it is none.
abbrev pub entries_at : Policy → List ℕ → List ExpressionReq → ℕ → ℕ
entries_at policy counted terms place =
    option_map_or (λ (term : ExpressionReq). entries_of policy counted term.req) (slice_get terms place) 0

-- ---- lists with something at some places. Only the contracts of private calls cite these.

abbrev pub copies_of : {A : Type 0} → ℕ → A → List A
copies_of count item = replicate count item

abbrev pub kept_at : {A : Type 0} → List A → List ℕ → A → List A
kept_at items [] item = items
kept_at items (place ∷ places) item = kept_at (set items place item) places item
