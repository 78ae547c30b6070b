-- What shows a verdict on an expression, where a list keeps what was found for each of its terms: a hit or none.
use Rattle.std.specs.Prelude.{◌≡◌, ℕ, Bool, false, List, map, Option, Some, is_some, Result, Ok, Err, slice_get, All}
use Rattle.std.specs.Option.{option_and_then}
use Rattle.std.specs.declared.alloc.AllocError.{AllocError}
use Rattle.spdx_core.specs.Grammar.{ExpressionTree}
use Rattle.spdx_core.specs.declared.certificates.verdict.Hit.{Hit}
use Rattle.spdx_core.specs.declared.certificates.verdict.Verdict.{Verdict}
use Rattle.spdx_core.specs.declared.certificates.verdict.Verdict.TheVariants.{Skipped, Unlicensed, Accepted, Rejected}
use Rattle.spdx_core.specs.certificates.Choices.{choices_of, is_accepted, first_choice, least_choice, blocks_of}
use Rattle.spdx_core.specs.certificates.Choices.{IsFirstLeast, MeetEach, EachAlone}

-- the hit of a place; there is none behind the end of the list
abbrev pub hit_at : List (Option Hit) → ℕ → Option Hit
hit_at kept place = option_and_then (λ hit. hit) (slice_get kept place)

abbrev pub has_hit : List (Option Hit) → ℕ → Bool
has_hit kept place = is_some (hit_at kept place)

-- what shows that a tree is accepted: its first choice with a hit at each place, and these hits in the same order
pub record ShowsAccepted (kept : List (Option Hit)) (tree : ExpressionTree) (choice : List ℕ)
    (hits : List Hit) : Type 0 where
  pub first : first_choice (has_hit kept) tree ≡ Some choice
  pub place_by_place : map Some hits ≡ map (hit_at kept) choice

-- What shows that a tree is rejected: places without a hit, of which every choice holds one. Each of them is needed,
-- since some choice holds no other one. The least choice says how near the tree comes to being accepted.
pub record ShowsRejected (kept : List (Option Hit)) (tree : ExpressionTree) (least blocks : List ℕ) : Type 0 where
  pub not_accepted : is_accepted (has_hit kept) tree ≡ false
  pub least_is : least_choice (has_hit kept) tree ≡ Some least
  pub first_least : IsFirstLeast (has_hit kept) (choices_of tree) least
  pub blocks_are : blocks ≡ blocks_of (has_hit kept) tree
  pub without_hit : All (λ place. has_hit kept place ≡ false) blocks
  pub meet_each : MeetEach blocks (choices_of tree)
  pub each_alone : EachAlone blocks (choices_of tree)

-- a tree is accepted exactly where some choice has a hit at each of its places; want of memory is free
abbrev pub CertificateAnswers : List (Option Hit) → ExpressionTree → Result Verdict AllocError → Type 0
CertificateAnswers kept tree (Ok (Accepted choice hits)) = ShowsAccepted kept tree choice hits
CertificateAnswers kept tree (Ok (Rejected least blocks)) = ShowsRejected kept tree least blocks
CertificateAnswers kept tree (Ok Skipped) = ⊥
CertificateAnswers kept tree (Ok Unlicensed) = ⊥
CertificateAnswers kept tree (Err error) = Unit {0}
