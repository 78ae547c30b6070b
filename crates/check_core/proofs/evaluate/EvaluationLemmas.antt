-- What is kept is what the policy says of each term.
use Rattle.std.proofs.Common.{◌≡◌, ◌∙◌, ap, ℕ, List, Option}
use Rattle.spdx_terms.specs.declared.term.ExpressionReq.{ExpressionReq}
use Rattle.spdx_core.specs.declared.certificates.verdict.Hit.{Hit}
use Rattle.policy_core.specs.valid.Policy.{Policy}
use Rattle.check_core.specs.evaluate.Entries.{EntryFamilies}
use Rattle.check_core.specs.evaluate.Evaluation.{Evaluation, term_hits}

pub kept_is : (policy : Policy) (counted : List ℕ) (terms asked : List ExpressionReq) (kept : List (Option Hit)) → asked ≡ terms → kept ≡ term_hits policy counted asked → kept ≡ term_hits policy counted terms
kept_is policy counted terms asked kept is h = h ∙ ap (term_hits policy counted) is

-- ---- an evaluator as it was but for its hits

abbrev pub seen_as : ℕ → EntryFamilies → List (Option Hit) → ℕ → ℕ → Evaluation
seen_as nodes families hits hits_room answers_room = record { nodes = nodes; families = families; hits = hits; hits_room = hits_room; answers_room = answers_room }

pub with_hits : (old : Evaluation) (hits meant : List (Option Hit)) (hits_room answers_room : ℕ) → hits ≡ meant → hits_room ≡ old.hits_room → answers_room ≡ old.answers_room
    → seen_as old.nodes old.families hits hits_room answers_room ≡ record old { hits = meant }
with_hits old hits meant hits_room answers_room are room other =
    ap (λ (kept : List (Option Hit)). seen_as old.nodes old.families kept hits_room answers_room) are
    ∙ ap (λ (held : ℕ). seen_as old.nodes old.families meant held answers_room) room
    ∙ ap (λ (held : ℕ). seen_as old.nodes old.families meant old.hits_room held) other
