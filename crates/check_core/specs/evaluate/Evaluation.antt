-- What is found for the terms of a crate's expression under a policy, and whether they are enough.
use Rattle.std.specs.Prelude.{ℕ, Bool, List, map, Option}
use Rattle.spdx_terms.specs.declared.term.ExpressionReq.{ExpressionReq}
use Rattle.spdx_core.specs.Grammar.{ExpressionTree}
use Rattle.spdx_core.specs.declared.certificates.verdict.Hit.{Hit}
use Rattle.spdx_core.specs.certificates.Certificates.{has_hit}
use Rattle.spdx_core.specs.certificates.Choices.{is_accepted}
use Rattle.policy_core.specs.valid.Policy.{Policy, hit_of}
use Rattle.check_core.specs.evaluate.Entries.{EntryFamilies}

-- the hit of each term, or none, in text order, by the places of the exceptions that count for the crate
abbrev pub term_hits : Policy → List ℕ → List ExpressionReq → List (Option Hit)
term_hits policy counted terms = map (λ term. hit_of policy counted term.req) terms

-- some choice of the tree has a hit at each of its places
abbrev pub is_allowed : Policy → List ℕ → List ExpressionReq → ExpressionTree → Bool
is_allowed policy counted terms tree = is_accepted (has_hit (term_hits policy counted terms)) tree

-- An evaluator: for how many nodes it has room, the families of the entries that it was made for, list by list, the
-- hits that it keeps, and how many hits and answers the memory of its two lists holds.
pub record Evaluation : Type 0 where
  pub nodes : ℕ
  pub families : EntryFamilies
  pub hits : List (Option Hit)
  pub hits_room : ℕ
  pub answers_room : ℕ
