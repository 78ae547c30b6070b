-- Checks that are reported one after another.
use Rattle.std.proofs.Common.{◌≡◌, ◌∙◌, refl, ap, List, [], ◌∷◌, ◌++◌, append_assoc, flat_map}
use Rattle.json.specs.Token.{end_object}
use Rattle.json.specs.Tree.{members_tokens}
use Rattle.serde_json.specs.Written.{members_outline}
use Rattle.diag_stats.specs.declared.checks.CheckStats.{CheckStats}
use Rattle.diag_stats.specs.Json.{check_tokens, checks_members}

-- members, one behind the other, and the closing brace
pub members_written : (checks : List CheckStats) → flat_map check_tokens checks ++ end_object ∷ [] ≡ members_tokens (members_outline (checks_members checks))
members_written [] = refl
members_written (one ∷ checks) = append_assoc (check_tokens one) (flat_map check_tokens checks) (end_object ∷ []) ∙ ap (λ tokens. check_tokens one ++ tokens) (members_written checks)
