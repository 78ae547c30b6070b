-- A row of entries, worked out by hand from the rules.
use Rattle.std.specs.Prelude.{ℕ, false, List, [], ◌∷◌, codes, None}
use Rattle.spdx_terms.specs.declared.term.ExpressionReq.{ExpressionReq}
use Rattle.spdx_terms.specs.declared.term.LicenseItem.TheVariants.{Spdx}
use Rattle.spdx_terms.specs.declared.term.LicenseReq.{LicenseReq}
use Rattle.policy_core.specs.valid.Rows.{grant, mit, policy}
use Rattle.check_core.specs.evaluate.Entries.{entries_of_terms}

abbrev gnu : List ℕ → ℕ → LicenseReq
gnu name rank = record { item = Spdx name 5 rank false false; exception = None }

abbrev gpl3_term : ExpressionReq
gpl3_term = record { req = gnu (codes "GPL-3.0-only") 30; span = record { start = 0; end = 12 } }

-- How many entries are asked at most for `GPL-3.0-only`, where one of its family is allowed, and two exceptions count
-- that have one of it each.
abbrev pub entries_asked : ℕ
entries_asked =
    entries_of_terms
    (policy (gnu (codes "GPL-1.0-only") 10 ∷ [])
    (grant (codes "a") (gnu (codes "GPL-2.0-only") 20 ∷ mit ∷ [])
    ∷ grant (codes "a") (gnu (codes "GPL-3.0-only") 30 ∷ [])
    ∷ []))
    (0 ∷ 1 ∷ []) (gpl3_term ∷ [])
