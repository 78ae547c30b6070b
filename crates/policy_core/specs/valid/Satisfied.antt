-- Whether a licensee of a policy is content with a term, as a test that computes. It holds exactly where `Satisfies`
-- does.
use Rattle.std.specs.Prelude.{ℕ, ◌==◌, nat_lt, Bool, true, false, not, ◌&&◌, ◌||◌, List, Option, Some, None, bytes_eq}
use Rattle.spdx_terms.specs.declared.term.LicenseItem.{LicenseItem}
use Rattle.spdx_terms.specs.declared.term.LicenseItem.TheVariants.{Spdx, Reference}
use Rattle.spdx_terms.specs.declared.term.LicenseReq.{LicenseReq}

abbrev pub same_text : Option (List ℕ) → Option (List ℕ) → Bool
same_text None None = true
same_text None (Some other) = false
same_text (Some one) None = false
same_text (Some one) (Some other) = bytes_eq one other

-- the same version, unless the licensee alone takes later ones, or a later one that the term takes
abbrev pub version_satisfies : ℕ → Bool → ℕ → Bool → Bool
version_satisfies rank later term_rank term_later =
    (rank == term_rank && (not later || term_later)) || (term_later && nat_lt term_rank rank)

abbrev pub item_satisfies : LicenseItem → LicenseItem → Bool
item_satisfies (Spdx name family rank later plus) (Spdx term_name term_family term_rank term_later term_plus) =
    family == term_family && version_satisfies rank later term_rank term_later
item_satisfies (Spdx name family rank later plus) (Reference doc id) = false
item_satisfies (Reference doc id) (Spdx name family rank later plus) = false
item_satisfies (Reference doc id) (Reference term_doc term_id) = same_text doc term_doc && bytes_eq id term_id

abbrev pub satisfies : LicenseReq → LicenseReq → Bool
satisfies licensee term = same_text licensee.exception term.exception && item_satisfies licensee.item term.item
