-- When a licensee of a policy is content with a term of an expression.
use Rattle.std.specs.Prelude.{◌≡◌, ℕ, ◌<◌, ◌⊎◌, Bool, IsTrue}
use Rattle.spdx_terms.specs.declared.term.LicenseItem.{LicenseItem}
use Rattle.spdx_terms.specs.declared.term.LicenseItem.TheVariants.{Spdx, Reference}
use Rattle.spdx_terms.specs.declared.term.LicenseReq.{LicenseReq}

-- both are this version, and the licensee takes no later ones unless the term does
pub record IsSameVersion (rank : ℕ) (later : Bool) (term_rank : ℕ) (term_later : Bool) : Type 0 where
  pub same : rank ≡ term_rank
  pub none_later : IsTrue later → IsTrue term_later

-- the term takes later versions, and the licensee is one
pub record IsLaterVersion (rank term_rank : ℕ) (term_later : Bool) : Type 0 where
  pub later : IsTrue term_later
  pub above : term_rank < rank

-- licences of one family, by their versions; references that are the same
abbrev pub SatisfiesItem : LicenseItem → LicenseItem → Type 0
SatisfiesItem (Spdx name family rank later plus) (Spdx term_name term_family term_rank term_later term_plus) =
    (family ≡ term_family) × (IsSameVersion rank later term_rank term_later ⊎ IsLaterVersion rank term_rank term_later)
SatisfiesItem (Spdx name family rank later plus) (Reference doc id) = ⊥
SatisfiesItem (Reference doc id) (Spdx name family rank later plus) = ⊥
SatisfiesItem (Reference doc id) (Reference term_doc term_id) = (doc ≡ term_doc) × (id ≡ term_id)

-- A licensee satisfies a term: their exceptions are the same, and so are the references, or the licensee is the same
-- version or a later one that the term takes.
pub record Satisfies (licensee term : LicenseReq) : Type 0 where
  pub exception : licensee.exception ≡ term.exception
  pub item : SatisfiesItem licensee.item term.item
