-- The test of satisfaction holds exactly where `Satisfies` does.
use Rattle.std.proofs.Common.{◌≡◌, refl, ap, ℕ, ◌<◌, Bool, true, false, not, ◌&&◌, ◌||◌, IsTrue, List, Option, Some, None, ltb, eqb, rules}
use Rattle.std.specs.Prelude.{◌↔◌, ◌⊎◌}
use Rattle.std.specs.Bool.{Decides}
use Rattle.std.proofs.lemmas.Bool.{false≢true}
use Rattle.std.proofs.lemmas.Bool.Decides.{Decides-eqb, Decides-ltb, Decides-and, Decides-or, Decides-like, same_from_decides}
use Rattle.std.proofs.lemmas.Slice.Eq.{bytes_eq-Decides}
use Rattle.spdx_terms.specs.declared.term.LicenseItem.{LicenseItem}
use Rattle.spdx_terms.specs.declared.term.LicenseItem.TheVariants.{Spdx, Reference}
use Rattle.spdx_terms.specs.declared.term.LicenseReq.{LicenseReq}
use Rattle.spdx_terms.specs.Satisfaction.{Satisfies, SatisfiesItem, IsSameVersion, IsLaterVersion}
use Rattle.policy_core.specs.valid.Satisfied.{satisfies, same_text, version_satisfies, item_satisfies}
use Rattle.std.specs.Str.{bytes_eq}

same : (one other : Option (List ℕ)) → Decides (same_text one other) (one ≡ other)
same None None = (λ _. refl, λ _. refl)
same None (Some other) = grind rules
same (Some one) None = grind rules
same (Some one) (Some other) =
    Decides-like (bytes_eq one other) (λ (h : one ≡ other). ap Some h) (λ (h : Some one ≡ Some other). cc) (bytes_eq-Decides one other)

unless : (later term_later : Bool) → Decides (not later || term_later) (IsTrue later → IsTrue term_later)
unless true true = (λ _ _. refl, λ _. refl)
unless true false = (λ h. absurd (false≢true h), λ f. f refl)
unless false term_later = (λ _ h. absurd (false≢true h), λ _. refl)

version : (rank : ℕ) (later : Bool) (term_rank : ℕ) (term_later : Bool)
    → Decides (version_satisfies rank later term_rank term_later) (IsSameVersion rank later term_rank term_later ⊎ IsLaterVersion rank term_rank term_later)
version rank later term_rank term_later =
    Decides-or (eqb rank term_rank && (not later || term_later)) (term_later && ltb term_rank rank)
    (Decides-like (eqb rank term_rank && (not later || term_later))
    (λ (h : (rank ≡ term_rank) × (IsTrue later → IsTrue term_later)). record { same = h.0; none_later = h.1 })
    (λ (h : IsSameVersion rank later term_rank term_later). (h.same, h.none_later))
    (Decides-and (eqb rank term_rank) (not later || term_later) (Decides-eqb rank term_rank) (unless later term_later)))
    (Decides-like (term_later && ltb term_rank rank)
    (λ (h : IsTrue term_later × (term_rank < rank)). record { later = h.0; above = h.1 })
    (λ (h : IsLaterVersion rank term_rank term_later). (h.later, h.above))
    (Decides-and term_later (ltb term_rank rank) (λ h. h, λ h. h) (Decides-ltb term_rank rank)))

item : (licensee term : LicenseItem) → Decides (item_satisfies licensee term) (SatisfiesItem licensee term)
item (Spdx name family rank later plus) (Spdx term_name term_family term_rank term_later term_plus) =
    Decides-and (eqb family term_family) (version_satisfies rank later term_rank term_later)
    (Decides-eqb family term_family) (version rank later term_rank term_later)
item (Spdx name family rank later plus) (Reference doc id) = (λ h. absurd (false≢true h), λ h. absurd h)
item (Reference doc id) (Spdx name family rank later plus) = (λ h. absurd (false≢true h), λ h. absurd h)
item (Reference doc id) (Reference term_doc term_id) =
    Decides-and (same_text doc term_doc) (bytes_eq id term_id) (same doc term_doc) (bytes_eq-Decides id term_id)

pub decides : (licensee term : LicenseReq) → Decides (satisfies licensee term) (Satisfies licensee term)
decides licensee term =
    Decides-like (satisfies licensee term)
    (λ (h : (licensee.exception ≡ term.exception) × SatisfiesItem licensee.item term.item). record { exception = h.0; item = h.1 })
    (λ (h : Satisfies licensee term). (h.exception, h.item))
    (Decides-and (same_text licensee.exception term.exception) (item_satisfies licensee.item term.item)
    (same licensee.exception term.exception) (item licensee.item term.item))

-- an answer that holds exactly where a licensee satisfies a term is the test's
pub agrees : (answer : Bool) (licensee term : LicenseReq) → IsTrue answer ↔ Satisfies licensee term → answer ≡ satisfies licensee term
agrees answer licensee term h = same_from_decides answer (satisfies licensee term) h (decides licensee term)
