-- What holds of all notices.
use Rattle.std.specs.Prelude.{◌≡◌, ◌≤◌, ◌<◌, ◌-◌, ◌+◌, ℕ, List, length, slice_get, Some, None, Any}
use Rattle.std.specs.List.{AllZip}
use Rattle.spdx_terms.specs.declared.term.LicenseReq.{LicenseReq}
use Rattle.gather_license.specs.declared.texts.OwnText.{OwnText}
use Rattle.check_notice.specs.declared.notice.KeyNumber.{KeyNumber}
use Rattle.check_notice.specs.declared.notice.Notice.{Notice}
use Rattle.check_notice.specs.declared.notice.NoticeCrate.{NoticeCrate}
use Rattle.check_notice.specs.Keys.{key_of}
use Rattle.check_notice.specs.Notice.{NoticedCrate, accepted_in, first_missing, notice_of, used_terms}
use Rattle.check_notice.specs.Sources.{TextSources, text_for}

-- a number, from 1, leads to a text
pub record LeadsTo (texts : List (List ℕ)) (number : ℕ) (text : List ℕ) : Type 0 where
  pub from_one : 1 ≤ number
  pub there : slice_get texts (number - 1) ≡ Some text

-- a term is called by its key, and the number leads to its text
pub record CitesTerm (by : TextSources) (own : List OwnText) (texts : List (List ℕ)) (req : LicenseReq)
    (key : KeyNumber) : Type 0 where
  pub called : key.key ≡ key_of req
  pub text : List ℕ
  pub is : text_for by own req ≡ Some text
  pub leads : LeadsTo texts key.number text

-- a crate is listed with each term that it is used under, in the same order
pub record TellsCrate (by : TextSources) (texts : List (List ℕ)) (one : NoticedCrate) (told : NoticeCrate)
    : Type 0 where
  pub id : told.id ≡ one.krate.id
  pub terms : AllZip (CitesTerm by one.own texts) (used_terms one) told.keys

-- no text is there twice
abbrev pub AreDistinct : List (List ℕ) → Type 0
AreDistinct texts =
    (one other : ℕ) (text : List ℕ) → slice_get texts one ≡ Some text → slice_get texts other ≡ Some text → one ≡ other

-- some crate cites the text of a number
abbrev pub IsCited : List NoticeCrate → ℕ → Type 0
IsCited crates number = Any (λ told. Any (λ key. key.number ≡ number) told.keys) crates

-- Each accepted crate is listed, and no other, in the same order; no text is there twice, and each is cited.
pub record LeadsToTexts (by : TextSources) (crates : List NoticedCrate) (notice : Notice) : Type 0 where
  pub told : AllZip (TellsCrate by notice.texts) (accepted_in crates) notice.crates
  pub distinct : AreDistinct notice.texts
  pub cited : (place : ℕ) → place < length notice.texts → IsCited notice.crates (place + 1)

-- so of each notice, where no text is missing
abbrev pub NoticesLead : Type 0
NoticesLead =
    (by : TextSources) (crates : List NoticedCrate) → first_missing by crates ≡ None
    → LeadsToTexts by crates (notice_of by crates)
