-- Which text a term of a crate is used under.
use Rattle.std.specs.Prelude.{ℕ, nat_le, Bool, false, List, Option, Some, None, find, if◌then◌else◌}
use Rattle.std.specs.Option.{option_map, option_or}
use Rattle.std.specs.Str.{bytes_eq}
use Rattle.deny_text.specs.Normal.{normal_of}
use Rattle.spdx_terms.specs.declared.catalog.identifier.Match.{Match}
use Rattle.spdx_terms.specs.declared.term.LicenseItem.{LicenseItem}
use Rattle.spdx_terms.specs.declared.term.LicenseItem.TheVariants.{Spdx, Reference}
use Rattle.spdx_terms.specs.declared.term.LicenseReq.{LicenseReq}
use Rattle.gather_license.specs.declared.texts.OwnText.{OwnText}
use Rattle.check_notice.specs.declared.sources.TextFinder.{TextFinder}
use Rattle.check_notice.specs.Keys.{key_of}

-- what texts are found by: what an identifier says of each text, the text that is kept under each name, and the least
-- score, in hundredths, at which a text is taken for a licence
pub record TextSources : Type 0 where
  pub match_of : List ℕ → Match
  pub text_of : List ℕ → Option (List ℕ)
  pub threshold : ℕ

abbrev pub finder_sources : {I : Type 0} → (I → List ℕ → Match) → (I → List ℕ → Option (List ℕ)) → TextFinder I
    → TextSources
finder_sources match_of text_of finder = record {
  match_of = match_of finder.identifier.now;
  text_of = text_of finder.identifier.now;
  threshold = finder.threshold;
}

-- ---- texts that a crate comes with

-- the licence that is identified, at a score of 50 at least, and of the threshold
abbrev pub sure_name : ℕ → Match → Option (List ℕ)
sure_name threshold found =
    if nat_le 50 found.score then (if nat_le threshold found.score then found.name else None) else None

-- the licence of a text, where one is identified
abbrev pub name_of : TextSources → OwnText → Option (List ℕ)
name_of by own = sure_name by.threshold (by.match_of own.text)

abbrev pub is_named : List ℕ → Option (List ℕ) → Bool
is_named name None = false
is_named name (Some told) = bytes_eq told name

abbrev pub own_text_in : OwnText → List ℕ
own_text_in own = own.text

-- the first one of a licence
abbrev pub own_text_named : TextSources → List OwnText → List ℕ → Option (List ℕ)
own_text_named by own name = option_map own_text_in (find (λ one. is_named name (name_of by one)) own)

-- that of a term: of a licence without an exception; any other term has none
abbrev pub own_text_by : TextSources → List OwnText → LicenseItem → Option (List ℕ) → Option (List ℕ)
own_text_by by own (Spdx name family rank later plus) None = own_text_named by own name
own_text_by by own (Spdx name family rank later plus) (Some exception) = None
own_text_by by own (Reference doc id) exception = None

-- ---- the text of a term

-- the text that is kept under its key, in its normal form
abbrev pub kept_text : TextSources → LicenseReq → Option (List ℕ)
kept_text by req = option_map normal_of (by.text_of (key_of req))

-- the crate's own, else the one that is kept, else none
abbrev pub text_for : TextSources → List OwnText → LicenseReq → Option (List ℕ)
text_for by own req = option_or (own_text_by by own req.item req.exception) (kept_text by req)
