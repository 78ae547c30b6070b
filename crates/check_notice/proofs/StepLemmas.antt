-- A notice that is made step by step.
use Rattle.std.proofs.Common.{◌≡◌, ◌∙◌, ℕ, Bool, true, false, cond, List, [], ◌∷◌, ◌++◌, map, find, Option, Some, None, Result, Ok, Err, is_none, refl, sym, ap, append-nil, append_assoc}
use Rattle.std.specs.List.{cons_option, filter_map, flat_map, fold}
use Rattle.std.specs.Option.{option_map, option_or}
use Rattle.std.proofs.lemmas.List.{map-append}
use Rattle.std.proofs.lemmas.List.Sums.{fold-append}
use Rattle.spdx_terms.specs.declared.term.LicenseReq.{LicenseReq}
use Rattle.spdx_core.specs.Reading.{ExpressionView}
use Rattle.spdx_core.specs.declared.certificates.verdict.Verdict.{Verdict}
use Rattle.spdx_core.specs.declared.certificates.verdict.Verdict.TheVariants.{Skipped, Unlicensed, Accepted, Rejected}
use Rattle.gather_license.specs.declared.texts.OwnText.{OwnText}
use Rattle.check_notice.specs.declared.cites.Cited.{Cited}
use Rattle.check_notice.specs.declared.notice.KeyNumber.{KeyNumber}
use Rattle.check_notice.specs.declared.notice.NoticeCrate.{NoticeCrate}
use Rattle.check_notice.specs.declared.notice.NoticeProgress.{NoticeProgress}
use Rattle.check_notice.specs.Keys.{key_of}
use Rattle.check_notice.specs.Notice.{Cite, MissingText, NoticedCrate, accepted_in, cite_as, cite_of, cites_of, first_missing, is_accepted, numbered, text_in, told_as, told_of, used_by, used_terms}
use Rattle.check_notice.specs.Numbers.{number_in, with_text}
use Rattle.check_notice.specs.Sources.{TextSources, text_for}
use Rattle.check_notice.specs.Steps.{all_told_by, cite_found, cites_by, then_cites, then_told, told_cited, told_with}
use Rattle.check_notice.proofs.NumberLemmas.{are_there, has_with, number_stays, numbers_stay}

-- ---- the terms of a crate

abbrev pub lacks : TextSources → List OwnText → LicenseReq → Bool
lacks by own req = is_none (text_for by own req)

abbrev pub cites_in : TextSources → List OwnText → List LicenseReq → List Cite
cites_in by own reqs = filter_map (cite_of by own) reqs

-- what is cited, with these behind
abbrev pub with_cites : List (List ℕ) → List KeyNumber → List Cite → Cited
with_cites texts keys cites = record {
  numbers = fold with_text texts (map text_in cites);
  keys = keys ++ map (numbered (fold with_text texts (map text_in cites))) cites;
}

one_cited : (texts : List (List ℕ)) (keys : List KeyNumber) (cite : Cite) (cites : List Cite)
    → with_cites (with_text texts cite.text) (keys ++ record { key = cite.key; number = number_in (with_text texts cite.text) cite.text } ∷ []) cites ≡ with_cites texts keys (cite ∷ cites)
one_cited texts keys cite cites =
    let all = fold with_text (with_text texts cite.text) (map text_in cites) in
    let later = map (numbered all) cites in
    let first : ℕ → KeyNumber = λ n. record { key = cite.key; number = n } in
    ap (λ (those : List KeyNumber). record { numbers = all; keys = those })
    (append_assoc keys (first (number_in (with_text texts cite.text) cite.text) ∷ []) later
    ∙ ap (λ n. keys ++ first n ∷ later) (sym (number_stays (with_text texts cite.text) (map text_in cites) cite.text (has_with texts cite.text))))

module _ (by : TextSources) (own : List OwnText) where
  -- each has a text
  pub all_cited : (texts : List (List ℕ)) (keys : List KeyNumber) (reqs : List LicenseReq) → find (lacks by own) reqs ≡ None
      → cites_by by own (record { numbers = texts; keys = keys }) reqs ≡ Ok (with_cites texts keys (cites_in by own reqs))
  all_cited texts keys [] whole = ap (λ (those : List KeyNumber). Ok (record { numbers = texts; keys = those })) (sym (append-nil keys))
  all_cited texts keys (req ∷ reqs) whole = step (text_for by own req) refl (λ texts keys. all_cited texts keys reqs)
    where
      step : (found : Option (List ℕ)) → text_for by own req ≡ found
          → ((texts : List (List ℕ)) (keys : List KeyNumber) → find (lacks by own) reqs ≡ None → cites_by by own (record { numbers = texts; keys = keys }) reqs ≡ Ok (with_cites texts keys (cites_in by own reqs)))
          → cites_by by own (record { numbers = texts; keys = keys }) (req ∷ reqs) ≡ Ok (with_cites texts keys (cites_in by own (req ∷ reqs)))
      step None is rest = let never : Some req ≡ None = sym (ap (λ (found : Option (List ℕ)). cond (is_none found) (Some req) (find (lacks by own) reqs)) is) ∙ whole in absurd (cc)
      step (Some text) is rest =
          ap (λ (found : Option (List ℕ)). then_cites (λ next. cites_by by own next reqs) (cite_found (record { numbers = texts; keys = keys }) (key_of req) found)) is
          ∙ rest (with_text texts text) (keys ++ record { key = key_of req; number = number_in (with_text texts text) text } ∷ [])
          (sym (ap (λ (found : Option (List ℕ)). cond (is_none found) (Some req) (find (lacks by own) reqs)) is) ∙ whole)
          ∙ ap Ok (one_cited texts keys (cite_as req text) (cites_in by own reqs))
          ∙ sym (ap (λ (found : Option (List ℕ)). Ok (with_cites texts keys (cons_option (option_map (cite_as req) found) (cites_in by own reqs)))) is)

  -- the first that has none is named
  pub none_cited : (texts : List (List ℕ)) (keys : List KeyNumber) (reqs : List LicenseReq) (first : LicenseReq) → find (lacks by own) reqs ≡ Some first
      → cites_by by own (record { numbers = texts; keys = keys }) reqs ≡ Err (key_of first)
  none_cited texts keys [] first lacking = absurd (cc)
  none_cited texts keys (req ∷ reqs) first lacking = step (text_for by own req) refl (λ texts keys. none_cited texts keys reqs first)
    where
      step : (found : Option (List ℕ)) → text_for by own req ≡ found
          → ((texts : List (List ℕ)) (keys : List KeyNumber) → find (lacks by own) reqs ≡ Some first → cites_by by own (record { numbers = texts; keys = keys }) reqs ≡ Err (key_of first))
          → cites_by by own (record { numbers = texts; keys = keys }) (req ∷ reqs) ≡ Err (key_of first)
      step None is rest =
          let same : Some req ≡ Some first = sym (ap (λ (found : Option (List ℕ)). cond (is_none found) (Some req) (find (lacks by own) reqs)) is) ∙ lacking in
          let one : req ≡ first = cc in
          ap (λ (found : Option (List ℕ)). then_cites (λ next. cites_by by own next reqs) (cite_found (record { numbers = texts; keys = keys }) (key_of req) found)) is
          ∙ ap (λ (those : LicenseReq). Err (key_of those)) one
      step (Some text) is rest =
          ap (λ (found : Option (List ℕ)). then_cites (λ next. cites_by by own next reqs) (cite_found (record { numbers = texts; keys = keys }) (key_of req) found)) is
          ∙ rest (with_text texts text) (keys ++ record { key = key_of req; number = number_in (with_text texts text) text } ∷ [])
          (sym (ap (λ (found : Option (List ℕ)). cond (is_none found) (Some req) (find (lacks by own) reqs)) is) ∙ lacking)

-- ---- crates

pub used_under_none : (expression : Option ExpressionView) (verdict : Verdict) → is_accepted verdict ≡ false → used_by expression verdict ≡ []
used_under_none None verdict passed = refl
used_under_none (Some expression) Skipped passed = refl
used_under_none (Some expression) Unlicensed passed = refl
used_under_none (Some expression) (Accepted choice hits) passed = absurd (cc)
used_under_none (Some expression) (Rejected least blocks) passed = refl

abbrev pub uses_of : TextSources → List NoticedCrate → List (List ℕ)
uses_of by crates = map text_in (flat_map (cites_of by) crates)

abbrev pub progress_with : TextSources → List (List ℕ) → List NoticeCrate → List NoticedCrate → NoticeProgress
progress_with by texts told accepted = record {
  numbers = fold with_text texts (uses_of by accepted);
  crates = told ++ map (told_of by (fold with_text texts (uses_of by accepted))) accepted;
}

-- one crate more, behind those that are listed
one_told : (by : TextSources) (texts : List (List ℕ)) (told : List NoticeCrate) (one : NoticedCrate) (accepted : List NoticedCrate) (now : Cited)
    → now ≡ with_cites texts [] (cites_of by one)
    → progress_with by now.numbers (told ++ told_as one.krate now.keys ∷ []) accepted ≡ progress_with by texts told (one ∷ accepted)
one_told by texts told one accepted now is =
    let own = cites_of by one in
    let mine = fold with_text texts (map text_in own) in
    let all = fold with_text mine (uses_of by accepted) in
    let whole : fold with_text texts (uses_of by (one ∷ accepted)) ≡ all =
    ap (fold with_text texts) (map-append text_in own (flat_map (cites_of by) accepted)) ∙ fold-append with_text texts (map text_in own) (uses_of by accepted) in
    let later : List NoticeCrate = map (told_of by all) accepted in
    ap (λ (now : Cited). progress_with by now.numbers (told ++ told_as one.krate now.keys ∷ []) accepted) is
    ∙ ap (λ (crates : List NoticeCrate). record { numbers = all; crates = crates })
    (append_assoc told (told_as one.krate (map (numbered mine) own) ∷ []) later
    ∙ ap (λ (keys : List KeyNumber). told ++ told_as one.krate keys ∷ later) (numbers_stay mine (uses_of by accepted) own (are_there texts own)))
    ∙ sym (ap (λ (those : List (List ℕ)). record { numbers = those; crates = told ++ map (told_of by those) (one ∷ accepted) }) whole)

module _ (by : TextSources) where
  passed_whole : (one : NoticedCrate) (crates : List NoticedCrate) → is_accepted one.verdict ≡ false → first_missing by (one ∷ crates) ≡ first_missing by crates
  passed_whole one crates passed =
      ap (λ (reqs : List LicenseReq). option_or (option_map (λ key. record { id = one.krate.id; key = key }) (option_map key_of (find (lacks by one.own) reqs))) (first_missing by crates)) (used_under_none one.expression one.verdict passed)

  abbrev missing_by : (one : NoticedCrate) (crates : List NoticedCrate) → Option LicenseReq → Option MissingText
  missing_by one crates found = option_or (option_map (λ key. record { id = one.krate.id; key = key }) (option_map key_of found)) (first_missing by crates)

  -- no text is missing
  pub all_told : (texts : List (List ℕ)) (told : List NoticeCrate) (crates : List NoticedCrate) → first_missing by crates ≡ None
      → all_told_by by (record { numbers = texts; crates = told }) crates ≡ Ok (progress_with by texts told (accepted_in crates))
  all_told texts told [] whole = ap (λ (crates : List NoticeCrate). Ok (record { numbers = texts; crates = crates })) (sym (append-nil told))
  all_told texts told (one ∷ crates) whole = step (is_accepted one.verdict) refl (λ texts told. all_told texts told crates)
    where
      goes : Bool → Result NoticeProgress MissingText
      goes accepted = then_told (λ next. all_told_by by next crates) (cond accepted (told_with by (record { numbers = texts; crates = told }) one) (Ok (record { numbers = texts; crates = told })))

      ends : Bool → Result NoticeProgress MissingText
      ends accepted = Ok (progress_with by texts told (cond accepted (one ∷ accepted_in crates) (accepted_in crates)))

      Rest : Type 0
      Rest = (texts : List (List ℕ)) (told : List NoticeCrate) → first_missing by crates ≡ None → all_told_by by (record { numbers = texts; crates = told }) crates ≡ Ok (progress_with by texts told (accepted_in crates))

      cited : (found : Option LicenseReq) → find (lacks by one.own) (used_terms one) ≡ found → Rest → goes true ≡ ends true
      cited (Some first) is rest = let never : ◌≡◌ {A = Option MissingText} (Some (record { id = one.krate.id; key = key_of first })) None = sym (ap (missing_by one crates) is) ∙ whole in absurd (cc)
      cited None is rest =
          let now = with_cites texts [] (cites_of by one) in
          ap (λ (answer : Result Cited (List ℕ)). then_told (λ next. all_told_by by next crates) (told_cited (record { numbers = texts; crates = told }) one answer)) (all_cited by one.own texts [] (used_terms one) is)
          ∙ rest now.numbers (told ++ told_as one.krate now.keys ∷ []) (sym (ap (missing_by one crates) is) ∙ whole)
          ∙ ap Ok (one_told by texts told one (accepted_in crates) now refl)

      step : (accepted : Bool) → is_accepted one.verdict ≡ accepted → Rest
          → all_told_by by (record { numbers = texts; crates = told }) (one ∷ crates) ≡ Ok (progress_with by texts told (accepted_in (one ∷ crates)))
      step true is rest = ap goes is ∙ cited (find (lacks by one.own) (used_terms one)) refl rest ∙ sym (ap ends is)
      step false is rest = ap goes is ∙ rest texts told (sym (passed_whole one crates is) ∙ whole) ∙ sym (ap ends is)

  -- the first one that is missing is named
  pub none_told : (texts : List (List ℕ)) (told : List NoticeCrate) (crates : List NoticedCrate) (first : MissingText) → first_missing by crates ≡ Some first
      → all_told_by by (record { numbers = texts; crates = told }) crates ≡ Err first
  none_told texts told [] first missing = absurd (cc)
  none_told texts told (one ∷ crates) first missing = step (is_accepted one.verdict) refl (λ texts told. none_told texts told crates first)
    where
      goes : Bool → Result NoticeProgress MissingText
      goes accepted = then_told (λ next. all_told_by by next crates) (cond accepted (told_with by (record { numbers = texts; crates = told }) one) (Ok (record { numbers = texts; crates = told })))

      Rest : Type 0
      Rest = (texts : List (List ℕ)) (told : List NoticeCrate) → first_missing by crates ≡ Some first → all_told_by by (record { numbers = texts; crates = told }) crates ≡ Err first

      cited : (found : Option LicenseReq) → find (lacks by one.own) (used_terms one) ≡ found → Rest → goes true ≡ Err first
      cited (Some req) is rest =
          let same : Some (record { id = one.krate.id; key = key_of req }) ≡ Some first = sym (ap (missing_by one crates) is) ∙ missing in
          let mine : record { id = one.krate.id; key = key_of req } ≡ first = cc in
          ap (λ (answer : Result Cited (List ℕ)). then_told (λ next. all_told_by by next crates) (told_cited (record { numbers = texts; crates = told }) one answer)) (none_cited by one.own texts [] (used_terms one) req is)
          ∙ ap Err mine
      cited None is rest =
          let now = with_cites texts [] (cites_of by one) in
          ap (λ (answer : Result Cited (List ℕ)). then_told (λ next. all_told_by by next crates) (told_cited (record { numbers = texts; crates = told }) one answer)) (all_cited by one.own texts [] (used_terms one) is)
          ∙ rest now.numbers (told ++ told_as one.krate now.keys ∷ []) (sym (ap (missing_by one crates) is) ∙ missing)

      step : (accepted : Bool) → is_accepted one.verdict ≡ accepted → Rest → all_told_by by (record { numbers = texts; crates = told }) (one ∷ crates) ≡ Err first
      step true is rest = ap goes is ∙ cited (find (lacks by one.own) (used_terms one)) refl rest
      step false is rest = ap goes is ∙ rest texts told (sym (passed_whole one crates is) ∙ missing)
