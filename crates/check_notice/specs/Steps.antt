-- How a notice is made, term after term and crate after crate. Only the contracts of private calls cite these.
use Rattle.std.specs.Prelude.{◌≡◌, ℕ, List, [], ◌∷◌, ◌++◌, Option, Some, None, Result, Ok, Err, if◌then◌else◌}
use Rattle.std.specs.Borrow.{Bor}
use Rattle.spdx_terms.specs.declared.term.LicenseReq.{LicenseReq}
use Rattle.gather_license.specs.declared.texts.OwnText.{OwnText}
use Rattle.check_notice.specs.declared.cites.CiteError.{CiteError}
use Rattle.check_notice.specs.declared.cites.CiteError.TheVariants as cites
use Rattle.check_notice.specs.declared.cites.Cited.{Cited}
use Rattle.check_notice.specs.declared.notice.NoticeError.{NoticeError}
use Rattle.check_notice.specs.declared.notice.NoticeError.TheVariants as notices
use Rattle.check_notice.specs.declared.notice.NoticeProgress.{NoticeProgress}
use Rattle.check_notice.specs.Keys.{key_of}
use Rattle.check_notice.specs.Notice.{MissingText, NoticedCrate, is_accepted, told_as, used_terms}
use Rattle.check_notice.specs.Numbers.{number_in, with_text}
use Rattle.check_notice.specs.Sources.{TextSources, text_for}

abbrev pub lent_term : Bor LicenseReq → LicenseReq
lent_term term = term.now

-- ---- the terms of a crate

abbrev pub nothing_cited : List (List ℕ) → Cited
nothing_cited texts = record { numbers = texts; keys = [] }

-- with a text under a key
abbrev pub cited_with : Cited → List ℕ → List ℕ → Cited
cited_with cited key text = record {
  numbers = with_text cited.numbers text;
  keys = cited.keys ++ record { key = key; number = number_in (with_text cited.numbers text) text } ∷ [];
}

abbrev pub cite_found : Cited → List ℕ → Option (List ℕ) → Result Cited (List ℕ)
cite_found cited key None = Err key
cite_found cited key (Some text) = Ok (cited_with cited key text)

-- with a term, or its key, where it has no text
abbrev pub cite_by : TextSources → List OwnText → Cited → LicenseReq → Result Cited (List ℕ)
cite_by by own cited req = cite_found cited (key_of req) (text_for by own req)

abbrev pub then_cites : (Cited → Result Cited (List ℕ)) → Result Cited (List ℕ) → Result Cited (List ℕ)
then_cites rest (Ok cited) = rest cited
then_cites rest (Err key) = Err key

-- with terms, one after another
abbrev pub cites_by : TextSources → List OwnText → Cited → List LicenseReq → Result Cited (List ℕ)
cites_by by own cited [] = Ok cited
cites_by by own cited (req ∷ reqs) = then_cites (λ next. cites_by by own next reqs) (cite_by by own cited req)

abbrev pub AnswersCited : Result Cited (List ℕ) → Result Cited CiteError → Type 0
AnswersCited is (Ok cited) = is ≡ Ok cited
AnswersCited is (Err (cites.NoText key)) = is ≡ Err key
AnswersCited is (Err cites.Memory) = Unit {0}

-- ---- crates

abbrev pub nothing_told : NoticeProgress
nothing_told = record { numbers = []; crates = [] }

abbrev pub told_cited : NoticeProgress → NoticedCrate → Result Cited (List ℕ) → Result NoticeProgress MissingText
told_cited progress one (Ok cited) =
    Ok (record { numbers = cited.numbers; crates = progress.crates ++ told_as one.krate cited.keys ∷ [] })
told_cited progress one (Err key) = Err (record { id = one.krate.id; key = key })

-- with an accepted crate
abbrev pub told_with : TextSources → NoticeProgress → NoticedCrate → Result NoticeProgress MissingText
told_with by progress one =
    told_cited progress one (cites_by by one.own (nothing_cited progress.numbers) (used_terms one))

-- with a crate, where it is accepted
abbrev pub told_by : TextSources → NoticeProgress → NoticedCrate → Result NoticeProgress MissingText
told_by by progress one = if is_accepted one.verdict then told_with by progress one else Ok progress

abbrev pub then_told : (NoticeProgress → Result NoticeProgress MissingText) → Result NoticeProgress MissingText
    → Result NoticeProgress MissingText
then_told rest (Ok progress) = rest progress
then_told rest (Err missing) = Err missing

-- with crates, one after another
abbrev pub all_told_by : TextSources → NoticeProgress → List NoticedCrate → Result NoticeProgress MissingText
all_told_by by progress [] = Ok progress
all_told_by by progress (one ∷ crates) =
    then_told (λ next. all_told_by by next crates) (told_by by progress one)

abbrev pub AnswersProgress : Result NoticeProgress MissingText → Result NoticeProgress NoticeError → Type 0
AnswersProgress is (Ok progress) = is ≡ Ok progress
AnswersProgress is (Err (notices.NoText id key)) = is ≡ Err (record { id = id; key = key })
AnswersProgress is (Err notices.Memory) = Unit {0}
