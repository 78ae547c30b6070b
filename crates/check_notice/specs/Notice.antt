-- What a notice tells of crates, and where there is none.
use Rattle.std.specs.Prelude.{◌≡◌, ℕ, ◌==◌, Bool, true, false, List, [], ◌∷◌, ◌++◌, map, find, codes, slice_get}
use Rattle.std.specs.Prelude.{is_none, Option, Some, None, Result, Ok, Err, if◌then◌else◌}
use Rattle.std.specs.List.{filter, filter_map, flat_map}
use Rattle.std.specs.Option.{option_map, option_or}
use Rattle.semver.specs.Identifiers.{parts_text}
use Rattle.spdx_terms.specs.declared.term.ExpressionReq.{ExpressionReq}
use Rattle.spdx_terms.specs.declared.term.LicenseReq.{LicenseReq}
use Rattle.spdx_core.specs.Reading.{ExpressionView}
use Rattle.spdx_core.specs.declared.certificates.verdict.Verdict.{Verdict}
use Rattle.spdx_core.specs.declared.certificates.verdict.Verdict.TheVariants.{Skipped, Unlicensed, Accepted, Rejected}
use Rattle.graph_core.specs.Krate.{CrateRecord, record_of}
use Rattle.gather_license.specs.declared.texts.OwnText.{OwnText}
use Rattle.check_core.specs.declared.report.CrateReport.{CrateReport}
use Rattle.check_notice.specs.declared.notice.KeyNumber.{KeyNumber}
use Rattle.check_notice.specs.declared.notice.Notice.{Notice}
use Rattle.check_notice.specs.declared.notice.NoticeCrate.{NoticeCrate}
use Rattle.check_notice.specs.declared.notice.NoticeError.{NoticeError}
use Rattle.check_notice.specs.declared.notice.NoticeError.TheVariants.{NoText, Memory}
use Rattle.check_notice.specs.declared.sources.NoticeSource.{NoticeSource}
use Rattle.check_notice.specs.Keys.{key_of}
use Rattle.check_notice.specs.Numbers.{distinct_of, number_in}
use Rattle.check_notice.specs.Sources.{TextSources, text_for}

-- a crate as a notice looks at it: its record, the expression that it is under, the verdict on that, and the texts that
-- it comes with
pub record NoticedCrate : Type 0 where
  pub krate : CrateRecord
  pub expression : Option ExpressionView
  pub verdict : Verdict
  pub own : List OwnText

abbrev pub noticed_as : CrateRecord → CrateReport → List OwnText → NoticedCrate
noticed_as krate report own =
    record { krate = krate; expression = report.expression; verdict = report.verdict; own = own }

abbrev pub noticed_of : NoticeSource → NoticedCrate
noticed_of source = noticed_as (record_of source.krate.now) source.report.now source.own.now.texts

-- ---- by verdicts

abbrev pub is_accepted : Verdict → Bool
is_accepted Skipped = false
is_accepted Unlicensed = false
is_accepted (Accepted choice hits) = true
is_accepted (Rejected least blocks) = false

-- rejected, or without an expression; a skipped crate is neither this nor accepted
abbrev pub is_unaccepted : Verdict → Bool
is_unaccepted Skipped = false
is_unaccepted Unlicensed = true
is_unaccepted (Accepted choice hits) = false
is_unaccepted (Rejected least blocks) = true

abbrev pub is_against : CrateReport → Bool
is_against report = is_unaccepted report.verdict

-- the first crate that rules out a notice
abbrev pub first_unaccepted : List NoticedCrate → Option NoticedCrate
first_unaccepted crates = find (λ (one : NoticedCrate). is_unaccepted one.verdict) crates

abbrev pub accepted_in : List NoticedCrate → List NoticedCrate
accepted_in crates = filter (λ (one : NoticedCrate). is_accepted one.verdict) crates

-- ---- the terms that a crate is used under

abbrev pub term_at : List ExpressionReq → ℕ → Option LicenseReq
term_at terms place = option_map (λ (term : ExpressionReq). term.req) (slice_get terms place)

-- the terms at places, in the order of these
abbrev pub terms_at : List ExpressionReq → List ℕ → List LicenseReq
terms_at terms places = filter_map (term_at terms) places

-- of an accepted crate those of its choice; a crate that is not accepted is used under none
abbrev pub used_by : Option ExpressionView → Verdict → List LicenseReq
used_by None verdict = []
used_by (Some expression) Skipped = []
used_by (Some expression) Unlicensed = []
used_by (Some expression) (Accepted choice hits) = terms_at expression.terms choice
used_by (Some expression) (Rejected least blocks) = []

abbrev pub used_terms : NoticedCrate → List LicenseReq
used_terms one = used_by one.expression one.verdict

-- ---- what wants a text

-- the key of the first term of a crate for which there is no text
abbrev pub missing_in : TextSources → NoticedCrate → Option (List ℕ)
missing_in by one = option_map key_of (find (λ req. is_none (text_for by one.own req)) (used_terms one))

-- a crate's id, and such a key
pub record MissingText : Type 0 where
  pub id : List ℕ
  pub key : List ℕ

abbrev pub missing_of : TextSources → NoticedCrate → Option MissingText
missing_of by one = option_map (λ key. record { id = one.krate.id; key = key }) (missing_in by one)

-- of the first crate that has one
abbrev pub first_missing : TextSources → List NoticedCrate → Option MissingText
first_missing by [] = None
first_missing by (one ∷ crates) = option_or (missing_of by one) (first_missing by crates)

-- ---- the notice

-- what a term is called, and its text
pub record Cite : Type 0 where
  pub key : List ℕ
  pub text : List ℕ

abbrev pub cite_as : LicenseReq → List ℕ → Cite
cite_as req text = record { key = key_of req; text = text }

abbrev pub cite_of : TextSources → List OwnText → LicenseReq → Option Cite
cite_of by own req = option_map (cite_as req) (text_for by own req)

-- those of a crate's terms, in order, also where two are equal
abbrev pub cites_of : TextSources → NoticedCrate → List Cite
cites_of by one = filter_map (cite_of by one.own) (used_terms one)

abbrev pub text_in : Cite → List ℕ
text_in cite = cite.text

-- a blank in the place of a LF
abbrev pub line_byte : ℕ → ℕ
line_byte byte = if byte == 10 then 32 else byte

abbrev pub in_line : List ℕ → List ℕ
in_line text = map line_byte text

-- `{name}@{version}`
abbrev pub name_of : CrateRecord → List ℕ
name_of krate = in_line krate.name ++ (codes "@" ++ parts_text krate.version)

abbrev pub told_as : CrateRecord → List KeyNumber → NoticeCrate
told_as krate keys = record { id = krate.id; name = name_of krate; keys = keys }

-- a term with the number of its text
abbrev pub numbered : List (List ℕ) → Cite → KeyNumber
numbered texts cite = record { key = cite.key; number = number_in texts cite.text }

abbrev pub told_of : TextSources → List (List ℕ) → NoticedCrate → NoticeCrate
told_of by texts one = told_as one.krate (map (numbered texts) (cites_of by one))

-- the texts of all accepted crates, each once, by first use
abbrev pub texts_of : TextSources → List NoticedCrate → List (List ℕ)
texts_of by crates = distinct_of (map text_in (flat_map (cites_of by) (accepted_in crates)))

-- each accepted crate with its terms, in order, and the texts
abbrev pub notice_of : TextSources → List NoticedCrate → Notice
notice_of by crates =
    record { crates = map (told_of by (texts_of by crates)) (accepted_in crates); texts = texts_of by crates }

-- ---- the answer

-- the notice, where no text is missing
pub record IsNotice (by : TextSources) (crates : List NoticedCrate) (notice : Notice) : Type 0 where
  pub whole : first_missing by crates ≡ None
  pub is : notice ≡ notice_of by crates

-- or the first term for which there is no text; want of memory is free
abbrev pub AnswersNotice : TextSources → List NoticedCrate → Result Notice NoticeError → Type 0
AnswersNotice by crates (Ok notice) = IsNotice by crates notice
AnswersNotice by crates (Err (NoText id key)) = first_missing by crates ≡ Some (record { id = id; key = key })
AnswersNotice by crates (Err Memory) = Unit {0}
