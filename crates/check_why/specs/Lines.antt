-- What `why` prints for a person: a line with the crate, and then a line for each thing that is said of it.
use Rattle.std.specs.Prelude.{ℕ, List, [], ◌∷◌, ◌++◌, fold, codes, decimal, slice_get, Option, Some, None}
use Rattle.std.specs.Prelude.{if◌then◌else◌}
use Rattle.std.specs.List.{flat_map}
use Rattle.std.specs.Option.{option_map_or}
use Rattle.graph_core.specs.Krate.{has_text}
use Rattle.diag_core.specs.texts.Manifest.{hash_text}
use Rattle.diag_print.specs.Human.{flat_text, note_line}
use Rattle.check_core.specs.findings.Sources.{with_commas}
use Rattle.check_why.specs.declared.answer.Asking.{Asking}
use Rattle.check_why.specs.declared.answer.Asking.TheVariants.{Clarification, Exception}
use Rattle.check_why.specs.declared.answer.CrateAnswer.{CrateAnswer}
use Rattle.check_why.specs.declared.answer.CrateTitle.{CrateTitle}
use Rattle.check_why.specs.declared.answer.LicenseAnswer.{LicenseAnswer}
use Rattle.check_why.specs.declared.answer.ReadAnswer.{ReadAnswer}
use Rattle.check_why.specs.declared.answer.ReadSaid.{ReadSaid}
use Rattle.check_why.specs.declared.answer.ReadSaid.TheVariants as said
use Rattle.check_why.specs.declared.answer.TermAnswer.{TermAnswer}
use Rattle.check_why.specs.declared.answer.TermHit.{TermHit}
use Rattle.check_why.specs.declared.answer.TermHit.TheVariants as hit
use Rattle.check_why.specs.declared.answer.Unmatched.{Unmatched}
use Rattle.check_why.specs.declared.answer.Unmatched.TheVariants as by
use Rattle.check_why.specs.declared.answer.UnmetAnswer.{UnmetAnswer}
use Rattle.check_why.specs.declared.answer.VerdictAnswer.{VerdictAnswer}
use Rattle.check_why.specs.declared.answer.VerdictAnswer.TheVariants as verdict

-- a line of its own, behind two blanks; a line feed inside is a blank
abbrev pub line : List ℕ → List ℕ
line text = codes "  " ++ flat_text text ++ codes "\n"

-- `name version`
abbrev pub title_text : CrateTitle → List ℕ
title_text title = title.name ++ codes " " ++ title.version

-- ---- the verdict

abbrev pub verdict_word : VerdictAnswer → List ℕ
verdict_word (verdict.Accepted choice) = codes "accepted"
verdict_word (verdict.Rejected allow blocks) = codes "rejected"
verdict_word verdict.Unlicensed = codes "unlicensed"
verdict_word verdict.PassedOver = codes "passed over"

-- ---- the expression and its terms

abbrev pub license_lines : Option LicenseAnswer → List ℕ
license_lines None = []
license_lines (Some license) =
    line (codes "license: " ++ license.text) ++ line (codes "from: " ++ license.source ++ codes ", " ++ license.place)

abbrev pub hit_text : TermHit → List ℕ
hit_text (hit.Allowed place) = codes "allowed, " ++ place
hit_text (hit.Excepted place) = codes "allowed by an exception, " ++ place
hit_text hit.NotAllowed = codes "not allowed"

abbrev pub term_line : TermAnswer → List ℕ
term_line term = line (term.text ++ codes ": " ++ hit_text term.hit)

-- ---- what shows the verdict

-- the text of the term at a place
abbrev pub text_of_term : List TermAnswer → ℕ → List ℕ
text_of_term terms place = option_map_or (λ (term : TermAnswer). term.text) (slice_get terms place) []

-- texts without those that were there before
abbrev pub with_text : List (List ℕ) → List ℕ → List (List ℕ)
with_text texts text = if has_text texts text then texts else texts ++ text ∷ []

abbrev pub with_term : List TermAnswer → List (List ℕ) → ℕ → List (List ℕ)
with_term terms texts place = with_text texts (text_of_term terms place)

-- the texts of the terms at some places, those that print the same once
abbrev pub texts_at : List TermAnswer → List ℕ → List (List ℕ)
texts_at terms places = fold (with_term terms) [] places

abbrev pub terms_text : List TermAnswer → List ℕ → List ℕ
terms_text terms places = with_commas (texts_at terms places)

abbrev pub certificate_lines : List TermAnswer → VerdictAnswer → List ℕ
certificate_lines terms (verdict.Accepted choice) = line (codes "rests on: " ++ terms_text terms choice)
certificate_lines terms (verdict.Rejected allow blocks) =
    line (codes "to accept it, allow: " ++ terms_text terms allow)
    ++ line (codes "rejected as long as none is allowed of: " ++ terms_text terms blocks)
certificate_lines terms verdict.Unlicensed = []
certificate_lines terms verdict.PassedOver = []

-- ---- who brings it in

abbrev pub behind_arrow : CrateTitle → List ℕ
behind_arrow title = codes " > " ++ title_text title

abbrev pub needed_text : List CrateTitle → List ℕ
needed_text [] = codes "a root"
needed_text (title ∷ titles) = title_text title ++ flat_map behind_arrow titles

-- ---- its files

abbrev pub said_text : ReadSaid → List ℕ
said_text said.Read = []
said_text (said.Known name score) = codes " (" ++ name ++ codes ", " ++ decimal score ++ codes ")"
said_text (said.Unknown score) = codes " (no known text, " ++ decimal score ++ codes ")"
said_text said.NotThere = codes " (not there)"
said_text said.Folder = codes " (a folder)"
said_text said.NoFolder = codes " (no folder)"
said_text said.NotUtf8 = codes " (not UTF-8)"
said_text said.Failed = codes " (could not be read)"

abbrev pub read_line : ReadAnswer → List ℕ
read_line read = line (codes "read: " ++ read.path ++ said_text read.said)

-- ---- what does not hold

abbrev pub asking_word : Asking → List ℕ
asking_word Clarification = codes "clarification"
asking_word Exception = codes "exception"

abbrev pub hash_word : ℕ → List ℕ
hash_word hash = codes "0x" ++ hash_text hash

abbrev pub unmatched_text : Unmatched → List ℕ
unmatched_text (by.Hash found wanted) =
    codes " has hash " ++ hash_word found ++ codes ", and " ++ hash_word wanted ++ codes " is wanted"
unmatched_text by.NotThere = codes " is not there"
unmatched_text by.NoText = codes " is no text"
unmatched_text by.Failed = codes " could not be read"

abbrev pub unmet_head : UnmetAnswer → List ℕ
unmet_head one = asking_word one.asking ++ codes " at " ++ one.place ++ codes " does not hold: "

abbrev pub unmet_line : UnmetAnswer → List ℕ
unmet_line one = line (unmet_head one ++ one.path ++ unmatched_text one.by)

-- ---- all lines

-- the first three
abbrev pub head_lines : CrateTitle → List ℕ → List ℕ
head_lines title word =
    flat_text (title_text title) ++ codes "\n" ++ line (codes "id: " ++ title.id) ++ line (codes "verdict: " ++ word)

-- the verdict, and what it rests on
abbrev pub verdict_lines : CrateAnswer → List ℕ
verdict_lines one =
    head_lines one.title (verdict_word one.verdict) ++ license_lines one.license ++ flat_map term_line one.terms
    ++ certificate_lines one.terms one.verdict

-- what was read, what does not hold, and the notes
abbrev pub file_lines : CrateAnswer → List ℕ
file_lines one = flat_map read_line one.reads ++ flat_map unmet_line one.unmet ++ flat_map note_line one.notes

-- what is behind the verdict
abbrev pub rest_lines : CrateAnswer → List ℕ
rest_lines one = line (codes "needed by: " ++ needed_text one.needed_by) ++ file_lines one

-- of a crate that is checked
abbrev pub answer_lines : CrateAnswer → List ℕ
answer_lines one = verdict_lines one ++ rest_lines one

-- of one that is not, and why
abbrev pub unchecked_lines : CrateTitle → List ℕ → List ℕ
unchecked_lines title because = head_lines title (codes "not checked") ++ line because
