-- Files, worked out by hand from the format.
use Rattle.std.proofs.Common.{◌≡◌, ℕ, List, [], ◌∷◌, ◌++◌, Option, Some, None, codes, refl}
use Rattle.std.specs.Fmt.{digits}
use Rattle.std.specs.Str.{chars, is_utf8}
use lib.Utf8.{encode}
use Rattle.spdx_core.specs.declared.certificates.verdict.Hit.{Hit}
use Rattle.spdx_core.specs.declared.certificates.verdict.Hit.TheVariants.{Allowed, Exception}
use Rattle.check_record.specs.declared.items.RecordItem.{RecordItem}
use Rattle.check_record.specs.declared.items.RecordVerdict.{RecordVerdict}
use Rattle.check_record.specs.declared.items.RecordVerdict.TheVariants.{Skipped, Unlicensed, Accepted, Rejected}
use Rattle.check_record.specs.Spelling.{spelled_of}
use Rattle.check_record.specs.Reading.{accepted_at, allowed_at, behind_text, chosen_on, digits_on, exception_at, hit_at, id_at, item_at, items_on, lettered_at, number_at, place_hit_at, places_on, record_at, rejected_at, text_of, whole_at}

abbrev item : List ℕ → RecordVerdict → RecordItem
item id verdict = record { id = id; verdict = verdict }

abbrev krate : RecordVerdict → List RecordItem
krate verdict = item (codes "a 1.0.0") verdict ∷ []

-- ---- spelled

abbrev one_accepted : RecordVerdict
one_accepted = Accepted (0 ∷ []) (Allowed 0 ∷ [])

accepted : spelled_of (krate one_accepted) ≡ codes "deny-record 1\nc 7:a 1.0.0 a 0=l0\nend\n"
unfolding digits
accepted = refl

rejected : spelled_of (krate (Rejected (1 ∷ 2 ∷ []))) ≡ codes "deny-record 1\nc 7:a 1.0.0 r 1 2\nend\n"
unfolding digits
rejected = refl

unlicensed : spelled_of (krate Unlicensed) ≡ codes "deny-record 1\nc 7:a 1.0.0 u\nend\n"
unfolding digits
unlicensed = refl

skipped : spelled_of (krate Skipped) ≡ codes "deny-record 1\nc 7:a 1.0.0 s\nend\n"
unfolding digits
skipped = refl

no_crates : spelled_of [] ≡ codes "deny-record 1\nend\n"
no_crates = refl

-- an entry of an exception, and one of the allowed licences
two_crates : spelled_of (item (codes "a 1.0.0") one_accepted ∷ item (codes "b 1.0.0") (Accepted (0 ∷ 1 ∷ []) (Exception 0 1 ∷ Allowed 1 ∷ [])) ∷ [])
    ≡ codes "deny-record 1\nc 7:a 1.0.0 a 0=l0\nc 7:b 1.0.0 a 0=e0.1 1=l1\nend\n"
unfolding digits
two_crates = refl

-- a character of two bytes
abbrev e_acute : List ℕ
e_acute = 195 ∷ 169 ∷ []

-- an id has any characters, also an end of a line
any_id : spelled_of (item (codes "a " ++ (e_acute ++ codes "\nx")) one_accepted ∷ []) ≡ codes "deny-record 1\nc 6:a " ++ (e_acute ++ codes "\nx a 0=l0\nend\n")
unfolding digits
any_id = refl

-- ---- read

abbrev line : List ℕ → List ℕ
line text = codes "deny-record 1\nc 7:a 1.0.0" ++ (text ++ codes "\nend\n")

read_accepted : whole_at (line (codes " a 0=l0")) ≡ Some (krate one_accepted)
unfolding accepted_at allowed_at behind_text chosen_on digits_on exception_at hit_at id_at item_at items_on lettered_at number_at place_hit_at record_at text_of whole_at is_utf8 chars encode
read_accepted = refl

-- the largest number
read_largest : whole_at (line (codes " r 18446744073709551615")) ≡ Some (krate (Rejected (18446744073709551615 ∷ [])))
unfolding behind_text digits_on id_at item_at items_on lettered_at number_at places_on record_at rejected_at text_of whole_at is_utf8 chars encode
read_largest = refl

-- ---- refused

abbrev Refused : List ℕ → Type 0
Refused text = whole_at text ≡ None

verdicts_refused : Refused (line (codes " a")) × Refused (line (codes " r")) × Refused (line (codes " r 1 0")) × Refused (line (codes " r 1 1"))
    × Refused (line (codes " a 0=l0 0=l0")) × Refused (line (codes " a 00=l0")) × Refused (line (codes " a 0=e0")) × Refused (line (codes " r +1"))
    × Refused (line (codes " r 18446744073709551616")) × Refused (line (codes " s ")) × Refused (line (codes " a 0=l0\r")) × Refused (line (codes " x"))
unfolding accepted_at allowed_at behind_text chosen_on digits_on exception_at hit_at id_at item_at items_on lettered_at number_at place_hit_at places_on record_at rejected_at text_of whole_at is_utf8 chars encode
verdicts_refused = (refl, refl, refl, refl, refl, refl, refl, refl, refl, refl, refl, refl)

ids_refused : Refused (codes "deny-record 1\nc 07:a 1.0.0 s\nend\n") × Refused (codes "deny-record 1\nc 8:a 1.0.0 s\nend\n") × Refused (codes "deny-record 1\nc 6:a 1.0.0 s\nend\n")
    × Refused (codes "deny-record 1\nc 1:" ++ (e_acute ++ codes " u\nend\n")) × Refused (codes "deny-record 1\nc 1:b s\nc 1:a s\nend\n") × Refused (codes "deny-record 1\nc 1:a s\nc 1:a s\nend\n")
unfolding behind_text digits_on id_at item_at items_on lettered_at number_at record_at text_of whole_at is_utf8 chars encode
ids_refused = (refl, refl, refl, refl, refl, refl)

files_refused : Refused [] × Refused (codes "deny-record 1\nend") × Refused (codes "deny-record 1\nend\n\n") × Refused (codes "deny-record 1\r\nend\r\n") × Refused (codes "deny-record 2\nend\n")
unfolding behind_text items_on record_at whole_at
files_refused = (refl, refl, refl, refl, refl)
