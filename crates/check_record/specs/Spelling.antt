-- The file of a record.
use Rattle.std.specs.Prelude.{◌≡◌, ℕ, List, [], ◌∷◌, ◌++◌, length, codes, decimal}
use Rattle.std.specs.List.{flat_map}
use Rattle.spdx_core.specs.declared.certificates.verdict.Hit.{Hit}
use Rattle.spdx_core.specs.declared.certificates.verdict.Hit.TheVariants.{Allowed, Exception}
use Rattle.check_record.specs.declared.items.RecordItem.{RecordItem}
use Rattle.check_record.specs.declared.items.RecordVerdict.{RecordVerdict}
use Rattle.check_record.specs.declared.items.RecordVerdict.TheVariants.{Skipped, Unlicensed, Accepted, Rejected}

-- an entry of the allowed licences, or one of an exception's
abbrev pub hit_text : Hit → List ℕ
hit_text (Allowed entry) = codes "l" ++ decimal entry
hit_text (Exception exception entry) = codes "e" ++ (decimal exception ++ (codes "." ++ decimal entry))

abbrev pub place_text : ℕ → List ℕ
place_text place = codes " " ++ decimal place

abbrev pub place_hit_text : ℕ → Hit → List ℕ
place_hit_text place hit = place_text place ++ (codes "=" ++ hit_text hit)

-- each place of a choice with its hit
abbrev pub chosen_text : List ℕ → List Hit → List ℕ
chosen_text [] hits = []
chosen_text (place ∷ places) [] = []
chosen_text (place ∷ places) (hit ∷ hits) = place_hit_text place hit ++ chosen_text places hits

abbrev pub verdict_text : RecordVerdict → List ℕ
verdict_text Skipped = codes " s"
verdict_text Unlicensed = codes " u"
verdict_text (Accepted choice hits) = codes " a" ++ chosen_text choice hits
verdict_text (Rejected blocks) = codes " r" ++ flat_map place_text blocks

-- a line: the id behind its length in bytes, since it may have any character, and the verdict
abbrev pub item_text : RecordItem → List ℕ
item_text item =
    codes "c " ++ (decimal (length item.id) ++ (codes ":" ++ (item.id ++ (verdict_text item.verdict ++ codes "\n"))))

-- the whole file
abbrev pub spelled_of : List RecordItem → List ℕ
spelled_of items = codes "deny-record 1\n" ++ (flat_map item_text items ++ codes "end\n")
