-- The manifest that is written in place of a crate's own, and the list of its licence files, in pieces.
use Rattle.std.specs.Prelude.{ℕ, ◌-◌, ◌^◌, ◌/◌, ◌%◌, false, List, [], ◌∷◌, ◌++◌, codes}
use Rattle.std.specs.Fmt.{decimal, digits, format_spec, padded_integral}
use Rattle.diag_core.specs.texts.Synthetic.{Bit, plain, marked}
use Rattle.diag_core.specs.declared.texts.manifest.FileNote.{FileNote}
use Rattle.diag_core.specs.declared.texts.manifest.FileNote.TheVariants.{Joined, Unknown, Low, Unnamed, Bad}

-- the licence field
abbrev pub field_pieces : List ℕ → List Bit
field_pieces field = plain (codes "\"\nlicense = \"") ∷ marked field ∷ plain (codes "\"\n") ∷ []

-- the head, with the name and the field marked
abbrev pub manifest_pieces : List ℕ → List ℕ → List ℕ → List Bit
manifest_pieces name version field =
    plain (codes "[package]\nname = \"") ∷ marked name ∷ plain (codes "\"\nversion = \"") ∷ plain version
    ∷ field_pieces field

abbrev pub expression_pieces : List ℕ → List Bit
expression_pieces expression = plain (codes "files-expr = \"") ∷ marked expression ∷ plain (codes "\"\n") ∷ []

-- in place of the list, where the listing did not come
abbrev pub listing_pieces : List ℕ → List Bit
listing_pieces words = plain (codes "license-files = \"") ∷ marked words ∷ plain (codes "\"\n") ∷ []

-- before and behind the lines of the list
abbrev pub opening_pieces : List Bit
opening_pieces = plain (codes "license-files = [\n") ∷ []

abbrev pub closing_pieces : List Bit
closing_pieces = plain (codes "]\n") ∷ []

-- digits of a base, with zeros in front up to the width
abbrev pub padded_digits : ℕ → ℕ → ℕ → List ℕ
padded_digits base width number =
    padded_integral (format_spec 32 0 4 width (2 ^ 64 - 1)) false [] (digits base false number)

-- eight hexadecimal digits
abbrev pub hash_text : ℕ → List ℕ
hash_text hash = padded_digits 16 8 hash

-- hundredths: a point before the last two digits
abbrev pub score_text : ℕ → List ℕ
score_text score = decimal (score / 100) ++ codes "." ++ padded_digits 10 2 (score % 100)

abbrev pub hash_pieces : ℕ → List Bit
hash_pieces hash = plain (codes "hash = 0x") ∷ plain (hash_text hash) ∷ plain (codes ", ") ∷ []

-- a score and a name
abbrev pub named_pieces : Bit → Bit → List Bit
named_pieces score name =
    plain (codes "score = ") ∷ score ∷ plain (codes ", license = \"") ∷ name ∷ plain (codes "\"") ∷ []

-- what is reported of a file; marked is why it gives no name
abbrev pub told_pieces : FileNote → List Bit
told_pieces (Joined hash) = hash_pieces hash
told_pieces (Unknown hash score name) = hash_pieces hash ++ named_pieces (plain (score_text score)) (marked name.now)
told_pieces (Low hash score name) = hash_pieces hash ++ named_pieces (marked (score_text score)) (plain name.now)
told_pieces (Unnamed hash score) = hash_pieces hash ++ plain (codes "score = ") ∷ marked (score_text score) ∷ []
told_pieces (Bad words) = plain (codes "err = \"") ∷ marked words.now ∷ plain (codes "\"") ∷ []

-- the line of a file
abbrev pub line_pieces : List ℕ → FileNote → List Bit
line_pieces path told =
    plain (codes "    { path = \"") ∷ plain path ∷ plain (codes "\", ")
    ∷ (told_pieces told ++ plain (codes " },\n") ∷ [])
