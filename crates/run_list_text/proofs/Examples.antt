-- Listings of four crates for people and in columns, worked out by hand from the rules.
use Rattle.std.proofs.Common.{◌≡◌, refl, ap, ap₂, ℕ, List, [], ◌∷◌, ◌++◌, codes, arith}
use Rattle.std.proofs.lemmas.Fmt.{decimal_digit}
use Rattle.run_request.specs.declared.output.OutputFormat.TheVariants.{Human, Tsv}
use Rattle.run_request.specs.declared.output.Layout.TheVariants.{Crate, License}
use Rattle.run_list_text.specs.declared.listed.ListedCrate.{ListedCrate}
use Rattle.run_list_text.specs.Listed.{distinct_texts}
use Rattle.run_list_text.specs.Listing.{listing_of, plain_text}

abbrev one : List ℕ → List (List ℕ) → ListedCrate
one name licenses = record { name = name; licenses = licenses }

abbrev four : List ListedCrate
four =
    one (codes "a@1.0.0") (codes "ISC" ∷ codes "MIT" ∷ [])
    ∷ one (codes "b@1.0.0") []
    ∷ one (codes "c@1.0.0") (codes "MIT" ∷ [])
    ∷ one (codes "d@1.0.0") (codes "Apache-2.0" ∷ codes "MIT" ∷ [])
    ∷ []

abbrev alone : List ListedCrate
alone = one (codes "a@1.0.0") [] ∷ []

each_once : distinct_texts (codes "MIT" ∷ codes "ISC" ∷ codes "MIT" ∷ []) ≡ codes "ISC" ∷ codes "MIT" ∷ []
each_once = refl

spaces : plain_text (codes "a\tb\nc\"") ≡ codes "a b c\""
spaces = refl

in_columns : listing_of Tsv License four ≡ codes "crate\tApache-2.0\tISC\tMIT\tUnlicensed\na@1.0.0\t\tX\tX\t\nb@1.0.0\t\t\t\tX\nc@1.0.0\t\t\tX\t\nd@1.0.0\tX\t\tX\t\n"
in_columns = refl

in_columns_by_crate : listing_of Tsv Crate four ≡ listing_of Tsv License four
in_columns_by_crate = refl

none_in_columns : listing_of Tsv License alone ≡ codes "crate\tUnlicensed\na@1.0.0\tX\n"
none_in_columns = refl

-- ---- with numbers of one digit

abbrev line : List ℕ → List ℕ → List ℕ → List ℕ
line title digits body = (plain_text title ++ (codes " (" ++ (digits ++ codes "): "))) ++ (body ++ codes "\n")

by_license : List ℕ → List ℕ → List ℕ
by_license one_is three_is =
    (line (codes "Apache-2.0") one_is (codes "d@1.0.0")
    ++ (line (codes "ISC") one_is (codes "a@1.0.0")
    ++ (line (codes "MIT") three_is (codes "a@1.0.0, c@1.0.0, d@1.0.0") ++ [])))
    ++ line (codes "Unlicensed") one_is (codes "b@1.0.0")

for_people : listing_of Human License four ≡ codes "Apache-2.0 (1): d@1.0.0\nISC (1): a@1.0.0\nMIT (3): a@1.0.0, c@1.0.0, d@1.0.0\nUnlicensed (1): b@1.0.0\n"
unfolding by_license
for_people = ap₂ by_license (decimal_digit 1 (omega arith)) (decimal_digit 3 (omega arith))

none : listing_of Human License alone ≡ codes "Unlicensed (1): a@1.0.0\n"
none = ap (λ digits. line (codes "Unlicensed") digits (codes "a@1.0.0")) (decimal_digit 1 (omega arith))

none_by_crate : listing_of Human Crate alone ≡ codes "a@1.0.0 (0): Unlicensed\n"
none_by_crate = ap (λ digits. line (codes "a@1.0.0") digits (codes "Unlicensed") ++ []) (decimal_digit 0 (omega arith))
