-- How many licences are built in.
use Rattle.std.proofs.Common.{◌≡◌, ◌∙◌, ℕ, refl, ap, arith, List, [], ◌∷◌, ◌++◌, length, codes, decimal}
use Rattle.std.proofs.lemmas.Fmt.{decimal_digit, decimal_step}
use Rattle.spdx_terms.specs.catalog.Table.{families, gnu_families, single_names, table_licenses}
use Rattle.refusal_help.specs.Words.{built_in_words}

are_counted : length table_licenses ≡ 84
unfolding single_names families gnu_families
are_counted = refl

number : decimal 84 ≡ 56 ∷ 52 ∷ []
number = decimal_step 84 (omega arith) (omega arith) ∙ ap (λ (digits : List ℕ). digits ++ 52 ∷ []) (decimal_digit 8 (omega arith))

abbrev counted : List ℕ → List ℕ
counted digits = codes "the catalogue has " ++ digits ++ codes " licences: cargo deny --catalog FILE names others"

pub built_in_are_counted : built_in_words ≡ codes "the catalogue has 84 licences: cargo deny --catalog FILE names others"
built_in_are_counted = ap (λ (count : ℕ). counted (decimal count)) are_counted ∙ ap counted number
