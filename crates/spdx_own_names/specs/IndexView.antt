-- Lists of licences and of imprecise texts, as the values of the code stand for them.
use Rattle.std.specs.Prelude.{ℕ, List, map}
use Rattle.std.specs.Str.{str_to_ascii_lowercase}
use Rattle.spdx_terms.specs.declared.catalog.catalog.LicenseEntry.{LicenseEntry}
use Rattle.spdx_own_names.specs.declared.entries.NamedEntry.{NamedEntry}
use Rattle.spdx_own_names.specs.declared.meanings.Meaning.{Meaning}

abbrev pub entries_listed : List NamedEntry → List (List ℕ × LicenseEntry)
entries_listed listed = map (λ one. (one.name, one.entry)) listed

abbrev pub meanings_listed : List Meaning → List (List ℕ × List ℕ)
meanings_listed listed = map (λ one. (one.text, one.name)) listed

-- the texts in lower case
abbrev pub texts_lowered : List (List ℕ × List ℕ) → List (List ℕ)
texts_lowered listed = map (λ one. str_to_ascii_lowercase one.0) listed
