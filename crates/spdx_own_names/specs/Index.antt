-- Lists that are looked up by maps.
use Rattle.std.specs.Prelude.{◌≡◌, ℕ, List, is_some}
use Rattle.std.specs.FinMap as finmap
use Rattle.deny_text.specs.TextMap.{TextMapTo}
use Rattle.spdx_terms.specs.declared.catalog.catalog.LicenseEntry.{LicenseEntry}
use Rattle.spdx_terms.specs.catalog.Catalog.{entry_of}
use Rattle.spdx_own_names.specs.File.{is_among}

-- the map has what is known of each name
abbrev pub HasEntries : TextMapTo LicenseEntry → List (List ℕ × LicenseEntry) → Type 0
HasEntries entries licenses = (name : List ℕ) → finmap.get entries name ≡ entry_of licenses name

-- the map has these names
abbrev pub HasNames : {V : Type 0} → TextMapTo V → List (List ℕ) → Type 0
HasNames known names = (name : List ℕ) → is_some (finmap.get known name) ≡ is_among name names
