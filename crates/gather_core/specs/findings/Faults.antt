-- What is wrong with a crate's field, as it is reported.
use Rattle.std.specs.Prelude.{ℕ, ◌&&◌, ◌==◌, Bool, List, [], ◌∷◌, length, Option, Some, None, if◌then◌else◌}
use Rattle.deny_text.specs.declared.span.Span.{Span}
use Rattle.spdx_terms.specs.catalog.Catalog.{CatalogLists}
use Rattle.spdx_terms.specs.declared.error.ParseError.{ParseError}
use Rattle.spdx_terms.specs.Faults.{first_fault}
use Rattle.gather_license.specs.expression.Taken.{lax_mode, strict_with_slash}

abbrev pub same_span : Span → Span → Bool
same_span one other = one.start == other.start && one.end == other.end

-- the strict reading's fault, and that of the lax reading, where that has one and it is elsewhere
abbrev pub faults_by : Option ParseError → Option ParseError → List ParseError
faults_by None other = []
faults_by (Some fault) None = fault ∷ []
faults_by (Some fault) (Some other) = if same_span fault.span other.span then fault ∷ [] else fault ∷ other ∷ []

-- an empty field is not read
abbrev pub field_faults : CatalogLists → List ℕ → List ParseError
field_faults lists field =
    if length field == 0 then []
    else faults_by (first_fault strict_with_slash lists field) (first_fault lax_mode lists field)
