-- Columns that are marked by walking beside them: for private clauses.
use Rattle.std.specs.Prelude.{◌≡◌, ℕ, Bool, true, false, List, [], ◌∷◌, ◌++◌}
use Rattle.std.specs.List.{AllByRecursion}
use Rattle.std.specs.Str.{bytes_eq}
use Rattle.graph_core.specs.Krate.{has_text}
use Rattle.graph_core.specs.Metadata.{AreRising}
use Rattle.run_list_text.specs.Listing.{mark_if}

-- the first of the licences is the column
abbrev pub is_next : List (List ℕ) → List ℕ → Bool
is_next [] column = false
is_next (license ∷ licenses) column = bytes_eq license column

abbrev pub rest_if : Bool → List (List ℕ) → List (List ℕ)
rest_if true [] = []
rest_if true (license ∷ licenses) = licenses
rest_if false licenses = licenses

-- each column is marked where it is the first of the licences that are left, which is then used up
abbrev pub column_marks : List (List ℕ) → List (List ℕ) → List ℕ
column_marks [] licenses = []
column_marks (column ∷ columns) licenses =
    mark_if (is_next licenses column) ++ column_marks columns (rest_if (is_next licenses column) licenses)

-- the columns are in order, and so are the licences, each of which has a column
pub record HasColumns (columns licenses : List (List ℕ)) : Type 0 where
  pub columns_ordered : AreRising columns
  pub licenses_ordered : AreRising licenses
  pub among : AllByRecursion (λ license. has_text columns license ≡ true) licenses
