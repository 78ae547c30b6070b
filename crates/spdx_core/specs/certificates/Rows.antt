-- Rows of expressions, with the places that have a hit.
use Rattle.std.specs.Prelude.{ℕ, ◌==◌, Bool, List, [], ◌∷◌, Option, Some, None}
use Rattle.std.specs.List.{list_any}
use Rattle.spdx_core.specs.Grammar.{ExpressionTree, leaf, both, either}
use Rattle.spdx_core.specs.certificates.Choices.{first_choice, least_choice, blocks_of}

-- some places alone have a hit
abbrev pub is_among : List ℕ → ℕ → Bool
is_among places place = list_any (λ other. other == place) places

pub record CertificateRow : Type 0 where
  pub tree : ExpressionTree
  pub hits : List ℕ
  pub first : Option (List ℕ)
  pub least : Option (List ℕ)
  pub blocks : List ℕ

-- what the definitions make of a row's expression and hits
abbrev pub computed_row : CertificateRow → CertificateRow
computed_row row = record {
  tree = row.tree;
  hits = row.hits;
  first = first_choice (is_among row.hits) row.tree;
  least = least_choice (is_among row.hits) row.tree;
  blocks = blocks_of (is_among row.hits) row.tree;
}

abbrev accepted_row : ExpressionTree → List ℕ → List ℕ → List ℕ → CertificateRow
accepted_row tree hits choice blocks =
    record { tree = tree; hits = hits; first = Some choice; least = Some choice; blocks = blocks }

abbrev rejected_row : ExpressionTree → List ℕ → List ℕ → List ℕ → CertificateRow
rejected_row tree hits least blocks =
    record { tree = tree; hits = hits; first = None; least = Some least; blocks = blocks }

-- (MIT OR X11) AND (X11 OR Zlib), and the like, where MIT and Zlib have hits; the blocks of an accepted tree mean
-- nothing
abbrev pub rows : List CertificateRow
rows =
    accepted_row (leaf 0) (0 ∷ []) (0 ∷ []) (0 ∷ [])
    ∷ accepted_row (either (leaf 0) (leaf 1)) (1 ∷ []) (1 ∷ []) (0 ∷ 1 ∷ [])
    ∷ rejected_row (both (leaf 0) (either (leaf 1) (leaf 2))) (0 ∷ []) (0 ∷ 1 ∷ []) (1 ∷ 2 ∷ [])
    ∷ rejected_row (both (leaf 0) (leaf 1)) [] (0 ∷ 1 ∷ []) (0 ∷ [])
    ∷ rejected_row (either (both (leaf 0) (leaf 1)) (both (leaf 2) (leaf 3))) (2 ∷ []) (2 ∷ 3 ∷ []) (0 ∷ 3 ∷ [])
    ∷ accepted_row (both (either (leaf 0) (leaf 1)) (either (leaf 2) (leaf 3))) (0 ∷ 3 ∷ []) (0 ∷ 3 ∷ []) (2 ∷ 3 ∷ [])
    ∷ accepted_row (both (both (either (leaf 0) (leaf 1)) (either (leaf 2) (leaf 3))) (leaf 4)) (1 ∷ 2 ∷ 3 ∷ 4 ∷ [])
    (1 ∷ 2 ∷ 4 ∷ []) (4 ∷ [])
    ∷ rejected_row (either (either (both (leaf 0) (leaf 1)) (both (leaf 2) (leaf 3))) (leaf 4)) [] (4 ∷ [])
    (0 ∷ 2 ∷ 4 ∷ [])
    ∷ accepted_row (either (leaf 0) (leaf 1)) (0 ∷ 1 ∷ []) (0 ∷ []) (0 ∷ 1 ∷ [])
    ∷ []
