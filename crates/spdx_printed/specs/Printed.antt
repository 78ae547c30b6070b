-- An expression as it is printed.
use Rattle.std.specs.Prelude.{ℕ, Bool, true, false, ◌||◌, List, [], ◌++◌, codes, slice_get, unwrap_or}
use Rattle.std.specs.Option.{option_map}
use Rattle.spdx_terms.specs.declared.term.ExpressionReq.{ExpressionReq}
use Rattle.spdx_terms.specs.Terms.{req_text}
use Rattle.spdx_core.specs.Grammar.{ExpressionTree, leaf, both, either}

-- a tree is two sides joined by `AND`, or by `OR`
abbrev pub is_and : ExpressionTree → Bool
is_and (leaf place) = false
is_and (both left right) = true
is_and (either left right) = false

abbrev pub is_or : ExpressionTree → Bool
is_or (leaf place) = false
is_or (both left right) = false
is_or (either left right) = true

-- a text in parentheses, or as it is
abbrev pub grouped_if : Bool → List ℕ → List ℕ
grouped_if true text = codes "(" ++ (text ++ codes ")")
grouped_if false text = text

-- the term at a place
abbrev pub term_text : List ExpressionReq → ℕ → List ℕ
term_text terms place = unwrap_or (option_map (λ term. req_text term.req) (slice_get terms place)) []

-- The terms as they are printed, with ` AND ` and ` OR ` between. In parentheses stand a side of AND that is an OR, a
-- right side of AND that is an AND, and a right side of OR that is an OR; nothing else.
abbrev pub printed_of : List ExpressionReq → ExpressionTree → List ℕ
printed_of terms (leaf place) = term_text terms place
printed_of terms (both left right) =
    grouped_if (is_or left) (printed_of terms left)
    ++ (codes " AND " ++ grouped_if (is_or right || is_and right) (printed_of terms right))
printed_of terms (either left right) =
    printed_of terms left ++ (codes " OR " ++ grouped_if (is_or right) (printed_of terms right))
