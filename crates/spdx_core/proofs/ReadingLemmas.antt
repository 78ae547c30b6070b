-- The plain reader reads what is spelled.
use Rattle.std.proofs.Common.{◌≡◌, ◌∙◌, refl, sym, ap, ℕ, ◌+◌, true, cond, nat_eq, List, [], ◌∷◌, ◌++◌, append_assoc, append-nil, Option, Some, None, length, arith}
use Rattle.std.proofs.lemmas.List.{length-append}
use Rattle.std.proofs.lemmas.Bool.Decides.{nat_tests}
use Rattle.std.specs.Option.{option_and_then}
use Rattle.spdx_terms.specs.declared.term.ExpressionReq.{ExpressionReq}
use Rattle.spdx_terms.specs.declared.item.ItemKind.TheVariants.{And, Or, Close}
use Rattle.spdx_terms.specs.declared.item.Item.{Item}
use Rattle.spdx_core.specs.Grammar.{ExpressionTree, leaf, both, Rule, expression, conjunction, part, ReadsAs, AllowedForms, simple, simple_with, grouped, one_part, and, one_conjunction, or, item, term}
use Rattle.spdx_core.specs.Reading.{ParenthesisLevel, ReaderState, nothing_read, product_with, sum_with, level_tree, with_exception, after_items, numbered_from}

-- the last term gets its exception
last_excepted : (terms : List ExpressionReq) (last : ExpressionReq) (name : List ℕ) (end : ℕ) → with_exception (terms ++ last ∷ []) name end ≡ terms ++ term last.req.item (Some name) last.span.start end ∷ []
last_excepted [] last name end = refl
last_excepted (first ∷ []) last name end = refl
last_excepted (first ∷ next ∷ rest) last name end = ap (λ more. first ∷ more) (last_excepted (next ∷ rest) last name end)

abbrev state : List ParenthesisLevel → Option ExpressionTree → Option ExpressionTree → List ExpressionReq → ReaderState
state outer sum product terms = record { outer = outer; level = record { sum = sum; product = product }; terms = terms }

-- what an expression leaves: a conjunction, which with the sum before it is the tree
pub record ReadWhole (outer : List ParenthesisLevel) (terms : List ExpressionReq) (items rest : List Item) (tree : ExpressionTree) (more : List ExpressionReq) : Type 0 where
  pub sum : Option ExpressionTree
  pub last : ExpressionTree
  pub whole : sum_with sum last ≡ tree
  pub read : after_items (state outer None None terms) (items ++ rest) ≡ after_items (state outer sum (Some last) (terms ++ more)) rest

abbrev pub Says : Rule → List ParenthesisLevel → Option ExpressionTree → Option ExpressionTree → List ExpressionReq → List Item → List Item → ExpressionTree → List ExpressionReq → Type 0
Says part outer sum product terms items rest tree more = after_items (state outer sum product terms) (items ++ rest) ≡ after_items (state outer sum (Some (product_with product tree)) (terms ++ more)) rest
Says conjunction outer sum product terms items rest tree more = after_items (state outer sum None terms) (items ++ rest) ≡ after_items (state outer sum (Some tree) (terms ++ more)) rest
Says expression outer sum product terms items rest tree more = ReadWhole outer terms items rest tree more

more_terms : (terms some : List ExpressionReq) (n : ℕ) → length terms ≡ n → length (terms ++ some) ≡ n + length some
more_terms terms some n e = length-append terms some ∙ ap (λ k. k + length some) e

pub complete : {allowed : AllowedForms} {rule : Rule} {n : ℕ} {items : List Item} {tree : ExpressionTree} {more : List ExpressionReq} → ReadsAs allowed rule n items tree more
    → (outer : List ParenthesisLevel) (sum product : Option ExpressionTree) (terms : List ExpressionReq) (rest : List Item) → length terms ≡ n → Says rule outer sum product terms items rest tree more
complete (simple n named start end ok) outer sum product terms rest e =
    ap (λ k. after_items (state outer sum (Some (product_with product (leaf k))) (terms ++ term named.item None start end ∷ [])) rest) e
complete (simple_with n named name start mid from to last end ok) outer sum product terms rest e =
    ap (λ all. after_items (state outer sum (Some (product_with product (leaf (length terms)))) all) rest) (last_excepted terms (term named.item None start mid) name end)
    ∙ ap (λ k. after_items (state outer sum (Some (product_with product (leaf k))) (terms ++ term named.item (Some name) start end ∷ [])) rest) e
complete (grouped n from to last end inner tree more reads) outer sum product terms rest e =
    let r = complete reads (record { sum = sum; product = product } ∷ outer) None None terms (item Close last end ∷ rest) e in
    ap (λ all. after_items (state (record { sum = sum; product = product } ∷ outer) None None terms) all) (append_assoc inner (item Close last end ∷ []) rest)
    ∙ r.read
    ∙ ap (λ t. after_items (state outer sum (Some (product_with product t)) (terms ++ more)) rest) r.whole
complete (one_part n items tree more reads) outer sum product terms rest e = complete reads outer sum None terms rest e
complete (and n from to before behind left right some more reads_left reads_right) outer sum product terms rest e =
    ap (λ all. after_items (state outer sum None terms) all) (append_assoc before (item And from to ∷ behind) rest)
    ∙ complete reads_left outer sum None terms (item And from to ∷ (behind ++ rest)) e
    ∙ complete reads_right outer sum (Some left) (terms ++ some) rest (more_terms terms some n e)
    ∙ ap (λ all. after_items (state outer sum (Some (both left right)) all) rest) (append_assoc terms some more)
complete (one_conjunction n items tree more reads) outer sum product terms rest e = record {
  sum = None;
  last = tree;
  whole = refl;
  read = complete reads outer None None terms rest e;
}
complete (or n from to before behind left right some more reads_left reads_right) outer sum product terms rest e =
    let l = complete reads_left outer None None terms (item Or from to ∷ (behind ++ rest)) e in
    record {
      sum = Some left;
      last = right;
      whole = refl;
      read =
          ap (λ all. after_items (state outer None None terms) all) (append_assoc before (item Or from to ∷ behind) rest)
          ∙ l.read
          ∙ ap (λ t. after_items (state outer (Some t) None (terms ++ some)) (behind ++ rest)) l.whole
          ∙ complete reads_right outer (Some left) None (terms ++ some) rest (more_terms terms some n e)
          ∙ ap (λ all. after_items (state outer (Some left) (Some right) all) rest) (append_assoc terms some more);
    }

-- all items of a text
pub record ReadAll (items : List Item) (tree : ExpressionTree) (terms : List ExpressionReq) : Type 0 where
  pub tree_read : level_tree (after_items nothing_read items).level ≡ Some tree
  pub terms_read : (after_items nothing_read items).terms ≡ terms

pub read_all : {allowed : AllowedForms} {items : List Item} {tree : ExpressionTree} {terms : List ExpressionReq} → ReadsAs allowed expression 0 items tree terms → ReadAll items tree terms
read_all {items = items} {tree = tree} {terms = terms} reads =
    let r = complete reads [] None None [] [] refl in
    let whole = ap (after_items nothing_read) (sym (append-nil items)) ∙ r.read in
    record {
      tree_read = ap (λ read. level_tree read.level) whole ∙ ap Some r.whole;
      terms_read = ap (λ read. read.terms) whole;
    }

-- places are numbered
numbered_joined : (n m k : ℕ) (left right : ExpressionTree) → numbered_from n left ≡ Some m → numbered_from m right ≡ Some k → option_and_then (λ x. numbered_from x right) (numbered_from n left) ≡ Some k
numbered_joined n m k left right l r = ap (option_and_then (λ x. numbered_from x right)) l ∙ r

same_place : (n : ℕ) → nat_eq n n ≡ true
same_place n = grind (arith, nat_tests)

pub numbered : {allowed : AllowedForms} {rule : Rule} {n : ℕ} {items : List Item} {tree : ExpressionTree} {terms : List ExpressionReq} → ReadsAs allowed rule n items tree terms → numbered_from n tree ≡ Some (n + length terms)
numbered (simple n named start end ok) = ap (λ t. cond t (Some (n + 1)) None) (same_place n)
numbered (simple_with n named name start mid from to last end ok) = ap (λ t. cond t (Some (n + 1)) None) (same_place n)
numbered (grouped n from to last end inner tree terms reads) = numbered reads
numbered (one_part n items tree terms reads) = numbered reads
numbered (and n from to before behind left right some more l r) =
    numbered_joined n (n + length some) ((n + length some) + length more) left right (numbered l) (numbered r)
    ∙ ap Some (let e : (n + length some) + length more ≡ n + length (some ++ more) = omega (arith, length-append some more) in e)
numbered (one_conjunction n items tree terms reads) = numbered reads
numbered (or n from to before behind left right some more l r) =
    numbered_joined n (n + length some) ((n + length some) + length more) left right (numbered l) (numbered r)
    ∙ ap Some (let e : (n + length some) + length more ≡ n + length (some ++ more) = omega (arith, length-append some more) in e)

-- the last term of a list, by what `pop` says
pub last_by : (terms front new : List ExpressionReq) (last : ExpressionReq) (name : List ℕ) (end : ℕ) → terms ≡ front ++ last ∷ [] → new ≡ front ++ term last.req.item (Some name) last.span.start end ∷ [] → new ≡ with_exception terms name end
last_by terms front new last name end is made = made ∙ sym (last_excepted front last name end) ∙ ap (λ all. with_exception all name end) (sym is)
