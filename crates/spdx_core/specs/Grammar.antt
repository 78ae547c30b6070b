-- The grammar of licence expressions (SPDX 2.3, Annex D, as a profile), over the items of a text.
use Rattle.std.specs.Prelude.{ℕ, ◌+◌, Bool, not, ◌&&◌, ◌||◌, IsTrue, List, [], ◌∷◌, ◌++◌, Option, Some, None, length}
use Rattle.spdx_terms.specs.declared.mode.ParseMode.{ParseMode}
use Rattle.spdx_terms.specs.declared.term.LicenseItem.{LicenseItem}
use Rattle.spdx_terms.specs.declared.term.ExpressionReq.{ExpressionReq}
use Rattle.spdx_terms.specs.declared.item.ItemKind.{ItemKind}
use Rattle.spdx_terms.specs.declared.item.ItemKind.TheVariants.{Term, Exception, And, Or, With, Open, Close}
use Rattle.spdx_terms.specs.declared.item.Item.{Item}
use Rattle.spdx_terms.specs.declared.item.Simple.{Simple}
use Rattle.spdx_terms.specs.declared.item.LicenseMarks.{LicenseMarks}
use Rattle.spdx_terms.specs.catalog.Catalog.{CatalogLists}
use Rattle.spdx_terms.specs.Items.{items_of}

-- the terms of an expression by their places, and how they are joined
pub data ExpressionTree : Type 0 where
  leaf : ℕ → ExpressionTree
  both : ExpressionTree → ExpressionTree → ExpressionTree
  either : ExpressionTree → ExpressionTree → ExpressionTree

pub data Rule : Type 0 where
  expression : Rule
  conjunction : Rule
  part : Rule

-- the marks that a mode may refuse
pub record AllowedForms : Type 0 where
  pub deprecated : Bool
  pub gnu_plus : Bool

abbrev pub allowed_in : ParseMode → AllowedForms
allowed_in mode = record { deprecated = mode.allow_deprecated; gnu_plus = mode.allow_postfix_plus_on_gpl }

-- the marks of a term are allowed
abbrev pub takes : AllowedForms → LicenseMarks → Bool
takes allowed marks =
    (allowed.deprecated || not marks.deprecated) && (allowed.gnu_plus || not (marks.gnu && marks.plus))

-- what is from one place to another
abbrev pub item : ItemKind → ℕ → ℕ → Item
item what start end = record { what = what; span = record { start = start; end = end } }

abbrev pub term : LicenseItem → Option (List ℕ) → ℕ → ℕ → ExpressionReq
term license exception start end =
    record { req = record { item = license; exception = exception }; span = record { start = start; end = end } }

-- By a rule, items spell a tree and its terms, whose places are counted from a number on.
pub data ReadsAs (allowed : AllowedForms) : Rule → ℕ → List Item → ExpressionTree → List ExpressionReq → Type 0 where
  -- a licence or a reference
  simple : (n : ℕ) (named : Simple) (start end : ℕ)
      → IsTrue (takes allowed named.marks)
      → ReadsAs allowed part n (item (Term named) start end ∷ []) (leaf n) (term named.item None start end ∷ [])
  -- with an exception
  simple_with : (n : ℕ) (named : Simple) (exception : List ℕ) (start mid from to last end : ℕ)
      → IsTrue (takes allowed named.marks)
      → ReadsAs allowed part n
      (item (Term named) start mid ∷ item With from to ∷ item (Exception exception) last end ∷ []) (leaf n)
      (term named.item (Some exception) start end ∷ [])
  -- an expression in parentheses, which make no node
  grouped : (n from to last end : ℕ) (items : List Item) (tree : ExpressionTree) (terms : List ExpressionReq)
      → ReadsAs allowed expression n items tree terms
      → ReadsAs allowed part n (item Open from to ∷ items ++ item Close last end ∷ []) tree terms
  one_part : (n : ℕ) (items : List Item) (tree : ExpressionTree) (terms : List ExpressionReq)
      → ReadsAs allowed part n items tree terms → ReadsAs allowed conjunction n items tree terms
  and : (n from to : ℕ) (before behind : List Item) (left right : ExpressionTree) (some more : List ExpressionReq)
      → ReadsAs allowed conjunction n before left some
      → ReadsAs allowed part (n + length some) behind right more
      → ReadsAs allowed conjunction n (before ++ item And from to ∷ behind) (both left right) (some ++ more)
  one_conjunction : (n : ℕ) (items : List Item) (tree : ExpressionTree) (terms : List ExpressionReq)
      → ReadsAs allowed conjunction n items tree terms → ReadsAs allowed expression n items tree terms
  or : (n from to : ℕ) (before behind : List Item) (left right : ExpressionTree) (some more : List ExpressionReq)
      → ReadsAs allowed expression n before left some
      → ReadsAs allowed conjunction (n + length some) behind right more
      → ReadsAs allowed expression n (before ++ item Or from to ∷ behind) (either left right) (some ++ more)

-- a text is spelled so in a mode, over a catalogue
abbrev pub Spells : ParseMode → CatalogLists → List ℕ → ExpressionTree → List ExpressionReq → Type 0
Spells mode lists text tree terms = ReadsAs (allowed_in mode) expression 0 (items_of mode lists text) tree terms
