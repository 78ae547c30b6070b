-- What is read of a text, and what is not.
use Rattle.std.proofs.Common.{◌≡◌, ◌∙◌, ℕ, Bool, true, false, cond, List, [], ◌∷◌, ◌++◌, codes, Option, Some, None, refl, sym, ap, append-nil, append_assoc}
use Rattle.std.specs.List.{filter_map, cons_option, flat_map}
use Rattle.std.specs.Option.{option_to_list}
use Rattle.std.proofs.lemmas.List.Concat.{flat_map-append}
use Rattle.std.proofs.lemmas.List.Elements.{filter_map-append}
use Rattle.std.specs.Prelude.{is_none}
use Rattle.spdx_terms.specs.catalog.Catalog.{CatalogLists}
use Rattle.spdx_terms.specs.declared.error.ParseError.{ParseError}
use Rattle.spdx_terms.specs.declared.mode.ParseMode.{ParseMode}
use Rattle.spdx_terms.specs.Items.{items_of}
use Rattle.spdx_terms.specs.Faults.{first_fault}
use Rattle.spdx_core.specs.Expressions.{IsExpressionRead}
use Rattle.spdx_core.specs.Reading.{ExpressionView, expression_if, expression_of_text, after_items, nothing_read}
use Rattle.spdx_core.specs.Printing.{named_mode, next_names}
use Rattle.spdx_core.proofs.SpellingLemmas.{is_read}
use Rattle.gather_license.specs.declared.expression.files.ScannedFile.{ScannedFile}
use Rattle.gather_license.specs.expression.Joined.{IsJoined, given_by, has_some}
use Rattle.gather_license.specs.expression.Scanned.{joined_name, names_given}
use Rattle.gather_license.specs.expression.Taken.{joined_read, joined_text}

pub of_read : (mode : ParseMode) (lists : CatalogLists) (text : List ℕ) (read : ExpressionView) → IsExpressionRead mode lists text read → Some read ≡ expression_of_text mode lists text
of_read mode lists text read is =
    sym (is_read mode lists text read.tree read.terms is.spelled
    ∙ ap (λ (own : List ℕ). Some (let e : ExpressionView = record { text = own; terms = read.terms; tree = read.tree } in e)) (sym is.text_kept))

pub of_fault : (mode : ParseMode) (lists : CatalogLists) (text : List ℕ) (fault : ParseError) → first_fault mode lists text ≡ Some fault → None ≡ expression_of_text mode lists text
of_fault mode lists text fault is =
    sym (ap (λ found. expression_if (is_none found) text (after_items nothing_read (items_of mode lists text))) is)

-- ---- joined names

pub joined-push : (names : List (List ℕ)) (name : List ℕ) → joined_text (names ++ name ∷ []) ≡ joined_text names ++ cond (has_some names) (codes " AND " ++ name) name
joined-push [] name = append-nil name
joined-push (first ∷ rest) name =
    ap (λ more. first ++ more) (flat_map-append (λ other. codes " AND " ++ other) rest (name ∷ []) ∙ ap (λ last. next_names rest ++ last) (append-nil (codes " AND " ++ name)))
    ∙ sym (append_assoc first (next_names rest) (codes " AND " ++ name))

some-push : (names : List (List ℕ)) (name : List ℕ) → has_some (names ++ name ∷ []) ≡ true
some-push [] name = refl
some-push (first ∷ rest) name = refl

-- a file gives a name
pub given_joined : (names : List (List ℕ)) (name old new : List ℕ) (some : Bool) → old ≡ joined_text names → some ≡ has_some names
    → new ≡ old ++ cond some (codes " AND " ++ name) name → IsJoined (names ++ name ∷ []) new true
given_joined names name old new some is known added = record {
  is =
      added ∙ ap (λ t. t ++ cond some (codes " AND " ++ name) name) is
      ∙ ap (λ b. joined_text names ++ cond b (codes " AND " ++ name) name) known
      ∙ sym (joined-push names name);
  known = sym (some-push names name);
}

-- a file gives none
pub none_joined : (names : List (List ℕ)) (text : List ℕ) (some : Bool) → text ≡ joined_text names → some ≡ has_some names → IsJoined (names ++ []) text some
none_joined names text some is known = record { is = is ∙ ap joined_text (sym (append-nil names)); known = known ∙ ap has_some (sym (append-nil names)) }

one_given : (o : Option (List ℕ)) → cons_option o [] ≡ option_to_list o
one_given None = refl
one_given (Some name) = refl

pub names_given-push : (files : List ScannedFile) (file : ScannedFile) → names_given (files ++ file ∷ []) ≡ names_given files ++ given_by file
names_given-push files file =
    filter_map-append (λ (one : ScannedFile). joined_name one.scanned) files (file ∷ []) ∙ ap (λ last. names_given files ++ last) (one_given (joined_name file.scanned))

pub joined_some : (lists : CatalogLists) (names : List (List ℕ)) (text : List ℕ) → text ≡ joined_text names → true ≡ has_some names → expression_of_text named_mode lists text ≡ joined_read lists names
joined_some lists [] text is some = cc
joined_some lists (first ∷ names) text is some = ap (expression_of_text named_mode lists) is

pub joined_none : (lists : CatalogLists) (names : List (List ℕ)) → false ≡ has_some names → joined_read lists names ≡ None
joined_none lists [] none = refl
joined_none lists (first ∷ names) none = cc
