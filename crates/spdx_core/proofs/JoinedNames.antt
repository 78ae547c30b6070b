-- Names that are joined by ` AND `.
use Rattle.std.proofs.Common.{◌≡◌, ◌∙◌, refl, sym, ap, subst, ℕ, ◌+◌, Bool, true, false, not, ◌&&◌, List, [], ◌∷◌, ◌++◌, append_assoc, append-nil, Some, None, length, arith}
use Rattle.std.proofs.lemmas.List.{length-append}
use Rattle.std.proofs.Math.Seq.{drop-append_seam}
use Rattle.std.specs.Prelude.{codes}
use Rattle.std.specs.List.{AllByRecursion, AllZip}
use Rattle.spdx_terms.specs.declared.catalog.catalog.LicenseEntry.{LicenseEntry}
use Rattle.spdx_terms.specs.catalog.Catalog.{CatalogLists, IsCatalog, entry_of}
use Rattle.spdx_terms.specs.catalog.Words.{ends_word}
use Rattle.spdx_terms.specs.declared.term.LicenseItem.TheVariants.{Spdx}
use Rattle.spdx_terms.specs.declared.term.ExpressionReq.{ExpressionReq}
use Rattle.spdx_terms.specs.declared.item.Simple.{Simple}
use Rattle.spdx_terms.specs.declared.item.Item.{Item}
use Rattle.spdx_terms.specs.declared.item.ItemKind.TheVariants.{Term, And}
use Rattle.spdx_terms.specs.declared.item.WantedItem.TheVariants.{Term as wants_term, AfterTerm}
use Rattle.spdx_terms.specs.Items.{item_at, plus_behind, items_of, items_from}
use Rattle.spdx_terms.proofs.ItemBorders.{step_white}
use Rattle.spdx_core.specs.Grammar.{ExpressionTree, leaf, both, ReadsAs, conjunction, expression, allowed_in, simple, one_part, and, one_conjunction, item, term}
use Rattle.spdx_core.specs.Printing.{named_mode, next_names, joined_names, with_names, IsKnown, IsNameOf, JoinedNamesAreRead}
use Rattle.spdx_core.proofs.NameItems.{word_step, name_step}

-- what follows a name begins no word and no `+`
ends : (names : List (List ℕ)) → ends_word (next_names names) ≡ true
ends [] = refl
ends (name ∷ names) = refl

no_plus : (names : List (List ℕ)) → plus_behind (next_names names) 0 ≡ false
no_plus [] = refl
no_plus (name ∷ names) = refl

-- the term of a name that is from a place on
named_at : List ℕ → LicenseEntry → ℕ → Simple
named_at name entry place = record {
  item = Spdx name entry.family entry.rank entry.later false;
  marks = record { later = entry.later; deprecated = entry.deprecated; gnu = entry.gnu; plus = false };
  name_end = place + length name;
}

-- no `+` was written, so a name of a GNU family is allowed
unmarked : (gnu : Bool) → not (gnu && false) ≡ true
unmarked true = refl
unmarked false = refl

-- a name that others may follow
one_name : (lists : CatalogLists) (place : ℕ) (name : List ℕ) (names : List (List ℕ)) (entry : LicenseEntry) → IsCatalog lists → entry_of lists.licenses name ≡ Some entry
    → items_from named_mode lists wants_term place place (name ++ next_names names)
    ≡ item (Term (named_at name entry place)) place (place + length name) ∷ items_from named_mode lists AfterTerm (place + length name) (place + length name) (next_names names)
unfolding named_at
one_name lists place name names entry laws known =
    let whole : length (name ++ next_names names) ≡ length name + length (next_names names) = length-append name (next_names names) in
    name_step named_mode lists place name (next_names names) entry false laws refl known (ends names) (no_plus names) (length name) refl (omega arith) (omega arith)
    ∙ ap (λ rest. item (Term (named_at name entry place)) place (place + length name) ∷ items_from named_mode lists AfterTerm (place + length name) (place + length name) rest) (drop-append_seam name (next_names names))

-- ` AND ` before a text
one_and : (lists : CatalogLists) (place : ℕ) (rest : List ℕ)
    → items_from named_mode lists AfterTerm place place (codes " AND " ++ rest) ≡ item And (place + 1) (place + 1 + 3) ∷ items_from named_mode lists wants_term (place + 1 + 3 + 1) (place + 1 + 3 + 1) rest
one_and lists place rest =
    step_white named_mode lists AfterTerm place 32 (codes "AND " ++ rest) refl
    ∙ word_step named_mode lists AfterTerm (place + 1) (codes "AND") (32 ∷ rest) (item_at And (place + 1) 3) 3 refl refl refl refl (omega arith) (omega arith)
    ∙ ap (λ items. item And (place + 1) (place + 1 + 3) ∷ items) (step_white named_mode lists wants_term (place + 1 + 3) 32 rest refl)

record Extended (lists : CatalogLists) (place : ℕ) (before : List Item) (tree : ExpressionTree) (some : List ExpressionReq) (names : List (List ℕ)) : Type 0 where
  more : List ExpressionReq
  reads : ReadsAs (allowed_in named_mode) conjunction 0 (before ++ items_from named_mode lists AfterTerm place place (next_names names)) (with_names tree (length some) names) (some ++ more)
  named : AllZip (IsNameOf lists) names more

-- what was read goes on with each name
extended : (lists : CatalogLists) → IsCatalog lists → (names : List (List ℕ)) → AllByRecursion (IsKnown lists) names → (place : ℕ) (before : List Item) (tree : ExpressionTree) (some : List ExpressionReq)
    → ReadsAs (allowed_in named_mode) conjunction 0 before tree some → Extended lists place before tree some names
unfolding named_at
extended lists laws [] known place before tree some reads = record {
  more = [];
  reads =
      subst (λ terms. ReadsAs (allowed_in named_mode) conjunction 0 (before ++ []) tree terms) (sym (append-nil some))
      (subst (λ items. ReadsAs (allowed_in named_mode) conjunction 0 items tree some) (sym (append-nil before)) reads);
  named = tt;
}
extended lists laws (name ∷ names) (here, others) place before tree some reads =
    let entry = here.0 in
    let from : ℕ = place + 1 + 3 + 1 in
    let to : ℕ = from + length name in
    let named = named_at name entry from in
    let sign = item And (place + 1) (place + 1 + 3) in
    let it = item (Term named) from to in
    let one : ExpressionReq = term named.item None from to in
    let place_of : 0 + length some ≡ length some = omega arith in
    let joined : ReadsAs (allowed_in named_mode) conjunction 0 (before ++ sign ∷ it ∷ []) (both tree (leaf (0 + length some))) (some ++ one ∷ []) =
    and 0 (place + 1) (place + 1 + 3) before (it ∷ []) tree (leaf (0 + length some)) some (one ∷ []) reads (simple (0 + length some) named from to (unmarked entry.gnu)) in
    let first : ReadsAs (allowed_in named_mode) conjunction 0 (before ++ sign ∷ it ∷ []) (both tree (leaf (length some))) (some ++ one ∷ []) =
    subst (λ n. ReadsAs (allowed_in named_mode) conjunction 0 (before ++ sign ∷ it ∷ []) (both tree (leaf n)) (some ++ one ∷ [])) place_of joined in
    let next : Extended lists to (before ++ sign ∷ it ∷ []) (both tree (leaf (length some))) (some ++ one ∷ []) names =
    extended lists laws names others to (before ++ sign ∷ it ∷ []) (both tree (leaf (length some))) (some ++ one ∷ []) first in
    let rest = items_from named_mode lists AfterTerm to to (next_names names) in
    let step : items_from named_mode lists AfterTerm place place (next_names (name ∷ names)) ≡ sign ∷ it ∷ rest =
    ap (λ text. items_from named_mode lists AfterTerm place place text) (append_assoc (codes " AND ") name (next_names names))
    ∙ one_and lists place (name ++ next_names names)
    ∙ ap (λ items. sign ∷ items) (one_name lists from name names entry laws here.1) in
    let count : length (some ++ one ∷ []) ≡ length some + 1 = length-append some (one ∷ []) in
    record {
      more = one ∷ next.more;
      reads =
          subst (λ items. ReadsAs (allowed_in named_mode) conjunction 0 items (with_names tree (length some) (name ∷ names)) (some ++ one ∷ next.more))
          (append_assoc before (sign ∷ it ∷ []) rest ∙ ap (λ items. before ++ items) (sym step))
          (subst (λ n. ReadsAs (allowed_in named_mode) conjunction 0 ((before ++ sign ∷ it ∷ []) ++ rest) (with_names (both tree (leaf (length some))) n names) (some ++ one ∷ next.more)) count
          (subst (λ terms. ReadsAs (allowed_in named_mode) conjunction 0 ((before ++ sign ∷ it ∷ []) ++ rest) (with_names (both tree (leaf (length some))) (length (some ++ one ∷ [])) names) terms) (append_assoc some (one ∷ []) next.more) next.reads));
      named = (record { entry = entry; known = here.1; is = refl }, next.named);
    }

pub joined_read : JoinedNamesAreRead
unfolding named_at
joined_read lists first names laws here others =
    let entry = here.0 in
    let named = named_at first entry 0 in
    let to : ℕ = 0 + length first in
    let it = item (Term named) 0 to in
    let one : ExpressionReq = term named.item None 0 to in
    let start : ReadsAs (allowed_in named_mode) conjunction 0 (it ∷ []) (leaf 0) (one ∷ []) = one_part 0 (it ∷ []) (leaf 0) (one ∷ []) (simple 0 named 0 to (unmarked entry.gnu)) in
    let all : Extended lists to (it ∷ []) (leaf 0) (one ∷ []) names = extended lists laws names others to (it ∷ []) (leaf 0) (one ∷ []) start in
    let items : items_of named_mode lists (joined_names first names) ≡ it ∷ items_from named_mode lists AfterTerm to to (next_names names) = one_name lists 0 first names entry laws here.1 in (
      one ∷ all.more,
      subst (λ found. ReadsAs (allowed_in named_mode) expression 0 found (with_names (leaf 0) 1 names) (one ∷ all.more)) (sym items)
          (one_conjunction 0 _ (with_names (leaf 0) 1 names) (one ∷ all.more) all.reads),
      (record { entry = entry; known = here.1; is = refl }, all.named),
    )
