-- The terms of a text are terms over its catalogue.
use Rattle.std.proofs.Common.{◌≡◌, ◌∙◌, refl, subst, ℕ, Bool, true, false, cond, List, [], ◌∷◌, ◌++◌, Option, Some, None, All, take}
use Rattle.std.proofs.lemmas.Bool.{false≢true}
use Rattle.std.proofs.lemmas.List.Elements.{All-from_recursion}
use Rattle.std.specs.Prelude.{codes}
use Rattle.std.specs.List.{AllByRecursion, before_first, after_first}
use Rattle.spdx_terms.specs.catalog.Catalog.{CatalogLists}
use Rattle.spdx_terms.specs.catalog.Words.{is_word}
use Rattle.spdx_terms.specs.declared.mode.ParseMode.{ParseMode}
use Rattle.spdx_terms.specs.declared.term.LicenseItem.{LicenseItem}
use Rattle.spdx_terms.specs.declared.term.LicenseItem.TheVariants.{Reference}
use Rattle.spdx_terms.specs.declared.term.LicenseReq.{LicenseReq}
use Rattle.spdx_terms.specs.declared.term.ExpressionReq.{ExpressionReq}
use Rattle.spdx_terms.specs.declared.item.LicenseMarks.{LicenseMarks}
use Rattle.spdx_terms.specs.declared.item.Item.{Item}
use Rattle.spdx_terms.specs.declared.item.ItemKind.{ItemKind}
use Rattle.spdx_terms.specs.declared.item.ItemKind.TheVariants.{Term, Exception, And, Or, With, Open, Close, Plus, Word, Other}
use Rattle.spdx_terms.specs.declared.item.WantedItem.TheVariants.{Term as wants_term}
use Rattle.spdx_terms.specs.Tokens.{is_colon, after_prefix, own_license, in_document, or_else, reference_of, one_of}
use Rattle.spdx_terms.specs.Items.{items_of}
use Rattle.spdx_terms.specs.Faults.{licensee_mode}
use Rattle.spdx_terms.specs.Licensee.{IsLicensee, IsOnePart, alone, with_exception, without_plus}
use Rattle.spdx_terms.proofs.ImpreciseLemmas.{some_same}
use Rattle.spdx_core.specs.Grammar.{ExpressionTree, Rule, AllowedForms, ReadsAs, Spells, simple, simple_with, grouped, one_part, and, one_conjunction, or, item}
use Rattle.spdx_core.specs.Printing.{IsWordIf, IsItemOf, IsTermOf}
use Rattle.spdx_core.proofs.ItemKinds.{is_other, Kinds, Each, each_item}

-- ---- references

record IsReference (it : LicenseItem) : Type 0 where
  doc : Option (List ℕ)
  id : List ℕ
  is : Reference doc id ≡ it
  doc_word : IsWordIf doc
  id_word : is_word id ≡ true

own_reference : (doc found : Option (List ℕ)) (it : LicenseItem) → IsWordIf doc → own_license doc found ≡ Some it → IsReference it
own_reference doc None it own h = absurd (cc)
own_reference doc (Some id) it own h =
    elim (is_word id) as (λ (t : Bool). is_word id ≡ t → cond t (Some (Reference doc id)) None ≡ Some it → IsReference it) [
      | true ↦ λ is e. record { doc = doc; id = id; is = some_same (Reference doc id) it e; doc_word = own; id_word = is }
      | false ↦ λ is e. absurd (cc)
    ]
    refl h

document_reference : (found : Option (List ℕ)) (it : LicenseItem) → in_document found ≡ Some it → IsReference it
document_reference None it h = absurd (cc)
document_reference (Some text) it h =
    let doc : List ℕ = before_first is_colon text in
    let id : Option (List ℕ) = after_prefix (codes "LicenseRef-") (after_first is_colon text) in
    elim (is_word doc) as (λ (t : Bool). is_word doc ≡ t → cond t (own_license (Some doc) id) None ≡ Some it → IsReference it) [
      | true ↦ λ is e. own_reference (Some doc) id it is e
      | false ↦ λ is e. absurd (cc)
    ]
    refl h

is_reference_of : (word : List ℕ) (it : LicenseItem) → reference_of word ≡ Some it → IsReference it
is_reference_of word it h =
    let own : Option LicenseItem = own_license None (after_prefix (codes "LicenseRef-") word) in
    let document : Option LicenseItem = in_document (after_prefix (codes "DocumentRef-") word) in
    elim own as (λ (found : Option LicenseItem). own ≡ found → or_else found document ≡ Some it → IsReference it) [
      | None ↦ λ is e. document_reference (after_prefix (codes "DocumentRef-") word) it e
      | Some one ↦ λ is e. own_reference None (after_prefix (codes "LicenseRef-") word) it tt (is ∙ e)
    ]
    refl h

-- ---- items

-- what a term names is of the catalogue, also where its `+` is ignored; and so is an exception
Said : CatalogLists → ItemKind → Type 0
Said lists (Term named) = IsItemOf lists named.item × IsItemOf lists (without_plus named.item named.marks)
Said lists (Exception name) = one_of lists.exceptions name ≡ true
Said lists And = Unit {0}
Said lists Or = Unit {0}
Said lists With = Unit {0}
Said lists Open = Unit {0}
Said lists Close = Unit {0}
Said lists Plus = Unit {0}
Said lists Word = Unit {0}
Said lists Other = Unit {0}

said_other : (lists : CatalogLists) (what : ItemKind) → is_other what ≡ true → Said lists what
unfolding Said
said_other lists (Term named) is = absurd (false≢true is)
said_other lists (Exception name) is = absurd (false≢true is)
said_other lists And is = tt
said_other lists Or is = tt
said_other lists With is = tt
said_other lists Open is = tt
said_other lists Close is = tt
said_other lists Plus is = tt
said_other lists Word is = tt
said_other lists Other is = tt

said_reference : (lists : CatalogLists) (it : LicenseItem) (marks : LicenseMarks) → IsReference it → IsItemOf lists it × IsItemOf lists (without_plus it marks)
said_reference lists it marks ref = subst (λ one. IsItemOf lists one × IsItemOf lists (without_plus one marks)) ref.is ((ref.doc_word, ref.id_word), (ref.doc_word, ref.id_word))

said_kinds : (lists : CatalogLists) → Kinds lists (λ place text it. Said lists it.what)
unfolding Said
said_kinds lists = record {
  license = λ name entry place text len known. (
    record { entry = entry; known = known; is_family = refl; is_rank = refl; is_later = refl },
    record { entry = entry; known = known; is_family = refl; is_rank = refl; is_later = refl },
  );
  reference = λ it place text len is. said_reference lists it (record { later = false; deprecated = false; gnu = false; plus = false }) (is_reference_of (take len text) it is);
  exception = λ name place text len known. known;
  other = λ what place text len is. said_other lists what is;
}

abbrev AllSaid : CatalogLists → List Item → Type 0
AllSaid lists items = Each (λ it. Said lists it.what) items

all_said : (mode : ParseMode) (lists : CatalogLists) (text : List ℕ) → AllSaid lists (items_of mode lists text)
all_said mode lists text = each_item (said_kinds lists) mode text (λ it. Said lists it.what) (λ place it said. said) wants_term 0 0 text refl

-- ---- terms

front_said : (lists : CatalogLists) (front back : List Item) → AllSaid lists (front ++ back) → AllSaid lists front
front_said lists [] back said = tt
front_said lists (it ∷ front) back said = (said.0, front_said lists front back said.1)

back_said : (lists : CatalogLists) (front back : List Item) → AllSaid lists (front ++ back) → AllSaid lists back
back_said lists [] back said = said
back_said lists (it ∷ front) back said = back_said lists front back said.1

abbrev Terms : CatalogLists → List ExpressionReq → Type 0
Terms lists terms = AllByRecursion (λ term. IsTermOf lists term.req) terms

more_terms : (lists : CatalogLists) (some more : List ExpressionReq) → Terms lists some → Terms lists more → Terms lists (some ++ more)
more_terms lists [] more first second = second
more_terms lists (term ∷ some) more first second = (first.0, more_terms lists some more first.1 second)

terms_said : (lists : CatalogLists) {allowed : AllowedForms} {rule : Rule} {n : ℕ} {items : List Item} {tree : ExpressionTree} {terms : List ExpressionReq} → ReadsAs allowed rule n items tree terms → AllSaid lists items → Terms lists terms
unfolding Said
terms_said lists (simple n named start end ok) said = (record { item = said.0.0; exception = tt }, tt)
terms_said lists (simple_with n named name start mid from to last end ok) said = (record { item = said.0.0; exception = said.1.1.0 }, tt)
terms_said lists (grouped n from to last end inner tree terms reads) said = terms_said lists reads (front_said lists inner (item Close last end ∷ []) said.1)
terms_said lists (one_part n items tree terms reads) said = terms_said lists reads said
terms_said lists (and n from to before behind left right some more l r) said =
    more_terms lists some more (terms_said lists l (front_said lists before (item And from to ∷ behind) said)) (terms_said lists r (back_said lists before (item And from to ∷ behind) said).1)
terms_said lists (one_conjunction n items tree terms reads) said = terms_said lists reads said
terms_said lists (or n from to before behind left right some more l r) said =
    more_terms lists some more (terms_said lists l (front_said lists before (item Or from to ∷ behind) said)) (terms_said lists r (back_said lists before (item Or from to ∷ behind) said).1)

pub terms_of : (mode : ParseMode) (lists : CatalogLists) (text : List ℕ) (tree : ExpressionTree) (terms : List ExpressionReq) → Spells mode lists text tree terms → All (λ term. IsTermOf lists term.req) terms
terms_of mode lists text tree terms spells = All-from_recursion (λ term. IsTermOf lists term.req) terms (terms_said lists spells (all_said mode lists text))

one_said : (lists : CatalogLists) {mode : ParseMode} {items : List Item} {req : LicenseReq} → IsOnePart mode items req → AllSaid lists items → IsTermOf lists req
unfolding Said
one_said lists (alone named span ok) said = record { item = said.0.1; exception = tt }
one_said lists (with_exception named name first second third ok) said = record { item = said.0.1; exception = said.1.1.0 }

pub licensee_of : (mode : ParseMode) (lists : CatalogLists) (text : List ℕ) (req : LicenseReq) → IsLicensee mode lists text req → IsTermOf lists req
licensee_of mode lists text req is = one_said lists is (all_said (licensee_mode mode) lists text)
