-- A licensee's text without a fault is one part.
use Rattle.std.proofs.Common.{◌≡◌, ◌∙◌, refl, sym, ap, subst, IsTrue, ℕ, List, [], ◌∷◌, Option, Some, None}
use Rattle.deny_text.specs.declared.span.Span.{Span}
use Rattle.spdx_terms.specs.declared.error.ParseError.{ParseError}
use Rattle.spdx_terms.specs.declared.mode.ParseMode.{ParseMode}
use Rattle.spdx_terms.specs.declared.term.LicenseReq.{LicenseReq}
use Rattle.spdx_terms.specs.declared.item.WantedItem.TheVariants.{Term as wants_term, Exception as wants_exception, AfterTerm, AfterPart}
use Rattle.spdx_terms.specs.declared.item.ItemKind.{ItemKind}
use Rattle.spdx_terms.specs.declared.item.ItemKind.TheVariants.{Term, Exception, And, Or, With, Open, Close, Plus, Word, Other}
use Rattle.spdx_terms.specs.declared.item.Item.{Item}
use Rattle.spdx_terms.specs.declared.item.Simple.{Simple}
use Rattle.spdx_terms.specs.Faults.{licensee_fault_from, licensee_fault_of, licensee_mode, mark_fault, marks_allowed}
use Rattle.spdx_terms.specs.declared.item.LicenseMarks.{LicenseMarks}
use Rattle.spdx_terms.specs.declared.term.LicenseItem.{LicenseItem}
use Rattle.spdx_terms.specs.declared.term.LicenseItem.TheVariants.{Spdx, Reference}
use Rattle.spdx_terms.specs.catalog.Catalog.{CatalogLists}
use Rattle.spdx_terms.specs.Items.{items_of}
use Rattle.spdx_terms.proofs.ImpreciseLemmas.{some_same}
use Rattle.spdx_terms.specs.Licensee.{IsLicensee, HasNoPlus, without_plus, IsOnePart, alone, with_exception, part_of, licensee_req}
use Rattle.spdx_terms.proofs.FaultLemmas.{no, first_of-left, first_of-right, marks_taken}

pub record OnePart (mode : ParseMode) (items : List Item) : Type 0 where
  pub req : LicenseReq
  pub is : part_of items ≡ Some req
  pub one : IsOnePart mode items req

abbrev item : ItemKind → Span → Item
item what span = record { what = what; span = span }

no_item : (mode : ParseMode) (len : ℕ) (what : ItemKind) (span : Span) (rest : List Item) → licensee_fault_from mode len AfterPart (item what span ∷ rest) ≡ None → item what span ∷ rest ≡ []
no_item mode len (Term named) span rest h = no h
no_item mode len (Exception name) span rest h = no h
no_item mode len And span rest h = no h
no_item mode len Or span rest h = no h
no_item mode len With span rest h = no h
no_item mode len Open span rest h = no h
no_item mode len Close span rest h = no h
no_item mode len Plus span rest h = no h
no_item mode len Word span rest h = no h
no_item mode len Other span rest h = no h

nothing_behind : (mode : ParseMode) (len : ℕ) (rest : List Item) → licensee_fault_from mode len AfterPart rest ≡ None → rest ≡ []
nothing_behind mode len [] h = refl
nothing_behind mode len (it ∷ rest) h = no_item mode len it.what it.span rest h

third : (mode : ParseMode) (len : ℕ) (given : Simple) (first second : Span) (ok : IsTrue (marks_allowed mode given.marks)) (what : ItemKind) (span : Span) (rest : List Item) → licensee_fault_from mode len wants_exception (item what span ∷ rest) ≡ None → OnePart mode (item (Term given) first ∷ item With second ∷ item what span ∷ rest)
third mode len given first second ok (Term named) span rest h = no h
third mode len given first second ok (Exception name) span rest h =
    let P : List Item → Type 0 = λ tail. OnePart mode (item (Term given) first ∷ item With second ∷ item (Exception name) span ∷ tail) in
    subst P (sym (nothing_behind mode len rest h)) (record { req = licensee_req given (Some name); is = refl; one = with_exception given name first second span ok })
third mode len given first second ok And span rest h = no h
third mode len given first second ok Or span rest h = no h
third mode len given first second ok With span rest h = no h
third mode len given first second ok Open span rest h = no h
third mode len given first second ok Close span rest h = no h
third mode len given first second ok Plus span rest h = no h
third mode len given first second ok Word span rest h = no h
third mode len given first second ok Other span rest h = no h

exception_behind : (mode : ParseMode) (len : ℕ) (named : Simple) (first second : Span) (ok : IsTrue (marks_allowed mode named.marks)) (rest : List Item) → licensee_fault_from mode len wants_exception rest ≡ None
    → OnePart mode (item (Term named) first ∷ item With second ∷ rest)
exception_behind mode len named first second ok [] h = no h
exception_behind mode len named first second ok (it ∷ rest) h = third mode len named first second ok it.what it.span rest h

second_item : (mode : ParseMode) (len : ℕ) (given : Simple) (first : Span) (ok : IsTrue (marks_allowed mode given.marks)) (what : ItemKind) (span : Span) (rest : List Item) → licensee_fault_from mode len AfterTerm (item what span ∷ rest) ≡ None → OnePart mode (item (Term given) first ∷ item what span ∷ rest)
second_item mode len given first ok (Term named) span rest h = no h
second_item mode len given first ok (Exception name) span rest h = no h
second_item mode len given first ok And span rest h = no h
second_item mode len given first ok Or span rest h = no h
second_item mode len given first ok With span rest h = exception_behind mode len given first span ok rest h
second_item mode len given first ok Open span rest h = no h
second_item mode len given first ok Close span rest h = no h
second_item mode len given first ok Plus span rest h = no h
second_item mode len given first ok Word span rest h = no h
second_item mode len given first ok Other span rest h = no h

behind_term : (mode : ParseMode) (len : ℕ) (named : Simple) (first : Span) (ok : IsTrue (marks_allowed mode named.marks)) (rest : List Item) → licensee_fault_from mode len AfterTerm rest ≡ None
    → OnePart mode (item (Term named) first ∷ rest)
behind_term mode len named first ok [] h = record { req = licensee_req named None; is = refl; one = alone named first ok }
behind_term mode len named first ok (it ∷ rest) h = second_item mode len named first ok it.what it.span rest h

first_item : (mode : ParseMode) (len : ℕ) (what : ItemKind) (span : Span) (rest : List Item) → licensee_fault_from mode len wants_term (item what span ∷ rest) ≡ None → OnePart mode (item what span ∷ rest)
first_item mode len (Term named) span rest h =
    let marks = mark_fault mode named span in
    let later = licensee_fault_from mode len AfterTerm rest in
    behind_term mode len named span (marks_taken mode named span (first_of-left marks later h)) rest (first_of-right marks later h)
first_item mode len (Exception name) span rest h = no h
first_item mode len And span rest h = no h
first_item mode len Or span rest h = no h
first_item mode len With span rest h = no h
first_item mode len Open span rest h = no h
first_item mode len Close span rest h = no h
first_item mode len Plus span rest h = no h
first_item mode len Word span rest h = no h
first_item mode len Other span rest h = no h

-- items without a fault are one part
pub one_part : (mode : ParseMode) (len : ℕ) (items : List Item) → licensee_fault_of mode len items ≡ None → OnePart mode items
one_part mode len [] h = no h
one_part mode len (it ∷ rest) h = first_item mode len it.what it.span rest h

no_plus : (item : LicenseItem) (marks : LicenseMarks) → HasNoPlus (without_plus item marks)
no_plus (Spdx name family rank later plus) marks = refl
no_plus (Reference doc id) marks = tt

pub one_has_no_plus : {mode : ParseMode} {items : List Item} {req : LicenseReq} → IsOnePart mode items req → HasNoPlus req.item
one_has_no_plus (alone named span ok) = no_plus named.item named.marks
one_has_no_plus (with_exception named name first second third ok) = no_plus named.item named.marks

-- what was read is a licensee
pub is_licensee : (mode plain : ParseMode) (lists : CatalogLists) (text : List ℕ) (len : ℕ) (items shown : List Item) (req licensee : LicenseReq) → plain ≡ licensee_mode mode → items ≡ items_of plain lists text → shown ≡ items
    → None ≡ licensee_fault_of plain len shown → Some req ≡ part_of items → licensee ≡ req → IsLicensee mode lists text licensee
is_licensee mode plain lists text len items shown req licensee is_plain is_items is_shown fine is_part is_req =
    let one : OnePart plain items = one_part plain len items (ap (licensee_fault_of plain len) (sym is_shown) ∙ sym fine) in
    let same : one.req ≡ licensee = some_same one.req licensee (sym one.is ∙ sym is_part ∙ ap Some (sym is_req)) in
    let read : IsOnePart plain (items_of plain lists text) licensee = subst (λ all. IsOnePart plain all licensee) is_items (subst (λ r. IsOnePart plain items r) same one.one) in
    subst (λ m. IsOnePart m (items_of m lists text) licensee) is_plain read

pub none_of : (found : Option ParseError) → ((fault : ParseError) → found ≡ Some fault → ⊥) → None ≡ found
none_of None h = refl
none_of (Some fault) h = absurd (h fault refl)
