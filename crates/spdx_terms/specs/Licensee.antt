-- Licensees: the terms of a policy.
use Rattle.std.specs.Prelude.{◌≡◌, ℕ, false, IsTrue, List, [], ◌∷◌, Option, Some, None, Result, Ok, Err}
use Rattle.std.specs.Ordering.{nat_cmp, on}
use Rattle.std.specs.declared.cmp.Ordering.{Ordering}
use Rattle.std.specs.Cmp.{IsTotalOrder, on_total}
use Rattle.std.specs.Cmp.Lexicographic.{slice_cmp, nat_list_cmp_total}
use Rattle.spdx_terms.specs.declared.term.LicenseItem.{LicenseItem}
use Rattle.spdx_terms.specs.declared.term.LicenseItem.TheVariants.{Spdx, Reference}
use Rattle.spdx_terms.specs.declared.term.LicenseReq.{LicenseReq}
use Rattle.deny_text.specs.declared.span.Span.{Span}
use Rattle.spdx_terms.specs.declared.mode.ParseMode.{ParseMode}
use Rattle.spdx_terms.specs.declared.item.Item.{Item}
use Rattle.spdx_terms.specs.declared.item.Simple.{Simple}
use Rattle.spdx_terms.specs.declared.item.LicenseMarks.{LicenseMarks}
use Rattle.spdx_terms.specs.declared.item.ItemKind.{ItemKind}
use Rattle.spdx_terms.specs.declared.item.ItemKind.TheVariants.{Term, Exception, And, Or, With, Open, Close, Plus, Word}
use Rattle.spdx_terms.specs.declared.item.ItemKind.TheVariants.{Other}
use Rattle.spdx_terms.specs.declared.error.ExprError.{ExprError}
use Rattle.spdx_terms.specs.declared.error.ExprError.TheVariants.{Parse, Memory}
use Rattle.spdx_terms.specs.catalog.Catalog.{CatalogLists}
use Rattle.spdx_terms.specs.Items.{items_of}
use Rattle.spdx_terms.specs.Faults.{marks_allowed, licensee_mode, licensee_fault}
use Rattle.spdx_terms.specs.Terms.{req_text}

-- no `+` was written
abbrev pub HasNoPlus : LicenseItem → Type 0
HasNoPlus (Spdx name family rank later plus) = plus ≡ false
HasNoPlus (Reference doc id) = Unit {0}

-- licensees are distinguished and ordered by their printed bytes
abbrev pub printed_order : LicenseReq → LicenseReq → Ordering
printed_order = on req_text (slice_cmp nat_cmp)

pub printed_order_total : IsTotalOrder printed_order
printed_order_total = on_total req_text nat_list_cmp_total

-- what a licensee's text names: its `+` is ignored, so only its name says whether later versions are meant
abbrev pub without_plus : LicenseItem → LicenseMarks → LicenseItem
without_plus (Spdx name family rank later plus) marks = Spdx name family rank marks.later false
without_plus (Reference doc id) marks = Reference doc id

abbrev pub licensee_req : Simple → Option (List ℕ) → LicenseReq
licensee_req named exception = record { item = without_plus named.item named.marks; exception = exception }

-- items are one part without parentheses, whose marks are allowed
pub data IsOnePart (mode : ParseMode) : List Item → LicenseReq → Type 0 where
  alone : (named : Simple) (span : Span) → IsTrue (marks_allowed mode named.marks)
      → IsOnePart mode (record { what = Term named; span = span } ∷ []) (licensee_req named None)
  with_exception : (named : Simple) (name : List ℕ) (first second third : Span)
      → IsTrue (marks_allowed mode named.marks)
      → IsOnePart mode (record { what = Term named; span = first } ∷ record { what = With; span = second }
      ∷ record { what = Exception name; span = third } ∷ [])
      (licensee_req named (Some name))

-- a text is a licensee
abbrev pub IsLicensee : ParseMode → CatalogLists → List ℕ → LicenseReq → Type 0
IsLicensee mode lists text req = IsOnePart (licensee_mode mode) (items_of (licensee_mode mode) lists text) req

-- a licensee's text is read, or reported by its first fault; want of memory is free
abbrev pub LicenseeAnswers : ParseMode → CatalogLists → List ℕ → Result LicenseReq ExprError → Type 0
LicenseeAnswers mode lists text (Ok req) = IsLicensee mode lists text req
LicenseeAnswers mode lists text (Err (Parse fault)) = licensee_fault mode lists text ≡ Some fault
LicenseeAnswers mode lists text (Err Memory) = Unit {0}

-- the exception that is third, behind a term and `WITH`
abbrev pub exception_name_of : ItemKind → Option (List ℕ)
exception_name_of (Term named) = None
exception_name_of (Exception name) = Some name
exception_name_of And = None
exception_name_of Or = None
exception_name_of With = None
exception_name_of Open = None
exception_name_of Close = None
exception_name_of Plus = None
exception_name_of Word = None
exception_name_of Other = None

abbrev pub second_exception : List Item → Option (List ℕ)
second_exception [] = None
second_exception (first ∷ []) = None
second_exception (first ∷ second ∷ rest) = exception_name_of second.what

abbrev pub named_of : ItemKind → Option (List ℕ) → Option LicenseReq
named_of (Term named) exception = Some (licensee_req named exception)
named_of (Exception name) exception = None
named_of And exception = None
named_of Or exception = None
named_of With exception = None
named_of Open exception = None
named_of Close exception = None
named_of Plus exception = None
named_of Word exception = None
named_of Other exception = None

-- the term that one part is
abbrev pub part_of : List Item → Option LicenseReq
part_of [] = None
part_of (first ∷ rest) = named_of first.what (second_exception rest)
