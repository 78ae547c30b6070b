-- What has no fault.
use Rattle.std.proofs.Common.{◌≡◌, refl, Bool, true, false, not, ◌&&◌, ◌||◌, cond, IsTrue, Option, Some, None, is_some, ap}
use Rattle.std.proofs.lemmas.Bool.{false≢true, true≢false}
use Rattle.deny_text.specs.declared.span.Span.{Span}
use Rattle.spdx_terms.specs.declared.error.ParseError.{ParseError}
use Rattle.spdx_terms.specs.declared.mode.ParseMode.{ParseMode}
use Rattle.spdx_terms.specs.declared.item.Simple.{Simple}
use Rattle.spdx_terms.specs.Faults.{marks_allowed, mark_fault, first_of}

pub no : {X : Type 0} {f : ParseError} → Some f ≡ None → X
no h = absurd (true≢false (ap is_some h))

pub first_of-left : (a b : Option ParseError) → first_of a b ≡ None → a ≡ None
first_of-left None b h = refl
first_of-left (Some f) b h = h

pub first_of-right : (a b : Option ParseError) → first_of a b ≡ None → b ≡ None
first_of-right None b h = h
first_of-right (Some f) b h = no h

taken : (deprecated old plus_on gnu plus : Bool) (f g : ParseError) → cond (old && not deprecated) (Some f) (cond (not (gnu && plus) || plus_on) None (Some g)) ≡ None → IsTrue ((deprecated || not old) && (plus_on || not (gnu && plus)))
taken true true true true true f g h = refl
taken true true true true false f g h = refl
taken true true true false plus f g h = refl
taken true true false true true f g h = no h
taken true true false true false f g h = refl
taken true true false false plus f g h = refl
taken true false true true true f g h = refl
taken true false true true false f g h = refl
taken true false true false plus f g h = refl
taken true false false true true f g h = no h
taken true false false true false f g h = refl
taken true false false false plus f g h = refl
taken false true plus_on gnu plus f g h = no h
taken false false true true true f g h = refl
taken false false true true false f g h = refl
taken false false true false plus f g h = refl
taken false false false true true f g h = no h
taken false false false true false f g h = refl
taken false false false false plus f g h = refl

-- marks without a fault are allowed
pub marks_taken : (mode : ParseMode) (named : Simple) (span : Span) → mark_fault mode named span ≡ None → IsTrue (marks_allowed mode named.marks)
marks_taken mode named span h = taken mode.allow_deprecated named.marks.deprecated mode.allow_postfix_plus_on_gpl named.marks.gnu named.marks.plus _ _ h

untold : (deprecated old plus_on gnu plus : Bool) (f g : Option ParseError) → IsTrue ((deprecated || not old) && (plus_on || not (gnu && plus))) → cond (old && not deprecated) f (cond (not (gnu && plus) || plus_on) None g) ≡ None
untold true true true true true f g ok = refl
untold true true true true false f g ok = refl
untold true true true false plus f g ok = refl
untold true true false true true f g ok = absurd (false≢true ok)
untold true true false true false f g ok = refl
untold true true false false plus f g ok = refl
untold true false true true true f g ok = refl
untold true false true true false f g ok = refl
untold true false true false plus f g ok = refl
untold true false false true true f g ok = absurd (false≢true ok)
untold true false false true false f g ok = refl
untold true false false false plus f g ok = refl
untold false true plus_on gnu plus f g ok = absurd (false≢true ok)
untold false false true true true f g ok = refl
untold false false true true false f g ok = refl
untold false false true false plus f g ok = refl
untold false false false true true f g ok = absurd (false≢true ok)
untold false false false true false f g ok = refl
untold false false false false plus f g ok = refl

-- allowed marks have no fault
pub marks_untold : (mode : ParseMode) (named : Simple) (span : Span) → IsTrue (marks_allowed mode named.marks) → mark_fault mode named span ≡ None
marks_untold mode named span ok = untold mode.allow_deprecated named.marks.deprecated mode.allow_postfix_plus_on_gpl named.marks.gnu named.marks.plus _ _ ok
