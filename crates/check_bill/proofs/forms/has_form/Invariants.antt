use Rattle.std.proofs.Common.{◌≡◌, length}
use Rattle.check_bill.specs.Bills.{has_form}
use Rattle.check_bill.proofs.forms.has_form.Given as goal

-- what is left of both fits as both do
abbrev pub invariant-forms : goal.invariant-forms
invariant-forms l = has_form l.forms l.rest ≡ has_form l.form l.text

abbrev pub decreases-forms : goal.decreases-forms
decreases-forms l = length l.forms
