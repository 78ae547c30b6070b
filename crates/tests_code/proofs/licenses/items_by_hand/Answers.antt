use Rattle.std.proofs.Common.{refl}
use Rattle.tests_code.proofs.licenses.items_by_hand.Goals as goal

pub returns-clause-lawful : goal.returns-clause-lawful
returns-clause-lawful c = record {
  license_names = refl;
  licenses_once = refl;
  exception_names = refl;
  exceptions_once = refl;
  imprecise_texts = refl;
  imprecise_once = refl;
  imprecise_known = refl;
}

pub returns-clause-plain : goal.returns-clause-plain
returns-clause-plain c = refl

pub returns-clause-imprecise : goal.returns-clause-imprecise
returns-clause-imprecise c = refl

pub returns-clause-slash : goal.returns-clause-slash
returns-clause-slash c = refl

pub returns-clause-lax : goal.returns-clause-lax
returns-clause-lax c = refl
