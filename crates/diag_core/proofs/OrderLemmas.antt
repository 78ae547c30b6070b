-- The orders of levels and of codes, case by case.
use Rattle.std.proofs.Common.{refl}
use Rattle.std.specs.List.Sorted.{IsStrictlySortedBy}
use Rattle.diag_core.specs.declared.severity.Severity.TheVariants.{Help, Note, Warning, Error, Bug}
use Rattle.diag_core.specs.Orders.{SeveritiesRise, CodesRise}

pub severities_rise : SeveritiesRise
severities_rise Help Help = refl
severities_rise Help Note = refl
severities_rise Help Warning = refl
severities_rise Help Error = refl
severities_rise Help Bug = refl
severities_rise Note Help = refl
severities_rise Note Note = refl
severities_rise Note Warning = refl
severities_rise Note Error = refl
severities_rise Note Bug = refl
severities_rise Warning Help = refl
severities_rise Warning Note = refl
severities_rise Warning Warning = refl
severities_rise Warning Error = refl
severities_rise Warning Bug = refl
severities_rise Error Help = refl
severities_rise Error Note = refl
severities_rise Error Warning = refl
severities_rise Error Error = refl
severities_rise Error Bug = refl
severities_rise Bug Help = refl
severities_rise Bug Note = refl
severities_rise Bug Warning = refl
severities_rise Bug Error = refl
severities_rise Bug Bug = refl

pub codes_rise : CodesRise
unfolding IsStrictlySortedBy
codes_rise = ((refl, (refl, (refl, (refl, (refl, (refl, (refl, (refl, (refl, (refl, (refl, tt))))))))))), ((refl, (refl, (refl, (refl, (refl, (refl, (refl, (refl, (refl, (refl, tt)))))))))), ((refl, (refl, (refl, (refl, (refl, (refl, (refl, (refl, (refl, tt))))))))), ((refl, (refl, (refl, (refl, (refl, (refl, (refl, (refl, tt)))))))), ((refl, (refl, (refl, (refl, (refl, (refl, (refl, tt))))))), ((refl, (refl, (refl, (refl, (refl, (refl, tt)))))), ((refl, (refl, (refl, (refl, (refl, tt))))), ((refl, (refl, (refl, (refl, tt)))), ((refl, (refl, (refl, tt))), ((refl, (refl, tt)), ((refl, tt), (tt, tt))))))))))))
