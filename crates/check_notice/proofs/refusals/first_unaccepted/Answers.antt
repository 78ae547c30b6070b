use Rattle.std.proofs.Common.{◌∙◌, ap, sym}
use Rattle.std.specs.Prelude.{option_copied}
use Rattle.check_notice.specs.Notice.{is_against}
use Rattle.check_notice.proofs.FindLemmas.{item_at, none_found, place_found}
use Rattle.check_notice.proofs.refusals.first_unaccepted.Goals as goal

pub returns-in_err-place : goal.returns-in_err-place
returns-in_err-place c = ap option_copied c.from_residual.ensures ∙ sym (none_found is_against c.args.reports.now (sym c.in_err-place.ensures))

pub returns : goal.returns
returns c = item_at c.args.reports.now c.in_ok-place.place c.get.result c.get.ensures.lookup ∙ place_found is_against c.args.reports.now c.in_ok-place.place (sym c.in_ok-place.ensures)
