use Rattle.std.proofs.Common.{◌∙◌, ap, sym}
use Rattle.std.specs.Prelude.{option_copied}
use Rattle.check_notice.specs.Sources.{is_named}
use Rattle.check_notice.proofs.FindLemmas.{item_at, named_found, none_named}
use Rattle.check_notice.proofs.named.text_named.Goals as goal

pub returns-in_err-place : goal.returns-in_err-place
returns-in_err-place c = λ told_of are.
    ap option_copied c.from_residual.ensures ∙ sym (none_named told_of (is_named c.args.name.now) c.args.own.now c.args.names.now are (sym c.in_err-place.ensures))

pub returns : goal.returns
returns c = λ told_of are.
    item_at c.args.own.now c.in_ok-place.place c.get.result c.get.ensures.lookup
    ∙ named_found told_of (is_named c.args.name.now) c.args.own.now c.args.names.now c.in_ok-place.place are (sym c.in_ok-place.ensures)
