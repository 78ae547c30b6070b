use Rattle.std.proofs.Common.{◌≡◌, ◌+◌, ◌∙◌, None, length, sym, ap}
use Rattle.std.specs.Prelude.{slice_get, unwrap_or}
use Rattle.std.proofs.lemmas.Option.{unwrap_or-slice_get}
use Rattle.diag_core.specs.Position.{line_starts}
use Rattle.diag_core.proofs.line_scan.line_end.Goals as goal

pub returns-in-None : goal.returns-in-None
returns-in-None c =
    let starts = line_starts c.args.text.now in
    let none : slice_get starts (c.args.line + 1) ≡ None = sym c.line_start.ensures ∙ c.in-None.is in
    ap (λ found. unwrap_or found (length c.args.text.now)) (sym none) ∙ unwrap_or-slice_get starts (c.args.line + 1) (length c.args.text.now)
