use Rattle.std.proofs.Common.{◌≡◌, ◌<◌, ◌∙◌, refl, ap, true, arith}
use Rattle.std.specs.Prelude.{nat_lt, unwrap_or}
use Rattle.std.specs.List.{count_by}
use Rattle.std.proofs.lemmas.Bool.Decides.{nat_tests}
use Rattle.std.proofs.lemmas.Option.{unwrap_or-slice_get}
use Rattle.diag_core.specs.Position.{is_line_feed, line_count, line_end, line_start, line_starts}
use Rattle.diag_core.proofs.line_scan.line_range.Goals as goal

pub returns-then-line-max : goal.returns-then-line-max
returns-then-line-max c =
    let text = c.args.text.now in
    let bytes = c.as_bytes-bytes.result.now in
    let same : bytes ≡ text = c.as_bytes-bytes.ensures.value in
    let start : c.unwrap_or-start.result ≡ line_start text c.args.line =
    c.unwrap_or-start.ensures ∙ ap (λ found. unwrap_or found 0) c.line_start.ensures ∙ unwrap_or-slice_get (line_starts bytes) c.args.line 0 ∙ ap (λ t. line_start t c.args.line) same in
    let end : c.line_end-end.result ≡ line_end text c.args.line = c.line_end-end.ensures ∙ ap (λ t. line_end t c.args.line) same in
    let less : c.args.line < line_count text = omega (arith, c.if-line-max.true, c.line_feeds-max.ensures, ap (count_by is_line_feed) same) in
    let yes : nat_lt c.args.line (line_count text) ≡ true = grind (arith, nat_tests) in
    rw (start, end, yes) refl
