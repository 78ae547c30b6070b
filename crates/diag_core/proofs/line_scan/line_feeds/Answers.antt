use Rattle.std.proofs.Common.{◌≡◌, ◌∙◌, ap, arith, count_by, length}
use Rattle.memchr.specs.Find.{is_byte}
use Rattle.memchr.proofs.lemmas.CallerLemmas.{length-places}
use Rattle.diag_core.specs.Position.{is_line_feed}
use Rattle.diag_core.proofs.line_scan.line_feeds.Goals as goal

pub feeds-init : goal.feeds-init
feeds-init c =
    let all : length c.memchr_iter-feeds.result ≡ count_by is_line_feed c.args.bytes.now = ap length c.memchr_iter-feeds.ensures.value ∙ length-places (is_byte 10) c.args.bytes.now in
    omega arith
