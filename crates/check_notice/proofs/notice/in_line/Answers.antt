use Rattle.std.proofs.Common.{◌≡◌, ◌∙◌, sym, subst}
use Rattle.std.specs.Prelude.{IsUtf8}
use Rattle.check_notice.specs.Notice.{in_line}
use Rattle.check_notice.proofs.LineLemmas.{line_utf8}
use Rattle.check_notice.proofs.notice.in_line.Goals as goal

-- the line is a text
pub unreachable-requires : goal.unreachable-requires
unreachable-requires c =
    let is : c.into_vec.result.items ≡ in_line c.args.text.now = c.into_vec.ensures ∙ c.in_ok-line.ensures in
    let never = c.in-Err.ensures.succeeds (subst IsUtf8 (sym is) (line_utf8 c.args.text.now c.utf8.text)) in absurd (cc)
