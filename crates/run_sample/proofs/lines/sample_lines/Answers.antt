use Rattle.std.proofs.Common.{ap, codes, refl}
use Rattle.run_sample.specs.Lines.{count_line}
use Rattle.run_sample.proofs.LineLemmas.{four_texts}
use Rattle.run_sample.proofs.lines.sample_lines.Goals as goal

pub returns : goal.returns
returns c =
    four_texts _ _ _ _ _ _ _ _ _ _ _ _ _ c.new-lines.ensures.bytes c.in_ok-push_count.ensures c.in_ok-push_count-2.ensures c.in_ok-push_count-3.ensures c.in_ok-push_count-4.ensures
    refl (ap (count_line (codes "accepted ")) c.accepted_in.ensures) (ap (count_line (codes "rejected ")) c.rejected_in.ensures) (ap (count_line (codes "unlicensed ")) c.unlicensed_in.ensures)
