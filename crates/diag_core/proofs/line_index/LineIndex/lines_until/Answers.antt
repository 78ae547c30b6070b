use Rattle.std.proofs.Common.{◌≡◌, leb, ◌∙◌, rules, tests}
use Rattle.std.specs.List.Sorted.{IsNonDecreasingBy}
use Rattle.std.proofs.lemmas.List.Sorted.{IsPartitionPoint-from_clause, IsPartitionedBy-leb}
use Rattle.diag_core.specs.Position.{line_starts}
use Rattle.diag_core.proofs.PositionLemmas.{FoundLine-from_split, line_starts_rise}
use Rattle.diag_core.proofs.line_index.LineIndex.lines_until.Goals as goal

pub returns : goal.returns
returns c =
    let text = c.args.text.now in
    let starts = c.deref.result.now in
    let listed : starts ≡ line_starts text = c.deref.ensures.value ∙ c.requires.lines in
    let rises : IsNonDecreasingBy (λ start. start) starts = rw listed (line_starts_rise text) in
    let parts = IsPartitionPoint-from_clause (λ start. leb start c.args.place) starts c.partition_point.result c.partition_point.ensures.partitioned (IsPartitionedBy-leb (λ start. start) starts c.args.place rises) (λ a r f k. search (rules, tests)) in
    FoundLine-from_split text starts c.args.place c.partition_point.result listed c.partition_point.ensures.bound parts
