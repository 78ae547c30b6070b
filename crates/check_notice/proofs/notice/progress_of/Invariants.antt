-- all crates are listed as the rest of them, behind what is listed
use Rattle.std.proofs.Common.{◌≡◌, map, drop}
use Rattle.check_notice.specs.Notice.{noticed_of}
use Rattle.check_notice.specs.Sources.{finder_sources}
use Rattle.check_notice.specs.Steps.{all_told_by, nothing_told}
use Rattle.check_notice.proofs.notice.progress_of.Given as goal

abbrev pub invariant-sources : goal.invariant-sources
invariant-sources g l =
    let by = finder_sources g.I.Identifier.match_of g.I.TextLookup.text_of l.finder in
    all_told_by by nothing_told (map noticed_of l.sources) ≡ all_told_by by l.progress (map noticed_of (drop l.source-index l.sources))
