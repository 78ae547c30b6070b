use Rattle.std.proofs.Common.{◌∙◌, ap, option_copied}
use Rattle.graph_core.specs.Krate.{record_of}
use Rattle.diag_core.specs.texts.Synthetic.{PlacedText, written_all}
use Rattle.gather_core.specs.findings.Pieces.{head_pieces}
use Rattle.gather_core.specs.findings.Views.{seen_view}
use Rattle.gather_core.proofs.findings.PieceLemmas.{crate_written}
use Rattle.gather_core.proofs.findings.synthesis.write_crate.Goals as goal

pub returns : goal.returns
returns c =
    let krate = record_of c.args.krate.now in
    crate_written krate c.args.folder.now (option_copied c.args.joined) (seen_view c.args.seen)
    c.write_head.new.synthetic c.write_joined.new.synthetic c.write_seen.new.synthetic
    (c.in_ok-write_head.ensures ∙ ap (λ (kept : PlacedText). written_all kept (head_pieces krate)) c.in_ok-synthetic.ensures)
    c.in_ok-write_joined.ensures c.in_ok-write_seen.ensures
