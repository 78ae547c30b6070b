use Rattle.std.proofs.Common.{List, ℕ, subst, ◌∙◌}
use Rattle.tree_core.specs.Faults.{Gained, GainedPrefix}
use Rattle.gather_license.proofs.files.CallLemmas.{on_err}
use Rattle.run_notice.proofs.WritingLemmas.{gained_front}
use Rattle.run_notice.proofs.writing.write_piece.Goals as goal

pub returns-in_err-write_all-2-clause-err : goal.returns-in_err-write_all-2-clause-err
returns-in_err-write_all-2-clause-err g c =
    let old = g.O.Sink.written c.args.out.now in
    let middle = g.O.Sink.written c.write_all.new.sink in
    let new = g.O.Sink.written c.write_all-2.new.sink in
    let head_is = c.as_bytes.ensures.value ∙ c.as_str.ensures in
    let text_is = c.as_bytes-2.ensures.value ∙ c.as_str-2.ensures in
    on_err c.from_residual-in_err-write_all-2.result _
    (gained_front old middle new c.args.piece.now.head c.args.piece.now.text.now
    (subst (λ (text : List ℕ). Gained old middle text) head_is c.in_ok-write_all.ensures.ok)
    (subst (λ (text : List ℕ). GainedPrefix middle new text) text_is c.in_err-write_all-2.ensures.err))
