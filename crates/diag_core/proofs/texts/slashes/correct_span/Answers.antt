use Rattle.std.proofs.Common.{◌≡◌, List, ℕ, [], drop, sym, ap, ◌∙◌, arith}
use Rattle.std.proofs.lemmas.List.{drop_all}
use Rattle.diag_core.specs.texts.Slashes.{passed_from, passed_of, slashes_from}
use Rattle.diag_core.proofs.texts.SlashLemmas.{tally, corrected-tally}
use Rattle.diag_core.proofs.texts.slashes.correct_span.Goals as goal

pub returns : goal.returns
returns c =
    let nothing : drop c.bytes.place c.args.original.now ≡ [] = drop_all c.bytes.place c.args.original.now (omega arith) in
    let counted : tally 0 0 (passed_of c.args.error_span.now.start c.args.original.now) ≡ (c.bytes.count, c.bytes.last) =
    sym (c.bytes.invariant.5) ∙ ap (λ (left : List ℕ). tally c.bytes.count c.bytes.last (passed_from c.bytes.number c.args.error_span.now.start (slashes_from c.bytes.place left))) nothing in
    c.corrected_span.ensures ∙ sym (corrected-tally c.args.original.now c.args.error_span.now c.bytes.count c.bytes.last counted)
