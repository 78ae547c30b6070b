use Rattle.std.proofs.Common.{◌∙◌, ◌++◌, ap, sym, rules}
use Rattle.std.proofs.lemmas.Result.{IfOk-weaker}
use Rattle.spdx_terms.specs.catalog.TextWords.{is_line_end}
use Rattle.spdx_own_names.specs.File.{lines_of, names_in}
use Rattle.spdx_own_names.proofs.CutLemmas.{cut_is, uncut}
use Rattle.spdx_own_names.proofs.ListsLemmas.{names_on}
use Rattle.spdx_own_names.proofs.reading.names_in.Goals as goal

pub lines-init : goal.lines-init
lines-init c = (search rules, ap (λ front. front ++ names_in (lines_of c.args.text.now)) (sym c.new-names.ensures))

pub lines-smaller : goal.lines-smaller
lines-smaller c = (cut_is is_line_end c.lines.rest.now c.in-Some.line.now c.in-Some.behind.now (sym c.in-Some.ensures)).shorter

pub lines-preserved : goal.lines-preserved
lines-preserved c = (
  search rules,
  names_on _ c.lines.names c.in-Some.line.now (lines_of c.in-Some.behind.now) _ c.in_ok-names.ensures
      (c.lines.invariant.1 ∙ ap (λ lines. c.lines.names ++ names_in lines) (cut_is is_line_end c.lines.rest.now c.in-Some.line.now c.in-Some.behind.now (sym c.in-Some.ensures)).pieces),
)

pub returns : goal.returns
returns c =
    IfOk-weaker c.with_name-2.result _ _
    (λ names is. is ∙ sym (c.lines.invariant.1 ∙ ap (λ lines. c.lines.names ++ names_in lines) (uncut is_line_end c.lines.rest.now (sym c.in_default.ensures)))) c.with_name-2.ensures
