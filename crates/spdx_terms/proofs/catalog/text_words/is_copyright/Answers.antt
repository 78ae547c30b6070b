use Rattle.spdx_terms.proofs.catalog.CopyrightLemmas.{is_copyright-number}
use Rattle.spdx_terms.proofs.catalog.text_words.is_copyright.Goals as goal

pub returns-else-eq_ignore_ascii_case-2 : goal.returns-else-eq_ignore_ascii_case-2
returns-else-eq_ignore_ascii_case-2 c =
    is_copyright-number c.args.line.now c.in-Some.first.now c.in-Some.rest.now c.in-Some-next_run.second.now c.in-Some-next_run.field-0-1.now _ _ _ c.in-Some.ensures.run c.in-Some-next_run.ensures.run
    c.eq_ignore_ascii_case.ensures.test c.if-eq_ignore_ascii_case.true
    c.eq_ignore_ascii_case-then-eq_ignore_ascii_case.ensures.test c.if-eq_ignore_ascii_case-2.false
    c.is_number.ensures
